use Rattle.std.proofs.Common.{◌≡◌, ◌+◌, drop, map}
use Rattle.play_model.specs.Lines.{line_of, count_actors}
use Rattle.play_model.proofs.declarations.actors_in.Given as goal

abbrev pub invariant-loop-line : goal.invariant-loop-line
invariant-loop-line l = l.actors + count_actors (map line_of (drop l.line-index l.lines)) ≡ count_actors (map line_of l.lines)
