use Rattle.std.proofs.Common.{◌≡◌, map, take}
use Rattle.play_model.specs.Lines.{line_of, names_in}
use Rattle.play_threads.proofs.ends.names_of.Given as goal

abbrev pub invariant-loop-line : goal.invariant-loop-line
invariant-loop-line l = l.names.items ≡ names_in (map line_of (take l.line-index l.lines))
