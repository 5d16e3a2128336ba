use Rattle.std.proofs.Common.{◌≡◌, ◌≤◌, [], length, map, vec_capacity}
use Rattle.std.specs.List.{All}
use Rattle.play_pipes.proofs.start.start_some.Given as goal

abbrev pub invariant-loop-line : goal.invariant-loop-line
invariant-loop-line g l =
    (goal.iterator-loop-line g).can_next l.line-iterator × (goal.iterator-loop-line g).is_finite l.line-iterator
    × All (λ e. e.waiting ≡ []) l.ends.items × All (λ e. e.told ≡ []) l.ends.items
    × (map (λ e. e.start) l.ends.items ≡ map (λ x. (g.L.Line.place x, g.L.Line.calls x)) l.yielded)
    × (length l.ends.items ≡ length l.yielded) × (length l.fn.lines.items ≤ vec_capacity l.ends)
