use Rattle.std.proofs.Common.{◌≡◌, ◌≤◌, length, map, vec_capacity}
use Rattle.play_pipes.specs.Calls.{joined}
use Rattle.play_pipes.proofs.start.finish_all.Given as goal

abbrev pub invariant-loop-end : goal.invariant-loop-end
invariant-loop-end g l =
    (goal.iterator-loop-end g).can_next l.end-iterator × (goal.iterator-loop-end g).is_finite l.end-iterator
    × (map g.L.Line.calls l.lines.items ≡ joined (map (λ e. e.start.1) l.yielded) (map (λ e. e.told) l.yielded))
    × (length l.lines.items ≡ length l.yielded) × (length l.fn.ends.items ≤ vec_capacity l.lines) × (map g.L.Line.place l.lines.items ≡ map (λ e. e.start.0) l.yielded)
