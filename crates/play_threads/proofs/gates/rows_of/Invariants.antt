use Rattle.std.proofs.Common.{◌≡◌, [], map, replicate}
use Rattle.play_threads.specs.Gates.{dealt}
use Rattle.play_threads.proofs.gates.rows_of.Given as goal

abbrev pub invariant-loop-column : goal.invariant-loop-column
invariant-loop-column g l =
    (goal.iterator-loop-column g).can_next l.column-iterator × (goal.iterator-loop-column g).is_finite l.column-iterator
    × (map (λ c. c.items) l.rows.items ≡ dealt (replicate l.gates []) (map (λ c. c.items) l.yielded))
