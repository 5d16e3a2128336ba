use Rattle.std.proofs.Common.{◌≡◌, length, map}
use Rattle.play_threads.specs.Gates.{zip_snoc}
use Rattle.play_threads.proofs.gates.deal.Given as goal

abbrev pub invariant-loop-item : goal.invariant-loop-item
invariant-loop-item g l =
    (goal.iterator-loop-item g).can_next l.item-iterator × (goal.iterator-loop-item g).is_finite l.item-iterator
    × (l.k ≡ length l.yielded) × (map (λ c. c.items) l.columns.items ≡ zip_snoc (map (λ c. c.items) l.initial.columns.items) l.yielded)
