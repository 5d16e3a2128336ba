use Rattle.std.proofs.Common.{◌≡◌, length, map, replicate}
use Rattle.play_threads.specs.Seated.{seat_of}
use Rattle.play_threads.specs.Gates.{fresh_columns}
use Rattle.play_threads.proofs.gates.open_gates.Given as goal

abbrev pub invariant-loop-node : goal.invariant-loop-node
invariant-loop-node g l =
    (length l.gates.items ≡ length l.yielded)
    × (map (λ k. k.seat.table_id) l.keepers.items ≡ map (λ g. g.table.shared.table_id) l.gates.items)
    × (map (λ k. k.made) l.keepers.items ≡ replicate (length l.yielded) l.callers)
    × (map (λ g. g.seats) l.gates.items ≡ replicate (length l.yielded) l.callers)
    × (map (λ v. map (λ t. seat_of t.seat.table_id t.caller t.seat.me.0.seen) v.items) l.columns.items ≡ fresh_columns 0 l.callers (map (λ g. g.table.shared.table_id) l.gates.items))
