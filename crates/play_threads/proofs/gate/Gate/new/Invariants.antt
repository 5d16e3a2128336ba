use Rattle.std.proofs.Common.{◌≡◌, ◌≤◌, [], length, vec_capacity}
use Rattle.play_threads.specs.Board.{keeper as keeper_of, AllAt}
use Rattle.play_threads.proofs.gate.Gate.new.Given as goal

abbrev pub invariant-loop-k : goal.invariant-loop-k
invariant-loop-k g l =
    (l.keeper.table_id ≡ l.initial.keeper.table_id) × (l.keeper.me ≡ (keeper_of l.k [], [])) × (length l.row.items ≡ l.k) × (l.seats ≤ vec_capacity l.row)
    × AllAt (λ k s. (s.seat.table_id ≡ l.initial.keeper.table_id) × (s.caller ≡ k) × (s.seat.me.0.seen ≡ []) × (s.seat.me.0.places ≡ [])) l.row.items
