use Rattle.std.proofs.Common.{◌≡◌}
use Rattle.mesh_tests.proofs.two_threads.calls.Given as goal

-- the seat stays the caller's at its gate
abbrev pub invariant-loop : goal.invariant-loop
invariant-loop g l = (l.own.seat.table_id ≡ l.fn.seat.seat.table_id) × (l.own.caller ≡ l.fn.seat.caller)
