use Rattle.std.proofs.Common.{◌≡◌, ◌++◌, false, take, drop, map}
use Rattle.writer_core.proofs.slots.leave_none_out.Given as goal

-- the front is written, and the rest stands as it was
abbrev pub invariant-loop-i : goal.invariant-loop-i
invariant-loop-i l = l.left ≡ map (λ x. false) (take l.i l.initial.left) ++ drop l.i l.initial.left
