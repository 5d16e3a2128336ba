use Rattle.std.proofs.Common.{◌≡◌, ◌++◌, [], take, drop}
use Rattle.writer_core.specs.Rounds.{left_out_after}
use Rattle.writer_core.specs.Stages.{round_of}
use Rattle.writer_core.proofs.slots.leave_out.Given as goal

-- the front is written, and the rest stands as it was
abbrev pub invariant-loop-i : goal.invariant-loop-i
invariant-loop-i l = l.left ≡ left_out_after (round_of l.kind []) (take l.i l.slots) ++ drop l.i l.initial.left
