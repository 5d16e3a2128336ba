use Rattle.std.proofs.Common.{◌≡◌, ◌++◌, [], take, drop, map}
use Rattle.writer_core.specs.Answers.{cause_of}
use Rattle.writer_core.specs.Stages.{round_of}
use Rattle.writer_core.proofs.slots.tell_causes.Given as goal

-- the front is written, and the rest stands as it was
abbrev pub invariant-loop-i : goal.invariant-loop-i
invariant-loop-i l = l.causes ≡ map (cause_of l.fit (round_of l.kind [])) (take l.i l.slots) ++ drop l.i l.initial.causes
