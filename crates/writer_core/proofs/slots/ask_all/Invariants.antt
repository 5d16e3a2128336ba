use Rattle.std.proofs.Common.{◌≡◌, ◌++◌, take, drop}
use Rattle.writer_core.specs.Rounds.{to_all}
use Rattle.writer_core.proofs.slots.ask_all.Given as goal

-- the front is written, and the rest stands as it was
abbrev pub invariant-loop-i : goal.invariant-loop-i
invariant-loop-i l = l.slots ≡ to_all (take l.i l.left) ++ drop l.i l.initial.slots
