use Rattle.std.proofs.Common.{◌≤◌}
use Rattle.std.specs.List.{position_or_len}
use Rattle.writer_core.specs.Answers.{is_waiting}
use Rattle.writer_core.proofs.slots.next_waiting.Given as goal

-- none so far waits
abbrev pub invariant-loop-i : goal.invariant-loop-i
invariant-loop-i l = l.i ≤ position_or_len is_waiting l.slots
