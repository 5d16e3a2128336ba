use Rattle.std.proofs.Common.{◌≡◌, ◌+◌, ◌++◌, drop}
use Rattle.writer_core.specs.RoundCalls.{waiting_from}
use Rattle.writer_core.proofs.slots.waiting_nodes.Given as goal

-- those so far, and those to come
abbrev pub invariant-loop-i : goal.invariant-loop-i
invariant-loop-i l = l.nodes.items ++ waiting_from (l.i + 1) (drop l.i l.slots) ≡ waiting_from 1 l.slots
