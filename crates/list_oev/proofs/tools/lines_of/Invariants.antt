use Rattle.std.proofs.Common.{◌+◌, ◌-◌, ◌^◌}
use Rattle.list_oev.specs.Lines.{lines}
use Rattle.list_oev.specs.Steps.{IsListedSoFar}
use Rattle.list_oev.proofs.tools.lines_of.Given as goal

abbrev pub invariant-loop-out : goal.invariant-loop-out
invariant-loop-out l = IsListedSoFar lines l.fn.edits.bytes l.edits l.out.items

abbrev pub decreases-loop-out : goal.decreases-loop-out
decreases-loop-out l = 2 ^ 62 + 1 - l.edits.ahead.txid
