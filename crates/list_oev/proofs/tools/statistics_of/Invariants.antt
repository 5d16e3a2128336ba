use Rattle.std.proofs.Common.{◌+◌, ◌-◌, ◌^◌}
use Rattle.list_oev.specs.Steps.{IsCountedSoFar}
use Rattle.list_oev.proofs.tools.statistics_of.Given as goal

abbrev pub invariant-loop : goal.invariant-loop
invariant-loop l = IsCountedSoFar l.fn.edits.bytes l.edits l.counts l.total

abbrev pub decreases-loop : goal.decreases-loop
decreases-loop l = 2 ^ 62 + 1 - l.edits.ahead.txid
