use Rattle.std.proofs.Common.{◌≡◌, ◌-◌, length, take}
use Rattle.report_judge.proofs.MarkLaws.{AreServed}
use Rattle.report_judge.proofs.plan.plan_told.Given as goal

-- marks of each actor so far, by which its record goes if it goes by any
abbrev pub invariant-loop-record : goal.invariant-loop-record
invariant-loop-record l = record {
  count : length l.plan ≡ l.record-index;
  served : AreServed l.nodes (take (length l.records - 1) l.records) l.plan l.record-index;
}
