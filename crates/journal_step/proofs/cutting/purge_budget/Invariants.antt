use Rattle.std.proofs.Common.{filter, take}
use Rattle.journal_core.specs.Step.{may_go}
use Rattle.journal_step.specs.Budgets.{SpendsTo}
use Rattle.journal_step.proofs.CutLaws.{purge_costs}
use Rattle.journal_step.proofs.cutting.purge_budget.Given as goal

-- the costs so far are spent
abbrev pub invariant-loop-segment : goal.invariant-loop-segment
invariant-loop-segment l = SpendsTo l.fn.budget (purge_costs l.fn.cut l.state.segments (filter (may_go l.state l.committed l.min) (take l.segment-index l.state.segments))) l.left
