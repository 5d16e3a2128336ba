use Rattle.std.proofs.Common.{◌≡◌, drop}
use Rattle.journal_core.specs.Reads.{least_served}
use Rattle.journal_step.proofs.serving.least_served.Given as goal

-- no segment so far serves an edit
abbrev pub invariant-loop-segment : goal.invariant-loop-segment
invariant-loop-segment l = least_served l.state (drop l.segment-index l.state.segments) ≡ least_served l.state l.state.segments
