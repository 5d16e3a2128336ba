use Rattle.std.proofs.Common.{◌≡◌, max, drop}
use Rattle.journal_core.specs.Reads.{last_below}
use Rattle.journal_step.proofs.serving.last_below.Given as goal

-- the greatest so far, or that of the rest
abbrev pub invariant-loop-segment : goal.invariant-loop-segment
invariant-loop-segment l = max l.last (last_below l.state l.from (drop l.segment-index l.state.segments)) ≡ last_below l.state l.from l.state.segments
