use Rattle.std.proofs.Common.{◌≡◌, ◌++◌, drop}
use Rattle.journal_core.specs.Reads.{manifest_of}
use Rattle.journal_step.proofs.serving.manifest.Given as goal

-- the lines so far, and those of the rest
abbrev pub invariant-loop-segment : goal.invariant-loop-segment
invariant-loop-segment l = l.lines ++ manifest_of (drop l.segment-index l.state.segments) ≡ manifest_of l.state.segments
