use Rattle.std.proofs.Common.{◌≡◌, take}
use Rattle.writer_calls.specs.Mirrors.{lines_of}
use Rattle.writer_calls.proofs.mirror.Mirror.lines.Given as goal

-- the lines so far
abbrev pub invariant-loop-segment : goal.invariant-loop-segment
invariant-loop-segment l = l.lines ≡ lines_of (take l.segment-index l.segment-items)
