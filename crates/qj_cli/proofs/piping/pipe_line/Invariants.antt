use Rattle.std.proofs.Common.{◌≡◌, ◌+◌, ◌≤◌, length}
use Rattle.play_script.specs.Lines.{lines_of}
use Rattle.qj_cli.specs.Pipes.{pipe_from, pipe_line_of}
use Rattle.qj_cli.proofs.piping.pipe_line.Given as goal

-- the line is found from here on
abbrev pub invariant-loop-line : goal.invariant-loop-line
invariant-loop-line l = record {
  found : pipe_from l.number (lines_of l.rest) ≡ pipe_line_of l.fn.bytes;
  small : l.number + length l.rest ≤ length l.fn.bytes + 1;
}

abbrev pub decreases-loop-line : goal.decreases-loop-line
decreases-loop-line l = length l.rest
