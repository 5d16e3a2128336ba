use Rattle.std.proofs.Common.{length}
use Rattle.play_script.specs.Reading.{IsBehind}
use Rattle.play_script.proofs.reader.read_lines.Given as goal

abbrev pub invariant-loop-rest : goal.invariant-loop-rest
invariant-loop-rest l = IsBehind l.bytes l.count l.reading l.rest

abbrev pub decreases-loop-rest : goal.decreases-loop-rest
decreases-loop-rest l = length l.rest
