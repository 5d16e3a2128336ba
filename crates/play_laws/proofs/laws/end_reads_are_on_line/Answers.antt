use Rattle.play_laws.proofs.EndStates.{end_reads_are_on_line}
use Rattle.play_laws.proofs.laws.end_reads_are_on_line.Goals as goal

pub returns : goal.returns
returns c = end_reads_are_on_line
