use Rattle.play_laws.proofs.ReadLaws.{reads_on_line}
use Rattle.play_laws.proofs.laws.reads_are_on_line.Goals as goal

pub returns : goal.returns
returns c = reads_on_line
