use Rattle.writer_core.proofs.LiveLaws.{someone_called}
use Rattle.writer_core.proofs.laws.someone_is_called.Goals as goal

pub returns : goal.returns
returns c = someone_called
