use Rattle.writer_core.proofs.SerialLaws.{serial_is}
use Rattle.writer_core.proofs.laws.serials_are_rounds.Goals as goal

pub returns : goal.returns
returns c = serial_is
