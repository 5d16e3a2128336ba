use Rattle.writer_core.proofs.HeedLaws.{ok_decides}
use Rattle.writer_core.proofs.laws.ok_answers_decide.Goals as goal

pub returns : goal.returns
returns c = ok_decides
