use Rattle.writer_core.proofs.RoundLaws.{judged_whole}
use Rattle.writer_core.proofs.laws.rounds_are_judged.Goals as goal

pub returns : goal.returns
returns c = judged_whole
