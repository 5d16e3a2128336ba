use Rattle.journal_core.proofs.SegmentLaws.{questions_are_idle}
use Rattle.journal_core.proofs.laws.questions_are_idle.Goals as goal

pub returns : goal.returns
returns c = questions_are_idle
