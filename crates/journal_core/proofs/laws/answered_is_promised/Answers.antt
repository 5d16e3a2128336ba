use Rattle.journal_core.proofs.SegmentLaws.{answered_is_promised}
use Rattle.journal_core.proofs.laws.answered_is_promised.Goals as goal

pub returns : goal.returns
returns c = answered_is_promised
