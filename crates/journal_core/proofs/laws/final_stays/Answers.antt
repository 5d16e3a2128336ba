use Rattle.journal_core.proofs.SegmentLaws.{final_stays}
use Rattle.journal_core.proofs.laws.final_stays.Goals as goal

pub returns : goal.returns
returns c = final_stays
