use Rattle.journal_core.proofs.SegmentLaws.{sound_stays}
use Rattle.journal_core.proofs.laws.sound_stays.Goals as goal

pub returns : goal.returns
returns c = sound_stays
