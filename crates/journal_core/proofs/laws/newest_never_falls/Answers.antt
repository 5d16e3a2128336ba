use Rattle.journal_core.proofs.SegmentLaws.{newest_never_falls}
use Rattle.journal_core.proofs.laws.newest_never_falls.Goals as goal

pub returns : goal.returns
returns c = newest_never_falls
