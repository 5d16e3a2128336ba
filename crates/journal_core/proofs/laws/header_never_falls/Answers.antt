use Rattle.journal_core.proofs.SegmentLaws.{header_never_falls}
use Rattle.journal_core.proofs.laws.header_never_falls.Goals as goal

pub returns : goal.returns
returns c = header_never_falls
