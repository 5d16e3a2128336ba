use Rattle.journal_core.proofs.SegmentLaws.{refused_after}
use Rattle.journal_core.proofs.laws.refused_after_leaves_front.Goals as goal

pub returns : goal.returns
returns c = refused_after
