use Rattle.journal_core.proofs.SegmentLaws.{promise_never_falls}
use Rattle.journal_core.proofs.laws.promise_never_falls.Goals as goal

pub returns : goal.returns
returns c = promise_never_falls
