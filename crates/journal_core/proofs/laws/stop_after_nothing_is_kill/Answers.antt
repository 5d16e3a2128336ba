use Rattle.journal_core.proofs.NodeLaws.{stop_nothing}
use Rattle.journal_core.proofs.laws.stop_after_nothing_is_kill.Goals as goal

pub returns : goal.returns
returns c = stop_nothing
