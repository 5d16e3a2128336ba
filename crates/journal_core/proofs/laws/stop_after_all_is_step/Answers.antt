use Rattle.journal_core.proofs.NodeLaws.{stop_all}
use Rattle.journal_core.proofs.laws.stop_after_all_is_step.Goals as goal

pub returns : goal.returns
returns c = stop_all
