use Rattle.journal_core.proofs.NodeLaws.{idle_step}
use Rattle.journal_core.proofs.laws.refused_at_once_is_idle.Goals as goal

pub returns : goal.returns
returns c = idle_step
