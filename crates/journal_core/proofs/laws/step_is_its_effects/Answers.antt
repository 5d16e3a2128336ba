use Rattle.journal_core.proofs.NodeLaws.{step_durable}
use Rattle.journal_core.proofs.laws.step_is_its_effects.Goals as goal

pub returns : goal.returns
returns c = step_durable
