use Rattle.disk_effects.proofs.StepLaws.{step_in_parts}
use Rattle.disk_effects.proofs.laws.step_is_in_parts.Goals as goal

pub returns : goal.returns
returns c = step_in_parts
