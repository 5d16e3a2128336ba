use Rattle.disk_effects.proofs.StepLaws.{refused_front}
use Rattle.disk_effects.proofs.laws.refused_is_its_front.Goals as goal

pub returns : goal.returns
returns c = refused_front
