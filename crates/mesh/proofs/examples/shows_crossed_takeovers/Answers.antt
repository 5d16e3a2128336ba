use Rattle.mesh.proofs.Crossed.{crossed_agrees, crossed_has_none, crossed_epochs}
use Rattle.mesh.proofs.examples.shows_crossed_takeovers.Goals as goal

pub returns : goal.returns
returns c = record { agrees = crossed_agrees; no_order = λ t h. crossed_has_none t h; epochs = crossed_epochs }
