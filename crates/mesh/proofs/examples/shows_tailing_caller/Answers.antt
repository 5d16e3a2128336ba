use Rattle.mesh.proofs.Tailed.{tailed_agrees, tailed_epochs}
use Rattle.mesh.proofs.examples.shows_tailing_caller.Goals as goal

pub returns : goal.returns
returns c = record { agrees = tailed_agrees; epochs = tailed_epochs }
