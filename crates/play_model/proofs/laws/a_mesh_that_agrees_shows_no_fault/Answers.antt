use Rattle.play_model.proofs.FaultlessLaws.{shows_no_fault}
use Rattle.play_model.proofs.laws.a_mesh_that_agrees_shows_no_fault.Goals as goal

pub returns : goal.returns
returns c = λ m agrees. shows_no_fault m agrees
