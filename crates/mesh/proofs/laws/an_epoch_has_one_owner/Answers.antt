use Rattle.mesh.proofs.OneOwner.{has_owners}
use Rattle.mesh.proofs.laws.an_epoch_has_one_owner.Goals as goal

pub returns : goal.returns
returns c = λ m a. has_owners m a
