use Rattle.mesh.proofs.OrderRuns.{order_safe}
use Rattle.mesh.proofs.laws.epoch_order_is_safe.Goals as goal

pub returns : goal.returns
returns c = λ m a. order_safe m a
