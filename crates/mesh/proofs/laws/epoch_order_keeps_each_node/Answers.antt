use Rattle.mesh.proofs.Cutting.{order_at_nodes}
use Rattle.mesh.proofs.laws.epoch_order_keeps_each_node.Goals as goal

pub returns : goal.returns
returns c = λ m i a below. order_at_nodes m i a below
