use Rattle.node_states.proofs.OnceLaws.{told_once}
use Rattle.node_states.proofs.laws.each_line_is_told_once.Goals as goal

pub returns : goal.returns
returns c = told_once c.epoch_order_keeps_each_node.ensures c.epoch_order_is_a_run.ensures
