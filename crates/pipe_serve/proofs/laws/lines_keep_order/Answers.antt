use Rattle.pipe_serve.proofs.NumberLaws.{order_kept}
use Rattle.pipe_serve.proofs.laws.lines_keep_order.Goals as goal

pub returns : goal.returns
returns c = order_kept
