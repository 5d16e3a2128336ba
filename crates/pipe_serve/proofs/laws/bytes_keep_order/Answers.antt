use Rattle.pipe_serve.proofs.OrderLaws.{bytes_kept}
use Rattle.pipe_serve.proofs.laws.bytes_keep_order.Goals as goal

pub returns : goal.returns
returns c = bytes_kept
