use Rattle.pipe_serve.proofs.NumberLaws.{sessions_kept}
use Rattle.pipe_serve.proofs.laws.sessions_keep_order.Goals as goal

pub returns : goal.returns
returns c = sessions_kept
