use Rattle.pipe_serve.proofs.TakenLaws.{took_lines}
use Rattle.pipe_serve.proofs.laws.sessions_take_lines.Goals as goal

pub returns : goal.returns
returns g c = took_lines g.N.SessionNode.asked
