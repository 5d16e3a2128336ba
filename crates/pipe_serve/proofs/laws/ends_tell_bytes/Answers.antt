use Rattle.pipe_serve.proofs.UseLaws.{ends_tell}
use Rattle.pipe_serve.proofs.laws.ends_tell_bytes.Goals as goal

pub returns : goal.returns
returns c = ends_tell
