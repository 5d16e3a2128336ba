use Rattle.play_laws.proofs.LineLaws.{line_calls_apart}
use Rattle.play_laws.proofs.laws.line_calls_apart.Goals as goal

pub returns : goal.returns
returns c = line_calls_apart
