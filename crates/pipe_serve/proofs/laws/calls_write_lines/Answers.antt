use Rattle.pipe_serve.proofs.NumberLaws.{all_wrote}
use Rattle.pipe_serve.proofs.laws.calls_write_lines.Goals as goal

pub returns : goal.returns
returns c = all_wrote
