use Rattle.writer_core.proofs.LeftLaws.{live_run_out}
use Rattle.writer_core.proofs.laws.calls_run_out.Goals as goal

pub returns : goal.returns
returns c = live_run_out
