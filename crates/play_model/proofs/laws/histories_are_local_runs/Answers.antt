use Rattle.play_model.proofs.Final.{local_runs}
use Rattle.play_model.proofs.laws.histories_are_local_runs.Goals as goal

pub returns : goal.returns
returns c = λ b n lines steps i some can below. local_runs b n lines steps i some can below
