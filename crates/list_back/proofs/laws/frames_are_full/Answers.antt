use Rattle.std.proofs.Common.{[], arith}
use Rattle.list_back.proofs.Written.{full_batches}
use Rattle.list_back.proofs.laws.frames_are_full.Goals as goal

pub returns : goal.returns
returns c = λ start bodies. full_batches bodies start [] (omega arith)
