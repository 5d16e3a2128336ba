use Rattle.run_safety.proofs.Halves.{purge_spares}
use Rattle.run_safety.proofs.laws.purges_keep_their_segment.Goals as goal

pub returns : goal.returns
returns c = λ n story past run old e node start g p there gone. purge_spares n story past run old e node start g p there gone
