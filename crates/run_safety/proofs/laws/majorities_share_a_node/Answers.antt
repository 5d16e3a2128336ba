use Rattle.run_safety.proofs.Majorities.{majorities_share}
use Rattle.run_safety.proofs.laws.majorities_share_a_node.Goals as goal

pub returns : goal.returns
returns c = majorities_share
