use Rattle.play_boot.proofs.NodeLaws.{ends_once}
use Rattle.play_boot.proofs.laws.tails_end_once.Goals as goal

pub returns : goal.returns
returns c = ends_once
