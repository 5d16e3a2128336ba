use Rattle.play_boot.proofs.ImageLaws.{copy_loaded}
use Rattle.play_boot.proofs.laws.copies_are_loaded.Goals as goal

pub returns : goal.returns
returns c = copy_loaded
