use Rattle.play_boot.proofs.ImageLaws.{boot_reloads}
use Rattle.play_boot.proofs.laws.a_boot_reloads.Goals as goal

pub returns : goal.returns
returns c = boot_reloads
