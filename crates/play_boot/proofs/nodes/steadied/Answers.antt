use Rattle.std.proofs.Common.{sym, subst}
use Rattle.base_disk.specs.Files.{Files}
use Rattle.play_names.specs.ImageDisks.{HoldsImages}
use Rattle.play_boot.proofs.nodes.steadied.Goals as goal

pub returns-clause-images : goal.returns-clause-images
returns-clause-images c = λ held holds. subst (λ (f : Files). HoldsImages f held) (λ i. λ name. (sym (c.crash.ensures.chosen name)) i) holds
