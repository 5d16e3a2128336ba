use Rattle.play_laws.proofs.ImagesKept.{images_are_left}
use Rattle.play_laws.proofs.laws.images_are_left.Goals as goal

pub returns : goal.returns
returns c = images_are_left
