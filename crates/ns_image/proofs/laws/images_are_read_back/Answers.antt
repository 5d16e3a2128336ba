use Rattle.ns_image.proofs.Whole.{read_back}
use Rattle.ns_image.proofs.laws.images_are_read_back.Goals as goal

pub returns : goal.returns
returns c = read_back
