use Rattle.ns_image.proofs.Whole.{one_spelling}
use Rattle.ns_image.proofs.laws.images_have_one_spelling.Goals as goal

pub returns : goal.returns
returns c = one_spelling
