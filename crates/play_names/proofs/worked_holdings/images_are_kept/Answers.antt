use Rattle.std.proofs.Common.{refl}
use Rattle.play_names.specs.Holding.{image_put, save_image, reload_image, min_to_keep}
use Rattle.play_names.proofs.worked_holdings.images_are_kept.Goals as goal

pub returns : goal.returns
unfolding image_put save_image reload_image min_to_keep
returns c = record { newest = refl; kept = refl }
