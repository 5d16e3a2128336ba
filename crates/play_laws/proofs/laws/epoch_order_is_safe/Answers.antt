use Rattle.play_laws.proofs.Safeties.{epoch_order_is_safe}
use Rattle.play_laws.proofs.laws.epoch_order_is_safe.Goals as goal

pub returns : goal.returns
returns c = epoch_order_is_safe
