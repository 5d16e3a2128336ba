use Rattle.play_laws.proofs.Safeties.{epoch_order_linear}
use Rattle.play_laws.proofs.NamedPlays.{play_linear}
use Rattle.play_laws.proofs.laws.orders_are_linear.Goals as goal

pub returns : goal.returns
returns c = record { epochs = epoch_order_linear; play = play_linear }
