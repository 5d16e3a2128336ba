use Rattle.writer_core.proofs.RoomLaws.{room_exact}
use Rattle.writer_core.proofs.laws.room_is_exact.Goals as goal

pub returns : goal.returns
returns c = room_exact
