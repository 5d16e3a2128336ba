use Rattle.std.proofs.Common.{length}
use Rattle.disk_node.proofs.DoneRooms.{room_made}
use Rattle.disk_node.proofs.readying.make_ready.Goals as goal

pub returns-clause-room : goal.returns-clause-room
returns-clause-room c = λ s are. room_made s c.args.request.now c.args.effects.now (length c.args.table.now) c.in_ok-room.room are c.in_ok-room.ensures
