use Rattle.list_oiv.proofs.Taking.{room_left}
use Rattle.list_oiv.proofs.tally.TallyRowSink.take_row.Goals as goal

pub count-requires-clause-room : goal.count-requires-clause-room
count-requires-clause-room c = room_left c.args.self.now c.args.row c.requires
