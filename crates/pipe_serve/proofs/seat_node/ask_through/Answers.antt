use Rattle.pipe_serve.proofs.SeatLaws.{seat_added}
use Rattle.pipe_serve.proofs.seat_node.ask_through.Goals as goal

pub returns-clause-calls : goal.returns-clause-calls
returns-clause-calls g c =
    let m = c.args.seat.now in
    let n = c.act.new.me in
    seat_added m.caller n.caller (c.args.request.now, c.in-Ok.reply) m.seat.me.0.seen n.seat.me.0.seen m.seat.me.0.places n.seat.me.0.places c.act.ensures.own.1
    m.at_rest.3 n.at_rest.3 c.in-Ok.ensures.ok
