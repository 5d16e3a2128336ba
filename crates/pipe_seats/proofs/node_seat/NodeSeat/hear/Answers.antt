use Rattle.std.proofs.Common.{◌≡◌, ◌∙◌, Some, sym}
use Rattle.pipe_seats.proofs.SeatCalls.{heard_back}
use Rattle.pipe_seats.proofs.node_seat.NodeSeat.hear.Goals as goal

pub returns-clause-heard : goal.returns-clause-heard
returns-clause-heard g c =
    let asked : c.self.inside.under_way ≡ Some c.in-Some.asked = cc (c.take.ensures.value, c.in-Some.is) in
    heard_back c.hear.result _ c.args.self.now _ c.in-Some.asked c.get.result.now c.get-2.result.now c.get-3.result.now c.args.request.now c.self.view_is
    asked c.take.ensures.after c.get.ensures c.get-2.ensures c.get-3.ensures (sym c.same.ensures ∙ c.if-not-same.false) c.hear.ensures.heard
