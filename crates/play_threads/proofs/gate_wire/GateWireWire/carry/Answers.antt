use Rattle.play_threads.specs.Seated.{seat_of}
use Rattle.play_threads.proofs.GateCalls.{own_at, still_at, adds_at}
use Rattle.std.proofs.Common.{true, false}
use Rattle.journal_history.specs.declared.node_ask.NodeAsk.TheVariants.{Act}
use Rattle.play_threads.proofs.gate_wire.GateWireWire.carry.Goals as goal

pub ask_request-requires : goal.ask_request-requires
ask_request-requires g c = record {
  own = own_at (λ x. x.table.shared.table_id) (λ t. seat_of t.seat.table_id t.caller t.seat.me.0.seen) c.self.inside.gates.now c.self.inside.seats.items c.self.inside.caller c.args.node c.args.self.now
      c.index_mut.result.now c.requires.low c.self.view_is c.requires.high c.self.invariant c.index_mut.ensures.value c.index-self-node.result;
}

pub invariant_of-self : goal.invariant_of-self
invariant_of-self g c =
    still_at (λ x. x.table.shared.table_id) (λ t. seat_of t.seat.table_id t.caller t.seat.me.0.seen) c.self.inside.gates.now c.self.inside.seats.items c.self.inside.caller c.args.node c.args.self.now
    c.index_mut.result.now c.requires.low c.self.view_is c.requires.high c.self.invariant c.index_mut.ensures.value
    c.ask_request.new.seat c.ask_request.ensures.same.0 c.ask_request.ensures.same.1

pub invariant_of-self-2 : goal.invariant_of-self-2
invariant_of-self-2 g c =
    still_at (λ x. x.table.shared.table_id) (λ t. seat_of t.seat.table_id t.caller t.seat.me.0.seen) c.self.inside.gates.now c.self.inside.seats.items c.self.inside.caller c.args.node c.args.self.now
    c.index_mut.result.now c.requires.low c.self.view_is c.requires.high c.self.invariant c.index_mut.ensures.value
    c.ask_request.new.seat c.ask_request.ensures.same.0 c.ask_request.ensures.same.1

pub returns-clause-carried : goal.returns-clause-carried
returns-clause-carried g c = record {
  answer = c.in_ok-answer.answer;
  kind = c.in_ok-answer.ensures.kind;
  heard_is = c.into_heard.ensures;
  adds = adds_at (λ x. x.table.shared.table_id) (λ t. seat_of t.seat.table_id t.caller t.seat.me.0.seen) c.self.inside.gates.now c.self.inside.seats.items c.self.inside.caller c.args.node c.args.self.now
      c.index_mut.result.now c.requires.low c.self.view_is c.requires.high c.self.invariant c.index_mut.ensures.value
      c.ask_request.new.seat (Act false c.args.request.now) c.in_ok-answer.answer c.ask_request.ensures.same.0 c.ask_request.ensures.same.1 c.in_ok-answer.ensures.ok;
}
