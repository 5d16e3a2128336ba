use Rattle.play_threads.specs.Seated.{seat_of}
use Rattle.play_threads.proofs.GateCalls.{own_at, still_at, adds_at}
use Rattle.play_threads.proofs.gate_wire.GateWireOperatedWire.operate.Goals as goal

pub ask-requires : goal.ask-requires
ask-requires g c = record {
  own = own_at (λ x. x.table.shared.table_id) (λ t. seat_of t.seat.table_id t.caller t.seat.me.0.seen) c.self.inside.gates.now c.self.inside.seats.items c.self.inside.caller c.args.node c.args.self.now
      c.index_mut.result.now c.requires.low c.self.view_is c.requires.high c.self.invariant c.index_mut.ensures.value c.index-self-node.result;
}

pub invariant_of-self : goal.invariant_of-self
invariant_of-self g c =
    still_at (λ x. x.table.shared.table_id) (λ t. seat_of t.seat.table_id t.caller t.seat.me.0.seen) c.self.inside.gates.now c.self.inside.seats.items c.self.inside.caller c.args.node c.args.self.now
    c.index_mut.result.now c.requires.low c.self.view_is c.requires.high c.self.invariant c.index_mut.ensures.value
    c.ask.new.seat c.ask.ensures.same.0 c.ask.ensures.same.1

pub invariant_of-self-2 : goal.invariant_of-self-2
invariant_of-self-2 g c =
    still_at (λ x. x.table.shared.table_id) (λ t. seat_of t.seat.table_id t.caller t.seat.me.0.seen) c.self.inside.gates.now c.self.inside.seats.items c.self.inside.caller c.args.node c.args.self.now
    c.index_mut.result.now c.requires.low c.self.view_is c.requires.high c.self.invariant c.index_mut.ensures.value
    c.ask.new.seat c.ask.ensures.same.0 c.ask.ensures.same.1

pub returns-clause-operated : goal.returns-clause-operated
returns-clause-operated g c = record {
  operation = c.requires.operation;
  answer = c.in_ok-answer.answer;
  fits = c.in_ok-answer.ensures.fits;
  done_is = c.is_done.ensures;
  adds = adds_at (λ x. x.table.shared.table_id) (λ t. seat_of t.seat.table_id t.caller t.seat.me.0.seen) c.self.inside.gates.now c.self.inside.seats.items c.self.inside.caller c.args.node c.args.self.now
      c.index_mut.result.now c.requires.low c.self.view_is c.requires.high c.self.invariant c.index_mut.ensures.value
      c.ask.new.seat c.args.asked.now c.in_ok-answer.answer c.ask.ensures.same.0 c.ask.ensures.same.1 c.in_ok-answer.ensures.ok;
}
