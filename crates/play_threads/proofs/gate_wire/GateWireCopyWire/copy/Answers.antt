use Rattle.play_threads.specs.Seated.{seat_of}
use Rattle.play_threads.proofs.GateCalls.{own_at, still_at, adds_at}
use Rattle.std.proofs.Common.{true, false}
use Rattle.journal_history.specs.declared.node_ask.NodeAsk.TheVariants.{Act}
use Rattle.play_threads.proofs.gate_wire.GateWireCopyWire.copy.Goals as goal

pub ask_request-requires : goal.ask_request-requires
ask_request-requires g c = record {
  own = own_at (λ x. x.table.shared.table_id) (λ t. seat_of t.seat.table_id t.caller t.seat.me.0.seen) c.self.inside.gates.now c.self.inside.seats.items c.self.inside.caller c.args.node c.args.self.now
      c.index_mut.result.now c.requires.low c.self.view_is c.requires.high c.self.invariant c.index_mut.ensures.value c.index-self-node.result;
}

pub invariant_of-self : goal.invariant_of-self
invariant_of-self g c =
    still_at (λ x. x.table.shared.table_id) (λ t. seat_of t.seat.table_id t.caller t.seat.me.0.seen) c.self.inside.gates.now c.self.inside.seats.items c.self.inside.caller c.args.node c.args.self.now
    c.index_mut.result.now c.requires.low c.self.view_is c.requires.high c.self.invariant c.index_mut.ensures.value
    c.ask_request.new.seat c.ask_request.ensures.same.0 c.ask_request.ensures.same.1

pub invariant_of-self-2 : goal.invariant_of-self-2
invariant_of-self-2 g c =
    still_at (λ x. x.table.shared.table_id) (λ t. seat_of t.seat.table_id t.caller t.seat.me.0.seen) c.self.inside.gates.now c.self.inside.seats.items c.self.inside.caller c.args.node c.args.self.now
    c.index_mut.result.now c.requires.low c.self.view_is c.requires.high c.self.invariant c.index_mut.ensures.value
    c.ask_request.new.seat c.ask_request.ensures.same.0 c.ask_request.ensures.same.1

pub returns-clause-copied : goal.returns-clause-copied
returns-clause-copied g c = record {
  answer = c.in_ok-ask_request.field-0;
  adds = adds_at (λ x. x.table.shared.table_id) (λ t. seat_of t.seat.table_id t.caller t.seat.me.0.seen) c.self.inside.gates.now c.self.inside.seats.items c.self.inside.caller c.args.node c.args.self.now
      c.index_mut.result.now c.requires.low c.self.view_is c.requires.high c.self.invariant c.index_mut.ensures.value
      c.ask_request.new.seat (Act true c.args.request.now) c.in_ok-ask_request.field-0 c.ask_request.ensures.same.0 c.ask_request.ensures.same.1 c.in_ok-ask_request.ensures.ok;
}
