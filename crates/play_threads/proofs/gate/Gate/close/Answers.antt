use Rattle.std.proofs.Common.{◌∙◌, sym, ap, rules, length}
use Rattle.std.proofs.lemmas.Iterator.Adapters.{YieldsList-from_vec}
use Rattle.std.proofs.lemmas.Iterator.Consumers.{YieldsList-turn, YieldsList-end}
use Rattle.std.proofs.lemmas.List.{length-map}
use Rattle.atomic_table.proofs.Lists.{at_index}
use Rattle.play_threads.proofs.GateEnds.{leaves}
use Rattle.play_threads.proofs.gate.Gate.close.Goals as goal

pub join-requires-clause-own : goal.join-requires-clause-own
join-requires-clause-own g c =
    let b = c.into_iter-seat-iterator.ensures.into_iter_gives in
    let t = YieldsList-turn (YieldsList-from_vec {s = c.into_iter-seat-iterator.result} c.args.seats.items b.0 (b.1 ∙ c.args.seats.ok.0))
    c.loop-seat.yielded c.loop-seat.seat-iterator c.loop-seat.yielded_by c.next.result c.next.new.self c.in-Some.seat c.in-Some.is
    c.next.ensures.steps in
    let mine = c.requires.own (length c.loop-seat.yielded) c.in-Some.seat (at_index _ _ _ t.0 t.1) in
    (search rules, mine.0, c.args.self.shape.0, c.args.self.shape.1)

pub join-requires-clause-next : goal.join-requires-clause-next
join-requires-clause-next g c =
    let b = c.into_iter-seat-iterator.ensures.into_iter_gives in
    let t = YieldsList-turn (YieldsList-from_vec {s = c.into_iter-seat-iterator.result} c.args.seats.items b.0 (b.1 ∙ c.args.seats.ok.0))
    c.loop-seat.yielded c.loop-seat.seat-iterator c.loop-seat.yielded_by c.next.result c.next.new.self c.in-Some.seat c.in-Some.is
    c.next.ensures.steps in
    let mine = c.requires.own (length c.loop-seat.yielded) c.in-Some.seat (at_index _ _ _ t.0 t.1) in
    mine.1 ∙ sym (ap (λ m. length m.0.ended) c.loop-seat.invariant.3 ∙ length-map _ _)

pub returns : goal.returns
returns g c =
    let b = c.into_iter-seat-iterator.ensures.into_iter_gives in
    let e = YieldsList-end (YieldsList-from_vec {s = c.into_iter-seat-iterator.result} c.args.seats.items b.0 (b.1 ∙ c.args.seats.ok.0))
    c.loop-seat.yielded c.loop-seat.seat-iterator c.loop-seat.yielded_by c.next.result c.next.new.self c.in-None.is c.next.ensures.steps in
    record {
      closed = leaves g.C.GateCell.led (λ s. s.seat.me.0.seen) (λ s. s.seat.me.0.places) _ _ _ c.loop-seat.yielded c.args.seats.items _ _ _ e.0
          c.requires.all (ap (λ m. m.0) c.loop-seat.invariant.3)
          c.close_with-closed.ensures.values.2 c.take-cell.ensures.value;
    }
