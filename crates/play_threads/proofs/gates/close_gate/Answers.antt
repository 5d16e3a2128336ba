use Rattle.std.proofs.Common.{map, sym, ap, subst, ◌∙◌, arith}
use Rattle.std.proofs.lemmas.List.{length-map}
use Rattle.play_threads.specs.Board.{places_of, Begins}
use Rattle.play_threads.specs.Seated.{seat_of}
use Rattle.play_threads.specs.Gates.{IsLeft}
use Rattle.play_threads.proofs.SeatLaws.{if_ok}
use Rattle.play_threads.proofs.GateLaws.{closed_own, closed_callers, row_left}
use Rattle.play_threads.proofs.gates.close_gate.Goals as goal

pub returns-clause-left : goal.returns-clause-left
returns-clause-left g c =
    let hs = c.close-cell.result in
    let closed = c.close-cell.ensures.closed in
    let all = c.requires.all in
    let is = sym closed.led_to in
    if_ok c.into_parts.result
    (λ parts same. subst (IsLeft (map (λ t. seat_of t.seat.table_id t.caller t.seat.me.0.seen) c.args.seats.items)) (sym same) (record {
      local = c.into_parts.ensures.local;
      callers = λ last n. closed_callers c.args.gate.seats last hs (sym all ∙ sym (length-map c.args.seats.items (λ t. seat_of t.seat.table_id t.caller t.seat.me.0.seen)) ∙ n)
          (λ k l. ap (places_of k) (sym is) ∙ closed.no_others k (omega (arith, all, l)));
      same = λ k d l. row_left (λ t. seat_of t.seat.table_id t.caller t.seat.me.0.seen) c.args.seats.items hs k d l
          (λ s at. let e = closed.each k s at in
          closed_own k s.caller s.seat.me.0.seen hs s.seat.me.0.places (c.requires.own k s at).1 s.at_rest.3 (subst (Begins s.seat.me.0.seen) is e.0) (ap (places_of k) (sym is) ∙ e.1));
    }))
    c.into_parts.ensures.history
