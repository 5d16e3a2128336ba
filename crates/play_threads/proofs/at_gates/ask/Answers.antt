use Rattle.std.proofs.Common.{sym, ap, ◌∙◌}
use Rattle.play_threads.specs.Board.{places_of}
use Rattle.play_threads.specs.Entries.{own_lines}
use Rattle.play_threads.proofs.SeatLaws.{if_ok, on_err, acted, not_acted}
use Rattle.play_threads.proofs.at_gates.ask.Goals as goal

pub returns-clause-ok : goal.returns-clause-ok
returns-clause-ok g c =
    let m = c.args.seat.now in
    let n = c.act.new.me in
    let e = c.act.ensures.own.1 in
    if_ok c.act.result
    (λ a h. ap (λ k. own_lines k n.seat.me.0.seen) e
    ∙ acted m.caller (c.args.ask.now, a) m.seat.me.0.seen n.seat.me.0.seen m.seat.me.0.places n.seat.me.0.places m.at_rest.3 (ap (λ k. places_of k n.seat.me.0.seen) (sym e) ∙ n.at_rest.3) h)
    c.act.ensures.ok

pub returns-clause-err : goal.returns-clause-err
returns-clause-err g c =
    let m = c.args.seat.now in
    let n = c.act.new.me in
    let e = c.act.ensures.own.1 in
    on_err c.act.result
    (λ h. ap (λ k. own_lines k n.seat.me.0.seen) e
    ∙ not_acted m.caller m.seat.me.0.seen n.seat.me.0.seen m.seat.me.0.places n.seat.me.0.places m.at_rest.3 (ap (λ k. places_of k n.seat.me.0.seen) (sym e) ∙ n.at_rest.3) h.0 h.1)
    c.act.ensures.err

pub returns-clause-fits : goal.returns-clause-fits
returns-clause-fits g c = if_ok c.act.result (λ a h. g.met.C.NodeGate.as_nodes c.args.ask.now a h) c.act.ensures.fits
