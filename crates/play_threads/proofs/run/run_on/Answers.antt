use Rattle.std.proofs.Common.{◌≡◌, ◌<◌, ◌∙◌, sym, ap, subst, length, map, get_or}
use Rattle.play_threads.specs.Seated.{seat_of}
use Rattle.play_model.specs.Lines.{line_of, count_actors}
use Rattle.play_threads.specs.Gathered.{MayAct}
use Rattle.play_threads.proofs.GateLaws.{element}
use Rattle.play_threads.proofs.RunLaws.{leaves_as}
use Rattle.play_threads.proofs.run.run_on.Goals as goal

pub take_all-requires-clause-jobs : goal.take_all-requires-clause-jobs
take_all-requires-clause-jobs g c κs within =
    let begun = c.in_ok-gates in
    λ i d l. subst (λ b. MayAct b c.lines-lines.result.now (map (λ x. x.table.shared.table_id) c.deref.result.now) (get_or begun.jobs.items i d).0
    (map (λ t. seat_of t.seat.table_id t.caller t.seat.me.0.seen) (get_or begun.jobs.items i d).1.items)) (sym c.names.ensures)
    (subst (λ ls. MayAct c.args.script.now.named ls (map (λ x. x.table.shared.table_id) c.deref.result.now) (get_or begun.jobs.items i d).0
    (map (λ t. seat_of t.seat.table_id t.caller t.seat.me.0.seen) (get_or begun.jobs.items i d).1.items)) (sym c.lines-lines.ensures)
    (subst (λ gs. MayAct c.args.script.now.named c.args.script.now.lines (map (λ x. x.table.shared.table_id) gs) (get_or begun.jobs.items i d).0
    (map (λ t. seat_of t.seat.table_id t.caller t.seat.me.0.seen) (get_or begun.jobs.items i d).1.items)) (sym c.deref.ensures.value)
    (begun.ensures.may i d l)))

pub assemble-requires-clause-opened : goal.assemble-requires-clause-opened
assemble-requires-clause-opened g c =
    let opened = c.in_ok-gates.ensures.opened in
    record {
      count = opened.count;
      keeps = opened.keeps;
      seats_are = opened.seats_are;
      made_are = opened.made_are;
      each = c.in_ok-lefts.ensures.count ∙ opened.each;
    }

pub assemble-requires-clause-each : goal.assemble-requires-clause-each
assemble-requires-clause-each g c =
    let begun = c.in_ok-gates in
    let jobs = begun.jobs.items in
    let lefts = c.in_ok-lefts in
    let many : length lefts.lefts.items ≡ length jobs = lefts.ensures.count in
    let its = c.lines-lines.ensures in
    λ i e l.
    let b = subst (λ k. i < k) many l in
    let d = (element jobs i b).0 in
    leaves_as (λ v. map (λ t. seat_of t.seat.table_id t.caller t.seat.me.0.seen) v.items) (get_or lefts.lefts.items i e) c.names.ensures (ap length c.deref.ensures.value)
    (c.actors_in.ensures ∙ ap (λ ls. count_actors (map line_of ls)) its) (begun.ensures.order i d b) (ap (map line_of) its)
    (ap (map (λ x. x.table.shared.table_id)) c.deref.ensures.value) (lefts.ensures.each i d e b)
