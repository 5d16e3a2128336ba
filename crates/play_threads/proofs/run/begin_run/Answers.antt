use Rattle.std.proofs.Common.{◌≡◌, ◌+◌, ◌∙◌, ap, arith, length, map, replicate}
use Rattle.std.proofs.lemmas.List.{length-map}
use Rattle.play_model.specs.Lines.{line_of, lines_of, count_actors}
use Rattle.play_threads.specs.Seated.{seat_of}
use Rattle.play_threads.proofs.GateLaws.{columns_many}
use Rattle.play_threads.proofs.LineLaws.{may_come}
use Rattle.play_threads.proofs.ListLaws.{numbered_length}
use Rattle.play_threads.proofs.RunLaws.{may_act, job_is}
use Rattle.play_threads.proofs.run.begin_run.Goals as goal

pub jobs_of-requires : goal.jobs_of-requires
jobs_of-requires g c =
    let n = columns_many (λ v. map (λ t. seat_of t.seat.table_id t.caller t.seat.me.0.seen) v.items) c.in_ok-gates.columns.items
    c.in_ok-callers.callers (map (λ x. x.table.shared.table_id) c.in_ok-gates.gates.items) c.in_ok-gates.ensures.columns in
    let few = c.in_ok-callers.ensures.fits in
    omega (arith, n, few)

pub returns-clause-opened : goal.returns-clause-opened
returns-clause-opened g c =
    let nodes = c.args.script.now.nodes in
    let callers = c.in_ok-callers.callers in
    let many : callers ≡ count_actors (lines_of c.args.script.now) + 1 = c.in_ok-callers.ensures.count
    ∙ ap (λ k. k + 1) (c.actors_in.ensures ∙ ap (λ l. count_actors (map line_of l)) c.lines-lines.ensures) in
    let n = columns_many (λ v. map (λ t. seat_of t.seat.table_id t.caller t.seat.me.0.seen) v.items) c.in_ok-gates.columns.items
    callers (map (λ x. x.table.shared.table_id) c.in_ok-gates.gates.items) c.in_ok-gates.ensures.columns in
    record {
      count = length-map c.in_ok-gates.gates.items (λ x. x.table.shared.table_id) ∙ c.in_ok-gates.ensures.count ∙ c.requires.count;
      keeps = c.in_ok-gates.ensures.keepers;
      seats_are = c.in_ok-gates.ensures.seats ∙ (λ i. replicate (c.requires.count i) (many i));
      made_are = c.in_ok-gates.ensures.made ∙ (λ i. replicate (c.requires.count i) (many i));
      each = ap length c.in_ok-jobs.ensures ∙ numbered_length 0 c.in_ok-gates.columns.items ∙ n ∙ many;
    }

pub returns-clause-may : goal.returns-clause-may
returns-clause-may g c =
    let nodes = c.args.script.now.nodes in
    let named = c.args.script.now.named in
    let lines = c.args.script.now.lines in
    let n = columns_many (λ v. map (λ t. seat_of t.seat.table_id t.caller t.seat.me.0.seen) v.items) c.in_ok-gates.columns.items
    c.in_ok-callers.callers (map (λ x. x.table.shared.table_id) c.in_ok-gates.gates.items) c.in_ok-gates.ensures.columns in
    let tables = length-map c.in_ok-gates.gates.items (λ x. x.table.shared.table_id) ∙ c.in_ok-gates.ensures.count ∙ c.requires.count in
    λ i d l. may_act named (λ v. map (λ t. seat_of t.seat.table_id t.caller t.seat.me.0.seen) v.items) lines c.in_ok-gates.columns.items
    c.in_ok-callers.callers nodes (map (λ x. x.table.shared.table_id) c.in_ok-gates.gates.items) c.in_ok-jobs.jobs.items
    c.in_ok-gates.ensures.columns n c.in_ok-jobs.ensures tables c.requires.playable.nodes
    (may_come named nodes 0 lines c.requires.playable.lines c.requires.numbers.lines) i d l

pub returns-clause-order : goal.returns-clause-order
returns-clause-order g c = λ i d l. job_is c.in_ok-gates.columns.items c.in_ok-jobs.jobs.items c.in_ok-jobs.ensures i d l
