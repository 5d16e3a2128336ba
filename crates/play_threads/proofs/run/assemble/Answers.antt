use Rattle.std.proofs.Common.{◌≡◌, ◌+◌, ◌-◌, ◌∙◌, sym, ap, subst, arith, refl, length, map}
use Rattle.std.proofs.lemmas.List.{length-map, length-take-le}
use Rattle.play_model.proofs.Final.{names_count}
use Rattle.play_threads.specs.Board.{AllAt}
use Rattle.mesh.specs.declared.whole.Mesh.{Mesh}
use Rattle.play_threads.specs.Seated.{seat_of}
use Rattle.play_threads.specs.Gates.{row_at, IsLeft}
use Rattle.play_model.specs.Lines.{line_of, lines_of, count_actors, names_in}
use Rattle.play_threads.specs.Gathered.{AreGathered}
use Rattle.play_threads.proofs.ListLaws.{counts}
use Rattle.play_threads.proofs.RunLaws.{seats_long, lasts_long, are_of, gathered}
use Rattle.play_threads.proofs.Assembly.{assembled}
use Rattle.play_threads.proofs.run.assemble.Goals as goal

pub ends_in-requires : goal.ends_in-requires
ends_in-requires g c =
    let long : length c.in_ok-columns.lasts.items ≡ count_actors (lines_of c.args.script.now) + 1 = lasts_long
    c.args.script.now.named (λ v. map (λ t. seat_of t.seat.table_id t.caller t.seat.me.0.seen) v.items) (length c.args.gates.items)
    (count_actors (lines_of c.args.script.now)) (count_actors (lines_of c.args.script.now) + 1) (lines_of c.args.script.now)
    (map (λ x. x.table.shared.table_id) c.args.gates.items)
    c.args.lefts.items c.in_ok-columns.ensures.0 c.requires.opened.each c.in_ok-columns.ensures.1 c.requires.each
    c.in_ok-columns.columns.items c.in_ok-columns.records.items c.in_ok-columns.plans.items c.in_ok-columns.lasts.items
    c.in_ok-columns.ensures.2 c.in_ok-columns.ensures.3 c.in_ok-columns.ensures.4 c.in_ok-columns.ensures.5 in
    ap length c.without_operator-lasts.ensures ∙ length-take-le (length c.in_ok-columns.lasts.items - 1) c.in_ok-columns.lasts.items (omega arith)
    ∙ omega (arith, long) ∙ sym (names_count (lines_of c.args.script.now)) ∙ ap (λ l. length (names_in (map line_of l))) (sym c.lines-lines.ensures)

pub close_gates-requires-clause-keepers : goal.close_gates-requires-clause-keepers
close_gates-requires-clause-keepers g c = c.requires.opened.keeps

pub close_gates-requires-clause-made : goal.close_gates-requires-clause-made
close_gates-requires-clause-made g c =
    counts (map (λ k. k.made) c.args.keepers.items) c.args.script.now.nodes (length c.args.gates.items) (count_actors (lines_of c.args.script.now) + 1)
    (length c.in_ok-columns.columns.items) c.requires.opened.made_are
    (sym (length-map c.args.gates.items (λ x. x.table.shared.table_id)) ∙ c.requires.opened.count)
    (seats_long
    c.args.script.now.named (λ v. map (λ t. seat_of t.seat.table_id t.caller t.seat.me.0.seen) v.items) (length c.args.gates.items)
    (count_actors (lines_of c.args.script.now)) (count_actors (lines_of c.args.script.now) + 1) (lines_of c.args.script.now)
    (map (λ x. x.table.shared.table_id) c.args.gates.items)
    c.args.lefts.items c.in_ok-columns.ensures.0 c.requires.opened.each c.in_ok-columns.ensures.1 c.requires.each
    c.in_ok-columns.columns.items c.in_ok-columns.records.items c.in_ok-columns.plans.items c.in_ok-columns.lasts.items
    c.in_ok-columns.ensures.2 c.in_ok-columns.ensures.3 c.in_ok-columns.ensures.4 c.in_ok-columns.ensures.5)

pub close_gates-requires-clause-seats : goal.close_gates-requires-clause-seats
close_gates-requires-clause-seats g c =
    counts (map (λ x. x.seats) c.args.gates.items) c.args.script.now.nodes (length c.args.gates.items) (count_actors (lines_of c.args.script.now) + 1)
    (length c.in_ok-columns.columns.items) c.requires.opened.seats_are
    (sym (length-map c.args.gates.items (λ x. x.table.shared.table_id)) ∙ c.requires.opened.count)
    (seats_long
    c.args.script.now.named (λ v. map (λ t. seat_of t.seat.table_id t.caller t.seat.me.0.seen) v.items) (length c.args.gates.items)
    (count_actors (lines_of c.args.script.now)) (count_actors (lines_of c.args.script.now) + 1) (lines_of c.args.script.now)
    (map (λ x. x.table.shared.table_id) c.args.gates.items)
    c.args.lefts.items c.in_ok-columns.ensures.0 c.requires.opened.each c.in_ok-columns.ensures.1 c.requires.each
    c.in_ok-columns.columns.items c.in_ok-columns.records.items c.in_ok-columns.plans.items c.in_ok-columns.lasts.items
    c.in_ok-columns.ensures.2 c.in_ok-columns.ensures.3 c.in_ok-columns.ensures.4 c.in_ok-columns.ensures.5)

pub close_gates-requires-clause-own : goal.close_gates-requires-clause-own
close_gates-requires-clause-own g c k d l =
    are_of
    c.args.script.now.named (λ v. map (λ t. seat_of t.seat.table_id t.caller t.seat.me.0.seen) v.items) (length c.args.gates.items)
    (count_actors (lines_of c.args.script.now)) (count_actors (lines_of c.args.script.now) + 1) (lines_of c.args.script.now)
    (map (λ x. x.table.shared.table_id) c.args.gates.items)
    c.args.lefts.items c.in_ok-columns.ensures.0 c.requires.opened.each c.in_ok-columns.ensures.1 c.requires.each
    c.in_ok-columns.columns.items c.in_ok-columns.records.items c.in_ok-columns.plans.items c.in_ok-columns.lasts.items
    c.in_ok-columns.ensures.2 c.in_ok-columns.ensures.3 c.in_ok-columns.ensures.4 c.in_ok-columns.ensures.5 k d l

pub returns-clause-run : goal.returns-clause-run
returns-clause-run g c =
    let nodes = c.args.script.now.nodes in
    let lines = lines_of c.args.script.now in
    let count : length c.args.gates.items ≡ nodes = sym (length-map c.args.gates.items (λ x. x.table.shared.table_id)) ∙ c.requires.opened.count in
    let len = c.len-count.ensures in
    let ok = c.args.gates.ok.0 in
    let mesh : Mesh = record { nodes = c.len-count.result; histories = c.of-histories.result; records = c.of-records.result; plan = c.in_ok-plan.plan } in
    let all = gathered
    c.args.script.now.named (λ v. map (λ t. seat_of t.seat.table_id t.caller t.seat.me.0.seen) v.items) (length c.args.gates.items)
    (count_actors (lines_of c.args.script.now)) (count_actors (lines_of c.args.script.now) + 1) (lines_of c.args.script.now)
    (map (λ x. x.table.shared.table_id) c.args.gates.items)
    c.args.lefts.items c.in_ok-columns.ensures.0 c.requires.opened.each c.in_ok-columns.ensures.1 c.requires.each
    c.in_ok-columns.columns.items c.in_ok-columns.records.items c.in_ok-columns.plans.items c.in_ok-columns.lasts.items
    c.in_ok-columns.ensures.2 c.in_ok-columns.ensures.3 c.in_ok-columns.ensures.4 c.in_ok-columns.ensures.5
    mesh c.in_ok-ends.ends c.without_operator-plans.result.items c.without_operator-lasts.result.items refl refl
    (omega (arith, len, ok)) (ap length c.of-histories.ensures ∙ c.in_ok-nodes.ensures.count) c.of-records.ensures
    c.without_operator-plans.ensures c.in_ok-plan.ensures (c.in_ok-ends.ensures.names ∙ ap (λ l. names_in (map line_of l)) c.lines-lines.ensures)
    c.without_operator-lasts.ensures c.in_ok-ends.ensures.lasts
    (λ d. subst (λ hs. AllAt (λ i h. IsLeft (row_at i d (map (λ v. map (λ t. seat_of t.seat.table_id t.caller t.seat.me.0.seen) v.items)
    c.in_ok-columns.columns.items)) h) hs) (sym c.of-histories.ensures) (c.in_ok-nodes.ensures.left d)) in
    assembled c.args.script.now.named nodes lines mesh c.in_ok-ends.ends c.requires.playable.lines
    (subst (λ k. AreGathered c.args.script.now.named k lines mesh c.in_ok-ends.ends) count all)
