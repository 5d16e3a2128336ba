use Rattle.std.proofs.Common.{◌∙◌, sym, ap, subst, length, map, List}
use Rattle.std.proofs.lemmas.List.{length-map}
use Rattle.play_model.specs.Lines.{line_of, actions_of}
use Rattle.play_threads.specs.Gathered.{CallerLeaves}
use Rattle.play_threads.specs.Seated.{Seat, seat_of}
use Rattle.play_pipes.specs.Calls.{joined}
use Rattle.play_pipes.specs.PipeLines.{place_of, calls_of_seat}
use Rattle.play_pipes.proofs.PipeWorkLaws.{piped_leaves, worked_as}
use Rattle.play_pipes.proofs.pipe_lines.act_piped.Goals as goal

pub returns : goal.returns
returns g c =
    let n = length c.args.seats.items in
    let seats = map (λ t. seat_of t.seat.table_id t.caller t.seat.me.0.seen) c.args.seats.items in
    let tables = map (λ x. x.table.shared.table_id) c.args.gates.now in
    let lines = map line_of c.args.lines.now in
    let is = c.new-work.ensures.is in
    let given = ap (λ l. l.now) is.1 in
    let p = c.in_ok-back.ensures in
    let same = c.in_ok-pipes.ensures in
    let left = c.in-Some.left in
    let work = worked_as c.new-work.result.named c.args.named c.new-work.result.nodes n (actions_of c.new-work.result.actor (map line_of c.new-work.result.lines.now)) (actions_of c.args.caller lines)
    c.piped.new.work.left p.0 is.0 (is.3 ∙ c.len.ensures ∙ c.args.seats.ok.0) (λ i. actions_of (is.2 i) (map line_of (given i))) p.2 in
    subst (λ (back : List Seat). CallerLeaves c.args.named n c.args.operator c.args.caller lines tables back left.0 left.1 left.2) (sym c.in_ok-seats.ensures.seats)
    (piped_leaves c.args.named n c.args.operator c.args.caller lines tables seats c.piped.new.work.left left.0 left.1 left.2 c.requires.actor c.requires.seated
    (length-map c.args.seats.items (λ t. seat_of t.seat.table_id t.caller t.seat.me.0.seen)) c.in_ok-back.back.items p.0 (p.1 ∙ ap length same) work (p.3 ∙ ap (map place_of) same)
    (p.4 ∙ ap (λ l. joined (map calls_of_seat l) p.0) same) c.in_ok-seats.ensures.calls (sym c.into_left.ensures ∙ c.in-Some.is))
