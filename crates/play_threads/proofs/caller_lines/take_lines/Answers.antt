use Rattle.std.proofs.Common.{◌==◌, length, map, sym, ap, subst, ◌∙◌}
use Rattle.play_calls.specs.Logs.{LogView}
use Rattle.play_threads.specs.Seated.{seat_of, AreSeated}
use Rattle.play_model.specs.Lines.{line_of}
use Rattle.play_threads.specs.Threads.{DoesLines}
use Rattle.play_threads.proofs.GatesGo.{gates_go, start_seated}
use Rattle.play_threads.proofs.Leaving.{leaves}
use Rattle.play_threads.proofs.caller_lines.take_lines.Goals as goal

pub returns : goal.returns
returns g c =
    let s = c.in_ok-by.by in
    let t = c.do_lines.new.by in
    let n = length c.args.seats.items in
    let tables = map (λ x. x.table.shared.table_id) c.args.gates.now in
    let before = map (λ x. seat_of x.seat.table_id x.caller x.seat.me.0.seen) c.args.seats.items in
    let after = map (λ x. seat_of x.seat.table_id x.caller x.seat.me.0.seen) c.into_seats-seats.result.items in
    let lines = map line_of c.args.lines.now in
    let log = c.into_parts-wire.result.1 in
    let same = c.into_parts-wire.ensures.log in
    let parts = c.into_parts-past.ensures in
    let start = start_seated c.args.caller tables before n c.new-wire.result s c.new-wire.ensures c.in_ok-by.ensures c.requires.seated in
    let end = gates_go c.args.caller tables s t start.1.0 start.0 c.in_ok-last.ensures.later in
    leaves c.args.named n c.args.operator c.args.caller lines tables after c.into_parts-past.result.0 c.into_parts-past.result.1 c.in_ok-last.last log
    (ap (λ (l : LogView). l.whole) same ∙ (sym c.is_whole.ensures.whole ∙ c.if-not-is_whole.false))
    (ap (λ (l : LogView). l.nodes) same ∙ (c.in_ok-last.ensures.later.nodes ∙ start.1.1))
    (subst (λ l. AreSeated c.args.caller tables l after) (sym same)
    (subst (λ ss. AreSeated c.args.caller tables t.log ss) (sym (c.into_seats-seats.ensures ∙ ap (λ x. x.seats) c.into_parts-wire.ensures.wire)) end.seated))
    parts.records parts.plan parts.marked parts.copied parts.within
    (subst (λ l. DoesLines c.args.named (c.args.caller == c.args.operator) n c.args.caller lines l c.in_ok-last.last) (sym same)
    (subst (λ k. DoesLines c.args.named (c.args.caller == c.args.operator) k c.args.caller lines t.log c.in_ok-last.last) start.1.1 c.in_ok-last.ensures.does))
