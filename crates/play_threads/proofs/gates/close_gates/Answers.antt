use Rattle.std.proofs.Common.{◌≡◌, ◌<◌, ◌+◌, ◌∷◌, [], ◌∙◌, sym, ap, subst, arith, length, length-append, map, Some, get_or}
use Rattle.std.specs.List.{All}
use Rattle.std.proofs.lemmas.List.{length-map}
use Rattle.std.proofs.lemmas.List.Elements.{All-push}
use Rattle.journal_history.specs.Cell.{fresh_cell, cell_after}
use Rattle.play_threads.specs.Seated.{seat_of}
use Rattle.play_threads.specs.Board.{AllAt}
use Rattle.play_threads.specs.Gates.{IsLeft}
use Rattle.play_threads.proofs.CloseLaws.{first_left, rest_left, some_left, same_long, both_fit, many_is, at_map, dealt_for, alike_more, column_long, rows_long, row_long, row_own, left_more, left_all}
use Rattle.play_threads.proofs.gates.close_gates.Goals as goal

pub rows_of-requires : goal.rows_of-requires
rows_of-requires g c i d l =
    let ok = c.args.gates.ok.0 in
    let len = c.len-count.ensures in
    let m = length-map c.args.gates.items (λ x. x.table.shared.table_id) in
    let a = column_long (λ v. v.items) (λ t. seat_of t.seat.table_id t.caller t.seat.me.0.seen) (map (λ x. x.table.shared.table_id) c.args.gates.items) c.args.columns.items c.requires.own i d l in
    omega (arith, a, m, len, ok)

pub remove-requires-in-loop : goal.remove-requires-in-loop
remove-requires-in-loop g c =
    let ok = c.args.gates.ok.0 in
    let len = c.len-count.ensures in
    let m = length-map c.args.gates.items (λ x. x.table.shared.table_id) in
    let e : c.len-count.result ≡ length (map (λ x. x.table.shared.table_id) c.args.gates.items) = omega (arith, m, len, ok) in
    let r = rows_long (λ v. v.items) (λ t. seat_of t.seat.table_id t.caller t.seat.me.0.seen) (map (λ x. x.table.shared.table_id) c.args.gates.items) c.in_ok-rows.rows.items c.args.columns.items
    (dealt_for (λ v. v.items) c.in_ok-rows.rows.items (map (λ v. v.items) c.args.columns.items) _ _ e c.in_ok-rows.ensures) c.requires.own in
    let test = c.loop-test.true in
    let some = some_left c.in_ok-rows.rows.items c.loop.rows.items c.loop.counter c.loop.invariant.2 (omega (arith, r, m, len, ok, test)) in
    omega (arith, some, c.loop.rows.ok.0)

pub remove-requires-in-loop-2 : goal.remove-requires-in-loop-2
remove-requires-in-loop-2 g c =
    let ok = c.args.gates.ok.0 in
    let len = c.len-count.ensures in
    let r = same_long (λ k. k.seat.table_id) (λ x. x.table.shared.table_id) c.args.keepers.items c.args.gates.items c.requires.keepers in
    let test = c.loop-test.true in
    let some = some_left c.args.keepers.items c.loop.keepers.items c.loop.counter c.loop.invariant.1 (omega (arith, r, len, ok, test)) in
    omega (arith, some, c.loop.keepers.ok.0)

pub close_gate-requires-clause-keeper : goal.close_gate-requires-clause-keeper
close_gate-requires-clause-keeper g c =
    let ok = c.args.gates.ok.0 in
    let len = c.len-count.ensures in
    let test = c.loop-test.true in
    let i = c.loop.counter in
    let b : c.loop.counter < length c.args.gates.items = omega (arith, len, ok, test) in
    let gate = first_left c.args.gates.items c.loop.gates.items i c.remove.result c.loop.invariant.0 c.remove.ensures.value in
    let keeper = first_left c.args.keepers.items c.loop.keepers.items i c.remove-in-loop-2.result c.loop.invariant.1 c.remove-in-loop-2.ensures.value in (
      many_is (λ k. k.made) c.args.keepers.items (length c.args.gates.items) (length c.args.columns.items) i c.remove-in-loop-2.result c.requires.made b keeper
          ∙ sym (many_is (λ x. x.seats) c.args.gates.items (length c.args.gates.items) (length c.args.columns.items) i c.remove.result c.requires.seats b gate),
      both_fit (λ k. k.seat.table_id) (λ x. x.table.shared.table_id) c.args.keepers.items c.args.gates.items i c.remove-in-loop-2.result c.remove.result c.requires.keepers b keeper gate,
    )

pub close_gate-requires-clause-all : goal.close_gate-requires-clause-all
close_gate-requires-clause-all g c =
    let ok = c.args.gates.ok.0 in
    let len = c.len-count.ensures in
    let test = c.loop-test.true in
    let i = c.loop.counter in
    let m = length-map c.args.gates.items (λ x. x.table.shared.table_id) in
    let b : c.loop.counter < length c.args.gates.items = omega (arith, len, ok, test) in
    let bt : c.loop.counter < length (map (λ x. x.table.shared.table_id) c.args.gates.items) = omega (arith, m, len, ok, test) in
    let e : c.len-count.result ≡ length (map (λ x. x.table.shared.table_id) c.args.gates.items) = omega (arith, m, len, ok) in
    let gate = first_left c.args.gates.items c.loop.gates.items i c.remove.result c.loop.invariant.0 c.remove.ensures.value in
    let row = first_left c.in_ok-rows.rows.items c.loop.rows.items i c.remove-in-loop.result c.loop.invariant.2 c.remove-in-loop.ensures.value in
    row_long (λ v. v.items) (λ t. seat_of t.seat.table_id t.caller t.seat.me.0.seen) (map (λ x. x.table.shared.table_id) c.args.gates.items) c.in_ok-rows.rows.items c.args.columns.items
    (dealt_for (λ v. v.items) c.in_ok-rows.rows.items (map (λ v. v.items) c.args.columns.items) _ _ e c.in_ok-rows.ensures) c.requires.own i
    c.remove.result.table.shared.table_id c.remove-in-loop.result bt row
    ∙ sym (many_is (λ x. x.seats) c.args.gates.items (length c.args.gates.items) (length c.args.columns.items) i c.remove.result c.requires.seats b gate)

pub close_gate-requires-clause-own : goal.close_gate-requires-clause-own
close_gate-requires-clause-own g c =
    let ok = c.args.gates.ok.0 in
    let len = c.len-count.ensures in
    let test = c.loop-test.true in
    let i = c.loop.counter in
    let m = length-map c.args.gates.items (λ x. x.table.shared.table_id) in
    let b : c.loop.counter < length c.args.gates.items = omega (arith, len, ok, test) in
    let bt : c.loop.counter < length (map (λ x. x.table.shared.table_id) c.args.gates.items) = omega (arith, m, len, ok, test) in
    let e : c.len-count.result ≡ length (map (λ x. x.table.shared.table_id) c.args.gates.items) = omega (arith, m, len, ok) in
    let gate = first_left c.args.gates.items c.loop.gates.items i c.remove.result c.loop.invariant.0 c.remove.ensures.value in
    let row = first_left c.in_ok-rows.rows.items c.loop.rows.items i c.remove-in-loop.result c.loop.invariant.2 c.remove-in-loop.ensures.value in
    row_own (λ v. v.items) (λ t. seat_of t.seat.table_id t.caller t.seat.me.0.seen) (map (λ x. x.table.shared.table_id) c.args.gates.items) c.in_ok-rows.rows.items c.args.columns.items
    (dealt_for (λ v. v.items) c.in_ok-rows.rows.items (map (λ v. v.items) c.args.columns.items) _ _ e c.in_ok-rows.ensures) c.requires.own i
    c.remove.result.table.shared.table_id c.remove-in-loop.result bt row
    (at_map (λ x. x.table.shared.table_id) c.args.gates.items i c.remove.result c.remove.result.table.shared.table_id b gate)

pub loop-preserved : goal.loop-preserved
loop-preserved g c =
    let ok = c.args.gates.ok.0 in
    let len = c.len-count.ensures in
    let test = c.loop-test.true in
    let i = c.loop.counter in
    let inv = c.loop.invariant in
    let m = length-map c.args.gates.items (λ x. x.table.shared.table_id) in
    let bt : c.loop.counter < length (map (λ x. x.table.shared.table_id) c.args.gates.items) = omega (arith, m, len, ok, test) in
    let e : c.len-count.result ≡ length (map (λ x. x.table.shared.table_id) c.args.gates.items) = omega (arith, m, len, ok) in
    let row = first_left c.in_ok-rows.rows.items c.loop.rows.items i c.remove-in-loop.result inv.2 c.remove-in-loop.ensures.value in
    let hs = c.in_ok-push-2.ensures.items in
    let ns = c.in_ok-push.ensures.items in (
      rest_left c.args.gates.items c.loop.gates.items c.remove.new.self.items i inv.0 c.remove.ensures.items,
      rest_left c.args.keepers.items c.loop.keepers.items c.remove-in-loop-2.new.self.items i inv.1 c.remove-in-loop-2.ensures.items,
      rest_left c.in_ok-rows.rows.items c.loop.rows.items c.remove-in-loop.new.self.items i inv.2 c.remove-in-loop.ensures.items,
      ap length hs ∙ length-append c.loop.histories.items (c.in_ok-node.history ∷ []) ∙ ap (λ k. k + 1) inv.3,
      subst (λ l. AllAt (λ j h. IsLeft (get_or (map (λ v. map (λ t. seat_of t.seat.table_id t.caller t.seat.me.0.seen) v.items) c.in_ok-rows.rows.items) j []) h) l) (sym hs)
          (left_more (λ v. v.items) (λ t. seat_of t.seat.table_id t.caller t.seat.me.0.seen) (map (λ x. x.table.shared.table_id) c.args.gates.items) c.in_ok-rows.rows.items c.args.columns.items
          (dealt_for (λ v. v.items) c.in_ok-rows.rows.items (map (λ v. v.items) c.args.columns.items) _ _ e c.in_ok-rows.ensures) c.requires.own
          c.loop.histories.items c.in_ok-node.history i c.remove-in-loop.result bt row inv.3 c.in_ok-node.ensures.left inv.4),
      ap (map (λ n. g.N.Node.state n)) ns ∙ alike_more (λ n. g.N.Node.state n) (λ h. Some (cell_after fresh_cell h).state) c.loop.nodes.items
          c.loop.histories.items c.in_ok-node.node c.in_ok-node.history inv.5 c.in_ok-node.ensures.state
          ∙ ap (map (λ h. Some (cell_after fresh_cell h).state)) (sym hs),
      subst (All (λ n. g.N.Node.steady n)) (sym ns) (All-push (λ n. g.N.Node.steady n) c.loop.nodes.items c.in_ok-node.node inv.6 c.in_ok-node.ensures.steady),
    )

pub returns-clause-left : goal.returns-clause-left
returns-clause-left g c d =
    let ok = c.args.gates.ok.0 in
    let len = c.len-count.ensures in
    let m = length-map c.args.gates.items (λ x. x.table.shared.table_id) in
    let e : c.len-count.result ≡ length (map (λ x. x.table.shared.table_id) c.args.gates.items) = omega (arith, m, len, ok) in
    let n = c.loop.invariant.3 in
    let last = c.loop-test.false in
    let end = c.loop.auto.counter-end in
    left_all (λ v. v.items) (λ t. seat_of t.seat.table_id t.caller t.seat.me.0.seen) (map (λ x. x.table.shared.table_id) c.args.gates.items) c.in_ok-rows.rows.items c.args.columns.items
    (dealt_for (λ v. v.items) c.in_ok-rows.rows.items (map (λ v. v.items) c.args.columns.items) _ _ e c.in_ok-rows.ensures) c.requires.own
    c.loop.histories.items (omega (arith, n, last, end, e)) c.loop.invariant.4 d
