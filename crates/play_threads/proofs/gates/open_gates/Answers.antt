use Rattle.std.proofs.Common.{◌≡◌, ◌+◌, ◌++◌, ◌∷◌, [], ◌∙◌, sym, ap, arith, length, length-append, map}
use Rattle.std.proofs.lemmas.List.{map-append}
use Rattle.play_threads.specs.Seated.{seat_of}
use Rattle.play_threads.specs.Gates.{fresh_columns}
use Rattle.play_threads.proofs.GateLaws.{columns_first, columns_next, columns_many, row_fresh, seat_fresh, more_yielded}
use Rattle.play_threads.proofs.gates.open_gates.Goals as goal

pub loop-node-init : goal.loop-node-init
loop-node-init g c =
    let gates = c.in_ok-gates.ensures.items in
    let keepers = c.in_ok-keepers.ensures.items in (
      ap length gates,
      ap (map (λ k. k.seat.table_id)) keepers ∙ sym (ap (map (λ g. g.table.shared.table_id)) gates),
      ap (map (λ k. k.made)) keepers,
      ap (map (λ g. g.seats)) gates,
      columns_first (λ v. v.items) (λ t. seat_of t.seat.table_id t.caller t.seat.me.0.seen) c.in_ok-columns.columns.items c.args.callers c.in_ok-columns.ensures
          ∙ ap (λ l. fresh_columns 0 c.args.callers (map (λ g. g.table.shared.table_id) l)) (sym gates),
    )

pub deal-requires : goal.deal-requires
deal-requires g c =
    c.in_ok-gate.ensures.count.1
    ∙ sym (columns_many (λ v. map (λ t. seat_of t.seat.table_id t.caller t.seat.me.0.seen) v.items) c.loop-node.columns.items c.args.callers
    (map (λ g. g.table.shared.table_id) c.loop-node.gates.items) c.loop-node.invariant.4)

pub loop-node-preserved : goal.loop-node-preserved
loop-node-preserved g c =
    let inv = c.loop-node.invariant in
    let count = c.in_ok-gate.ensures.count in
    let each = c.in_ok-gate.ensures.each in
    let gate = c.in_ok-gate.gate in
    let keeper = c.in_ok-gate.keeper in
    let table = gate.table.shared.table_id in
    let gates = c.in_ok-push.ensures.items in
    let keepers = c.in_ok-push-2.ensures.items in
    let tables = ap (map (λ g. g.table.shared.table_id)) gates ∙ map-append (λ g. g.table.shared.table_id) c.loop-node.gates.items (gate ∷ []) in (
      ap length gates ∙ length-append c.loop-node.gates.items (gate ∷ []) ∙ ap (λ k. k + 1) inv.0 ∙ sym (length-append c.loop-node.yielded (c.in-Some.node ∷ [])),
      ap (map (λ k. k.seat.table_id)) keepers ∙ map-append (λ k. k.seat.table_id) c.loop-node.keepers.items (keeper ∷ []) ∙ (λ i. inv.1 i ++ count.3 i ∷ []) ∙ sym tables,
      ap (map (λ k. k.made)) keepers ∙ map-append (λ k. k.made) c.loop-node.keepers.items (keeper ∷ []) ∙ (λ i. inv.2 i ++ count.2 i ∷ [])
          ∙ sym (more_yielded c.loop-node.yielded c.in-Some.node c.args.callers),
      ap (map (λ g. g.seats)) gates ∙ map-append (λ g. g.seats) c.loop-node.gates.items (gate ∷ []) ∙ (λ i. inv.3 i ++ count.0 i ∷ [])
          ∙ sym (more_yielded c.loop-node.yielded c.in-Some.node c.args.callers),
      columns_next (λ v. v.items) (λ t. seat_of t.seat.table_id t.caller t.seat.me.0.seen) c.loop-node.columns.items c.deal.new.columns.items c.in_ok-gate.seats.items c.args.callers
          (map (λ g. g.table.shared.table_id) c.loop-node.gates.items) table c.in_ok-deal.ensures
          (row_fresh (λ t. seat_of t.seat.table_id t.caller t.seat.me.0.seen) c.in_ok-gate.seats.items 0 c.args.callers table count.1
          (λ i s at. let e = each i s at in let z : i ≡ 0 + i = omega arith in seat_fresh s.seat.table_id table s.caller (0 + i) s.seat.me.0.seen e.0 (e.1 ∙ z) e.2))
          inv.4
          ∙ ap (fresh_columns 0 c.args.callers) (sym tables),
    )
