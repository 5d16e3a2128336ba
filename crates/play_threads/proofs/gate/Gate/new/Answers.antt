use Rattle.std.proofs.Common.{[], ◌∷◌, ◌++◌, ◌∙◌, sym, ap, subst, rules, arith, List}
use Rattle.atomic_table.specs.Table.{opening}
use Rattle.play_threads.specs.Board.{keeper, Kept, AllAt}
use Rattle.play_threads.proofs.Histories.{all_push}
use Rattle.play_threads.proofs.Steps.{opens}
use Rattle.play_threads.proofs.gate.Gate.new.Goals as goal

pub new-requires : goal.new-requires
new-requires g c =
    let e = c.push_reserved.ensures.items ∙ ap (λ l. l ++ c.args.cell ∷ []) c.in-Ok-with_capacity.ensures.items in
    subst (λ (l : List g.row.C.Denot). Kept g.C.GateCell.led (opening (0 ∷ 0 ∷ 0 ∷ []) l (keeper 0 []))) (sym e) (opens g.C.GateCell.led c.args.cell c.requires.empty)

pub loop-k-preserved : goal.loop-k-preserved
loop-k-preserved g c =
    let i = c.loop-k.invariant in
    let n = c.next_seat.ensures in
    let p = c.push_reserved-in-loop-k.ensures in
    let len = i.2 in (
      n.same ∙ i.0,
      n.keeps,
      (let q = p.len in omega (arith, len)),
      search rules,
      subst (AllAt _) (sym p.items) (all_push _ c.loop-k.row.items c.next_seat.result c.loop-k.k i.4 len (n.seat.0 ∙ i.0, n.seat.1, n.seat.2, n.seat.3)),
    )
