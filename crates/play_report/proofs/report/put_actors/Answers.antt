use Rattle.std.proofs.Common.{[], ◌∙◌, ap, arith, ◌++◌, get_or, refl, rules}
use Rattle.std.proofs.lemmas.List.{nil_from_length}
use Rattle.ns_tree.specs.declared.end.End.{End}
use Rattle.play_report.specs.Text.{ended_text, actors_text}
use Rattle.play_report.proofs.NodeLaws.{actors_more, actors_none, actors_all}
use Rattle.play_report.proofs.TakerLaws.{same_as, two}
use Rattle.play_report.proofs.report.put_actors.Goals as goal

pub loop-end-init : goal.loop-end-init
loop-end-init g c = ([], g.met.T.Taker.adds_none _, search rules)

pub returns-in_default : goal.returns-in_default
returns-in_default g c =
    let inv = c.loop-end.invariant in
    same_as g.T.Taker.adds g.met.T.Taker.adds_more _ _ _ _ inv.1
    (actors_none inv.0 _ c.args.ends.now c.loop-end.rest.now c.loop-end.end-index c.end-item.result inv.2 (omega (arith, c.loop-end-test.true))
    (nil_from_length c.loop-end.rest.now c.in_default.ensures.cases))

pub loop-end-preserved : goal.loop-end-preserved
loop-end-preserved g c =
    let inv = c.loop-end.invariant in
    let ended = ended_text c.end-item.result c.as_slice.result.now in (
      inv.0 ++ ended,
      g.met.T.Taker.adds_more _ _ _ inv.0 ended inv.1 c.put_ended.ensures,
      actors_more inv.0 (inv.0 ++ ended) (actors_text c.args.ends.now c.args.records.now) c.args.ends.now c.loop-end.rest.now c.in-Some.others.now c.in-Some.record.now c.loop-end.end-index c.end-item.result
          inv.2 (omega (arith, c.loop-end-test.true)) c.in-Some.ensures.cases.0
          (ap (λ (e : End). inv.0 ++ ended_text e c.as_slice.result.now) c.end-item.is
          ∙ ap (λ l. inv.0 ++ ended_text (get_or c.args.ends.now c.loop-end.end-index c.end-item.result) l) c.as_slice.ensures),
    )

pub returns : goal.returns
returns g c =
    let inv = c.loop-end.invariant in
    two g.T.Taker.adds g.met.T.Taker.adds_more _ _ _ _ _ _ inv.1 c.put_operator.ensures
    (actors_all inv.0 _ _ c.args.ends.now c.loop-end.rest.now c.loop-end.end-index inv.2 (omega (arith, c.loop-end-test.false)) refl)
