use Rattle.std.proofs.Common.{rules}
use Rattle.play_report.proofs.TakerLaws.{same_as}
use Rattle.play_report.proofs.rows.put_counts.Goals as goal

pub returns : goal.returns
returns g c =
    let more = g.met.T.Taker.adds_more in
    same_as g.T.Taker.adds more _ _ _ _
    (more _ _ _ _ _ c.put_tabbed.ensures
    (more _ _ _ _ _ c.put_tabbed-2.ensures
    (more _ _ _ _ _ c.put_tabbed-3.ensures
    (more _ _ _ _ _ c.put_tabbed-4.ensures
    (more _ _ _ _ _ c.put_tabbed-5.ensures (g.met.T.Taker.adds_none _))))))
    (search rules)
