use Rattle.std.proofs.Common.{rules}
use Rattle.play_report.proofs.TakerLaws.{five}
use Rattle.play_report.proofs.replies.put_told.Goals as goal

pub returns : goal.returns
returns g c =
    five g.T.Taker.adds g.met.T.Taker.adds_more _ _ _ _ _ _ _ _ _ _ _ _ c.put_numbers.ensures c.put_kind.ensures c.put_numbers-2.ensures c.put_accepted.ensures c.put_numbers-3.ensures
    (search rules)
