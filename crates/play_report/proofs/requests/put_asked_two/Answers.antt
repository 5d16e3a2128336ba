use Rattle.std.proofs.Common.{rules}
use Rattle.play_report.proofs.TakerLaws.{two}
use Rattle.play_report.proofs.requests.put_asked_two.Goals as goal

pub returns : goal.returns
returns g c = two g.T.Taker.adds g.met.T.Taker.adds_more _ _ _ _ _ _ c.put.ensures c.put_numbers.ensures (search rules)
