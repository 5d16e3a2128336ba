use Rattle.std.proofs.Common.{rules}
use Rattle.play_report.proofs.TakerLaws.{two, three}
use Rattle.play_report.proofs.asks.put_stop.Goals as goal

pub returns-in-DiskCalls : goal.returns-in-DiskCalls
returns-in-DiskCalls g c = three g.T.Taker.adds g.met.T.Taker.adds_more _ _ _ _ _ _ _ _ c.put-in-DiskCalls.ensures c.put_numbers-in-DiskCalls.ensures c.put_choice.ensures (search rules)

pub returns-in-Effects : goal.returns-in-Effects
returns-in-Effects g c = two g.T.Taker.adds g.met.T.Taker.adds_more _ _ _ _ _ _ c.put.ensures c.put_numbers.ensures (search rules)
