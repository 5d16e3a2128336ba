use Rattle.std.proofs.Common.{refl}
use Rattle.play_report.proofs.TakerLaws.{three}
use Rattle.play_report.proofs.asks.put_answer_end.Goals as goal

pub returns : goal.returns
returns g c = three g.T.Taker.adds g.met.T.Taker.adds_more _ _ _ _ _ _ _ _ c.put-2.ensures c.put_answer.ensures c.put-3.ensures refl
