use Rattle.std.proofs.Common.{refl}
use Rattle.play_report.proofs.TakerLaws.{three}
use Rattle.play_report.proofs.lasts.put_numbered.Goals as goal

pub returns : goal.returns
returns g c = three g.T.Taker.adds g.met.T.Taker.adds_more _ _ _ _ _ _ _ _ c.put.ensures c.put_numbers.ensures c.put-2.ensures refl
