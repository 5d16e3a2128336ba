use Rattle.std.proofs.Common.{refl}
use Rattle.play_report.proofs.TakerLaws.{three}
use Rattle.play_report.proofs.replies.put_line.Goals as goal

pub returns : goal.returns
returns g c = three g.T.Taker.adds g.met.T.Taker.adds_more _ _ _ _ _ _ _ _ c.put_numbers.ensures c.put_kind.ensures c.put_numbers-2.ensures refl
