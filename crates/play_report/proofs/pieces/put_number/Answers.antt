use Rattle.play_report.proofs.TakerLaws.{same_as}
use Rattle.play_report.proofs.PartLaws.{digits_piece}
use Rattle.play_report.proofs.pieces.put_number.Goals as goal

pub returns : goal.returns
returns g c =
    same_as g.T.Taker.adds g.met.T.Taker.adds_more _ _ _ _ c.put.ensures
    (digits_piece c.args.number c.write_digits-start.result c.write_digits-start.new.buf c.write_digits-start.auto.buf c.write_digits-start.ensures.written)
