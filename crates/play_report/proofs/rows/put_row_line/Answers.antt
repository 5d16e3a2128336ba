use Rattle.std.proofs.Common.{refl}
use Rattle.play_report.specs.Text.{row_line_text}
use Rattle.play_report.proofs.TakerLaws.{three}
use Rattle.play_report.proofs.rows.put_row_line.Goals as goal

pub returns : goal.returns
unfolding row_line_text
returns g c = three g.T.Taker.adds g.met.T.Taker.adds_more _ _ _ _ _ _ _ _ c.put.ensures c.put_row.ensures c.put-2.ensures refl
