use Rattle.std.proofs.Common.{rules}
use Rattle.play_report.specs.Booted.{booted_text}
use Rattle.play_report.proofs.TakerLaws.{six}
use Rattle.play_report.proofs.booted.put_booted.Goals as goal

pub returns : goal.returns
unfolding booted_text
returns g c =
    six g.T.Taker.adds g.met.T.Taker.adds_more _ _ _ _ _ _ _ _ _ _ _ _ _ _ c.put.ensures c.put_image.ensures c.put_numbers.ensures c.put-2.ensures c.put_rows.ensures c.put-3.ensures
    (search rules)
