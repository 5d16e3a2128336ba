use Rattle.play_report.specs.Text.{row_line_text}
use Rattle.play_report.proofs.TakerLaws.{done}
use Rattle.play_report.proofs.rows.put_rows.Goals as goal

pub returns-then-is_done : goal.returns-then-is_done
returns-then-is_done g c =
    done g.T.Taker.adds g.met.T.Taker.adds_more row_line_text c.args.rows.now _ _ c.loop-row.row-index c.loop-row.invariant (c.is_done.ensures c.if-is_done.true)
