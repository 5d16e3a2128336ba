use Rattle.play_report.specs.Text.{record_line_text}
use Rattle.play_report.proofs.TakerLaws.{done}
use Rattle.play_report.proofs.entries.put_record.Goals as goal

pub returns-then-is_done : goal.returns-then-is_done
returns-then-is_done g c =
    done g.T.Taker.adds g.met.T.Taker.adds_more record_line_text c.args.lines.now _ _ c.loop-line.line-index c.loop-line.invariant (c.is_done.ensures c.if-is_done.true)
