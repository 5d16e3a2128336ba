use Rattle.play_report.specs.Text.{history_line_text}
use Rattle.play_report.proofs.TakerLaws.{done}
use Rattle.play_report.proofs.entries.put_history.Goals as goal

pub returns-then-is_done : goal.returns-then-is_done
returns-then-is_done g c =
    done g.T.Taker.adds g.met.T.Taker.adds_more (history_line_text c.args.ends.now) c.args.lines.now _ _ c.loop-line.line-index c.loop-line.invariant (c.is_done.ensures c.if-is_done.true)
