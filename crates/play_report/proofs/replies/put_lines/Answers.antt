use Rattle.std.proofs.Common.{arith, sym}
use Rattle.journal_text.specs.Texts.{lines_text}
use Rattle.journal_text.proofs.PrintLaws.{lines_more}
use Rattle.play_report.proofs.TakerLaws.{two}
use Rattle.play_report.proofs.replies.put_lines.Goals as goal

pub loop-line-init : goal.loop-line-init
unfolding lines_text
loop-line-init g c = g.met.T.Taker.adds_none _

pub loop-line-preserved : goal.loop-line-preserved
loop-line-preserved g c =
    two g.T.Taker.adds g.met.T.Taker.adds_more _ _ _ _ _ _ c.loop-line.invariant c.put_line.ensures (sym (lines_more c.args.lines.now c.loop-line.line-index _ (omega arith)))
