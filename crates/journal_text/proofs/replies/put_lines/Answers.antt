use Rattle.std.proofs.Common.{arith}
use Rattle.journal_text.proofs.PrintLaws.{grow, lines_more}
use Rattle.journal_text.proofs.replies.put_lines.Goals as goal

pub loop-line-preserved : goal.loop-line-preserved
loop-line-preserved c =
    grow _ _ _ _ _ _ c.loop-line.invariant c.in_ok-put_line.ensures.ok (lines_more c.args.lines.now c.loop-line.line-index _ (omega arith))
