use Rattle.std.proofs.Common.{arith}
use Rattle.journal_text.proofs.PrintLaws.{grow, numbers_more}
use Rattle.journal_text.proofs.printing.put_numbers.Goals as goal

pub loop-number-preserved : goal.loop-number-preserved
loop-number-preserved c =
    grow _ _ _ _ _ _ c.loop-number.invariant c.in_ok-put_marked.ensures.ok (numbers_more c.args.numbers.now c.loop-number.number-index 0 (omega arith))
