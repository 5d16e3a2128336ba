use Rattle.std.proofs.Common.{arith}
use Rattle.journal_text.proofs.PrintLaws.{marked_piece, decimal_short}
use Rattle.journal_text.proofs.printing.put_marked.Goals as goal

pub write_digits-start-requires : goal.write_digits-start-requires
write_digits-start-requires c = (omega (arith, decimal_short c.args.number c.ranges.number.fits), omega arith)

pub overflow_sub-start : goal.overflow_sub-start
overflow_sub-start c = omega (arith, decimal_short c.args.number c.ranges.number.fits)

pub returns-clause-ok : goal.returns-clause-ok
returns-clause-ok c =
    rw (marked_piece c.args.mark c.args.number c.write_digits-start.result c.write_digits-start.new.buf c.ranges.number.fits c.write_digits-start.auto.buf c.write_digits-start.ensures.start
    c.write_digits-start.ensures.written c.write_digits-start.ensures.before) at c.put.ensures.ok
