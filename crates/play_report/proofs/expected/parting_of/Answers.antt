use Rattle.play_report.proofs.ComeLaws.{are_same, are_other}
use Rattle.play_report.proofs.expected.parting_of.Goals as goal

pub returns-then-all_came-clause-same : goal.returns-then-all_came-clause-same
returns-then-all_came-clause-same g c =
    are_same c.args.bytes.now _ c.print.new.out.rest.now c.print.new.out.same c.print.ensures (c.all_came.ensures.all c.if-all_came.true)

pub returns-clause-parts : goal.returns-clause-parts
returns-clause-parts g c =
    are_other c.args.bytes.now _ c.print.new.out.rest.now c.print.new.out.same c.print.ensures (c.all_came.ensures.less c.if-all_came.false)
