use Rattle.std.proofs.Common.{◌∙◌, ◌≡◌, ◌-◌, arith}
use Rattle.report_judge.specs.Rows.{lengths_of}
use Rattle.report_judge.proofs.ColumnLaws.{lengths_more, lengths_over}
use Rattle.report_judge.proofs.rows.lengths_of.Goals as goal

pub loop-made-preserved : goal.loop-made-preserved
loop-made-preserved c =
    let rest : c.saturating_sub-left.result ≡ c.loop-made.left - c.least_of-length.result = omega (arith, c.saturating_sub-left.ensures, c.from.ensures) in
    lengths_more c.args.blocks c.loop-made._made c.loop-made.left c.saturating_sub-left.result c.least_of-length.result c.loop-made.lengths.items c.push.new.self.items
    (lengths_of c.args.blocks c.args.size) c.loop-made.invariant c.loop-made-test.true c.least_of-length.ensures rest c.in_ok-push.ensures.items

pub returns : goal.returns
returns c =
    c.of.ensures
    ∙ lengths_over c.args.blocks c.loop-made._made c.loop-made.left c.loop-made.lengths.items (lengths_of c.args.blocks c.args.size) c.loop-made.invariant
    (omega (arith, c.loop-made-test.false))
