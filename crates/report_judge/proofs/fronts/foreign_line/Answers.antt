use Rattle.std.proofs.Common.{length, ap, arith}
use Rattle.report_judge.proofs.FrontLaws.{all_local}
use Rattle.report_judge.proofs.fronts.foreign_line.Goals as goal

pub returns : goal.returns
returns c = all_local c.args.mesh.now c.loop-index.index (omega (arith, c.loop-index-test.false, ap length c.as_slice-history-items.ensures)) c.loop-index.invariant
