use Rattle.std.proofs.Common.{refl, false, arith}
use Rattle.writer_core.proofs.InPlace.{written_more}
use Rattle.writer_core.proofs.slots.leave_none_out.Goals as goal

pub loop-i-preserved : goal.loop-i-preserved
loop-i-preserved c =
    written_more (λ _. false) c.args.left.now c.args.left.now c.loop-i.left c.loop-i.i false false c.loop-i.invariant refl (omega arith) refl
