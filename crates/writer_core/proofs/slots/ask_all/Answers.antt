use Rattle.std.proofs.Common.{refl, false, arith}
use Rattle.writer_core.specs.declared.slot.Slot.TheVariants.{Waiting}
use Rattle.writer_core.proofs.InPlace.{written_more}
use Rattle.writer_core.proofs.slots.ask_all.Goals as goal

pub loop-i-preserved : goal.loop-i-preserved
loop-i-preserved c =
    written_more (λ _. Waiting) c.args.left.now c.args.slots.now c.loop-i.slots c.loop-i.i Waiting false c.loop-i.invariant c.requires (omega arith) refl
