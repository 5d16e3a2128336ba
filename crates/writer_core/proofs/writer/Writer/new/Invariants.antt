use Rattle.std.proofs.Common.{◌≡◌, replicate, false}
use Rattle.writer_core.specs.declared.slot.Slot.TheVariants.{Waiting}
use Rattle.writer_core.specs.declared.cause.Cause.TheVariants.{Silent}
use Rattle.writer_core.proofs.writer.Writer.new.Given as goal

abbrev pub invariant-loop : goal.invariant-loop
invariant-loop l =
    (l.left.items ≡ replicate l.counter false) × (l.slots.items ≡ replicate l.counter Waiting) × (l.causes.items ≡ replicate l.counter Silent)
