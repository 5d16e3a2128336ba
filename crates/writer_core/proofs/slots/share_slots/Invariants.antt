use Rattle.std.proofs.Common.{◌≡◌, take}
use Rattle.writer_core.proofs.slots.share_slots.Given as goal

abbrev pub invariant-loop-slot : goal.invariant-loop-slot
invariant-loop-slot l = l.shared.items ≡ take l.slot-index l.slots
