use Rattle.std.proofs.Common.{◌≡◌, drop, max}
use Rattle.writer_core.specs.Best.{greatest_promise}
use Rattle.writer_core.proofs.slots.greatest_promise.Given as goal

-- the greatest so far and that of the rest give that of all
abbrev pub invariant-loop-slot : goal.invariant-loop-slot
invariant-loop-slot l = max l.greatest (greatest_promise (drop l.slot-index l.slots)) ≡ greatest_promise l.slots
