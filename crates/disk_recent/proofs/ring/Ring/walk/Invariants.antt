use Rattle.std.proofs.Common.{◌≡◌, ◌+◌, length, take}
use Rattle.disk_recent.specs.Edits.{stored_bytes}
use Rattle.disk_recent.specs.Ring.{bodies_in}
use Rattle.disk_recent.proofs.ring.Ring.walk.Given as goal

abbrev pub invariant-loop : goal.invariant-loop
invariant-loop l = l.place ≡ l.fn.run.begin + length (stored_bytes (take l.counter (bodies_in l.self.block l.fn.run)))
