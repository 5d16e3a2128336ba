use Rattle.std.proofs.Common.{◌≡◌, ◌-◌, ◌≤◌, length, take}
use Rattle.disk_recent.specs.Edits.{bodies_of, since}
use Rattle.disk_recent.proofs.recent_edits.RecentEdits.bodies_from.Given as goal

-- the first bodies of those that are held from the txid on
abbrev pub invariant-loop-self : goal.invariant-loop-self
invariant-loop-self l = record {
  few : length l.bodies ≤ 256;
  held : l.bodies ≡ take (length l.bodies) (bodies_of (since l.from l.self-inside.ring.edits));
}

abbrev pub decreases-loop-self : goal.decreases-loop-self
decreases-loop-self l = 256 - length l.bodies
