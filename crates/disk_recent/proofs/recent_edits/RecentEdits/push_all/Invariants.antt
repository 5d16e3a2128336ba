use Rattle.std.proofs.Common.{◌≡◌, ◌+◌, ◌++◌, List, take}
use Rattle.disk_recent.specs.Edits.{Edit, Follows, kept_edits, number_edits, bodies_of}
use Rattle.disk_recent.specs.Recent.{AreFilled, most_stored}
use Rattle.disk_recent.proofs.recent_edits.RecentEdits.push_all.Given as goal

-- the newest are kept of all edits up to the loop's place
abbrev pub invariant-loop-body : goal.invariant-loop-body
invariant-loop-body l = record {
  place : l.txid ≡ l.first + l.body-index;
  items : l.body-items ≡ l.bodies;
  start : l.self-inside.start ≡ l.fn.self.start;
  bytes : l.self-inside.ring.bytes ≡ 1048576;
  filled : AreFilled (bodies_of l.self-inside.ring.edits);
  follows : Follows l.self-inside.ring.edits l.txid;
  held : (before : List Edit) → l.fn.self.edits ≡ kept_edits most_stored before → l.self-inside.ring.edits ≡ kept_edits most_stored (before ++ number_edits l.first (take l.body-index l.bodies));
}
