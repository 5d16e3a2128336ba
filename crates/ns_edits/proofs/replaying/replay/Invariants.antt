use Rattle.std.proofs.Common.{◌≡◌, ◌+◌, ◌-◌, take, Some}
use Rattle.ns_tree.specs.Space.{AreRising}
use Rattle.ns_edits.specs.Replay.{replay_from}
use Rattle.ns_edits.proofs.replaying.replay.Given as goal

abbrev pub invariant-loop-i : goal.invariant-loop-i
invariant-loop-i l = record {
  replayed : replay_from (l.fn.batch.first - 1) (take l.i l.bodies) l.fn.ns ≡ Some l.ns;
  rising : AreRising 0 (l.fn.batch.first - 1 + l.i) l.ns.calls;
}
