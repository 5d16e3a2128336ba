use Rattle.std.proofs.Common.{◌≡◌, [], drop, take}
use Rattle.ns_edits.specs.Admit.{ancestors}
use Rattle.ns_edits.proofs.admitting.walks.walk_above.Given as goal

abbrev pub invariant-loop-i : goal.invariant-loop-i
invariant-loop-i l = ancestors l.absent l.namespace.pairs [] l.stem ≡ ancestors l.absent l.namespace.pairs (take l.i l.stem) (drop l.i l.stem)
