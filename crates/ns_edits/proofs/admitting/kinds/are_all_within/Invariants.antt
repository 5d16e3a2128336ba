use Rattle.std.proofs.Common.{◌≡◌, drop}
use Rattle.ns_edits.specs.Admit.{are_within}
use Rattle.ns_edits.proofs.admitting.kinds.are_all_within.Given as goal

abbrev pub invariant-loop-length : goal.invariant-loop-length
invariant-loop-length l = are_within l.size l.lengths ≡ are_within l.size (drop l.length-index l.lengths)
