use Rattle.std.proofs.Common.{◌≡◌, ◌≤◌, drop, length, false}
use Rattle.ns_tree.specs.Path.{has_slash}
use Rattle.ns_edits.proofs.admitting.rename_checks.last_component.Given as goal

abbrev pub invariant-loop-i : goal.invariant-loop-i
invariant-loop-i l = record { within : l.i ≤ length l.path; none : has_slash (drop l.i l.path) ≡ false }

abbrev pub decreases-loop-i : goal.decreases-loop-i
decreases-loop-i l = l.i
