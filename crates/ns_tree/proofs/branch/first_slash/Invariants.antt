use Rattle.std.proofs.Common.{◌≡◌, take, false}
use Rattle.ns_tree.specs.Path.{has_slash}
use Rattle.ns_tree.proofs.branch.first_slash.Given as goal

abbrev pub invariant-loop-i : goal.invariant-loop-i
invariant-loop-i l = has_slash (take l.i l.text) ≡ false
