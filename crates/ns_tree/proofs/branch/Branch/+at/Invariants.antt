use Rattle.ns_tree.proofs.branch.Branch.+at.Given as goal

abbrev pub decreases-at : goal.decreases-at
decreases-at l = goal.size-at l
