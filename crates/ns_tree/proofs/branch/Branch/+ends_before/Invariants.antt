use Rattle.ns_tree.proofs.branch.Branch.+ends_before.Given as goal

abbrev pub decreases-ends_before : goal.decreases-ends_before
decreases-ends_before l = goal.size-ends_before l
