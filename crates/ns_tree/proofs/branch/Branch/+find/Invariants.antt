use Rattle.ns_tree.proofs.branch.Branch.+find.Given as goal

abbrev pub decreases-find : goal.decreases-find
decreases-find l = goal.size-find l
