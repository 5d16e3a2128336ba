use Rattle.ns_tree.proofs.branch.Branch.+cut.Given as goal

abbrev pub decreases-cut : goal.decreases-cut
decreases-cut l = goal.size-cut l
