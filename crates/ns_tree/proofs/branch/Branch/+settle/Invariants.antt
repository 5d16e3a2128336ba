use Rattle.ns_tree.proofs.branch.Branch.+settle.Given as goal

abbrev pub decreases-settle : goal.decreases-settle
decreases-settle l = goal.size-settle l
