use Rattle.ns_tree.proofs.branch.Branch.+change.Given as goal

abbrev pub decreases-change : goal.decreases-change
decreases-change l = goal.size-change l
