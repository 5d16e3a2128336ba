use Rattle.ns_tree.proofs.branch.Branch.+raise.Given as goal

abbrev pub decreases-raise : goal.decreases-raise
decreases-raise l = goal.size-raise l
