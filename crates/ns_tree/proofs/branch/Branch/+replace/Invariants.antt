use Rattle.ns_tree.proofs.branch.Branch.+replace.Given as goal

abbrev pub decreases-replace : goal.decreases-replace
decreases-replace l = goal.size-replace l
