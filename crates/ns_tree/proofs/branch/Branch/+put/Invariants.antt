use Rattle.ns_tree.proofs.branch.Branch.+put.Given as goal

abbrev pub decreases-put : goal.decreases-put
decreases-put l = goal.size-put l
