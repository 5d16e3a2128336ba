use Rattle.ns_tree.proofs.branch.Branch.+look.Given as goal

abbrev pub decreases-look : goal.decreases-look
decreases-look l = goal.size-look l
