use Rattle.std.proofs.Common.{subst}
use Rattle.ns_tree.specs.Branches.{IsBranch}
use Rattle.ns_tree.proofs.BranchedParts.{branch_is}
use Rattle.ns_tree.proofs.branch.Branch.show.Goals as goal

pub returns : goal.returns
returns c = subst IsBranch c.self.view_is (branch_is (λ k. k.items) (λ b. b.value) c.self.inside.inode c.self.inside.kids.entries c.self.invariant)
