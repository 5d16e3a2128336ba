use Rattle.std.proofs.Common.{◌∙◌, ap, nat_lt, []}
use Rattle.ns_tree.specs.Space.{has_under}
use Rattle.ns_tree.proofs.Folds.{kids_under}
use Rattle.ns_tree.proofs.branch.Branch.has_kids.Goals as goal

pub returns : goal.returns
returns c =
    ap (nat_lt 0) c.len.ensures.len ∙ kids_under (λ k. k.items) (λ b. b.value) c.self.inside.inode c.self.inside.kids.entries c.self.invariant ∙ ap (has_under []) c.self.view_is
