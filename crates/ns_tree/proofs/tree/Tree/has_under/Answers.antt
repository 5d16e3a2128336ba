use Rattle.std.proofs.Common.{◌∙◌, sym}
use Rattle.ns_tree.proofs.Stands.{stands_under}
use Rattle.ns_tree.proofs.tree.Tree.has_under.Goals as goal

pub returns : goal.returns
returns c = c.has_kids.ensures ∙ sym (stands_under c.args.path.now c.in-Some.ensures.some.0 c.in-Some.ensures.some.1 c.args.self.now c.in-Some.branch.now c.show.ensures c.in-Some.ensures.some.2)
