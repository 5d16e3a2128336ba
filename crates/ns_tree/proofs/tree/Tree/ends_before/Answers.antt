use Rattle.std.proofs.Common.{◌<◌, ◌∙◌, sym, ap, List, ℕ, length, arith}
use Rattle.std.specs.Ordering.{is_lt}
use Rattle.ns_tree.specs.Path.{walk_cmp}
use Rattle.ns_tree.specs.Last.{last_path}
use Rattle.ns_tree.proofs.Puts.{some_branch}
use Rattle.ns_tree.proofs.Stands.{last_rooted}
use Rattle.ns_tree.proofs.tree.Tree.ends_before.Goals as goal

pub returns-else-self-eq1 : goal.returns-else-self-eq1
returns-else-self-eq1 c =
    let some = some_branch c.self.inside.root c.self.invariant.branch in
    let more : 1 < length c.self.inside.root = omega (arith, some, c.self.invariant.count, c.if-self-eq1.false) in
    c.ends_before.ensures ∙ ap (λ (w : List ℕ). is_lt (walk_cmp w c.args.path.now)) (sym (last_rooted c.self.inside.root c.self.invariant.branch more) ∙ ap last_path c.self.view_is)
