use Rattle.std.proofs.Common.{◌∙◌, ap, List, ℕ}
use Rattle.ns_tree.specs.declared.inode.Row.{Row}
use Rattle.ns_tree.specs.Branches.{rooted}
use Rattle.std.proofs.Common.{◌++◌, map}
use Rattle.ns_tree.specs.Branches.{from_path}
use Rattle.ns_tree.proofs.BelowParts.{own_path}
use Rattle.ns_tree.proofs.tree.Tree.walk.Goals as goal

pub returns : goal.returns
returns c =
    c.in_ok-walk.ensures.rows
    ∙ ap (λ (xs : List Row). xs ++ rooted (map (from_path c.new-path.result.items) c.self.inside.root)) c.new-rows.ensures.items
    ∙ ap (λ (w : List ℕ). rooted (map (from_path w) c.self.inside.root)) c.new-path.ensures.items ∙ ap rooted (own_path c.self.inside.root) ∙ c.self.view_is
