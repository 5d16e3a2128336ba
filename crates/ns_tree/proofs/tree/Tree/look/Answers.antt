use Rattle.std.proofs.Common.{◌≡◌, ◌∙◌, ap, sym, List, ℕ}
use Rattle.ns_tree.specs.declared.inode.Row.{Row}
use Rattle.ns_tree.specs.Path.{parent_of}
use Rattle.ns_tree.specs.Space.{find, is_dir_there}
use Rattle.ns_tree.proofs.Below.{rows_from}
use Rattle.ns_tree.proofs.Parents.{below_root}
use Rattle.ns_tree.proofs.Treed.{path_rooted, found_above, found_below}
use Rattle.ns_tree.proofs.tree.Tree.look.Goals as goal

pub look-requires-clause-led : goal.look-requires-clause-led
look-requires-clause-led c = (path_rooted c.args.path.now c.requires.path).1

pub look-requires-clause-below : goal.look-requires-clause-below
look-requires-clause-below c = (path_rooted c.args.path.now c.requires.path).0

pub returns-clause-above : goal.returns-clause-above
returns-clause-above c =
    c.look.ensures.above ∙ ap is_dir_there (sym (found_above c.args.path.now c.requires.path (below_root c.args.path.now c.requires.path c.requires.not_root) c.self.inside.root (rows_from
    c.self.inside.root c.self.invariant.branch)) ∙ ap (find (parent_of c.args.path.now)) c.self.view_is)

pub returns-clause-there : goal.returns-clause-there
returns-clause-there c =
    c.look.ensures.there ∙ sym (found_below c.args.path.now c.requires.path (below_root c.args.path.now c.requires.path c.requires.not_root) c.self.inside.root (rows_from c.self.inside.root
    c.self.invariant.branch)) ∙ ap (find c.args.path.now) c.self.view_is
