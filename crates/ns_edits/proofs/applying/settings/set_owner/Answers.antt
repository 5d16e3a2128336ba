use Rattle.std.proofs.Common.{ap, sym, ◌∙◌, subst}
use Rattle.ns_edits.specs.Apply.{with_owner}
use Rattle.ns_tree.specs.Space.{IsInode}
use Rattle.ns_edits.proofs.Inodes.{owned_good}
use Rattle.ns_edits.proofs.Changes.{changed_by}
use Rattle.ns_edits.proofs.applying.settings.set_owner.Goals as goal

pub change-requires-clause-inode : goal.change-requires-clause-inode
change-requires-clause-inode c i j found good set =
    subst IsInode (sym (sym set.leaves ∙ set.met ∙ ap (with_owner c.args.user c.args.group) set.shows))
    (owned_good c.args.path.now c.args.user c.args.group c.args.ns.now.pairs c.requires.admitted i good)

pub returns : goal.returns
returns c =
    let set = c.change.ensures in
    set.4 ∙ changed_by c.args.path.now (with_owner c.args.user c.args.group) set.0 set.1 c.args.ns.now c.show_invariant.ensures set.2
    (sym set.3.leaves ∙ set.3.met ∙ ap (with_owner c.args.user c.args.group) set.3.shows)
