use Rattle.std.proofs.Common.{◌≡◌, ◌∷◌, ◌∙◌, ap, sym, subst, refl}
use Rattle.ns_tree.specs.Path.{parent_of}
use Rattle.ns_tree.specs.Space.{Space, raise, change_at, IsInode}
use Rattle.ns_edits.specs.Admit.{blocks_at}
use Rattle.ns_edits.specs.Apply.{with_all_blocks, AreSources, without_sources}
use Rattle.ns_edits.proofs.Changes.{changed_by}
use Rattle.ns_edits.proofs.Inodes.{joined_dir, joined_good}
use Rattle.ns_edits.proofs.Joins.{sources_changed, concat_joins}
use Rattle.ns_edits.proofs.applying.concat.join.Goals as goal

pub change-requires-clause-inode : goal.change-requires-clause-inode
change-requires-clause-inode c i j found good set =
    let all = c.of-all.ensures ∙ (c.in_ok-all.ensures ∙ ap (λ ps. blocks_at (c.args.target.now ∷ ps) c.args.ns.now.pairs) c.as_slice.ensures) in
    subst IsInode (sym (sym set.leaves ∙ (set.met ∙ (ap (λ ls. with_all_blocks c.args.time ls set.shown.now) all
    ∙ ap (with_all_blocks c.args.time (blocks_at (c.args.target.now ∷ c.args.sources.now) c.args.ns.now.pairs)) set.shows))))
    (joined_good c.args.target.now c.args.time c.args.sources.now c.args.ns.now.pairs c.requires.good c.show_invariant.ensures.pairs c.requires.admitted i good)

pub remove_sources-requires-clause-files : goal.remove_sources-requires-clause-files
remove_sources-requires-clause-files c =
    let all = c.of-all.ensures ∙ (c.in_ok-all.ensures ∙ ap (λ ps. blocks_at (c.args.target.now ∷ ps) c.args.ns.now.pairs) c.as_slice.ensures) in
    let joined = with_all_blocks c.args.time (blocks_at (c.args.target.now ∷ c.args.sources.now) c.args.ns.now.pairs) in
    let new = c.change.ensures in
    let set : c.change.new.self ≡ record c.args.ns.now { pairs = change_at c.args.target.now joined c.args.ns.now.pairs } =
    new.4 ∙ changed_by c.args.target.now joined new.0 new.1 c.args.ns.now c.show_invariant.ensures new.2
    (sym new.3.leaves ∙ (new.3.met ∙ (ap (λ ls. with_all_blocks c.args.time ls new.3.shown.now) all ∙ ap joined new.3.shows))) in
    rw c.as_slice-2.ensures
    (subst (λ (s : Space). AreSources c.args.sources.now s.pairs) (sym set)
    (sources_changed c.args.target.now joined c.args.sources.now c.args.ns.now.pairs
    (joined_dir c.args.time (blocks_at (c.args.target.now ∷ c.args.sources.now) c.args.ns.now.pairs))
    (concat_joins c.args.target.now c.args.sources.now c.args.ns.now.pairs c.show_invariant.ensures.root c.requires.admitted).sources))

pub returns-clause-ok : goal.returns-clause-ok
returns-clause-ok c =
    let all = c.of-all.ensures ∙ (c.in_ok-all.ensures ∙ ap (λ ps. blocks_at (c.args.target.now ∷ ps) c.args.ns.now.pairs) c.as_slice.ensures) in
    let joined = with_all_blocks c.args.time (blocks_at (c.args.target.now ∷ c.args.sources.now) c.args.ns.now.pairs) in
    let new = c.change.ensures in
    let set : c.change.new.self ≡ record c.args.ns.now { pairs = change_at c.args.target.now joined c.args.ns.now.pairs } =
    new.4 ∙ changed_by c.args.target.now joined new.0 new.1 c.args.ns.now c.show_invariant.ensures new.2
    (sym new.3.leaves ∙ (new.3.met ∙ (ap (λ ls. with_all_blocks c.args.time ls new.3.shown.now) all ∙ ap joined new.3.shows))) in
    let last : c.raise_mtime.new.self ≡ record c.change.new.self { pairs = raise (parent_of c.args.target.now) c.args.time (without_sources c.args.sources.now c.args.time c.change.new.self.pairs) } =
    rw (c.raise_mtime.ensures, c.remove_sources.ensures, c.parent.ensures, c.as_slice-2.ensures) refl in
    last ∙ ap (λ (s : Space). record s { pairs = raise (parent_of c.args.target.now) c.args.time (without_sources c.args.sources.now c.args.time s.pairs) }) set
