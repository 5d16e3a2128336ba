use Rattle.std.proofs.Common.{◌≡◌, ◌∙◌, ap, arith, List, ℕ, None}
use Rattle.ns_tree.specs.declared.inode.Row.{Row}
use Rattle.ns_tree.specs.Path.{parent_of}
use Rattle.ns_tree.specs.Space.{Space, find, put, raise}
use Rattle.ns_tree.specs.Places.{IsTree}
use Rattle.std.proofs.lemmas.Result.{on_ok_weaker, on_err_weaker}
use Rattle.ns_tree.specs.declared.inode.Inode.{Inode}
use Rattle.ns_tree.specs.Space.{is_dir_there}
use Rattle.std.proofs.Common.{◌++◌, ◌∷◌, []}
use Rattle.ns_tree.proofs.Puts.{raise_none}
use Rattle.ns_tree.proofs.Last.{append_absent, append_put}
use Rattle.ns_tree.proofs.Sound.{kept_result, space_made, sound_put, sound_raise}
use Rattle.ns_tree.proofs.namespace.Namespace.append.Goals as goal

pub put-requires-clause-absent : goal.put-requires-clause-absent
put-requires-clause-absent c =
    let pairs : c.self.inside.rows ≡ c.args.self.now.pairs = ap (λ (s : Space). s.pairs) c.self.view_is in
    let absent : find c.args.row.path c.self.inside.rows ≡ None = append_absent c.args.row.path c.self.inside.rows c.self.invariant.sound.ordered (rw pairs c.requires.last) in
    ap (λ (w : List ℕ). find w c.self.inside.rows) (c.as_slice.ensures ∙ c.into_parts-path.ensures.path) ∙ absent

pub put-requires-clause-parent : goal.put-requires-clause-parent
put-requires-clause-parent c =
    let pairs : c.self.inside.rows ≡ c.args.self.now.pairs = ap (λ (s : Space). s.pairs) c.self.view_is in
    ap (λ (w : List ℕ). is_dir_there (find (parent_of w) c.self.inside.rows)) (c.as_slice.ensures ∙ c.into_parts-path.ensures.path) ∙ (rw pairs c.requires.parent)

pub invariant_of-self : goal.invariant_of-self
invariant_of-self c =
    let pairs : c.self.inside.rows ≡ c.args.self.now.pairs = ap (λ (s : Space). s.pairs) c.self.view_is in
    let absent : find c.args.row.path c.self.inside.rows ≡ None = append_absent c.args.row.path c.self.inside.rows c.self.invariant.sound.ordered (rw pairs c.requires.last) in
    let made = on_ok_weaker c.put.result (λ h. h ∙ ap (λ (w : List ℕ). raise (parent_of w) 0 (put w c.into_parts-path.result.1 c.self.inside.rows)) (c.as_slice.ensures ∙
    c.into_parts-path.ensures.path)
    ∙ ap (λ (i : Inode). raise (parent_of c.args.row.path) 0 (put c.args.row.path i c.self.inside.rows)) c.into_parts-path.ensures.inode) c.put.ensures.ok in
    record {
      sound = kept_result (λ (xs : List Row). IsTree (record { pairs = xs; calls = c.self.inside.calls })) c.put.result c.put.new.self c.self.inside.rows (raise (parent_of
          c.args.row.path) 0 (put c.args.row.path c.args.row.inode c.self.inside.rows)) made c.put.ensures.err
          (sound_raise (record { pairs = put c.args.row.path c.args.row.inode c.self.inside.rows; calls = c.self.inside.calls }) (parent_of c.args.row.path) 0
          (sound_put (record { pairs = c.self.inside.rows; calls = c.self.inside.calls }) c.args.row.path c.args.row.inode c.self.invariant.sound c.requires.path c.requires.short
          c.requires.inode absent (rw pairs c.requires.parent)) (omega arith)) c.self.invariant.sound;
    }

pub returns-clause-ok : goal.returns-clause-ok
returns-clause-ok c =
    let pairs : c.self.inside.rows ≡ c.args.self.now.pairs = ap (λ (s : Space). s.pairs) c.self.view_is in
    let made = on_ok_weaker c.put.result (λ h. h ∙ ap (λ (w : List ℕ). raise (parent_of w) 0 (put w c.into_parts-path.result.1 c.self.inside.rows)) (c.as_slice.ensures ∙
    c.into_parts-path.ensures.path)
    ∙ ap (λ (i : Inode). raise (parent_of c.args.row.path) 0 (put c.args.row.path i c.self.inside.rows)) c.into_parts-path.ensures.inode) c.put.ensures.ok in
    on_ok_weaker c.put.result (λ h. space_made c.args.self.now c.self.inside.rows c.put.new.self c.self.inside.calls (λ (xs : List Row). xs ++ c.args.row ∷ []) c.self.view_is
    (h ∙ raise_none (parent_of c.args.row.path) (put c.args.row.path c.args.row.inode c.self.inside.rows)
    ∙ append_put c.args.row.path c.args.row.inode c.self.inside.rows c.self.invariant.sound.ordered (rw pairs c.requires.last))) made

pub returns-clause-err : goal.returns-clause-err
returns-clause-err c =
    on_err_weaker c.put.result (λ h. rw h c.self.view_is) c.put.ensures.err
