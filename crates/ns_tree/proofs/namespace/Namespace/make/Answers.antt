use Rattle.std.proofs.Common.{◌≡◌, ◌∙◌, ap, List, ℕ}
use Rattle.ns_tree.specs.declared.inode.Row.{Row}
use Rattle.ns_tree.specs.Path.{parent_of}
use Rattle.ns_tree.specs.Space.{Space, find, put, raise}
use Rattle.ns_tree.specs.Places.{IsTree}
use Rattle.std.proofs.lemmas.Result.{on_ok_weaker, on_err_weaker}
use Rattle.ns_tree.specs.Space.{is_dir_there}
use Rattle.ns_tree.proofs.Sound.{kept_result, space_made, sound_put, sound_raise}
use Rattle.ns_tree.proofs.namespace.Namespace.make.Goals as goal

pub put-requires-clause-absent : goal.put-requires-clause-absent
put-requires-clause-absent c =
    let pairs : c.self.inside.rows ≡ c.args.self.now.pairs = ap (λ (s : Space). s.pairs) c.self.view_is in
    ap (λ (w : List ℕ). find w c.self.inside.rows) c.as_slice.ensures ∙ (rw pairs c.requires.absent)

pub put-requires-clause-parent : goal.put-requires-clause-parent
put-requires-clause-parent c =
    let pairs : c.self.inside.rows ≡ c.args.self.now.pairs = ap (λ (s : Space). s.pairs) c.self.view_is in
    ap (λ (w : List ℕ). is_dir_there (find (parent_of w) c.self.inside.rows)) c.as_slice.ensures ∙ (rw pairs c.requires.parent)

pub invariant_of-self : goal.invariant_of-self
invariant_of-self c =
    let pairs : c.self.inside.rows ≡ c.args.self.now.pairs = ap (λ (s : Space). s.pairs) c.self.view_is in
    let made = on_ok_weaker c.put.result (λ h. h ∙ ap (λ (w : List ℕ). raise (parent_of w) c.args.time (put w c.args.inode c.self.inside.rows)) c.as_slice.ensures) c.put.ensures.ok in
    record {
      sound = kept_result (λ (xs : List Row). IsTree (record { pairs = xs; calls = c.self.inside.calls })) c.put.result c.put.new.self c.self.inside.rows (raise (parent_of c.args.path)
          c.args.time (put c.args.path c.args.inode c.self.inside.rows)) made c.put.ensures.err
          (sound_raise (record { pairs = put c.args.path c.args.inode c.self.inside.rows; calls = c.self.inside.calls }) (parent_of c.args.path) c.args.time
          (sound_put (record { pairs = c.self.inside.rows; calls = c.self.inside.calls }) c.args.path c.args.inode c.self.invariant.sound c.requires.path c.requires.short c.requires.inode (rw
          pairs c.requires.absent) (rw pairs c.requires.parent)) c.requires.time) c.self.invariant.sound;
    }

pub returns-clause-ok : goal.returns-clause-ok
returns-clause-ok c =
    let made = on_ok_weaker c.put.result (λ h. h ∙ ap (λ (w : List ℕ). raise (parent_of w) c.args.time (put w c.args.inode c.self.inside.rows)) c.as_slice.ensures) c.put.ensures.ok in
    on_ok_weaker c.put.result (λ h. space_made c.args.self.now c.self.inside.rows c.put.new.self c.self.inside.calls
    (λ (xs : List Row). raise (parent_of c.args.path) c.args.time (put c.args.path c.args.inode xs)) c.self.view_is h) made

pub returns-clause-err : goal.returns-clause-err
returns-clause-err c =
    on_err_weaker c.put.result (λ h. rw h c.self.view_is) c.put.ensures.err
