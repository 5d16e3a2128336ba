use Rattle.std.proofs.Common.{◌≡◌, ap, List}
use Rattle.ns_tree.specs.declared.inode.Row.{Row}
use Rattle.ns_tree.specs.Space.{Space, renamed}
use Rattle.ns_tree.specs.Places.{IsTree}
use Rattle.std.proofs.lemmas.Result.{on_ok_weaker, on_err_weaker}
use Rattle.ns_tree.proofs.Parents.{below_root}
use Rattle.ns_tree.proofs.Ancestors.{emptied}
use Rattle.ns_tree.proofs.RenameKeeps.{sound_renamed}
use Rattle.ns_tree.proofs.Sound.{there_path, kept_result, space_made}
use Rattle.ns_tree.proofs.namespace.Namespace.rename.Goals as goal

pub rename-requires-clause-src_path : goal.rename-requires-clause-src_path
rename-requires-clause-src_path c =
    let pairs : c.self.inside.rows ≡ c.args.self.now.pairs = ap (λ (s : Space). s.pairs) c.self.view_is in
    there_path (record { pairs = c.self.inside.rows; calls = c.self.inside.calls }) c.args.src.now c.self.invariant.sound (rw pairs c.requires.there)

pub rename-requires-clause-there : goal.rename-requires-clause-there
rename-requires-clause-there c =
    let pairs : c.self.inside.rows ≡ c.args.self.now.pairs = ap (λ (s : Space). s.pairs) c.self.view_is in
    rw pairs c.requires.there

pub rename-requires-clause-parent : goal.rename-requires-clause-parent
rename-requires-clause-parent c =
    let pairs : c.self.inside.rows ≡ c.args.self.now.pairs = ap (λ (s : Space). s.pairs) c.self.view_is in
    rw pairs c.requires.parent

pub rename-requires-clause-alone : goal.rename-requires-clause-alone
rename-requires-clause-alone c =
    let pairs : c.self.inside.rows ≡ c.args.self.now.pairs = ap (λ (s : Space). s.pairs) c.self.view_is in
    emptied (record { pairs = c.self.inside.rows; calls = c.self.inside.calls }) c.args.dst.now c.self.invariant.sound (below_root c.args.dst.now c.requires.path c.requires.dst_below) (rw pairs
    c.requires.empty)

pub rename-requires-clause-order : goal.rename-requires-clause-order
rename-requires-clause-order c = c.self.invariant.sound.ordered

pub invariant_of-self : goal.invariant_of-self
invariant_of-self c =
    let pairs : c.self.inside.rows ≡ c.args.self.now.pairs = ap (λ (s : Space). s.pairs) c.self.view_is in
    record {
      sound = kept_result (λ (xs : List Row). IsTree (record { pairs = xs; calls = c.self.inside.calls })) c.rename.result c.rename.new.self c.self.inside.rows (renamed c.args.src.now
          c.args.dst.now c.self.inside.rows) c.rename.ensures.ok c.rename.ensures.err
          (sound_renamed (record { pairs = c.self.inside.rows; calls = c.self.inside.calls }) c.args.src.now c.args.dst.now c.self.invariant.sound
          (below_root c.args.src.now (there_path (record { pairs = c.self.inside.rows; calls = c.self.inside.calls }) c.args.src.now c.self.invariant.sound (rw pairs c.requires.there))
          c.requires.src_below) (below_root c.args.dst.now c.requires.path c.requires.dst_below)
          c.requires.path c.requires.apart (rw pairs c.requires.parent) (emptied (record { pairs = c.self.inside.rows; calls = c.self.inside.calls }) c.args.dst.now c.self.invariant.sound
          (below_root c.args.dst.now c.requires.path c.requires.dst_below) (rw pairs c.requires.empty)) (rw pairs c.requires.short)) c.self.invariant.sound;
    }

pub returns-clause-ok : goal.returns-clause-ok
returns-clause-ok c =
    on_ok_weaker c.rename.result (λ h. space_made c.args.self.now c.self.inside.rows c.rename.new.self c.self.inside.calls (renamed c.args.src.now c.args.dst.now) c.self.view_is h)
    c.rename.ensures.ok

pub returns-clause-err : goal.returns-clause-err
returns-clause-err c =
    on_err_weaker c.rename.result (λ h. rw h c.self.view_is) c.rename.ensures.err
