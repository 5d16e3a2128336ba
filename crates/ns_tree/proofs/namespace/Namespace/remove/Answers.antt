use Rattle.std.proofs.Common.{◌≡◌, sym, ap, subst, refl, List}
use Rattle.ns_tree.specs.declared.inode.Row.{Row}
use Rattle.ns_tree.specs.Space.{Space}
use Rattle.ns_tree.specs.Places.{IsTree}
use Rattle.ns_tree.proofs.Sound.{sound_without, there_path}
use Rattle.ns_tree.proofs.namespace.Namespace.remove.Goals as goal

pub remove-requires-clause-path : goal.remove-requires-clause-path
remove-requires-clause-path c =
    let pairs : c.self.inside.rows ≡ c.args.self.now.pairs = ap (λ (s : Space). s.pairs) c.self.view_is in
    there_path (record { pairs = c.self.inside.rows; calls = c.self.inside.calls }) c.args.path.now c.self.invariant.sound (rw pairs c.requires.there)

pub remove-requires-clause-there : goal.remove-requires-clause-there
remove-requires-clause-there c =
    let pairs : c.self.inside.rows ≡ c.args.self.now.pairs = ap (λ (s : Space). s.pairs) c.self.view_is in
    rw pairs c.requires.there

pub invariant_of-self : goal.invariant_of-self
invariant_of-self c =
    let pairs : c.self.inside.rows ≡ c.args.self.now.pairs = ap (λ (s : Space). s.pairs) c.self.view_is in
    record {
      sound = subst (λ (xs : List Row). IsTree (record { pairs = xs; calls = c.self.inside.calls })) (sym c.remove.ensures)
          (sound_without (record { pairs = c.self.inside.rows; calls = c.self.inside.calls }) c.args.path.now c.self.invariant.sound (there_path (record {
            pairs = c.self.inside.rows;
            calls =
                c.self.inside.calls;
          }) c.args.path.now c.self.invariant.sound (rw pairs c.requires.there)) c.requires.not_root);
    }

pub returns : goal.returns
returns c = rw (c.remove.ensures, ← c.self.view_is) refl
