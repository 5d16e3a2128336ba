use Rattle.std.proofs.Common.{◌≡◌, sym, ap, subst, refl, List}
use Rattle.ns_tree.specs.declared.inode.Row.{Row}
use Rattle.ns_tree.specs.Space.{Space}
use Rattle.ns_tree.specs.Places.{IsTree}
use Rattle.ns_tree.proofs.Sound.{sound_there}
use Rattle.ns_tree.proofs.namespace.Namespace.set.Goals as goal

pub invariant_of-self : goal.invariant_of-self
invariant_of-self c =
    let pairs : c.self.inside.rows ≡ c.args.self.now.pairs = ap (λ (s : Space). s.pairs) c.self.view_is in
    record {
      sound = subst (λ (xs : List Row). IsTree (record { pairs = xs; calls = c.self.inside.calls })) (sym c.replace.ensures)
          (sound_there (record { pairs = c.self.inside.rows; calls = c.self.inside.calls }) c.args.path.now c.args.inode c.self.invariant.sound c.requires.inode (rw pairs c.requires.there) (rw
          pairs c.requires.kind));
    }

pub returns : goal.returns
returns c = rw (c.replace.ensures, ← c.self.view_is) refl
