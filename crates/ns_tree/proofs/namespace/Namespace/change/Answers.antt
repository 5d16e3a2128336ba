use Rattle.std.proofs.Common.{◌≡◌, ◌∙◌, sym, ap, subst, refl, List, Some}
use Rattle.ns_tree.specs.declared.inode.Row.{Row}
use Rattle.ns_tree.specs.Space.{Space, find}
use Rattle.ns_tree.specs.Places.{IsTree}
use Rattle.ns_tree.specs.Space.{IsPair}
use Rattle.ns_tree.proofs.Sound.{found_pair, there_path, sound_set}
use Rattle.ns_tree.proofs.namespace.Namespace.change.Goals as goal

pub change-requires-clause-path : goal.change-requires-clause-path
change-requires-clause-path g c =
    let pairs : c.self.inside.rows ≡ c.args.self.now.pairs = ap (λ (s : Space). s.pairs) c.self.view_is in
    there_path (record { pairs = c.self.inside.rows; calls = c.self.inside.calls }) c.args.path.now c.self.invariant.sound (rw pairs c.requires.there)

pub change-requires-clause-there : goal.change-requires-clause-there
change-requires-clause-there g c =
    let pairs : c.self.inside.rows ≡ c.args.self.now.pairs = ap (λ (s : Space). s.pairs) c.self.view_is in
    rw pairs c.requires.there

pub invariant_of-self : goal.invariant_of-self
invariant_of-self g c =
    let pairs : c.self.inside.rows ≡ c.args.self.now.pairs = ap (λ (s : Space). s.pairs) c.self.view_is in
    let there : find c.args.path.now c.args.self.now.pairs ≡ Some c.change.ensures.0 = ap (λ (xs : List Row). find c.args.path.now xs) (sym pairs) ∙ c.change.ensures.2 in
    let good = found_pair (IsPair c.self.inside.rows) c.args.path.now c.self.inside.rows c.change.ensures.0 c.self.invariant.sound.pairs c.change.ensures.2 in
    record {
      sound = subst (λ (xs : List Row). IsTree (record { pairs = xs; calls = c.self.inside.calls })) (sym c.change.ensures.4)
          (sound_set (record { pairs = c.self.inside.rows; calls = c.self.inside.calls }) c.args.path.now c.change.ensures.1 c.change.ensures.0 c.self.invariant.sound
          (c.requires.inode c.change.ensures.0 c.change.ensures.1 there good.inode c.change.ensures.3) c.change.ensures.2 (c.requires.kind c.change.ensures.0 c.change.ensures.1 there
          c.change.ensures.3));
    }

pub returns : goal.returns
returns g c =
    let pairs : c.self.inside.rows ≡ c.args.self.now.pairs = ap (λ (s : Space). s.pairs) c.self.view_is in
    (c.change.ensures.0, c.change.ensures.1, ap (λ (xs : List Row). find c.args.path.now xs) (sym pairs) ∙ c.change.ensures.2, c.change.ensures.3, rw (c.change.ensures.4, ← c.self.view_is) refl)
