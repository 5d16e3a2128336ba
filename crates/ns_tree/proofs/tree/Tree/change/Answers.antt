use Rattle.std.proofs.Common.{◌∙◌, sym, ap, subst, List, ℕ, IsSome}
use Rattle.ns_tree.specs.Space.{find}
use Rattle.ns_tree.specs.Places.{set_at}
use Rattle.ns_tree.specs.Branches.{rooted}
use Rattle.ns_tree.proofs.Below.{rows_from}
use Rattle.std.proofs.Common.{Option}
use Rattle.ns_tree.specs.declared.inode.Inode.{Inode}
use Rattle.ns_tree.proofs.Rooted.{find_rooted, change_rooted}
use Rattle.ns_tree.proofs.Treed.{path_rooted}
use Rattle.ns_tree.proofs.tree.Tree.change.Goals as goal

pub change-requires-clause-there : goal.change-requires-clause-there
change-requires-clause-there g c =
    let whole = path_rooted c.args.path.now c.requires.path in
    subst (λ (o : Option Inode). IsSome o) (ap (find c.args.path.now) (sym c.self.view_is) ∙ find_rooted c.args.path.now whole.0 whole.1 c.self.inside.root (rows_from c.self.inside.root
    c.self.invariant.branch) ∙ ap (λ (w : List ℕ). find w c.self.inside.root) (sym c.stem_of.ensures)) c.requires.there

pub returns : goal.returns
returns g c =
    let whole = path_rooted c.args.path.now c.requires.path in (
      c.change.ensures.0,
      c.change.ensures.1,
      ap (find c.args.path.now) (sym c.self.view_is) ∙ find_rooted c.args.path.now whole.0 whole.1 c.self.inside.root (rows_from c.self.inside.root
          c.self.invariant.branch) ∙ ap (λ (w : List ℕ). find w c.self.inside.root) (sym c.stem_of.ensures) ∙ c.change.ensures.2,
      c.change.ensures.3,
      ap rooted (c.change.ensures.4 ∙ ap (λ (w : List ℕ). set_at w c.change.ensures.1 c.self.inside.root) c.stem_of.ensures)
          ∙ sym (change_rooted c.args.path.now whole.0 whole.1 (λ _. c.change.ensures.1) c.self.inside.root (rows_from c.self.inside.root c.self.invariant.branch)) ∙ ap (set_at c.args.path.now
          c.change.ensures.1) c.self.view_is,
    )
