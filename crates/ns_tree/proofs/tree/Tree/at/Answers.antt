use Rattle.std.proofs.Common.{◌≡◌, ◌∙◌, sym, ap, subst, List, ℕ}
use Rattle.ns_tree.specs.Space.{find}
use Rattle.ns_tree.specs.Branches.{rooted}
use Rattle.ns_tree.proofs.Below.{rows_from}
use Rattle.std.proofs.lemmas.Option.{IfSome_then}
use Rattle.std.proofs.Common.{map}
use Rattle.ns_tree.specs.Space.{subtree}
use Rattle.ns_tree.specs.Branches.{IsFrom, from_path}
use Rattle.ns_tree.proofs.Levels.{none_then}
use Rattle.ns_tree.proofs.Rooted.{find_rooted, find_unled, sub_rooted}
use Rattle.ns_tree.proofs.Treed.{unled, rooted_path_of}
use Rattle.ns_tree.proofs.tree.Tree.at.Goals as goal

pub returns-then-is_relative-clause-none : goal.returns-then-is_relative-clause-none
returns-then-is_relative-clause-none c =
    ap (find c.args.path.now) (sym c.self.view_is) ∙ find_unled c.args.path.now c.self.inside.root (unled c.args.path.now (sym c.is_relative.ensures ∙ c.if-is_relative.true)) (rows_from
    c.self.inside.root c.self.invariant.branch)

pub returns-clause-some : goal.returns-clause-some
returns-clause-some c =
    let whole = (rooted_path_of c.args.path.now (sym c.is_relative.ensures ∙ c.if-is_relative.false)) in
    IfSome_then c.at.result c.at.ensures.some (λ x h. (
      whole.0,
      subst IsFrom c.stem_of.ensures h.0,
      ap (subtree c.args.path.now) (sym c.self.view_is) ∙ sub_rooted c.args.path.now whole.0 whole.1 c.self.inside.root (rows_from c.self.inside.root c.self.invariant.branch)
          ∙ ap rooted (subst (λ (w : List ℕ). subtree w c.self.inside.root ≡ map (from_path w) x.now) c.stem_of.ensures h.1),
    ))

pub returns-clause-none : goal.returns-clause-none
returns-clause-none c =
    let whole = (rooted_path_of c.args.path.now (sym c.is_relative.ensures ∙ c.if-is_relative.false)) in
    none_then c.at.result (λ h. ap (find c.args.path.now) (sym c.self.view_is) ∙ find_rooted c.args.path.now whole.0 whole.1 c.self.inside.root (rows_from c.self.inside.root
    c.self.invariant.branch)
    ∙ ap (λ (w : List ℕ). find w c.self.inside.root) (sym c.stem_of.ensures) ∙ h) c.at.ensures.none
