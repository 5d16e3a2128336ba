use Rattle.std.proofs.Common.{◌∙◌, sym, ap, subst, List, ℕ}
use Rattle.ns_tree.specs.Space.{find}
use Rattle.ns_tree.specs.Branches.{IsLed}
use Rattle.ns_tree.proofs.Below.{rows_from}
use Rattle.ns_tree.proofs.Rooted.{find_rooted, find_unled, led_stem}
use Rattle.ns_tree.proofs.Treed.{unled, rooted_path_of}
use Rattle.ns_tree.proofs.tree.Tree.find.Goals as goal

pub returns-then-is_relative : goal.returns-then-is_relative
returns-then-is_relative c =
    sym (ap (find c.args.path.now) (sym c.self.view_is) ∙ find_unled c.args.path.now c.self.inside.root (unled c.args.path.now (sym c.is_relative.ensures ∙ c.if-is_relative.true)) (rows_from
    c.self.inside.root c.self.invariant.branch))

pub find-requires : goal.find-requires
find-requires c = subst IsLed (sym c.stem_of.ensures) (led_stem c.args.path.now (rooted_path_of c.args.path.now (sym c.is_relative.ensures ∙ c.if-is_relative.false)).1)

pub returns : goal.returns
returns c =
    c.find.ensures ∙ ap (λ (w : List ℕ). find w c.self.inside.root) c.stem_of.ensures
    ∙ sym (find_rooted c.args.path.now (rooted_path_of c.args.path.now (sym c.is_relative.ensures ∙ c.if-is_relative.false)).0 (rooted_path_of c.args.path.now (sym c.is_relative.ensures ∙
    c.if-is_relative.false)).1 c.self.inside.root (rows_from c.self.inside.root c.self.invariant.branch)) ∙ ap (find c.args.path.now) c.self.view_is
