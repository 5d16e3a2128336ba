use Rattle.std.proofs.Common.{◌≡◌, ◌∙◌, sym, ap, subst, List, ℕ, length, arith}
use Rattle.ns_tree.specs.declared.inode.Row.{Row}
use Rattle.ns_tree.specs.Path.{stem}
use Rattle.ns_tree.specs.Places.{set_at}
use Rattle.ns_tree.specs.Branches.{IsLed, rooted}
use Rattle.ns_tree.proofs.Below.{rows_from}
use Rattle.ns_tree.proofs.Rooted.{change_rooted, change_unled, led_stem}
use Rattle.ns_tree.proofs.Treed.{unled, rooted_path_of, change_count}
use Rattle.ns_tree.proofs.tree.Tree.replace.Goals as goal

pub returns-then-is_relative : goal.returns-then-is_relative
returns-then-is_relative c =
    sym (ap (λ (xs : List Row). set_at c.args.path.now c.args.inode xs) (sym c.self.view_is) ∙ change_unled c.args.path.now (λ _. c.args.inode) c.self.inside.root (unled c.args.path.now (sym
    c.is_relative.ensures ∙ c.if-is_relative.true)) (rows_from c.self.inside.root c.self.invariant.branch) ∙ c.self.view_is)

pub replace-requires : goal.replace-requires
replace-requires c = subst IsLed (sym c.stem_of.ensures) (led_stem c.args.path.now (rooted_path_of c.args.path.now (sym c.is_relative.ensures ∙ c.if-is_relative.false)).1)

pub invariant_of-self : goal.invariant_of-self
invariant_of-self c =
    let made : c.replace.new.self ≡ set_at (stem c.args.path.now) c.args.inode c.self.inside.root = c.replace.ensures ∙ ap (λ (w : List ℕ). set_at w c.args.inode c.self.inside.root)
    c.stem_of.ensures in
    let size : length c.replace.new.self ≡ length c.self.inside.root = ap (λ (xs : List Row). length xs) made ∙ change_count (stem c.args.path.now) (λ _. c.args.inode) c.self.inside.root in
    record { count = c.self.invariant.count ∙ sym size; most = omega (arith, size, c.self.invariant.most); branch = c.show.ensures }

pub returns : goal.returns
returns c =
    ap rooted (c.replace.ensures ∙ ap (λ (w : List ℕ). set_at w c.args.inode c.self.inside.root) c.stem_of.ensures)
    ∙ sym (change_rooted c.args.path.now (rooted_path_of c.args.path.now (sym c.is_relative.ensures ∙ c.if-is_relative.false)).0 (rooted_path_of c.args.path.now (sym c.is_relative.ensures ∙
    c.if-is_relative.false)).1 (λ _. c.args.inode) c.self.inside.root (rows_from c.self.inside.root c.self.invariant.branch)) ∙ ap (λ (xs : List Row). set_at c.args.path.now c.args.inode xs)
    c.self.view_is
