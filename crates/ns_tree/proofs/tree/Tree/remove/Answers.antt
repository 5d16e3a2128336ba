use Rattle.std.proofs.Common.{◌≡◌, ◌∙◌, sym, ap, subst, List, length, arith, IsSome}
use Rattle.ns_tree.specs.declared.inode.Row.{Row}
use Rattle.ns_tree.specs.Space.{find, without}
use Rattle.ns_tree.specs.Branches.{rooted}
use Rattle.ns_tree.proofs.Below.{rows_from}
use Rattle.std.proofs.Common.{Option}
use Rattle.ns_tree.specs.declared.inode.Inode.{Inode}
use Rattle.std.proofs.Common.{◌+◌}
use Rattle.ns_tree.proofs.Parents.{below_root}
use Rattle.ns_tree.proofs.Treed.{found_below, without_below_root, without_count}
use Rattle.ns_tree.proofs.tree.Tree.remove.Goals as goal

pub cut-gone-requires-clause-there : goal.cut-gone-requires-clause-there
cut-gone-requires-clause-there c =
    subst (λ (o : Option Inode). IsSome o) (ap (find c.args.path.now) (sym c.self.view_is) ∙ found_below c.args.path.now c.requires.path (below_root c.args.path.now c.requires.path
    c.requires.not_root) c.self.inside.root (rows_from c.self.inside.root c.self.invariant.branch)) c.requires.there

pub count-requires : goal.count-requires
count-requires c =
    let size : length c.cut-gone.new.self + length c.cut-gone.result.value ≡ length c.self.inside.root = ap (λ (xs : List Row). length xs + length c.cut-gone.result.value) c.cut-gone.ensures.rest
    ∙ without_count c.args.path.now c.cut-gone.result.value c.self.inside.root c.cut-gone.ensures.part in
    let same : length c.deref.result.now ≡ length c.cut-gone.result.value = ap (λ (xs : List Row). length xs) c.deref.ensures in
    omega (arith, size, same, c.self.invariant.most)

pub overflow_sub-self : goal.overflow_sub-self
overflow_sub-self c =
    let size : length c.cut-gone.new.self + length c.cut-gone.result.value ≡ length c.self.inside.root = ap (λ (xs : List Row). length xs + length c.cut-gone.result.value) c.cut-gone.ensures.rest
    ∙ without_count c.args.path.now c.cut-gone.result.value c.self.inside.root c.cut-gone.ensures.part in
    let same : length c.deref.result.now ≡ length c.cut-gone.result.value = ap (λ (xs : List Row). length xs) c.deref.ensures in
    omega (arith, size, same, c.count.ensures, c.self.invariant.count)

pub invariant_of-self : goal.invariant_of-self
invariant_of-self c =
    let size : length c.cut-gone.new.self + length c.cut-gone.result.value ≡ length c.self.inside.root = ap (λ (xs : List Row). length xs + length c.cut-gone.result.value) c.cut-gone.ensures.rest
    ∙ without_count c.args.path.now c.cut-gone.result.value c.self.inside.root c.cut-gone.ensures.part in
    let same : length c.deref.result.now ≡ length c.cut-gone.result.value = ap (λ (xs : List Row). length xs) c.deref.ensures in
    record {
      count = omega (arith, size, same, c.count.ensures, c.self.invariant.count);
      most = omega (arith, size, c.self.invariant.most);
      branch = c.show.ensures;
    }

pub returns : goal.returns
returns c =
    ap rooted c.cut-gone.ensures.rest ∙ sym (without_below_root c.args.path.now c.requires.path (below_root c.args.path.now c.requires.path c.requires.not_root) c.self.inside.root (rows_from
    c.self.inside.root c.self.invariant.branch))
    ∙ ap (without c.args.path.now) c.self.view_is
