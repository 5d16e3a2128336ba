use Rattle.std.proofs.Common.{◌≤◌, sym, ap, subst, List, [], refl, length, arith}
use Rattle.ns_tree.specs.declared.inode.Row.{Row}
use Rattle.ns_tree.specs.Branches.{IsBranch, rooted}
use Rattle.ns_tree.proofs.tree.Tree.new.Goals as goal

pub invariant_of-result : goal.invariant_of-result
invariant_of-result c =
    record {
      count = ap (λ (xs : List Row). length xs) (sym c.new.ensures);
      most = subst (λ (xs : List Row). length xs ≤ 4294967295) (sym c.new.ensures) (omega arith);
      branch = subst IsBranch (sym c.new.ensures) (c.args.root, [], refl, tt);
    }

pub returns : goal.returns
returns c = ap rooted c.new.ensures
