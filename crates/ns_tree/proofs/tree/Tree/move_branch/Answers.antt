use Rattle.std.proofs.Common.{◌≡◌, ◌∙◌, sym, ap, subst, List, length, arith, IsSome}
use Rattle.ns_tree.specs.declared.inode.Row.{Row}
use Rattle.ns_tree.specs.Space.{find, without, renamed}
use Rattle.ns_tree.specs.Branches.{rooted}
use Rattle.ns_tree.proofs.Below.{rows_from}
use Rattle.std.proofs.Common.{Option}
use Rattle.ns_tree.specs.declared.inode.Inode.{Inode}
use Rattle.std.proofs.Common.{◌+◌, map}
use Rattle.ns_tree.specs.Space.{put_at, subtree, has_under}
use Rattle.ns_tree.specs.Branches.{from_path}
use Rattle.ns_tree.proofs.Finds.{find_without}
use Rattle.ns_tree.proofs.Parents.{below_root}
use Rattle.ns_tree.proofs.Treed.{found_below, moved_all, moved_count}
use Rattle.ns_tree.proofs.tree.Tree.move_branch.Goals as goal

pub cut-branch-requires-clause-there : goal.cut-branch-requires-clause-there
cut-branch-requires-clause-there c =
    subst (λ (o : Option Inode). IsSome o) (ap (find c.args.src.now) (sym c.self.view_is) ∙ found_below c.args.src.now c.requires.src_path (below_root c.args.src.now c.requires.src_path
    c.requires.src_below) c.self.inside.root (rows_from c.self.inside.root c.self.invariant.branch)) c.requires.there

pub settle-old-requires-clause-there : goal.settle-old-requires-clause-there
settle-old-requires-clause-there c =
    subst (λ (o : Option Inode). IsSome o) (ap (find c.args.dst.now) (sym c.self.view_is) ∙ found_below c.args.dst.now c.requires.dst_path (below_root c.args.dst.now c.requires.dst_path
    c.requires.dst_below) c.self.inside.root (rows_from c.self.inside.root c.self.invariant.branch)
    ∙ sym (find_without c.args.src.now c.args.dst.now c.self.inside.root c.requires.apart) ∙ ap (find c.args.dst.now) (sym c.cut-branch.ensures.rest)) c.requires.room

pub count-requires : goal.count-requires
count-requires c =
    let size : length c.settle-old.new.self + length c.settle-old.result ≡ length c.self.inside.root = ap (λ (xs : List Row). length xs + length c.settle-old.result) (c.settle-old.ensures.placed
    ∙ ap (λ (xs : List Row). put_at c.args.dst.now (map (from_path c.args.dst.now) c.cut-branch.result.value) (without c.args.dst.now xs)) c.cut-branch.ensures.rest)
    ∙ moved_count c.args.src.now c.args.dst.now c.requires.src_path c.requires.dst_path (below_root c.args.src.now c.requires.src_path c.requires.src_below) (below_root c.args.dst.now
    c.requires.dst_path c.requires.dst_below) c.self.inside.root (rows_from c.self.inside.root c.self.invariant.branch)
    c.cut-branch.result.value c.settle-old.result c.cut-branch.ensures.part (ap (subtree c.args.dst.now) (sym c.cut-branch.ensures.rest) ∙ c.settle-old.ensures.part) in
    omega (arith, size, c.self.invariant.most)

pub overflow_sub-self : goal.overflow_sub-self
overflow_sub-self c =
    let size : length c.settle-old.new.self + length c.settle-old.result ≡ length c.self.inside.root = ap (λ (xs : List Row). length xs + length c.settle-old.result) (c.settle-old.ensures.placed
    ∙ ap (λ (xs : List Row). put_at c.args.dst.now (map (from_path c.args.dst.now) c.cut-branch.result.value) (without c.args.dst.now xs)) c.cut-branch.ensures.rest)
    ∙ moved_count c.args.src.now c.args.dst.now c.requires.src_path c.requires.dst_path (below_root c.args.src.now c.requires.src_path c.requires.src_below) (below_root c.args.dst.now
    c.requires.dst_path c.requires.dst_below) c.self.inside.root (rows_from c.self.inside.root c.self.invariant.branch)
    c.cut-branch.result.value c.settle-old.result c.cut-branch.ensures.part (ap (subtree c.args.dst.now) (sym c.cut-branch.ensures.rest) ∙ c.settle-old.ensures.part) in
    omega (arith, size, c.count.ensures, c.self.invariant.count)

pub invariant_of-self : goal.invariant_of-self
invariant_of-self c =
    let size : length c.settle-old.new.self + length c.settle-old.result ≡ length c.self.inside.root = ap (λ (xs : List Row). length xs + length c.settle-old.result) (c.settle-old.ensures.placed
    ∙ ap (λ (xs : List Row). put_at c.args.dst.now (map (from_path c.args.dst.now) c.cut-branch.result.value) (without c.args.dst.now xs)) c.cut-branch.ensures.rest)
    ∙ moved_count c.args.src.now c.args.dst.now c.requires.src_path c.requires.dst_path (below_root c.args.src.now c.requires.src_path c.requires.src_below) (below_root c.args.dst.now
    c.requires.dst_path c.requires.dst_below) c.self.inside.root (rows_from c.self.inside.root c.self.invariant.branch)
    c.cut-branch.result.value c.settle-old.result c.cut-branch.ensures.part (ap (subtree c.args.dst.now) (sym c.cut-branch.ensures.rest) ∙ c.settle-old.ensures.part) in
    record {
      count = omega (arith, size, c.count.ensures, c.self.invariant.count);
      most = omega (arith, size, c.self.invariant.most);
      branch = c.show.ensures;
    }

pub returns : goal.returns
returns c =
    ap rooted (c.settle-old.ensures.placed ∙ ap (λ (xs : List Row). put_at c.args.dst.now (map (from_path c.args.dst.now) c.cut-branch.result.value) (without c.args.dst.now xs))
    c.cut-branch.ensures.rest)
    ∙ moved_all c.args.src.now c.args.dst.now c.requires.src_path c.requires.dst_path (below_root c.args.src.now c.requires.src_path c.requires.src_below) (below_root c.args.dst.now
    c.requires.dst_path c.requires.dst_below) c.self.inside.root (rows_from c.self.inside.root c.self.invariant.branch)
    c.cut-branch.result.value c.settle-old.result c.cut-branch.ensures.part (ap (has_under c.args.dst.now) c.self.view_is ∙ c.requires.alone) ∙ ap (renamed c.args.src.now c.args.dst.now)
    c.self.view_is
