use Rattle.std.proofs.Common.{◌≡◌, ◌∙◌, ap, List, ◌∷◌, refl, length, arith}
use Rattle.ns_tree.specs.declared.inode.Row.{Row}
use Rattle.ns_tree.specs.Path.{stem, parent_of}
use Rattle.ns_tree.specs.Space.{find, put, raise, raised}
use Rattle.ns_tree.specs.Branches.{rooted}
use Rattle.ns_tree.proofs.Below.{rows_from}
use Rattle.std.proofs.Common.{◌+◌, ◌++◌, drop}
use Rattle.ns_tree.specs.Space.{is_dir_there}
use Rattle.ns_tree.proofs.Parents.{below_root}
use Rattle.ns_tree.proofs.Puts.{not_root, put_fits, put_some, put_plain, put_there, put_absent, put_rows, put_count}
use Rattle.ns_tree.proofs.tree.Tree.put.Goals as goal

pub part_from-name-requires : goal.part_from-name-requires
part_from-name-requires c =
    put_fits c.args.path.now c.requires.path (below_root c.args.path.now c.requires.path (not_root c.args.path.now c.self.inside.root c.self.invariant.branch (ap (find c.args.path.now)
    c.self.view_is ∙ c.requires.absent))) c.self.inside.root (rows_from c.self.inside.root c.self.invariant.branch) c.stem_of-above.result.now
    (drop (length c.stem_of-above.result.now + 1) c.args.path.now) (c.stem_of-above.ensures ∙ ap stem c.parent.ensures) refl

pub put-requires-clause-some : goal.put-requires-clause-some
put-requires-clause-some c =
    put_some c.args.path.now c.requires.path (below_root c.args.path.now c.requires.path (not_root c.args.path.now c.self.inside.root c.self.invariant.branch (ap (find c.args.path.now)
    c.self.view_is ∙ c.requires.absent))) c.self.inside.root (rows_from c.self.inside.root c.self.invariant.branch) c.stem_of-above.result.now
    c.part_from-name.result.now (c.stem_of-above.ensures ∙ ap stem c.parent.ensures) c.part_from-name.ensures

pub put-requires-clause-plain : goal.put-requires-clause-plain
put-requires-clause-plain c =
    put_plain c.args.path.now c.requires.path (below_root c.args.path.now c.requires.path (not_root c.args.path.now c.self.inside.root c.self.invariant.branch (ap (find c.args.path.now)
    c.self.view_is ∙ c.requires.absent))) c.self.inside.root (rows_from c.self.inside.root c.self.invariant.branch) c.stem_of-above.result.now
    c.part_from-name.result.now (c.stem_of-above.ensures ∙ ap stem c.parent.ensures) c.part_from-name.ensures

pub put-requires-clause-there : goal.put-requires-clause-there
put-requires-clause-there c =
    put_there c.args.path.now c.requires.path (below_root c.args.path.now c.requires.path (not_root c.args.path.now c.self.inside.root c.self.invariant.branch (ap (find c.args.path.now)
    c.self.view_is ∙ c.requires.absent))) c.self.inside.root (rows_from c.self.inside.root c.self.invariant.branch) c.stem_of-above.result.now
    c.part_from-name.result.now (c.stem_of-above.ensures ∙ ap stem c.parent.ensures) c.part_from-name.ensures
    (ap (λ (xs : List Row). is_dir_there (find (parent_of c.args.path.now) xs)) c.self.view_is ∙ c.requires.parent)

pub put-requires-clause-absent : goal.put-requires-clause-absent
put-requires-clause-absent c =
    put_absent c.args.path.now c.requires.path (below_root c.args.path.now c.requires.path (not_root c.args.path.now c.self.inside.root c.self.invariant.branch (ap (find c.args.path.now)
    c.self.view_is ∙ c.requires.absent))) c.self.inside.root (rows_from c.self.inside.root c.self.invariant.branch) c.stem_of-above.result.now
    c.part_from-name.result.now (c.stem_of-above.ensures ∙ ap stem c.parent.ensures) c.part_from-name.ensures (ap (find c.args.path.now) c.self.view_is ∙ c.requires.absent)

pub invariant_of-self-2 : goal.invariant_of-self-2
invariant_of-self-2 c =
    let size = put_count c.args.path.now c.requires.path (below_root c.args.path.now c.requires.path (not_root c.args.path.now c.self.inside.root c.self.invariant.branch (ap (find
    c.args.path.now) c.self.view_is ∙ c.requires.absent))) c.self.inside.root (rows_from c.self.inside.root c.self.invariant.branch) c.stem_of-above.result.now
    c.part_from-name.result.now (c.stem_of-above.ensures ∙ ap stem c.parent.ensures) c.part_from-name.ensures (ap (find c.args.path.now) c.self.view_is ∙ c.requires.absent) (raised c.args.time)
    c.args.inode in
    let made : length c.put.new.self ≡ length (raise c.stem_of-above.result.now c.args.time (put (c.stem_of-above.result.now ++ 47 ∷ c.part_from-name.result.now) c.args.inode
    c.self.inside.root)) = ap (λ (xs : List Row). length xs) c.in_ok-put.ensures.ok in
    record {
      count = omega (arith, size, made, c.self.invariant.count);
      most = omega (arith, size, made, c.self.invariant.count, c.self.invariant.most, c.if-self-eq-MOST_ROWS.false);
      branch = c.show.ensures;
    }

pub returns-clause-ok : goal.returns-clause-ok
returns-clause-ok c =
    ap rooted c.in_ok-put.ensures.ok
    ∙ put_rows c.args.path.now c.requires.path (below_root c.args.path.now c.requires.path (not_root c.args.path.now c.self.inside.root c.self.invariant.branch (ap (find c.args.path.now)
    c.self.view_is ∙ c.requires.absent))) c.self.inside.root (rows_from c.self.inside.root c.self.invariant.branch) c.stem_of-above.result.now
    c.part_from-name.result.now (c.stem_of-above.ensures ∙ ap stem c.parent.ensures) c.part_from-name.ensures (raised c.args.time) c.args.inode
    ∙ ap (λ (xs : List Row). raise (parent_of c.args.path.now) c.args.time (put c.args.path.now c.args.inode xs)) c.self.view_is
