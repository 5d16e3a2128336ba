use Rattle.std.proofs.Common.{◌≡◌, ◌++◌, ◌∷◌, [], ◌∙◌, ap, arith, List, ℕ, length, map, append_assoc}
use Rattle.ns_tree.specs.declared.inode.Row.{Row}
use Rattle.ns_tree.specs.Branches.{from_path, rooted}
use Rattle.ns_tree.proofs.Folds.{left_count, path_back, walk_step}
use Rattle.ns_tree.proofs.branch.Branch.+walk.Goals as goal

pub loop-name-preserved : goal.loop-name-preserved
loop-name-preserved t c =
    let sizes = left_count (λ k. k.items) (λ b. b.value) c.loop-name.name-iterator c.in-Some.name.now c.in-Some.kid.now c.next.new.self c.in-Some.ensures.steps in
    let size : c.len-length.result ≡ length c.loop-name.path.items = omega (arith, c.len-length.ensures, c.loop-name.path.ok.0) in
    let name : c.as_slice-in-loop-name.result.now ≡ c.in-Some.name.now.items = c.as_slice-in-loop-name.ensures.value in
    let path : c.extend_from_slice.new.self.items ≡ c.args.path.now.items ++ 47 ∷ c.in-Some.name.now.items =
    c.in_ok-extend_from_slice.ensures.items ∙ ap (λ (w : List ℕ). c.push-in-loop-name.new.self.items ++ w) name
    ∙ ap (λ (w : List ℕ). w ++ c.in-Some.name.now.items) (c.in_ok-push-2.ensures.items ∙ ap (λ (w : List ℕ). w ++ 47 ∷ []) c.loop-name.invariant.path)
    ∙ append_assoc c.args.path.now.items (47 ∷ []) c.in-Some.name.now.items in
    record {
      path = path_back c.loop-name.path.items c.push-in-loop-name.new.self.items c.as_slice-in-loop-name.result.now c.extend_from_slice.new.self.items c.walk.new.path.items
          c.truncate.new.self.items c.len-length.result
          c.in_ok-push-2.ensures.items c.in_ok-extend_from_slice.ensures.items c.in_ok-walk.ensures.path c.truncate.ensures.items size ∙ c.loop-name.invariant.path;
      small = omega (arith, sizes, c.loop-name.invariant.small);
      rows = walk_step (λ k. k.items) (λ b. b.value) c.loop-name.name-iterator c.in-Some.name.now c.in-Some.kid.now c.next.new.self c.in-Some.ensures.steps c.args.path.now.items
          c.extend_from_slice.new.self.items c.loop-name.rows.items c.walk.new.rows.items _ path
          (c.in_ok-walk.ensures.rows ∙ ap (λ (xs : List Row). c.loop-name.rows.items ++ rooted (map (from_path c.extend_from_slice.new.self.items) xs)) c.deref.ensures)
          c.loop-name.invariant.rows;
    }
