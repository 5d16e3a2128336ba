use Rattle.std.proofs.Common.{◌≡◌, ◌<◌, ◌≤◌, ◌∙◌, ap, sym, subst, arith, List, length}
use Rattle.ns_tree.specs.declared.inode.Row.{Row}
use Rattle.ns_tree.specs.Space.{Each, longest_of}
use Rattle.ns_tree.proofs.Folds.{more_branches, left_count, left_short, left_fits, longest_step}
use Rattle.ns_tree.proofs.branch.Branch.+longest.Goals as goal

pub longest-requires : goal.longest-requires
longest-requires t c =
    let smaller : length c.deref.result.now < length c.args.self.now = (let sizes = left_count (λ k. k.items) (λ b. b.value) c.loop-name.name-iterator c.in-Some.name.now c.in-Some.kid.now
    c.next.new.self c.in-Some.ensures.steps in let same : length c.deref.result.now ≡ length c.in-Some.kid.now.value = ap (λ (xs : List Row). length xs) c.deref.ensures in
    omega (arith, sizes, same, c.loop-name.invariant.small)) in (
      omega (arith, smaller, c.decreases),
      subst (λ (xs : List Row). Each (λ x. length x.path ≤ 1000) xs) (sym c.deref.ensures) (left_short (λ k. k.items) (λ b. b.value) c.loop-name.name-iterator
          c.in-Some.name.now c.in-Some.kid.now c.next.new.self c.in-Some.ensures.steps 1000 c.loop-name.invariant.short).0,
    )

pub overflow_add-len-in-loop-name : goal.overflow_add-len-in-loop-name
overflow_add-len-in-loop-name t c =
    let fits = left_fits (λ k. k.items) (λ b. b.value) c.loop-name.name-iterator c.in-Some.name.now c.in-Some.kid.now c.next.new.self c.in-Some.ensures.steps 1000 c.loop-name.invariant.branches
    c.loop-name.invariant.short in
    let longest : c.longest.result ≡ longest_of c.in-Some.kid.now.value = c.longest.ensures ∙ ap longest_of c.deref.ensures in
    omega (arith, fits, longest, c.len.ensures)

pub loop-name-preserved : goal.loop-name-preserved
loop-name-preserved t c =
    let sizes = left_count (λ k. k.items) (λ b. b.value) c.loop-name.name-iterator c.in-Some.name.now c.in-Some.kid.now c.next.new.self c.in-Some.ensures.steps in
    let size : c.len.result ≡ length c.in-Some.name.now.items = omega (arith, c.len.ensures, c.in-Some.name.now.ok.0) in
    record {
      longest = longest_step (λ k. k.items) (λ b. b.value) c.loop-name.name-iterator c.in-Some.name.now c.in-Some.kid.now c.next.new.self c.in-Some.ensures.steps c.loop-name.longest c.len.result
          c.longest.result c.max-longest.result _ c.loop-name.invariant.branches
          size (c.longest.ensures ∙ ap longest_of c.deref.ensures) c.max-longest.ensures c.loop-name.invariant.longest;
      small = omega (arith, sizes, c.loop-name.invariant.small);
      short = (left_short (λ k. k.items) (λ b. b.value) c.loop-name.name-iterator c.in-Some.name.now c.in-Some.kid.now c.next.new.self c.in-Some.ensures.steps 1000 c.loop-name.invariant.short).1;
      branches = more_branches (λ k. k.items) (λ b. b.value) c.loop-name.name-iterator c.in-Some.name.now c.in-Some.kid.now c.next.new.self c.in-Some.ensures.steps c.loop-name.invariant.branches;
    }
