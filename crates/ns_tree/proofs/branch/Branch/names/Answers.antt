use Rattle.std.proofs.Common.{◌∙◌}
use Rattle.ns_tree.proofs.Folds.{more_branches, left_names}
use Rattle.ns_tree.proofs.branch.Branch.names.Goals as goal

pub loop-name-preserved : goal.loop-name-preserved
loop-name-preserved c =
    record {
      names = left_names (λ k. k.items) (λ b. b.value) c.loop-name.name-iterator c.in-Some.name.now c.in-Some.field-0-1.now c.next.new.self c.in-Some.ensures.steps c.loop-name.names.items
          c.push.new.self.items _ c.in_ok-from_slice.field-0 c.loop-name.invariant.branches
          (c.in_ok-from_slice.ensures ∙ c.as_slice.ensures.value) c.in_ok-push.ensures.items c.loop-name.invariant.names;
      branches = more_branches (λ k. k.items) (λ b. b.value) c.loop-name.name-iterator c.in-Some.name.now c.in-Some.field-0-1.now c.next.new.self c.in-Some.ensures.steps
          c.loop-name.invariant.branches;
    }
