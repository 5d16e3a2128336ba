use Rattle.std.proofs.Common.{◌≡◌, ◌+◌, ◌<◌, length}
use Rattle.ns_tree.specs.Branches.{grown}
use Rattle.ns_tree.proofs.branch.Branch.+count.Given as goal

abbrev pub decreases-count : goal.decreases-count
decreases-count l = goal.size-count l

abbrev pub invariant-loop-kid : goal.invariant-loop-kid
invariant-loop-kid l = record {
  counted : l.count + length (grown (λ k. k.items) (λ b. b.value) l.kid-iterator) ≡ length l.self;
  small : length (grown (λ k. k.items) (λ b. b.value) l.kid-iterator) < length l.self;
}
