use Rattle.std.proofs.Common.{◌≡◌, ◌<◌, ◌≤◌, length, max}
use Rattle.ns_tree.specs.Space.{Each, longest_of}
use Rattle.ns_tree.specs.Branches.{grown, AreBranches}
use Rattle.ns_tree.proofs.branch.Branch.+longest.Given as goal

abbrev pub decreases-longest : goal.decreases-longest
decreases-longest l = goal.size-longest l

abbrev pub invariant-loop-name : goal.invariant-loop-name
invariant-loop-name l = record {
  longest : max l.longest (longest_of (grown (λ k. k.items) (λ b. b.value) l.name-iterator)) ≡ longest_of l.self;
  small : length (grown (λ k. k.items) (λ b. b.value) l.name-iterator) < length l.self;
  short : Each (λ x. length x.path ≤ 1000) (grown (λ k. k.items) (λ b. b.value) l.name-iterator);
  branches : AreBranches (λ k. k.items) (λ b. b.value) l.name-iterator;
}
