use Rattle.std.proofs.Common.{◌≡◌, ◌++◌, []}
use Rattle.ns_tree.specs.Space.{names_under}
use Rattle.ns_tree.specs.Branches.{grown, AreBranches}
use Rattle.ns_tree.proofs.branch.Branch.names.Given as goal

abbrev pub invariant-loop-name : goal.invariant-loop-name
invariant-loop-name l = record {
  names : l.names.items ++ names_under [] (grown (λ k. k.items) (λ b. b.value) l.name-iterator) ≡ names_under [] l.self;
  branches : AreBranches (λ k. k.items) (λ b. b.value) l.name-iterator;
}
