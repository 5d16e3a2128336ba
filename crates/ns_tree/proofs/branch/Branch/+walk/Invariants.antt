use Rattle.std.proofs.Common.{◌≡◌, ◌++◌, ◌<◌, length, map}
use Rattle.ns_tree.specs.Branches.{grown, from_path, rooted}
use Rattle.ns_tree.proofs.branch.Branch.+walk.Given as goal

abbrev pub decreases-walk : goal.decreases-walk
decreases-walk l = goal.size-walk l

abbrev pub invariant-loop-name : goal.invariant-loop-name
invariant-loop-name l = record {
  path : l.path.items ≡ l.fn.path.items;
  small : length (grown (λ k. k.items) (λ b. b.value) l.name-iterator) < length l.self;
  rows : l.rows.items ++ rooted (map (from_path l.fn.path.items) (grown (λ k. k.items) (λ b. b.value) l.name-iterator)) ≡ l.fn.rows.items ++ rooted (map (from_path l.fn.path.items) l.self);
}
