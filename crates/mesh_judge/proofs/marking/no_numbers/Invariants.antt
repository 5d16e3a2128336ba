use Rattle.std.proofs.Common.{◌≡◌, ℕ, ◌<◌, false, length, slice_index_or}
use Rattle.std.specs.BTreeSet.{contains}
use Rattle.std.specs.Ordering.{nat_cmp}
use Rattle.mesh_judge.specs.declared.marking.Numbers.{Numbers}
use Rattle.mesh_judge.proofs.marking.no_numbers.Given as goal

abbrev pub invariant-loop : goal.invariant-loop
invariant-loop l = (length l.lists.items ≡ l.counter) × ((i q : ℕ) (d : Numbers) → i < l.counter → contains nat_cmp (slice_index_or l.lists.items i d).set q ≡ false)
