use Rattle.std.proofs.Common.{◌≡◌, ◌++◌, take, slice_index}
use Rattle.std.specs.List.{flat_map}
use Rattle.list_oev.specs.Counts.{tally_by}
use Rattle.list_oev.proofs.counts.put_tallies.Given as goal

abbrev pub invariant-loop-kind : goal.invariant-loop-kind
invariant-loop-kind l = l.out.items ≡ l.fn.out.items ++ flat_map (tally_by (λ code. slice_index l.counts code) l.with_call) (take l.kind-index l.kinds)
