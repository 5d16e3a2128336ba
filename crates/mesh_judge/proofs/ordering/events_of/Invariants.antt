use Rattle.std.proofs.Common.{◌≡◌, map}
use Rattle.mesh_judge.proofs.ordering.events_of.Given as goal

abbrev pub invariant-loop-entry : goal.invariant-loop-entry
invariant-loop-entry l = l.events.items ≡ map (λ r. r.event) l.yielded
