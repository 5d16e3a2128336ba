use Rattle.std.proofs.Common.{◌≡◌, ◌<◌, ℕ, length, slice_index_or}
use Rattle.mesh.specs.Agree.{record_of}
use Rattle.mesh_judge.specs.declared.caller.Caller.{Caller}
use Rattle.mesh_judge.specs.Callers.{Knows}
use Rattle.mesh_judge.proofs.caller.callers_of.Given as goal

abbrev pub invariant-loop-record : goal.invariant-loop-record
invariant-loop-record l = (length l.callers.items ≡ l.record-index) × ((i : ℕ) (d : Caller) → i < l.record-index → Knows l.mesh.nodes (record_of l.mesh i) (slice_index_or l.callers.items i d))
