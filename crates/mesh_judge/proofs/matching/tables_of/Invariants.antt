use Rattle.std.proofs.Common.{◌≡◌, ℕ, ◌<◌, length, slice_index_or}
use Rattle.mesh.specs.Agree.{record_of}
use Rattle.mesh_judge.specs.declared.matching.ReachTable.{ReachTable}
use Rattle.mesh_judge.specs.Matching.{KnowsPlaces}
use Rattle.mesh_judge.proofs.matching.tables_of.Given as goal

abbrev pub invariant-loop-record : goal.invariant-loop-record
invariant-loop-record l =
    (length l.tables.items ≡ l.record-index)
    × ((c : ℕ) (d : ReachTable) → c < l.record-index → (length (slice_index_or l.tables.items c d).by_node.items ≡ l.mesh.nodes) × KnowsPlaces (record_of l.mesh c) (slice_index_or l.tables.items c d))
