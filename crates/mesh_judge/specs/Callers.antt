-- What is known of callers by their records.
use Rattle.std.specs.Prelude.{◌≡◌, ℕ, ◌+◌, ◌<◌, List, [], length, slice_index_or}
use Rattle.std.specs.BTreeSet.{contains}
use Rattle.std.specs.Ordering.{nat_cmp}
use Rattle.journal_history.specs.declared.record.Record.{Record}
use Rattle.mesh.specs.declared.whole.Mesh.{Mesh}
use Rattle.mesh.specs.Agree.{record_of}
use Rattle.mesh.specs.Owners.{wins}
use Rattle.mesh_judge.specs.declared.caller.Caller.{Caller}
use Rattle.mesh_judge.specs.Reaches.{places}

-- the epochs that the caller of a record owns, and the places of its lines that reached each node
pub record Knows (nodes : ℕ) (rs : List Record) (c : Caller) : Type 0 where
  pub owned : (epoch : ℕ) → contains nat_cmp c.won epoch ≡ wins nodes epoch 0 rs
  pub nodes_known : length c.reached.items ≡ nodes
  pub reaching : (i : ℕ) → i < nodes → slice_index_or c.reached.items i [] ≡ places (i + 1) 1 rs

-- that of each caller of a mesh
pub record KnowsAll (m : Mesh) (cs : List Caller) : Type 0 where
  pub all_known : length cs ≡ length m.records
  pub each : (i : ℕ) (d : Caller) → i < length m.records → Knows m.nodes (record_of m i) (slice_index_or cs i d)
