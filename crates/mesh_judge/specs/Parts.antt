-- The parts of agreement, node by node and caller by caller.
use Rattle.std.specs.Prelude.{◌≡◌, ℕ, ◌+◌, ◌<◌, ◌≤◌, [], length}
use Rattle.journal_history.specs.Cell.{fresh_cell, IsLocalRun}
use Rattle.mesh.specs.declared.whole.Mesh.{Mesh}
use Rattle.mesh.specs.Agree.{operator_of, history_at, record_of, plan_of}
use Rattle.mesh.specs.Marks.{IsMarked, AreCopied}
use Rattle.mesh.specs.Makers.{IsOfChores}
use Rattle.mesh.specs.Matches.{AreWithin, CallersWithin}
use Rattle.mesh_judge.specs.Matching.{AreSameAt}

-- a history for each node, and a record for each actor and the operator
pub record IsSized (m : Mesh) : Type 0 where
  pub histories : length m.histories ≡ m.nodes
  pub records : length m.records ≡ operator_of m + 1

abbrev pub RecordsWithin : Mesh → Type 0
RecordsWithin m = (c : ℕ) → c ≤ operator_of m → AreWithin m.nodes (record_of m c)

abbrev pub HistoriesWithin : Mesh → Type 0
HistoriesWithin m = (i : ℕ) → i < m.nodes → CallersWithin (operator_of m) (history_at m i)

abbrev pub AreLocal : Mesh → Type 0
AreLocal m = (i : ℕ) → i < m.nodes → IsLocalRun fresh_cell (history_at m i)

abbrev pub AllSame : Mesh → Type 0
AllSame m = (i : ℕ) → i < m.nodes → AreSameAt m i

abbrev pub GoesByPlan : Mesh → ℕ → Type 0
GoesByPlan m c = IsMarked (plan_of m c) [] (record_of m c) × AreCopied (plan_of m c) (record_of m c)

abbrev pub AllGoByPlan : Mesh → Type 0
AllGoByPlan m = (c : ℕ) → c < operator_of m → GoesByPlan m c

abbrev pub AllMade : Mesh → Type 0
AllMade m = (c : ℕ) → c < operator_of m → IsOfChores m.nodes (record_of m c)
