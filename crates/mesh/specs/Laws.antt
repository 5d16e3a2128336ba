-- What holds of every mesh that agrees.
use Rattle.std.specs.Prelude.{◌≡◌, ℕ, ◌+◌, ◌<◌, List}
use Rattle.journal_history.specs.Moving.{Placed, moving_of}
use Rattle.run_safety.specs.Run.{IsRun}
use Rattle.run_safety.specs.Safe.{IsSafe}
use Rattle.mesh.specs.declared.whole.Mesh.{Mesh}
use Rattle.mesh.specs.Agree.{Agrees}
use Rattle.mesh.specs.Owners.{HasOwners}
use Rattle.mesh.specs.Order.{epoch_order, entries_at, placed_at}
use Rattle.mesh.specs.Traces.{IsTrace}

abbrev pub OneOwner : Type 0
OneOwner = (m : Mesh) → Agrees m → HasOwners m

-- the epoch order has at each node just its moving entries, in their order
abbrev pub OrderAtNodes : Type 0
OrderAtNodes = (m : Mesh) → (i : ℕ) → Agrees m → i < m.nodes → entries_at (i + 1) (epoch_order m) ≡ moving_of (placed_at m i)

-- and as a whole it is a run, also where no single order of all lines fits all lists
abbrev pub OrderIsRun : Type 0
OrderIsRun = (m : Mesh) → Agrees m → IsRun m.nodes (epoch_order m)

-- so that it is safe, as every run is
abbrev pub OrderIsSafe : Type 0
OrderIsSafe = (m : Mesh) → Agrees m → IsSafe m.nodes (epoch_order m)

-- where one order of all lines does fit all lists, its moving entries are a run too
abbrev pub TraceIsRun : Type 0
TraceIsRun = (m : Mesh) → (t : List Placed) → Agrees m → IsTrace m t → IsRun m.nodes (moving_of t)
