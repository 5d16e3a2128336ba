-- The size of a writer: as many slots as nodes, and a fetch of one of them.
use Rattle.std.specs.Prelude.{◌≡◌, ℕ, ◌≤◌, length}
use Rattle.writer_core.specs.declared.round.Round.TheVariants as round
use Rattle.writer_core.specs.declared.phase.Phase.{Phase}
use Rattle.writer_core.specs.declared.phase.Phase.TheVariants as phase
use Rattle.writer_core.specs.Views.{WriterView}

-- a fetch asks one of the nodes
abbrev pub FetchesWithin : ℕ → Phase → Type 0
FetchesWithin n (phase.InRound (round.Fetch node start end bodies)) = (1 ≤ node) × (node ≤ n)
FetchesWithin n _ = Unit {0}

-- a writer of that many nodes
pub record Sized (n : ℕ) (w : WriterView) : Type 0 where
  pub left : length w.left ≡ n
  pub slots : length w.slots ≡ n
  pub fetch : FetchesWithin n w.phase
