-- What is known of a caller's epochs in the middle of its record.
use Rattle.std.specs.Prelude.{ℕ, ◌==◌, ◌||◌, Bool, List, if◌then◌else◌}
use Rattle.std.specs.BTreeSet.{contains}
use Rattle.std.specs.Ordering.{nat_cmp}
use Rattle.journal_history.specs.declared.record.Record.{Record}
use Rattle.mesh.specs.Owners.{wins}
use Rattle.mesh_judge.specs.declared.won.Tally.{Tally}

-- the promises that count for this epoch so far
abbrev pub promises_to : Tally → ℕ → ℕ
promises_to t epoch = if t.epoch == epoch then t.promises else 0

-- the epoch was won, or is won by what follows
abbrev pub wins_on : ℕ → Tally → ℕ → List Record → Bool
wins_on nodes t epoch rest = contains nat_cmp t.won epoch || wins nodes epoch (promises_to t epoch) rest
