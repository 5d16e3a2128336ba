-- The serials of an epoch.
use Rattle.std.specs.Prelude.{ℕ, ◌≡◌, Bool, true, false, Some}
use Rattle.std.specs.List.{list_any}
use Rattle.writer_core.specs.declared.task.Task.{Task}
use Rattle.writer_core.specs.declared.task.Task.TheVariants as task
use Rattle.writer_core.specs.Whole.{Takeover, TaskProgress, writer_at}

abbrev pub is_takeover : Task → Bool
is_takeover task.Takeover = true
is_takeover _ = false

-- The serial of the round under way is the number of the round.
abbrev pub SerialsAreRounds : Type 0
SerialsAreRounds =
    (nodes : ℕ) (t : Takeover) (number : ℕ) (u : TaskProgress) → list_any is_takeover t.tasks ≡ false → writer_at nodes t number ≡ Some u
    → u.writer.serial ≡ number
