-- What the calls of a task come to.
use Rattle.std.specs.Prelude.{◌≡◌, ℕ, List, Option, Some, None}
use Rattle.writer_core.specs.declared.task.Task.{Task}
use Rattle.writer_core.specs.declared.task.Begun.{Begun}
use Rattle.writer_core.specs.declared.task.Begun.TheVariants as begun
use Rattle.writer_core.specs.declared.turn.Turn.{Turn}
use Rattle.writer_core.specs.declared.turn.Turn.TheVariants as turn
use Rattle.writer_core.specs.declared.turn.Outcome.TheVariants as outcome
use Rattle.writer_core.specs.Views.{WriterView}
use Rattle.play_names.specs.Results.{inactive_results, too_long_results}

-- the results of a task that did not begin
abbrev pub refused_results : Task → Begun → Option (List (List ℕ))
refused_results t begun.Going = None
refused_results t begun.NotActive = Some (inactive_results t)
refused_results t (begun.TooLong number) = Some (too_long_results t number)

-- a takeover that was done tells the writer's epoch and segment
abbrev pub TellsTaken : Turn → WriterView → Type 0
TellsTaken (turn.Done (outcome.Takeover epoch first)) w = (epoch ≡ w.epoch) × (first ≡ w.start)
TellsTaken _ w = Unit {0}
