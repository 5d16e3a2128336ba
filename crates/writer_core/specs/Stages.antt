-- A writer's phase, of its stage and the bodies that it holds.
use Rattle.std.specs.Prelude.{ℕ, List}
use Rattle.writer_core.specs.declared.round.Round.{Round}
use Rattle.writer_core.specs.declared.round.Round.TheVariants as round
use Rattle.writer_core.specs.declared.phase.Phase.{Phase}
use Rattle.writer_core.specs.declared.phase.Phase.TheVariants as phase
use Rattle.writer_core.specs.declared.stage.Stage.{Stage}
use Rattle.writer_core.specs.declared.stage.Stage.TheVariants as stage
use Rattle.writer_core.specs.declared.stage.RoundKind.{RoundKind}
use Rattle.writer_core.specs.declared.stage.RoundKind.TheVariants as kind
use Rattle.writer_core.specs.Rounds.{batch_from, end_record}

abbrev pub round_of : RoundKind → List (List ℕ) → Round
round_of kind.State bodies = round.State
round_of kind.Propose bodies = round.Propose
round_of (kind.Prepare start) bodies = round.Prepare start
round_of (kind.Fetch node start end) bodies = round.Fetch node start end bodies
round_of (kind.Accept start) bodies = round.Accept (batch_from start bodies)
round_of (kind.Finalize start end) bodies = round.Finalize start end
round_of kind.Start bodies = round.Start
round_of kind.Open bodies = round.Open
round_of kind.Write bodies = round.Write bodies
round_of kind.End bodies = round.Write end_record
round_of (kind.Purge min) bodies = round.Purge min

abbrev pub phase_of : Stage → List (List ℕ) → Phase
phase_of stage.Idle bodies = phase.Idle
phase_of stage.Writing bodies = phase.Writing
phase_of stage.Stopped bodies = phase.Stopped
phase_of (stage.Round kind) bodies = phase.InRound (round_of kind bodies)
