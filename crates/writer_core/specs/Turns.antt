-- The rounds of a task, and how it ends.
use Rattle.std.specs.Prelude.{◌≡◌}
use Rattle.writer_core.specs.declared.round.Round.{Round}
use Rattle.writer_core.specs.declared.round.Round.TheVariants as round
use Rattle.writer_core.specs.declared.phase.Phase.{Phase}
use Rattle.writer_core.specs.declared.phase.Phase.TheVariants as phase
use Rattle.writer_core.specs.declared.phase.Aim.{Aim}
use Rattle.writer_core.specs.declared.phase.Aim.TheVariants as aim
use Rattle.writer_core.specs.declared.task.Task.{Task}
use Rattle.writer_core.specs.declared.task.Task.TheVariants as task
use Rattle.writer_core.specs.declared.turn.Turn.{Turn}
use Rattle.writer_core.specs.declared.turn.Turn.TheVariants as turn
use Rattle.writer_core.specs.declared.turn.Outcome.{Outcome}
use Rattle.writer_core.specs.declared.turn.Outcome.TheVariants as outcome
use Rattle.writer_core.specs.Views.{WriterView}

-- what a task is for
abbrev pub aim_of : Task → Aim
aim_of task.Takeover = aim.Takeover
aim_of (task.Log bodies) = aim.Log
aim_of task.Roll = aim.Roll
aim_of task.Close = aim.Close
aim_of (task.Purge min) = aim.Purge

-- the rounds of each
abbrev pub Suits : Aim → Round → Type 0
Suits aim.Takeover round.State = Unit {0}
Suits aim.Takeover round.Propose = Unit {0}
Suits aim.Takeover (round.Prepare start) = Unit {0}
Suits aim.Takeover (round.Fetch node start end bodies) = Unit {0}
Suits aim.Takeover (round.Accept batch) = Unit {0}
Suits aim.Takeover (round.Finalize start end) = Unit {0}
Suits aim.Takeover round.Start = Unit {0}
Suits aim.Takeover round.Open = Unit {0}
Suits aim.Log (round.Write bodies) = Unit {0}
Suits aim.Roll (round.Write bodies) = Unit {0}
Suits aim.Roll (round.Finalize start end) = Unit {0}
Suits aim.Roll round.Start = Unit {0}
Suits aim.Roll round.Open = Unit {0}
Suits aim.Close (round.Write bodies) = Unit {0}
Suits aim.Close (round.Finalize start end) = Unit {0}
Suits aim.Purge (round.Purge min) = Unit {0}
Suits _ _ = ⊥

abbrev pub SuitsIn : Aim → Phase → Type 0
SuitsIn a (phase.InRound r) = Suits a r
SuitsIn a _ = Unit {0}

-- the round under way is one of the task's
abbrev pub IsApt : WriterView → Type 0
IsApt w = SuitsIn w.aim w.phase

-- the outcome of each
abbrev pub IsOf : Aim → Outcome → Type 0
IsOf aim.Takeover (outcome.Takeover epoch first) = Unit {0}
IsOf aim.Log (outcome.Log first last) = Unit {0}
IsOf aim.Roll (outcome.Roll start) = Unit {0}
IsOf aim.Close (outcome.Close last) = Unit {0}
IsOf aim.Purge outcome.Purge = Unit {0}
IsOf _ _ = ⊥

abbrev pub IsInRound : Phase → Type 0
IsInRound (phase.InRound r) = Unit {0}
IsInRound _ = ⊥

-- Where a writer stands once its task is done: idle after a close, and else with an open segment.
abbrev pub phase_after : Outcome → Phase
phase_after (outcome.Close last) = phase.Idle
phase_after (outcome.Takeover epoch first) = phase.Writing
phase_after (outcome.Log first last) = phase.Writing
phase_after (outcome.Roll start) = phase.Writing
phase_after outcome.Purge = phase.Writing

-- What an answer leads to, and where the writer then stands. Only a takeover meets the greatest
-- epoch.
abbrev pub IsTurnOf : Aim → Phase → Turn → Type 0
IsTurnOf a p turn.Going = IsInRound p
IsTurnOf a p (turn.Done o) = IsOf a o × (p ≡ phase_after o)
IsTurnOf a p turn.Aborted = p ≡ phase.Stopped
IsTurnOf a p (turn.EpochLimit told) = (a ≡ aim.Takeover) × (p ≡ phase.Stopped)
