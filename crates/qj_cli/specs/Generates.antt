-- How the play of a generated script ends, and what it writes.
use Rattle.std.specs.Prelude.{ℕ, ◌≡◌, List}
use Rattle.play_script.specs.Generated.{generated}
use Rattle.play_model.specs.Plays.{Play, mesh_of, ends_of}
use Rattle.play_report.specs.Summary.{summary_text}
use Rattle.cli_commands.specs.declared.status.Status.{Status}
use Rattle.cli_commands.specs.declared.status.Status.TheVariants as status
use Rattle.cli_commands.specs.declared.command_fault.CommandFault.{CommandFault}
use Rattle.cli_commands.specs.declared.command_fault.CommandFault.TheVariants as fault
use Rattle.cli_commands.specs.Uses.{SinkUse}
use Rattle.cli_commands.specs.Told.{Told}
use Rattle.qj_cli.specs.Sound.{IsSound}

-- the text is the summary of the one play of the script that the number gives
pub record IsSummary (number edits nodes : ℕ) (text : List ℕ) : Type 0 where
  pub play : Play
  pub sound : IsSound (generated number edits nodes) play
  pub printed : text ≡ summary_text (mesh_of play) (ends_of play)

-- with status Ok that summary
pub record GivesSummary (number edits nodes : ℕ) (good : Status) (text : List ℕ) : Type 0 where
  pub good_is : good ≡ status.Ok
  pub summary : IsSummary number edits nodes text

-- nothing else comes than lack of memory
abbrev pub IsSummaryFault : CommandFault → Type 0
IsSummaryFault fault.OutOfMemory = Unit {0}
IsSummaryFault _ = ⊥

-- How it ended.
abbrev pub Generates : ℕ → ℕ → ℕ → SinkUse → Status → Type 0
Generates number edits nodes sink s = Told (GivesSummary number edits nodes) IsSummaryFault s sink

-- a number gives one summary
abbrev pub NumbersHaveOneSummary : Type 0
NumbersHaveOneSummary = (number edits nodes : ℕ) (a b : List ℕ) → IsSummary number edits nodes a → IsSummary number edits nodes b → a ≡ b
