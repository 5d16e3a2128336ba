-- What was written of what is due: a text, or the line of a fault.
use Rattle.std.specs.Prelude.{ℕ, ◌≡◌, ◌⊎◌, List}
use Rattle.std.specs.Io.KnownBytes.{Appends}
use Rattle.base_outside.specs.Whole.{TakesFront}
use Rattle.cli_commands.specs.declared.status.Status.{Status}
use Rattle.cli_commands.specs.declared.status.Status.TheVariants as status
use Rattle.cli_commands.specs.declared.command_fault.CommandFault.{CommandFault}
use Rattle.cli_commands.specs.declared.command_fault.CommandFault.TheVariants as fault
use Rattle.cli_commands.specs.Faults.{status_of, line_of}
use Rattle.cli_commands.specs.Uses.{SinkUse, AWriteFailed, NoWriteFailed, HandsOn}

-- ## A line
-- a prefix of the line was written, and where no write failed the whole of it, and handed on
pub record WritesLine (line : List ℕ) (sink : SinkUse) : Type 0 where
  pub front : TakesFront sink.before sink.now line
  pub unless_failed : (AWriteFailed sink → ⊥) → Appends sink.before sink.now line
  pub handed : (AWriteFailed sink → ⊥) → HandsOn sink

abbrev pub IsBadFile : CommandFault → Type 0
IsBadFile (fault.BadFile name) = Unit {0}
IsBadFile _ = ⊥

-- this fault, or that there was no memory for the line with the name of a bad file
abbrev pub IsToldAs : CommandFault → CommandFault → Type 0
IsToldAs of told = (told ≡ of) ⊎ ((told ≡ fault.OutOfMemory) × IsBadFile of)

-- The status is a fault's, and its line was written. A write that fails changes no status.
pub record TellsFault (of : CommandFault) (s : Status) (sink : SinkUse) : Type 0 where
  pub told : CommandFault
  pub told_as : IsToldAs of told
  pub status_is : s ≡ status_of told
  pub line : WritesLine (line_of told) sink

-- ## A text
-- the whole text was written, with its status, and nothing of it is kept back; or a prefix of it,
-- and a write failed
abbrev pub TellsText : Status → List ℕ → Status → SinkUse → Type 0
TellsText good text s sink =
    ((s ≡ good) × NoWriteFailed sink × Appends sink.before sink.now text × (sink.kept_now ≡ 0))
    ⊎ ((s ≡ status.WriteFault) × AWriteFailed sink × TakesFront sink.before sink.now text)

-- ## What is due
-- `Gives` says which text with which status may be due, and `Faults` which fault.
pub data Told (Gives : Status → List ℕ → Type 0) (Faults : CommandFault → Type 0) (s : Status) (sink : SinkUse) : Type 0 where
  wrote_text : (good : Status) (text : List ℕ) → Gives good text → TellsText good text s sink → Told Gives Faults s sink
  told_fault : (of : CommandFault) → Faults of → TellsFault of s sink → Told Gives Faults s sink
