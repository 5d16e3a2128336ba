-- How a script that is played, in order or by threads, ends, and what it writes.
use Rattle.std.specs.Prelude.{ℕ, ◌≡◌, ◌≢◌, ◌<◌, ◌≤◌, ◌⊎◌, List, [], Option, Some, None, length}
use Rattle.mesh.specs.declared.whole.Mesh.{Mesh}
use Rattle.ns_tree.specs.declared.end.End.{End}
use Rattle.play_script.specs.Scripts.{ScriptView}
use Rattle.play_script.specs.Grammar.{IsScriptText}
use Rattle.play_script.specs.Rules.{fault_of}
use Rattle.play_report.specs.Limit.{longest_report}
use Rattle.cli_commands.specs.declared.status.Status.{Status}
use Rattle.cli_commands.specs.declared.status.Status.TheVariants as status
use Rattle.cli_commands.specs.declared.command_fault.CommandFault.{CommandFault}
use Rattle.cli_commands.specs.declared.command_fault.CommandFault.TheVariants as fault
use Rattle.cli_commands.specs.Uses.{SourceUse, SinkUse, AReadFailed, NoReadFailed}
use Rattle.cli_commands.specs.Told.{TellsText, Told}
use Rattle.qj_cli.specs.Report.{IsPrinted, HasLongReport}

abbrev pub longest_script : ℕ
longest_script = 1048576

-- ## What was read
-- the bytes are those that the source told, where it told any
abbrev pub AreTold : Option (List ℕ) → List ℕ → Type 0
AreTold None bytes = Unit {0}
AreTold (Some told) bytes = bytes ≡ told

-- where the source told its bytes, it tells that none is left
abbrev pub IsReadOut : Option (List ℕ) → Option (List ℕ) → Type 0
IsReadOut None left = Unit {0}
IsReadOut (Some told) left = left ≡ Some []

-- the source was read to its end and no read failed: these are all of its bytes, and not too many
pub record IsReadWhole (source : SourceUse) (bytes : List ℕ) : Type 0 where
  pub told : AreTold source.told bytes
  pub read_out : IsReadOut source.told source.left
  pub no_fault : NoReadFailed source
  pub short : length bytes ≤ longest_script

-- no read failed, and there were more bytes than a script may have
pub record IsTooLong (source : SourceUse) : Type 0 where
  pub bytes : List ℕ
  pub told : AreTold source.told bytes
  pub no_fault : NoReadFailed source
  pub long : longest_script < length bytes

-- ## A script that is read
-- the source was read whole, and its bytes are this script's
pub record GivesScript (source : SourceUse) (script : ScriptView) : Type 0 where
  pub bytes : List ℕ
  pub read : IsReadWhole source bytes
  pub reads : IsScriptText bytes script

-- why bytes give none; where the first line is wrong it isn't lack of memory
abbrev pub IsTextFault : List ℕ → CommandFault → Type 0
IsTextFault bytes (fault.BadScript line rule) = fault_of bytes ≡ Some (line, rule)
IsTextFault bytes fault.OutOfMemory = (line : ℕ) → fault_of bytes ≢ Some (line, 1)
IsTextFault bytes _ = ⊥

-- why a source gives none
abbrev pub IsReadingFault : SourceUse → CommandFault → Type 0
IsReadingFault source (fault.BadScript line rule) = (bytes : List ℕ) × IsReadWhole source bytes × (fault_of bytes ≡ Some (line, rule))
IsReadingFault source (fault.Limit number) = (number ≡ longest_script) × IsTooLong source
IsReadingFault source fault.ReadFault = AReadFailed source
IsReadingFault source fault.OutOfMemory = NoReadFailed source
IsReadingFault source _ = ⊥

-- why the report with this text isn't printed
abbrev pub IsReportFault : List ℕ → CommandFault → Type 0
IsReportFault text (fault.Limit number) = (number ≡ longest_report) × (longest_report < length text)
IsReportFault text fault.OutOfMemory = Unit {0}
IsReportFault text _ = ⊥

-- ## What is due of a script's bytes
-- its report, where they break no rule
pub record IsDueReport (Leaves : ScriptView → Mesh → List End → Type 0) (bytes text : List ℕ) : Type 0 where
  pub unbroken : fault_of bytes ≡ None
  pub printed : IsPrinted Leaves bytes text

abbrev pub IsScriptFault : (ScriptView → Mesh → List End → Type 0) → List ℕ → CommandFault → Type 0
IsScriptFault Leaves bytes (fault.BadScript line rule) = fault_of bytes ≡ Some (line, rule)
IsScriptFault Leaves bytes (fault.Limit number) = (number ≡ longest_report) × (fault_of bytes ≡ None) × HasLongReport Leaves bytes
IsScriptFault Leaves bytes fault.OutOfMemory = Unit {0}
IsScriptFault Leaves bytes _ = ⊥

-- ## What is due of a source
-- with status Ok the report of its bytes
pub record GivesReport (Leaves : ScriptView → Mesh → List End → Type 0) (source : SourceUse) (good : Status) (text : List ℕ) : Type 0 where
  pub good_is : good ≡ status.Ok
  pub bytes : List ℕ
  pub read : IsReadWhole source bytes
  pub due : IsDueReport Leaves bytes text

-- of bytes that were read
abbrev pub OfBytes : (ScriptView → Mesh → List End → Type 0) → SourceUse → CommandFault → Type 0
OfBytes Leaves source of = (bytes : List ℕ) × IsReadWhole source bytes × IsScriptFault Leaves bytes of

-- Each fault comes only where this holds. No two of them hold of the same bytes, but for lack of
-- memory, which may come in the place of each but a read that failed; that may come beside a
-- script's own fault.
abbrev pub IsPlayFault : (ScriptView → Mesh → List End → Type 0) → SourceUse → CommandFault → Type 0
IsPlayFault Leaves source (fault.BadScript line rule) = OfBytes Leaves source (fault.BadScript line rule)
IsPlayFault Leaves source (fault.Limit number) = (number ≡ longest_script) × IsTooLong source ⊎ OfBytes Leaves source (fault.Limit number)
IsPlayFault Leaves source fault.ReadFault = AReadFailed source
IsPlayFault Leaves source fault.OutOfMemory = NoReadFailed source
IsPlayFault Leaves source _ = ⊥

-- what is due was written, or a front of it, and a write failed
abbrev pub Writes : (Status → List ℕ → Type 0) → Status → SinkUse → Type 0
Writes Gives s sink = (good : Status) × (text : List ℕ) × Gives good text × TellsText good text s sink

-- How a play ended.
abbrev pub Plays : (ScriptView → Mesh → List End → Type 0) → SourceUse → SinkUse → Status → Type 0
Plays Leaves source sink s = Told (GivesReport Leaves source) (IsPlayFault Leaves source) s sink
