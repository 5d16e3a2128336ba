-- How a script ends that is played by threads whose calls go through pipes, and what it writes.
use Rattle.std.specs.Prelude.{ℕ, ◌≡◌, ◌+◌, ◌==◌, ◌&&◌, ◌||◌, Bool, nat_le, nat_lt, List, [], ◌∷◌, Option, Some, None, codes, if◌then◌else◌}
use Rattle.std.specs.Str.{bytes_eq}
use Rattle.base_words.specs.Words.{words_of, first_word}
use Rattle.play_script.specs.Grammar.{IsScriptText}
use Rattle.play_script.specs.Lines.{Line, Ended, Open, lines_of}
use Rattle.play_script.specs.Rules.{or_later, fault_of}
use Rattle.play_script.specs.Scripts.{ScriptView}
use Rattle.cli_commands.specs.declared.status.Status.{Status}
use Rattle.cli_commands.specs.declared.command_fault.CommandFault.{CommandFault}
use Rattle.cli_commands.specs.declared.command_fault.CommandFault.TheVariants as fault
use Rattle.cli_commands.specs.Uses.{SourceUse, SinkUse, AReadFailed, NoReadFailed}
use Rattle.cli_commands.specs.Told.{Told}
use Rattle.qj_cli.specs.Sound.{AreSound}
use Rattle.qj_cli.specs.Plays.{IsReadWhole, GivesReport, IsPlayFault}

-- ## Scripts that pipes carry
-- Pipes carry no late copies, and serve scripts without names: the rule that a line breaks there
-- whatever stands before it.
abbrev pub pipe_rule : List ℕ → Option ℕ
pipe_rule line =
    if bytes_eq (first_word (words_of line)) (codes "names") then Some 1
    else (if bytes_eq (first_word (words_of line)) (codes "late") then Some 2 else None)

-- the first such line, and its rule
unfoldable pub pipe_from : ℕ → List Line → Option (ℕ × ℕ)
pipe_from number [] = None
pipe_from number (Ended line ∷ lines) = or_later number (pipe_rule line) (pipe_from (number + 1) lines)
pipe_from number (Open line ∷ lines) = None

abbrev pub pipe_line_of : List ℕ → Option (ℕ × ℕ)
pipe_line_of bytes = pipe_from 1 (lines_of bytes)

-- A script's own fault comes first where its line does, and on one line where its rule is tried
-- first: 10, of all lines, and then 1 and 2.
abbrev pub comes_first : ℕ × ℕ → ℕ × ℕ → Bool
comes_first own other = nat_lt own.0 other.0 || (own.0 == other.0 && (own.1 == 10 || nat_le own.1 2))

abbrev pub first_of : Option (ℕ × ℕ) → Option (ℕ × ℕ) → Option (ℕ × ℕ)
first_of None own = own
first_of (Some other) None = Some other
first_of (Some other) (Some own) = if comes_first own other then Some own else Some other

-- the first line that breaks a rule of scripts that pipes carry, from 1, and the rule
abbrev pub pipe_fault_of : List ℕ → Option (ℕ × ℕ)
pipe_fault_of bytes = first_of (pipe_line_of bytes) (fault_of bytes)

-- ## A script that is read
-- why bytes give none
abbrev pub IsPipeFault : List ℕ → CommandFault → Type 0
IsPipeFault bytes (fault.BadScript line rule) = pipe_fault_of bytes ≡ Some (line, rule)
IsPipeFault bytes fault.OutOfMemory = Unit {0}
IsPipeFault bytes _ = ⊥

-- the source was read whole, and its bytes are this script's, which pipes carry
pub record GivesPiped (source : SourceUse) (script : ScriptView) : Type 0 where
  pub bytes : List ℕ
  pub read : IsReadWhole source bytes
  pub reads : IsScriptText bytes script
  pub unbroken : pipe_fault_of bytes ≡ None

-- ## How it ended
-- with status Ok the report of its bytes
pub record GivesPipedReport (source : SourceUse) (good : Status) (text : List ℕ) : Type 0 where
  pub report : GivesReport AreSound source good text
  pub unbroken : pipe_fault_of report.bytes ≡ None

-- why not
abbrev pub IsPipedFault : SourceUse → CommandFault → Type 0
IsPipedFault source (fault.BadScript line rule) = (bytes : List ℕ) × IsReadWhole source bytes × (pipe_fault_of bytes ≡ Some (line, rule))
IsPipedFault source (fault.Limit number) = IsPlayFault AreSound source (fault.Limit number)
IsPipedFault source fault.ReadFault = AReadFailed source
IsPipedFault source fault.OutOfMemory = NoReadFailed source
IsPipedFault source _ = ⊥

abbrev pub Pipes : SourceUse → SinkUse → Status → Type 0
Pipes source sink s = Told (GivesPipedReport source) (IsPipedFault source) s sink
