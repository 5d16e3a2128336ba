-- Scripts with names alone: one that begins with `raw N` breaks rule 1 there.
use Rattle.std.specs.Prelude.{ℕ, ◌≡◌, ◌+◌, List, [], ◌∷◌, true, false, not, Option, Some, None, is_some, if◌then◌else◌}
use Rattle.play_script.specs.Scripts.{ScriptView}
use Rattle.play_script.specs.Grammar.{IsScriptText, is_silent}
use Rattle.play_script.specs.Lines.{Line, Ended, Open, lines_of, is_line}
use Rattle.play_script.specs.Rules.{nodes_of, fault_of}

-- the number of the line that begins a script without names, where no line before it breaks a rule
unfoldable pub raw_from : ℕ → List Line → Option ℕ
raw_from number [] = None
raw_from number (Open line ∷ lines) = None
raw_from number (Ended line ∷ lines) =
    if not (is_line line) then None
    else (if is_silent line then raw_from (number + 1) lines else (if is_some (nodes_of false line) then Some number else None))

abbrev pub raw_line_of : List ℕ → Option ℕ
raw_line_of bytes = raw_from 1 (lines_of bytes)

abbrev pub fault_or : Option ℕ → Option (ℕ × ℕ) → Option (ℕ × ℕ)
fault_or None other = other
fault_or (Some number) other = Some (number, 1)

-- the first line that breaks a rule of such scripts, from 1, and the rule
abbrev pub names_fault_of : List ℕ → Option (ℕ × ℕ)
names_fault_of bytes = fault_or (raw_line_of bytes) (fault_of bytes)

-- a script that no such line begins has names
abbrev pub OthersHaveNames : Type 0
OthersHaveNames = (bytes : List ℕ) (s : ScriptView) → IsScriptText bytes s → raw_line_of bytes ≡ None → s.named ≡ true
