-- What holds of every text: it breaks a rule, or it is a script's text, and that of one script.
use Rattle.std.specs.Prelude.{ℕ, ◌≡◌, List, None}
use Rattle.play_script.specs.Scripts.{ScriptView}
use Rattle.play_script.specs.Grammar.{IsScript, IsScriptText, script_text}
use Rattle.play_script.specs.Rules.{fault_of}

abbrev pub ScriptBreaksNoRule : Type 0
ScriptBreaksNoRule = (bytes : List ℕ) (s : ScriptView) → IsScriptText bytes s → fault_of bytes ≡ None

abbrev pub ElseARuleIsBroken : Type 0
ElseARuleIsBroken = (bytes : List ℕ) → fault_of bytes ≡ None → (s : ScriptView) × IsScriptText bytes s

abbrev pub TextIsOfOneScript : Type 0
TextIsOfOneScript = (bytes : List ℕ) (s t : ScriptView) → IsScriptText bytes s → IsScriptText bytes t → s ≡ t

abbrev pub ScriptHasItsText : Type 0
ScriptHasItsText = (s : ScriptView) → IsScript s → IsScriptText (script_text s) s
