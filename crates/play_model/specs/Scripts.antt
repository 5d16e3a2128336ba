-- Scripts can be played.
use Rattle.play_script.specs.Scripts.{ScriptView}
use Rattle.play_script.specs.Grammar.{IsScript}
use Rattle.play_model.specs.Lines.{IsPlayable, NumbersFit}

abbrev pub ScriptsArePlayable : Type 0
ScriptsArePlayable = (s : ScriptView) → IsScript s → IsPlayable s

-- the program can hold a script's numbers
abbrev pub ScriptNumbersFit : Type 0
ScriptNumbersFit = (s : ScriptView) → IsScript s → NumbersFit s
