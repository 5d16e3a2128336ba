-- The reader answers a script's text by that script.
use Rattle.std.proofs.Common.{ℕ, ◌≡◌, List, Some, None, Option}
use Rattle.play_script.specs.declared.answer.ReadScript.{ReadScript}
use Rattle.play_script.specs.declared.answer.ReadScript.TheVariants as read
use Rattle.play_script.specs.Scripts.{ScriptView}
use Rattle.play_script.specs.Grammar.{IsScriptText}
use Rattle.play_script.specs.Rules.{fault_of}
use Rattle.play_script.specs.Reading.{IfScript, IfBadScript, Reads}
use Rattle.play_script.proofs.ScriptLaws.{breaks_no_rule, one_script}

no_fault : (o : Option (ℕ × ℕ)) (p : ℕ × ℕ) → o ≡ None → o ≡ Some p → ⊥
no_fault o p e f = cc

pub reads_only : (bytes : List ℕ) (answer : ReadScript) (s : ScriptView) → IfScript answer (λ t. IsScriptText bytes t)
    → IfBadScript answer (λ line rule. fault_of bytes ≡ Some (line, rule)) → IsScriptText bytes s → Reads answer s
reads_only bytes (read.Script t) s h f k = one_script bytes t s h k
reads_only bytes (read.BadScript line rule) s h f k = no_fault (fault_of bytes) (line, rule) (breaks_no_rule bytes s k) f
reads_only bytes read.OutOfMemory s h f k = tt
