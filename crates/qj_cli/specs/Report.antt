-- What the report of a script's bytes is.
use Rattle.std.specs.Prelude.{ℕ, ◌≡◌, ◌<◌, ◌≤◌, List, length}
use Rattle.mesh.specs.declared.whole.Mesh.{Mesh}
use Rattle.ns_tree.specs.declared.end.End.{End}
use Rattle.play_script.specs.Scripts.{ScriptView}
use Rattle.play_script.specs.Grammar.{IsScriptText}
use Rattle.play_model.specs.Faultless.{ShowsNoFault}
use Rattle.play_report.specs.Text.{text_of}
use Rattle.play_report.specs.Limit.{longest_report}
use Rattle.qj_cli.specs.Sound.{ComeOf}

-- The bytes are a script's, and the text is the report of lists that it may leave: those of its one
-- play, or any that are sound, as its threads leave them.
pub record IsReport (Leaves : ScriptView → Mesh → List End → Type 0) (bytes text : List ℕ) : Type 0 where
  pub script : ScriptView
  pub reads : IsScriptText bytes script
  pub mesh : Mesh
  pub ends : List End
  pub leaves : Leaves script mesh ends
  pub printed : text ≡ text_of mesh ends

-- a report that is printed
pub record IsPrinted (Leaves : ScriptView → Mesh → List End → Type 0) (bytes text : List ℕ) : Type 0 where
  pub report : IsReport Leaves bytes text
  pub within : length text ≤ longest_report

-- the bytes are a script's, and a report of it is longer than a report may be
pub record HasLongReport (Leaves : ScriptView → Mesh → List End → Type 0) (bytes : List ℕ) : Type 0 where
  pub text : List ℕ
  pub report : IsReport Leaves bytes text
  pub longer : longest_report < length text

-- a text is one script's, and the play of a script has one report
abbrev pub ScriptsHaveOneReport : Type 0
ScriptsHaveOneReport = (bytes a b : List ℕ) → IsReport ComeOf bytes a → IsReport ComeOf bytes b → a ≡ b

-- no report shows a fault of a disk, a lack of memory or a bad file
abbrev pub ReportsShowNoFault : (ScriptView → Mesh → List End → Type 0) → Type 0
ReportsShowNoFault Leaves = (bytes text : List ℕ) → (r : IsReport Leaves bytes text) → ShowsNoFault r.mesh
