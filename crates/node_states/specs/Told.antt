-- What is told of a report: the states where its lists agree, and only there.
use Rattle.std.specs.Prelude.{ℕ, ◌≡◌, ◌<◌, List}
use Rattle.mesh.specs.Agree.{Agrees, history_at}
use Rattle.report_judge.specs.declared.answer.Lists.{Lists}
use Rattle.report_judge.specs.Reads.{IsReadAs, IsLine}
use Rattle.report_judge.specs.Judged.{OfAgreeing, OfDisagreeing, OfPlace}
use Rattle.report_judge.specs.Written.{NoReport}
use Rattle.report_judge.specs.Complete.{IsFirst}
use Rattle.node_states.specs.declared.states.States.{States}
use Rattle.node_states.specs.declared.states.States.TheVariants as states
use Rattle.node_states.specs.Lines.{lines_at}
use Rattle.node_states.specs.Order.{lines_in}
use Rattle.node_states.specs.Texts.{states_text}
use Rattle.node_states.specs.Laws.{of_node}

-- The bytes are the report of lists that agree, and these are the lines of their states. Each line of
-- a node's history stands in their order once, and a node's lines in the order of its history.
pub record OfStates (bytes text : List ℕ) : Type 0 where
  pub lists : Lists
  pub is_read : IsReadAs bytes lists
  pub agrees : Agrees lists.mesh
  pub is_text : text ≡ states_text lists.mesh lists.ends
  pub once : (i : ℕ) → i < lists.mesh.nodes → of_node i (lines_in lists.mesh) ≡ lines_at lists.mesh.records i (history_at lists.mesh i)

-- Else what they are judged. No bytes are two of the three: verdicts exclude each other.
abbrev pub TellsStates : List ℕ → States → Type 0
TellsStates bytes (states.Told text) = OfStates bytes text.items × OfAgreeing bytes
TellsStates bytes (states.Disagrees found) = OfDisagreeing bytes found.part × OfPlace bytes found
TellsStates bytes (states.Bad line rule) = IsLine bytes line × NoReport bytes × IsFirst bytes line rule
