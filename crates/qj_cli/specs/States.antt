-- How the telling of a report's states ends, and what it writes.
use Rattle.std.specs.Prelude.{ℕ, ◌≡◌, ◌⊎◌, List}
use Rattle.report_judge.specs.declared.judgement.Finding.{Finding}
use Rattle.report_judge.specs.Judged.{OfAgreeing, OfDisagreeing, OfPlace, disagrees_text}
use Rattle.node_states.specs.Told.{OfStates}
use Rattle.cli_commands.specs.declared.status.Status.{Status}
use Rattle.cli_commands.specs.declared.status.Status.TheVariants as status
use Rattle.cli_commands.specs.Uses.{SourceUse, SinkUse}
use Rattle.cli_commands.specs.Told.{Told}
use Rattle.qj_cli.specs.Judging.{IsReadReport, IsJudgeFault}

-- the lines of the states, or the line of the judgement where lists don't agree, with its status
abbrev pub AreDueOf : List ℕ → Status → List ℕ → Type 0
AreDueOf bytes good text =
    ((good ≡ status.Ok) × OfStates bytes text × OfAgreeing bytes)
    ⊎ ((found : Finding) × (good ≡ status.Unsound) × (text ≡ disagrees_text found) × OfDisagreeing bytes found.part × OfPlace bytes found)

-- With status Ok the bytes that were read are the report of lists that agree, and these are the lines
-- of their states; with status Unsound the report of lists that don't agree, of which the judgement
-- is told.
pub data GivesStates (source : SourceUse) (good : Status) (text : List ℕ) : Type 0 where
  states_of : (bytes : List ℕ) → IsReadReport source bytes → good ≡ status.Ok → OfStates bytes text → OfAgreeing bytes → GivesStates source good text
  none_of : (bytes : List ℕ) (found : Finding) → IsReadReport source bytes → good ≡ status.Unsound → text ≡ disagrees_text found → OfDisagreeing bytes found.part
      → OfPlace bytes found → GivesStates source good text

-- How the telling ended. Its faults are those of a judgement.
abbrev pub TellsReport : SourceUse → SinkUse → Status → Type 0
TellsReport source sink s = Told (GivesStates source) (IsJudgeFault source) s sink
