-- What is due of the bytes of a report.
use Rattle.std.specs.Prelude.{ℕ, ◌≡◌, ◌⊎◌, List}
use Rattle.report_judge.specs.declared.judgement.Finding.{Finding}
use Rattle.report_judge.specs.Reads.{IsLine}
use Rattle.report_judge.specs.Judged.{OfAgreeing, OfDisagreeing, OfPlace, agrees_text, disagrees_text}
use Rattle.report_judge.specs.Written.{NoReport}
use Rattle.report_judge.specs.Complete.{IsFirst}
use Rattle.cli_commands.specs.declared.status.Status.{Status}
use Rattle.cli_commands.specs.declared.status.Status.TheVariants as status
use Rattle.cli_commands.specs.declared.command_fault.CommandFault.{CommandFault}
use Rattle.cli_commands.specs.declared.command_fault.CommandFault.TheVariants as fault

-- the line of their judgement, with its status
abbrev pub IsDueOf : List ℕ → Status → List ℕ → Type 0
IsDueOf bytes good text =
    ((good ≡ status.Ok) × (text ≡ agrees_text) × OfAgreeing bytes)
    ⊎ ((found : Finding) × (good ≡ status.Unsound) × (text ≡ disagrees_text found) × OfDisagreeing bytes found.part × OfPlace bytes found)

-- the bytes are no report of lists within the limits, and this line is the first that breaks a rule
abbrev pub IsFaultOf : List ℕ → CommandFault → Type 0
IsFaultOf bytes (fault.BadReport line rule) = IsLine bytes line × NoReport bytes × IsFirst bytes line rule
IsFaultOf bytes fault.OutOfMemory = Unit {0}
IsFaultOf bytes _ = ⊥
