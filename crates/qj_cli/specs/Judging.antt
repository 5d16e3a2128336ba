-- How the judging of a report ends, and what it writes.
use Rattle.std.specs.Prelude.{ℕ, ◌≡◌, ◌<◌, ◌≤◌, List, length}
use Rattle.report_judge.specs.declared.judgement.Finding.{Finding}
use Rattle.play_report.specs.Limit.{longest_report}
use Rattle.report_judge.specs.Reads.{IsLine}
use Rattle.report_judge.specs.Judged.{OfAgreeing, OfDisagreeing, OfPlace, agrees_text, disagrees_text}
use Rattle.report_judge.specs.Written.{NoReport}
use Rattle.report_judge.specs.Complete.{IsFirst}
use Rattle.cli_commands.specs.declared.status.Status.{Status}
use Rattle.cli_commands.specs.declared.status.Status.TheVariants as status
use Rattle.cli_commands.specs.declared.command_fault.CommandFault.{CommandFault}
use Rattle.cli_commands.specs.declared.command_fault.CommandFault.TheVariants as fault
use Rattle.cli_commands.specs.Uses.{SourceUse, SinkUse, AReadFailed, NoReadFailed}
use Rattle.cli_commands.specs.Told.{Told}
use Rattle.qj_cli.specs.Plays.{AreTold, IsReadOut}

-- the source was read to its end and no read failed: these are all of its bytes, and no more than a
-- report may have
pub record IsReadReport (source : SourceUse) (bytes : List ℕ) : Type 0 where
  pub told : AreTold source.told bytes
  pub read_out : IsReadOut source.told source.left
  pub no_fault : NoReadFailed source
  pub short : length bytes ≤ longest_report

-- no read failed, and there were more bytes than a report may have
pub record IsLongReport (source : SourceUse) : Type 0 where
  pub bytes : List ℕ
  pub told : AreTold source.told bytes
  pub no_fault : NoReadFailed source
  pub long : longest_report < length bytes

-- With status Ok the bytes that were read are the report of lists that agree, and so of a run that
-- is safe; with status Unsound the report of lists that don't agree: this is the first part that
-- doesn't hold, and the place that is told is where.
pub data GivesJudgement (source : SourceUse) (good : Status) (text : List ℕ) : Type 0 where
  agreeing : (bytes : List ℕ) → IsReadReport source bytes → good ≡ status.Ok → text ≡ agrees_text → OfAgreeing bytes → GivesJudgement source good text
  disagreeing : (bytes : List ℕ) (found : Finding) → IsReadReport source bytes → good ≡ status.Unsound → text ≡ disagrees_text found → OfDisagreeing bytes found.part
      → OfPlace bytes found → GivesJudgement source good text

-- Each fault comes only where this holds: where a read failed it is ReadFault, whatever was read
-- before it.
abbrev pub IsJudgeFault : SourceUse → CommandFault → Type 0
IsJudgeFault source (fault.BadReport line rule) = (bytes : List ℕ) × IsReadReport source bytes × IsLine bytes line × NoReport bytes × IsFirst bytes line rule
IsJudgeFault source (fault.Limit number) = (number ≡ longest_report) × IsLongReport source
IsJudgeFault source fault.ReadFault = AReadFailed source
IsJudgeFault source fault.OutOfMemory = NoReadFailed source
IsJudgeFault source _ = ⊥

-- How the judging ended.
abbrev pub JudgesReport : SourceUse → SinkUse → Status → Type 0
JudgesReport source sink s = Told (GivesJudgement source) (IsJudgeFault source) s sink
