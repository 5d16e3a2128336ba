-- How a check of the disk's files ends, case by case.
use Rattle.std.proofs.Common.{◌≡◌, ℕ, Bool, true, false, List, Result, Err, refl, sym, ap, ◌∙◌, inl, inr, ◌==◌}
use Rattle.std.specs.Prelude.{if◌then◌else◌}
use Rattle.std.specs.Io.KnownBytes.{Appends}
use Rattle.base_outside.specs.Whole.{TakesFront}
use Rattle.base_disk.specs.Calls.{HasCause, Rests}
use Rattle.base_disk.specs.declared.disk.DiskFail.{DiskFail}
use Rattle.base_disk.specs.declared.disk.DiskFail.TheVariants as fail
use Rattle.base_disk.proofs.Causes.{cause_as, none_came}
use Rattle.list_fsck.specs.Reports.{IsReport}
use Rattle.cli_commands.specs.declared.status.Status.{Status}
use Rattle.cli_commands.specs.declared.status.Status.TheVariants as status
use Rattle.cli_commands.specs.declared.command_fault.CommandFault.TheVariants as fault
use Rattle.cli_commands.specs.Uses.{SinkUse, DiskUse, AWriteFailed, NoWriteFailed}
use Rattle.cli_commands.specs.Told.{TellsFault, wrote_text, told_fault}
use Rattle.cli_commands.specs.Listing.{disk_answer, HasCalls, IsOnlyRead}
use Rattle.cli_commands.specs.Checks.{status_with, Checks}
use Rattle.cli_commands.proofs.ToldLaws.{told_status}

no_fault_with : (b : Bool) → disk_answer (if b then status.Ok else status.Unsound) ≡ Err fail.Failed → ⊥
no_fault_with true e = cc e
no_fault_with false e = cc e

module _ {D : Type 0} (disk : DiskUse D) (sink : SinkUse) (rests : disk.tells disk.before → Rests (disk.view disk.before) (disk.view disk.now)) where
  only_read : {T : Type 0} (r : Result T DiskFail) (s : Status) → (disk_answer s ≡ Err fail.Failed → r ≡ Err fail.Failed)
      → (r ≡ Err fail.Failed → disk_answer s ≡ Err fail.Failed)
      → HasCause (disk.faults disk.before) (disk.faults disk.now) (disk.steady disk.before) (disk.steady disk.now) r → IsOnlyRead disk s
  only_read r s back on cause = record {
    rests = rests;
    cause = cause_as (disk.faults disk.before) (disk.faults disk.now) (disk.steady disk.before) (disk.steady disk.now) r (disk_answer s) cause back on;
  }

  pub found_checks : (findings : ℕ) → HasCalls disk → (is : (text : List ℕ)
      × IsReport (disk.tells disk.before) (disk.view disk.before).seen text findings × Appends sink.before sink.now text × NoWriteFailed sink × (sink.kept_now ≡ 0))
      → HasCause (disk.faults disk.before) (disk.faults disk.now) (disk.steady disk.before) (disk.steady disk.now) (disk_answer status.Ok) → Checks disk sink (status_with findings)
  found_checks findings calls is cause = record {
    told = wrote_text (status_with findings) is.0 (record { findings = findings; good_is = refl; report = is.1; calls = calls }) (inl (refl, is.3, is.2, is.4));
    disk_is = only_read (disk_answer status.Ok) (status_with findings) (λ e. absurd (no_fault_with (findings == 0) e)) (λ e. absurd (cc e)) cause;
  }

  pub cut_checks : HasCalls disk → (is : (text : List ℕ) × (findings : ℕ)
      × IsReport (disk.tells disk.before) (disk.view disk.before).seen text findings × TakesFront sink.before sink.now text × AWriteFailed sink)
      → HasCause (disk.faults disk.before) (disk.faults disk.now) (disk.steady disk.before) (disk.steady disk.now) (disk_answer status.Ok) → Checks disk sink status.WriteFault
  cut_checks calls is cause = record {
    told = wrote_text (status_with is.1) is.0 (record { findings = is.1; good_is = refl; report = is.2; calls = calls }) (inr (refl, is.4, is.3));
    disk_is = only_read (disk_answer status.Ok) status.WriteFault (λ e. absurd (cc e)) (λ e. absurd (cc e)) cause;
  }

  pub failed_checks : (s : Status) → TellsFault fault.DiskFault s sink
      → HasCause (disk.faults disk.before) (disk.faults disk.now) (disk.steady disk.before) (disk.steady disk.now) (disk_answer status.DiskFault)
      → Checks disk sink s
  failed_checks s tells cause = record {
    told = told_fault fault.DiskFault (cause.failed refl) tells;
    disk_is = only_read (disk_answer status.DiskFault) s (λ e. refl) (λ e. ap disk_answer (told_status fault.DiskFault s sink (λ b. b) tells)) cause;
  }

  pub lost_checks : (s : Status) → TellsFault fault.OutOfMemory s sink
      → HasCause (disk.faults disk.before) (disk.faults disk.now) (disk.steady disk.before) (disk.steady disk.now) (disk_answer status.OutOfMemory)
      → Checks disk sink s
  lost_checks s tells cause = record {
    told = told_fault fault.OutOfMemory
        (none_came (disk.faults disk.before) (disk.faults disk.now) (disk.steady disk.before) (disk.steady disk.now) (disk_answer status.OutOfMemory) cause (λ e. cc e)) tells;
    disk_is = only_read (disk_answer status.OutOfMemory) s (λ e. absurd
        (let is : disk_answer status.OutOfMemory ≡ Err fail.Failed = sym (ap disk_answer (told_status fault.OutOfMemory s sink (λ b. b) tells))
        ∙ e in cc is)) (λ e. absurd (cc e)) cause;
  }
