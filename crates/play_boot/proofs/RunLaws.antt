-- Runs of disk calls, one after the other, and which answers tell no fault.
use Rattle.std.proofs.Common.{refl}
use Rattle.std.specs.Prelude.{Result, Ok, IsErrOf}
use Rattle.base_disk.specs.DiskCalls.{IsDiskRun}
use Rattle.base_disk.specs.declared.disk.DiskFail.{DiskFail}
use Rattle.base_disk.specs.declared.disk.DiskFail.TheVariants.{Failed}
use Rattle.base_disk.specs.declared.disk.DiskModel.{Ghosts}
use Rattle.base_disk.proofs.Causes.{cause_as, cause_since, cause_fine, none_came}

-- no call
pub run_still : {D T : Type 0} (disk : Ghosts D) (d : D) (r : Result T DiskFail) → (IsErrOf r Failed → ⊥) → IsDiskRun disk d d r
run_still disk d r fine = record {
  tells = (λ t. t, λ t. t);
  cause = cause_fine (disk.faults d) (disk.faults d) (disk.steady d) (disk.steady d) r refl (λ s. s) fine;
}

-- an answer that is no fault, as that of the run is none
pub run_as : {D S T : Type 0} (disk : Ghosts D) (old new : D) (r : Result S DiskFail) (outer : Result T DiskFail) → (IsErrOf r Failed → ⊥) → (IsErrOf outer Failed → ⊥)
    → IsDiskRun disk old new r → IsDiskRun disk old new outer
run_as disk old new r outer fine none run = record {
  tells = run.tells;
  cause = cause_as (disk.faults old) (disk.faults new) (disk.steady old) (disk.steady new) r outer run.cause (λ f. absurd (none f)) (λ f. absurd (fine f));
}

-- one run after another that told no fault
pub run_then : {D S T : Type 0} (disk : Ghosts D) (old mid new : D) (r : Result S DiskFail) (outer : Result T DiskFail) → (IsErrOf r Failed → ⊥)
    → IsDiskRun disk old mid r → IsDiskRun disk mid new outer → IsDiskRun disk old new outer
run_then disk old mid new r outer fine one two = record {
  tells = (λ t. two.tells.0 (one.tells.0 t), λ t. one.tells.1 (two.tells.1 t));
  cause = cause_since (disk.faults old) (disk.faults mid) (disk.faults new) (disk.steady old) (disk.steady mid) (disk.steady new) outer outer
      (none_came (disk.faults old) (disk.faults mid) (disk.steady old) (disk.steady mid) r one.cause fine) one.cause.steady two.cause (λ f. f) (λ f. f);
}

pub ok_is_fine : {T : Type 0} (x : T) → IsErrOf {E = DiskFail} (Ok x) Failed → ⊥
ok_is_fine x failed = absurd (cc)
