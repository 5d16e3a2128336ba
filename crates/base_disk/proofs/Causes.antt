-- What follows of the cause of an answer, and which other answers have one.
use Rattle.std.proofs.Common.{◌≡◌, ◌∙◌, ℕ, refl, inl, inr, ⊎_elim, arith}
use Rattle.std.specs.Prelude.{Result, Ok, Err, IsOk, IsErrOf}
use Rattle.base_disk.specs.Calls.{HasCause}
use Rattle.base_disk.specs.declared.disk.DiskFail.{DiskFail}
use Rattle.base_disk.specs.declared.disk.DiskFail.TheVariants.{Failed}
use Rattle.base_disk.proofs.Rises.{rose_since}

-- no fault came where the answer isn't Failed
pub none_came : {T : Type 0} (f g : ℕ) (was now : Type 0) (r : Result T DiskFail) → HasCause f g was now r → (IsErrOf r Failed → ⊥) → g ≡ f
none_came f g was now r cause fine = ⊎_elim (λ failed. absurd (fine failed)) (λ stays. stays) cause.still

-- Ok isn't Failed
pub ok_fine : {T : Type 0} (r : Result T DiskFail) → IsOk r → IsErrOf r Failed → ⊥
ok_fine (Ok x) ok failed = absurd (cc)
ok_fine (Err e) ok failed = absurd (cc)

pub none_at_ok : {T : Type 0} (f g : ℕ) (was now : Type 0) (r : Result T DiskFail) → HasCause f g was now r → IsOk r → g ≡ f
none_at_ok f g was now r cause ok = none_came f g was now r cause (λ failed. ok_fine r ok failed)

-- none comes of a steady disk
pub same_of : {T : Type 0} (f g : ℕ) (was now : Type 0) (r : Result T DiskFail) → HasCause f g was now r → was → g ≡ f
same_of f g was now r cause steady = none_came f g was now r cause (λ failed. cause.no_fault steady failed)

-- an answer that is Failed just where the last call's is, where no fault came before that call
pub cause_since : {S T : Type 0} (f0 f g : ℕ) (first was now : Type 0) (r : Result T DiskFail) (outer : Result S DiskFail)
    → f ≡ f0 → (first → was) → HasCause f g was now r
    → (IsErrOf outer Failed → IsErrOf r Failed) → (IsErrOf r Failed → IsErrOf outer Failed) → HasCause f0 g first now outer
cause_since f0 f g first was now r outer same steady cause carry back = record {
  later = omega (arith, same, cause.later);
  failed = λ failed. rose_since f0 f g (omega (arith, same)) (cause.failed (carry failed));
  still = ⊎_elim (λ failed. inl (back failed)) (λ stays. inr (stays ∙ same)) cause.still;
  steady = λ s. cause.steady (steady s);
  no_fault = λ s failed. cause.no_fault (steady s) (carry failed);
}

-- an answer that is Failed just where this one is
pub cause_as : {S T : Type 0} (f g : ℕ) (was now : Type 0) (r : Result T DiskFail) (outer : Result S DiskFail) → HasCause f g was now r
    → (IsErrOf outer Failed → IsErrOf r Failed) → (IsErrOf r Failed → IsErrOf outer Failed) → HasCause f g was now outer
cause_as f g was now r outer cause carry back = cause_since f f g was was now r outer refl (λ s. s) cause carry back

-- an answer that isn't Failed, where no fault came
pub cause_fine : {T : Type 0} (f0 f : ℕ) (first now : Type 0) (r : Result T DiskFail) → f ≡ f0 → (first → now) → (IsErrOf r Failed → ⊥) → HasCause f0 f first now r
cause_fine f0 f first now r same steady fine = record {
  later = omega (arith, same);
  failed = λ failed. absurd (fine failed);
  still = inr same;
  steady = steady;
  no_fault = λ s failed. fine failed;
}
