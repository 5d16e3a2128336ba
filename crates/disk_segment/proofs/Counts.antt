-- How many calls are left before every call fails.
use Rattle.std.proofs.Common.{⊎_elim, ◌≡◌, ℕ, List, suc, ◌+◌, ◌-◌, ◌≤◌, ◌<◌, ap, sym, refl, ◌∙◌, arith, subst}
use Rattle.std.specs.Prelude.{Option, Some, Result, Ok, Err, OnOk, IsOk, IsErr, IsErrOf}
use Rattle.std.proofs.lemmas.Bool.{cases_lt}
use Rattle.base_disk.specs.View.{View}
use Rattle.base_disk.specs.Calls.{Budget}
use Rattle.base_disk.specs.declared.disk.DiskFail.{DiskFail}
use Rattle.base_disk.specs.declared.disk.DiskFail.TheVariants.{Failed}
use Rattle.base_files.specs.Puts.{PutCut, OneCut}
use Rattle.disk_segment.specs.Effects.{IsCounted}
use Rattle.disk_segment.proofs.SealLemmas.{Passed}

pub err_of : {T : Type 0} (r : Result T DiskFail) → IsErrOf r Failed → IsErr r
err_of (Ok x) is = absurd (cc)
err_of (Err e) is = refl

always : {T : Type 0} (r : Result T DiskFail) (P : Type 0) → P → OnOk r P
always (Ok x) P fact = fact
always (Err e) P fact = tt

never : {T : Type 0} (r : Result T DiskFail) (P : Type 0) → IsErr r → OnOk r P
never (Ok x) P err = absurd (cc)
never (Err e) P err = tt

ok_or_err : {T : Type 0} (r : Result T DiskFail) → IsOk r → IsErr r → ⊥
ok_or_err (Ok x) ok err = absurd (cc)
ok_or_err (Err e) ok err = absurd (cc)

pub on_ok : {T : Type 0} (r : Result T DiskFail) (P : Type 0) → IsOk r → OnOk r P → P
on_ok (Ok x) P ok fact = fact
on_ok (Err e) P ok fact = absurd (cc)

-- a call among several that gave up
pub counted_err : {S T : Type 0} (calls j : ℕ) (b0 b b1 : Option ℕ) (tells : Type 0) (r : Result S DiskFail) (outer : Result T DiskFail) (v w : View)
    → j < calls → Passed j b0 b → Budget b b1 tells r v w → IsErr outer → (IsErrOf outer Failed → IsErrOf r Failed)
    → IsCounted calls b0 b1 outer
counted_err calls j b0 b b1 tells r outer v w lt passed budget err carry = record {
  stops = λ k is few. err;
  counts = λ k is.
      let so_far = passed.each (calls + k) is in
      let more : b ≡ Some (suc (calls + k - suc j)) = so_far.2 ∙ ap (λ (n : ℕ). Some n) (let e : so_far.0 ≡ suc (calls + k - suc j) = omega (arith, so_far.1, lt) in e) in
      (λ failed. (budget.counts (calls + k - suc j) more).0 (carry failed), never outer (b1 ≡ Some k) err);
}

-- the last of several calls
pub counted_last : {T : Type 0} (j : ℕ) (b0 b b1 : Option ℕ) (tells : Type 0) (r : Result T DiskFail) (v w : View) → Passed j b0 b → Budget b b1 tells r v w → IsCounted (suc j) b0 b1 r
counted_last j b0 b b1 tells r v w passed budget = record {
  stops = λ k is few.
      let so_far = passed.each k is in
      err_of r (budget.stops (so_far.2 ∙ ap (λ (n : ℕ). Some n) (let e : so_far.0 ≡ 0 = omega (arith, so_far.1, few) in e))).0;
  counts = λ k is.
      let so_far = passed.each (suc j + k) is in
      let last = budget.counts k (so_far.2 ∙ ap (λ (n : ℕ). Some n) (let e : so_far.0 ≡ suc k = omega (arith, so_far.1) in e)) in
      (last.0, always r (b1 ≡ Some k) last.1);
}

-- several calls made of others that count theirs
module _ {T : Type 0} (n j : ℕ) (b0 b b1 : Option ℕ) (r : Result T DiskFail) (passed : Passed j b0 b) (counted : IsCounted n b b1 r) where
  pub passed_on : IsOk r → Passed (j + n) b0 b1
  passed_on ok = record {
    each = λ k is.
        let so_far = passed.each k is in
        ⊎_elim (λ few. absurd (ok_or_err r ok (counted.stops so_far.0 so_far.2 few)))
        (λ enough. let last = counted.counts (so_far.0 - n) (so_far.2 ∙ ap (λ (m : ℕ). Some m) (let e : so_far.0 ≡ n + (so_far.0 - n) = omega (arith, enough) in e)) in
        (so_far.0 - n, omega (arith, so_far.1, enough), on_ok r (b1 ≡ Some (so_far.0 - n)) ok last.1))
        (cases_lt so_far.0 n);
  }

  pub counted_on : IsCounted (j + n) b0 b1 r
  counted_on = record {
    stops = λ k is few. let so_far = passed.each k is in counted.stops so_far.0 so_far.2 (omega (arith, so_far.1, few));
    counts = λ k is.
        let so_far = passed.each (j + n + k) is in
        counted.counts k (so_far.2 ∙ ap (λ (m : ℕ). Some m) (let e : so_far.0 ≡ n + k = omega (arith, so_far.1) in e));
  }

  pub counted_off : (calls : ℕ) → j + n ≤ calls → IsErr r → IsCounted calls b0 b1 r
  counted_off calls le err = record {
    stops = λ k is few. err;
    counts = λ k is.
        let so_far = passed.each (calls + k) is in
        let last = counted.counts (calls + k - j - n) (so_far.2 ∙ ap (λ (m : ℕ). Some m) (let e : so_far.0 ≡ n + (calls + k - j - n) = omega (arith, so_far.1, le) in e)) in
        (last.0, never r (b1 ≡ Some k) err);
  }

pub counted_put : {T : Type 0} (before now : Option ℕ) (tells : Type 0) (tmp : List ℕ) (result : Result T DiskFail) (v0 v1 : View)
    → PutCut before now tells tmp result v0 v1 → IsCounted 3 before now result
counted_put before now tells tmp result v0 v1 cut = record { stops = λ k left lt. (cut.stops k left lt).0; counts = cut.counts }

pub counted_one : {T : Type 0} (before now : Option ℕ) (tells : Type 0) (result : Result T DiskFail) (v0 v1 : View) → OneCut before now tells result v0 v1 → IsCounted 1 before now result
counted_one before now tells result v0 v1 cut = record { stops = λ k left lt. (cut.stops (left ∙ ap (λ (n : ℕ). Some n) (let e : k ≡ 0 = omega (arith, lt) in e))).0; counts = cut.counts }

pub counted_as : {T : Type 0} (calls : ℕ) (b0 b1 : Option ℕ) (r outer : Result T DiskFail) → outer ≡ r → IsCounted calls b0 b1 r → IsCounted calls b0 b1 outer
counted_as {T} calls b0 b1 r outer same is = subst (λ (x : Result T DiskFail). IsCounted calls b0 b1 x) (sym same) is
