-- Which segments stand after a cut inside an acceptance.
use Rattle.std.proofs.Common.{inl, inr, ◌≡◌, ℕ, zero, suc, List, ap, sym, ◌∙◌, subst, arith, ◌<◌, ◌+◌, ◌-◌, Bool, true, false}
use Rattle.std.specs.Prelude.{Option, Some, Result, IsErrOf, nat_le, if◌then◌else◌}
use Rattle.std.proofs.lemmas.Bool.{cases_lt}
use Rattle.std.proofs.lemmas.Bool.Decides.{nat_tests}
use Rattle.base_disk.specs.Files.{Files}
use Rattle.base_disk.specs.View.{View, AllLeave}
use Rattle.base_disk.specs.declared.disk.DiskFail.{DiskFail}
use Rattle.base_disk.specs.declared.disk.DiskFail.TheVariants.{Failed}
use Rattle.base_files.specs.Puts.{Disturbs, PutCut, OneCut}
use Rattle.journal_core.specs.declared.segment.Segment.{Segment}
use Rattle.journal_core.specs.Cuts.{accept_cost}
use Rattle.disk_segment.specs.Stands.{StandsFor}
use Rattle.disk_segment.specs.Effects.{IsCounted, IsCut}
use Rattle.disk_segment.proofs.SealLemmas.{Passed}

module _ (before after : List Segment) (left : Option ℕ) {T : Type 0} (outer : Result T DiskFail) where
  early : (k : ℕ) → k < 5 → before ≡ (if nat_le 5 k then after else before)
  early k few = let no : nat_le 5 k ≡ false = grind (arith, nat_tests) in ap (λ (b : Bool). if b then after else before) (sym no)

  -- inside the two calls that write the content
  pub cut_staging : {S : Type 0} (b1 : Option ℕ) (r : Result S DiskFail) (v1 : View) → IsCounted 2 left b1 r
      → (IsErrOf outer Failed → IsErrOf r Failed) → AllLeave v1 (λ c. StandsFor c before) → IsCut (λ _. accept_cost false) before after left outer v1
  cut_staging b1 r v1 counted carry stands = record {
    stands = λ k is failed cut c chosen. elim (cases_lt k 5) [
      | inl few ↦ subst (λ (gs : List Segment). StandsFor c gs) (early k few) (stands c chosen.0)
      | inr enough ↦ absurd ((counted.counts (k - 2) (is ∙ ap (λ (n : ℕ). Some n) (let e : k ≡ 2 + (k - 2) = omega (arith, enough) in e))).0 (carry failed))
    ];
  }

  -- inside the three that put the record
  pub cut_putting : {S : Type 0} (b1 b2 : Option ℕ) (tells : Type 0) (tmp : List ℕ) (r : Result S DiskFail) (v1 v2 : View) → tells → Passed 2 left b1
      → PutCut b1 b2 tells tmp r v1 v2 → (IsErrOf outer Failed → IsErrOf r Failed)
      → ((d c : Files) → v1.may_leave d → Disturbs tmp d c → StandsFor c before) → IsCut (λ _. accept_cost false) before after left outer v2
  cut_putting b1 b2 tells tmp r v1 v2 told passed put carry quiet = record {
    stands = λ k is failed cut c chosen.
        let so_far = passed.each k is in
        elim (cases_lt so_far.0 3) [
          | inl few ↦ let from = (put.stops so_far.0 so_far.2 few).1 told c chosen.0 in
              subst (λ (gs : List Segment). StandsFor c gs) (early k (omega (arith, so_far.1, few))) (quiet from.0 c from.1 from.2)
          | inr enough ↦ absurd ((put.counts (so_far.0 - 3) (so_far.2 ∙ ap (λ (n : ℕ). Some n) (let e : so_far.0 ≡ 3 + (so_far.0 - 3) = omega (arith, enough) in e))).0 (carry failed))
        ];
  }

  -- before the last one
  pub cut_settling : (b2 b3 : Option ℕ) (tells : Type 0) (v2 v3 : View) → tells → Passed 5 left b2 → OneCut b2 b3 tells outer v2 v3
      → AllLeave v2 (λ c. StandsFor c after) → IsCut (λ _. accept_cost false) before after left outer v3
  cut_settling b2 b3 tells v2 v3 told passed one stands = record { stands = λ k is failed cut c chosen. let so_far = passed.each k is in by k so_far.0 so_far.1 so_far.2 failed c chosen.0 }
    where
      by : (k m : ℕ) → k ≡ 5 + m → b2 ≡ Some m → IsErrOf outer Failed → (c : Files) → v3.may_leave c → StandsFor c (if nat_le 5 k then after else before)
      by k zero is_five is failed c now =
          let yes : nat_le 5 k ≡ true = grind (arith, nat_tests) in
          subst (λ (gs : List Segment). StandsFor c gs) (ap (λ (b : Bool). if b then after else before) (sym yes)) (stands c ((one.stops is).1 told c now))
      by k (suc m) is_more is failed c now = absurd ((one.counts m (is ∙ ap (λ (n : ℕ). Some n) (let e : suc m ≡ 1 + m = omega arith in e))).0 failed)
