-- From what calls do to files to what they make of the segments.
use Rattle.std.proofs.Common.{inl, inr, ⊎_elim, ◌⊎◌, ◌≡◌, ◌≢◌, ℕ, List, ap, sym, ◌∙◌, subst, arith, ◌^◌, ◌≤◌, ◌<◌, ◌+◌, ◌-◌, Bool, false}
use Rattle.std.specs.Prelude.{Option, Some, None, IsSome, Result, nat_le, if◌then◌else◌}
use Rattle.std.proofs.lemmas.Bool.{cases_eq, cases_lt}
use Rattle.std.proofs.lemmas.Bool.Decides.{nat_tests}
use Rattle.std.proofs.lemmas.Result.{on_ok_weaker}
use Rattle.base_disk.specs.Files.{Files}
use Rattle.base_disk.specs.View.{View, IsSound, LeavesOnly, IsStable}
use Rattle.base_disk.specs.Calls.{Effect, Happens}
use Rattle.base_disk.specs.Runs.{weaker}
use Rattle.base_disk.specs.declared.disk.DiskFail.{DiskFail}
use Rattle.base_files.specs.Puts.{Disturbs, PutCut}
use Rattle.journal_core.specs.declared.segment.Segment.{Segment}
use Rattle.journal_core.specs.declared.cut.Cut.{Cut}
use Rattle.journal_core.specs.Cuts.{Cost}
use Rattle.disk_segment.specs.Names.{Kind, InProgress, Final, UnderWay, name_of, IsKind}
use Rattle.disk_segment.specs.Stands.{StandsFor}
use Rattle.disk_segment.specs.Effects.{IsTidy, IsOutside, OnlyOf, Touches, Becomes, IsCut}
use Rattle.disk_segment.proofs.Frame.{apart}

module _ (noise deed : Files → Files → Type 0) {T E : Type 0} (result : Result T E) (v0 v1 : View) (effect : Effect noise deed result v0 v1) where
  pub becomes : (before after : List Segment) → ((d c : Files) → v0.may_leave d → noise d c → StandsFor c before) → ((d c : Files) → v0.may_leave d → deed d c → StandsFor c after)
      → (deed v0.seen v1.seen → IsTidy v1.seen) → Becomes before after result v0 v1
  becomes before after quiet done tidy = record {
    any_moment = weaker v0 v1 (λ c. (d : Files) × v0.may_leave d × (noise d c ⊎ deed d c)) (λ c. StandsFor c before ⊎ StandsFor c after)
        (λ c from. ⊎_elim (λ n. inl (quiet from.0 c from.1 n)) (λ s. inr (done from.0 c from.1 s)) from.2) effect.any_moment;
    done = on_ok_weaker result (λ (h : Happens deed v0 v1). record { stands = λ c now. let from = h.crash c now in done from.0 c from.1 from.2; tidy = tidy h.seen }) effect.done;
  }

  pub touches : (start : ℕ) (kinds : List Kind) → IsSound v1 → ((d c : Files) → noise d c → OnlyOf start kinds d c) → ((d c : Files) → deed d c → OnlyOf start kinds d c) → Touches start kinds v0 v1
  touches start kinds sound quiet done = record { any_moment = moments; seen = seen; stable = stable }
    where
      moments : LeavesOnly v0 v1 (λ c. (d : Files) × v0.may_leave d × OnlyOf start kinds d c)
      moments = weaker v0 v1 (λ c. (d : Files) × v0.may_leave d × (noise d c ⊎ deed d c)) (λ c. (d : Files) × v0.may_leave d × OnlyOf start kinds d c)
          (λ c from. (from.0, from.1, ⊎_elim (λ n. quiet from.0 c n) (λ s. done from.0 c s) from.2)) effect.any_moment

      seen : OnlyOf start kinds v0.seen v1.seen
      seen = ⊎_elim (λ n. quiet v0.seen v1.seen n) (λ s. done v0.seen v1.seen s) effect.failed

      stable : (name : List ℕ) → IsOutside start kinds name → IsStable name v0 → IsStable name v1
      stable name outside was c now =
          let from = moments.each c (sound.counts_now v0.moment c moments.later now) in
          from.2.others name outside ∙ was from.0 from.1 ∙ sym (seen.others name outside)

-- a deed, with a fact that doesn't depend on files
pub effect_by : {T E : Type 0} (noise deed more : Files → Files → Type 0) (result : Result T E) (v0 v1 : View) → ((d c : Files) → deed d c → more d c)
    → Effect noise deed result v0 v1 → Effect noise more result v0 v1
effect_by noise deed more result v0 v1 by effect = record {
  any_moment = weaker v0 v1 (λ c. (d : Files) × v0.may_leave d × (noise d c ⊎ deed d c)) (λ c. (d : Files) × v0.may_leave d × (noise d c ⊎ more d c))
      (λ c from. (from.0, from.1, ⊎_elim (λ n. inl n) (λ s. inr (by from.0 c s)) from.2)) effect.any_moment;
  done = on_ok_weaker result (λ (h : Happens deed v0 v1). record { seen = by v0.seen v1.seen h.seen; crash = λ c now. let from = h.crash c now in (from.0, from.1, by from.0 c from.2) }) effect.done;
  failed = ⊎_elim (λ n. inl n) (λ s. inr (by v0.seen v1.seen s)) effect.failed;
}

-- what a call that changes two files of a start leaves tidy
module _ (start : ℕ) (d c : Files) (small : start ≤ 2 ^ 62) (tidy : IsTidy d) (j k : Kind) (others : (m : List ℕ) → m ≢ name_of start j → m ≢ name_of start k → c m ≡ d m) where
  elsewhere : (other : ℕ) (n : Kind) → other ≢ start → other ≤ 2 ^ 62 → c (name_of other n) ≡ d (name_of other n)
  elsewhere other n ne small_other = others (name_of other n) (apart start other j n small small_other ne) (apart start other k n small small_other ne)

  pub tidy_by : ((epoch : ℕ) → IsKind start (UnderWay epoch) → c (name_of start (UnderWay epoch)) ≡ None)
      → ((last : ℕ) → IsKind start (Final last) → IsSome (c (name_of start (Final last))) → c (name_of start InProgress) ≡ None) → IsTidy c
  tidy_by none both = record {
    none_under_way = λ other epoch first_other small_other ok. elim (cases_eq other start) [
      | inl is ↦ subst (λ (m : ℕ). c (name_of m (UnderWay epoch)) ≡ None) (sym is) (none epoch ok)
      | inr ne ↦ elsewhere other (UnderWay epoch) ne small_other ∙ tidy.none_under_way other epoch first_other small_other ok
    ];
    not_both = λ other last first_other small_other ok there. elim (cases_eq other start) [
      | inl is ↦ subst (λ (m : ℕ). c (name_of m InProgress) ≡ None) (sym is)
          (both last (let p : (start ≤ last) × (last ≤ 2 ^ 62) = (omega (arith, ok.0, is), ok.1) in p)
          (subst (λ (m : ℕ). IsSome (c (name_of m (Final last)))) is there))
      | inr ne ↦ elsewhere other InProgress ne small_other ∙ tidy.not_both other last first_other small_other ok (subst IsSome (elsewhere other (Final last) ne small_other) there)
    ];
  }

pub none_is_not : (x : Option (List ℕ)) → x ≡ None → IsSome x → ⊥
none_is_not None is some = absurd (cc)
none_is_not (Some y) is some = absurd (cc)

pub none_both : (start last : ℕ) (c : Files) (x : Option (List ℕ)) → c (name_of start (Final last)) ≡ None → IsSome (c (name_of start (Final last))) → x ≡ None
none_both start last c x none there = absurd (none_is_not (c (name_of start (Final last))) none there)

-- a stop before the last of three calls
pub cut_before : {T : Type 0} (decides : ℕ) (before after : List Segment) (left now : Option ℕ) (tells : Type 0) (tmp : List ℕ) (result : Result T DiskFail) (v0 v1 : View) (cost : Cut → Cost)
    → ((cut : Cut) → (cost cut).decides ≡ 3) → tells → PutCut left now tells tmp result v0 v1
    → ((d c : Files) → v0.may_leave d → Disturbs tmp d c → StandsFor c before) → IsCut cost before after left result v1
cut_before decides before after left now tells tmp result v0 v1 cost three told put quiet = record {
  stands = λ k is failed cut c chosen. elim (cases_lt k 3) [
    | inl few ↦ let from = (put.stops k is few).1 told c chosen.0 in
        subst (λ (gs : List Segment). StandsFor c gs) (below k cut few) (quiet from.0 c from.1 from.2)
    | inr enough ↦ absurd ((put.counts (k - 3) (is ∙ ap (λ (n : ℕ). Some n) (let e : k ≡ 3 + (k - 3) = omega (arith, enough) in e))).0 failed)
  ];
}
  where
    below : (k : ℕ) (cut : Cut) → k < 3 → before ≡ (if nat_le (cost cut).decides k then after else before)
    below k cut few = let no : nat_le (cost cut).decides k ≡ false = grind (arith, nat_tests, three cut) in ap (λ (b : Bool). if b then after else before) (sym no)
