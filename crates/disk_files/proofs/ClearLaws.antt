-- The record of an acceptance is removed, where there is one.
use Rattle.std.proofs.Common.{inl, inr, ⊎_elim, ◌⊎◌, ◌≡◌, ◌≢◌, ℕ, List, sym, ◌∙◌, refl, subst, arith, ◌^◌, ◌≤◌, Bool, true, false}
use Rattle.std.specs.Prelude.{Option, None, IsSome, Result}
use Rattle.std.proofs.lemmas.Bool.{cases_eq}
use Rattle.std.proofs.lemmas.Result.{on_ok_weaker}
use Rattle.base_disk.specs.Files.{Files, ChangesOnly, IsGone}
use Rattle.base_disk.specs.View.{View}
use Rattle.base_disk.specs.Calls.{Atomic, Happens, Keeps}
use Rattle.base_disk.specs.declared.disk.DiskFail.{DiskFail}
use Rattle.base_files.specs.Records.{paxos_name}
use Rattle.base_files.specs.Puts.{OneCut}
use Rattle.disk_segment.specs.Names.{Kind, record_, InProgress, Record, FreshRecord, front_of, name_of}
use Rattle.disk_segment.specs.Effects.{IsCounted}
use Rattle.disk_opening.specs.Opening.{IsOther}
use Rattle.disk_segment.proofs.Frame.{apart, kinds_apart}
use Rattle.disk_segment.proofs.AcceptLemmas.{record_name}
use Rattle.disk_segment.proofs.Counts.{counted_one}
use Rattle.disk_files.specs.EffectCalls.{MayClear, Clears, clear_calls, KeepsOthers}
use Rattle.disk_files.proofs.Names.{fronts_apart}

-- ## The call
pub there_named : (start : ℕ) (v : View) → IsSome (v.seen (name_of start Record)) → IsSome (v.seen (paxos_name start))
there_named start v there = subst (λ (name : List ℕ). IsSome (v.seen name)) (record_name start) there

removed : (start : ℕ) (result : Result (Unit {0}) DiskFail) (v0 v1 : View) → Atomic (ChangesOnly (name_of start Record) IsGone) result v0 v1 → Clears true start result v0 v1
removed start result v0 v1 atomic = record {
  seen = ⊎_elim (λ h. inr h.seen) (λ k. inl record { files = λ n i. k.seen i n }) atomic.failed;
  crash = λ c now. by c now atomic.failed;
  done = λ is. on_ok_weaker result (λ (h : Happens (ChangesOnly (name_of start Record) IsGone) v0 v1). h.seen.here) atomic.done;
  time = atomic.time;
}
  where
    by : (c : Files) → v1.may_leave c → Happens (ChangesOnly (name_of start Record) IsGone) v0 v1 ⊎ Keeps v0 v1 → (d : Files) × v0.may_leave d × MayClear start d c
    by c now (inl h) = let from = h.crash c now in (from.0, from.1, inr from.2)
    by c now (inr k) = (c, k.crash c now, inl record { files = λ n. refl })

pub removed_clears : (start : ℕ) (accepted : Bool) → accepted ≡ true → (result : Result (Unit {0}) DiskFail) (v0 v1 : View)
    → Atomic (ChangesOnly (paxos_name start) IsGone) result v0 v1 → Clears accepted start result v0 v1
removed_clears start accepted is result v0 v1 atomic = subst (λ (b : Bool). Clears b start result v0 v1) (sym is)
    (removed start result v0 v1 (subst (λ (name : List ℕ). Atomic (ChangesOnly name IsGone) result v0 v1) (sym (record_name start)) atomic))

pub removed_counts : (accepted : Bool) → accepted ≡ true → (before now : Option ℕ) (tells : Type 0) (result : Result (Unit {0}) DiskFail)
    (v0 v1 : View) → OneCut before now tells result v0 v1 → IsCounted (clear_calls accepted) before now result
removed_counts accepted is before now tells result v0 v1 cut = subst (λ (b : Bool). IsCounted (clear_calls b) before now result) (sym is) (counted_one before now tells result v0 v1 cut)

-- ## What stays
module _ (start : ℕ) (d c : Files) (change : MayClear start d c) where
  pub stays_but : (name : List ℕ) → name ≢ name_of start Record → c name ≡ d name
  stays_but name ne = by change
    where
      by : MayClear start d c → c name ≡ d name
      by (inl same) = same.files name
      by (inr gone) = gone.others name ne

  pub kind_stays : (other : ℕ) (k : Kind) → front_of k ≢ record_ → c (name_of other k) ≡ d (name_of other k)
  kind_stays other k ne = stays_but (name_of other k) (fronts_apart other start k Record ne)

  pub other_stays : (name : List ℕ) → IsOther name → c name ≡ d name
  other_stays name is = stays_but name (λ same. is start Record (sym same))

  pub other_record_stays : start ≤ 2 ^ 62 → (other : ℕ) → other ≤ 2 ^ 62 → other ≢ start → c (name_of other Record) ≡ d (name_of other Record)
  other_record_stays small other small_other ne = stays_but (name_of other Record) (apart start other Record Record small small_other ne)

  pub fresh_record_stays : start ≤ 2 ^ 62 → (other : ℕ) → other ≤ 2 ^ 62 → c (name_of other FreshRecord) ≡ d (name_of other FreshRecord)
  fresh_record_stays small other small_other = stays_but (name_of other FreshRecord) (λ same. elim (cases_eq other start) [
    | inl is ↦ kinds_apart start Record FreshRecord tt tt (λ kind. absurd (cc)) (subst (λ (m : ℕ). name_of m FreshRecord ≡ name_of start Record) is same)
    | inr ne ↦ apart start other Record FreshRecord small small_other ne same
  ])

  pub none_stays_none : d (name_of start Record) ≡ None → c (name_of start Record) ≡ None
  none_stays_none none = by change
    where
      by : MayClear start d c → c (name_of start Record) ≡ None
      by (inl same) = same.files (name_of start Record) ∙ none
      by (inr gone) = gone.here

-- frames can be appended as before
pub cleared_others : (start : ℕ) {T E : Type 0} (result : Result T E) (accepted : Bool) (v0 v1 v2 : View) → KeepsOthers start v0 v1 → Clears accepted start result v1 v2 → KeepsOthers start v0 v2
cleared_others start result accepted v0 v1 v2 one clears = record {
  appends = λ g at ne was.
      let mid = one.appends g at ne was in
      let seen : v2.seen (name_of g.start InProgress) ≡ v1.seen (name_of g.start InProgress) = kind_stays start v1.seen v2.seen clears.seen g.start InProgress (λ is. absurd (cc)) in
      record {
        bytes = mid.bytes;
        there = seen ∙ mid.there;
        edits = mid.edits;
        more = mid.more;
        stable = λ c now. let from = clears.crash c now in kind_stays start from.0 c from.2 g.start InProgress (λ is. absurd (cc)) ∙ mid.stable from.0 from.1 ∙ sym seen;
      };
  files = λ name is. other_stays start v1.seen v2.seen clears.seen name is ∙ one.files name is;
}
