-- How the records of segments that aren't accepted are removed.
use Rattle.std.proofs.Common.{inl, inr, ⊎_elim, ◌⊎◌, ◌≡◌, ◌≢◌, ℕ, ◌+◌, ◌^◌, ◌<◌, ◌≤◌, List, ◌++◌, length, Bool, true, false, refl, sym, ◌∙◌, ap, subst, arith}
use Rattle.std.specs.Prelude.{Option, Some, None, IsSome, Result, Ok, Err, IsOk, slice_index_or, codes}
use Rattle.std.specs.Ordering.{nat_cmp}
use Rattle.std.specs.declared.cmp.Ordering.TheVariants.{Less}
use Rattle.std.specs.Cmp.Lexicographic.{slice_cmp}
use Rattle.std.proofs.lemmas.Bool.{cases_eq, cases_lt}
use Rattle.base_disk.specs.Files.{Files, ChangesOnly, IsGone}
use Rattle.base_disk.specs.View.{View, IsSound}
use Rattle.base_disk.specs.Calls.{Keeps, Lists, Atomic, Happens}
use Rattle.base_disk.specs.Runs.{Quiet, quiet_start, quiet_call, quiet_keeps}
use Rattle.base_disk.specs.declared.disk.DiskFail.{DiskFail}
use Rattle.journal_core.specs.declared.segment.Segment.{Segment}
use Rattle.journal_core.specs.declared.segment_info.SegmentInfo.{SegmentInfo}
use Rattle.journal_core.specs.Segments.{find_segment}
use Rattle.disk_segment.specs.Names.{InProgress, Final, Record, UnderWay, Fresh, name_of, kind_of}
use Rattle.disk_segment.specs.Stands.{IsRecordFile, StandsFor}
use Rattle.disk_segment.specs.Effects.{IsTidy}
use Rattle.disk_opening.specs.Opening.{SegmentsStable, Repairs, IsBadRecordFile, IsRepaired}
use Rattle.disk_segment.specs.Rows.{find_row}
use Rattle.disk_segment.specs.declared.segment_row.SegmentRow.{SegmentRow}
use Rattle.disk_segment.specs.RowsTell.{OnlyAccepted}
use Rattle.disk_opening.specs.Opened.{AreOpened}
use Rattle.disk_opening.specs.OpenSteps.{IsFree, IsIdle, RemovesIdle, AreRead}
use Rattle.disk_segment.proofs.EffectLaws.{none_is_not}
use Rattle.disk_segment.proofs.HeldOnce.{found_once}
use Rattle.disk_opening.proofs.NameOrder.{nth_is, sorted_at, not_less_itself}
use Rattle.disk_segment.proofs.NamesLemmas.{front_in, front_is}
use Rattle.disk_opening.proofs.OpenLemmas.{NotAccepted, record_gone_stands}
use Rattle.disk_opening.proofs.RecordOrNot.{same_or_not}
use Rattle.disk_segment.proofs.RowsOf.{IsFoundRow, find_rows, rows_stay}
use Rattle.disk_segment.proofs.Single.{tidy_left}
use Rattle.disk_opening.proofs.StableLaws.{stable_stands, stable_ready}
use Rattle.disk_opening.proofs.MendLemmas.{keeps_stable, gone_stable}

-- ## Files of which some records are gone
pub record IsLess (rows : List SegmentRow) (old new : Files) : Type 0 where
  pub each : (name : List ℕ) → (new name ≡ old name) ⊎ (IsIdle rows name × (new name ≡ None))

pub less_same : (rows : List SegmentRow) (files : Files) → IsLess rows files files
less_same rows files = record { each = λ name. inl refl }

module _ (rows : List SegmentRow) (old new : Files) (less : IsLess rows old new) where
  still_none : (name : List ℕ) → old name ≡ None → new name ≡ None
  still_none name none = ⊎_elim (λ same. same ∙ none) (λ gone. gone.1) (less.each name)

  was_there : (name : List ℕ) → IsSome (new name) → new name ≡ old name
  was_there name there = ⊎_elim (λ same. same) (λ gone. absurd (none_is_not (new name) gone.1 there)) (less.each name)

  less_tidy : IsTidy old → IsTidy new
  less_tidy tidy = record {
    none_under_way = λ start epoch first small ok. still_none (name_of start (UnderWay epoch)) (tidy.none_under_way start epoch first small ok);
    not_both = λ start last first small ok there.
        still_none (name_of start InProgress) (tidy.not_both start last first small ok (subst IsSome (was_there (name_of start (Final last)) there) there));
  }

  no_bad_record : ((name : List ℕ) → IsBadRecordFile old name → ⊥) → (name : List ℕ) → IsBadRecordFile new name → ⊥
  no_bad_record none name bad = elim (less.each name) [
    | inl same ↦ none name record { start = bad.start; first = bad.first; small = bad.small; named = bad.named; bad = λ is. bad.bad (subst IsRecordFile (sym same) is) }
    | inr gone ↦ bad.bad (inl gone.1)
  ]

  pub less_repaired : IsRepaired old → IsRepaired new
  less_repaired is = record {
    tidy = less_tidy is.tidy;
    none_fresh = λ start first small. still_none (name_of start Fresh) (is.none_fresh start first small);
    none_temporary = λ front. still_none (front ++ codes ".tmp") (is.none_temporary front);
    records = no_bad_record is.records;
  }

  -- the files of the segments themselves stay
  pub own_files_stay : (start end : ℕ) (is_final : Bool) → new (name_of start (kind_of end is_final)) ≡ old (name_of start (kind_of end is_final))
  own_files_stay start end is_final = ⊎_elim (λ same. same) (λ gone. absurd (no_record start gone.0.start end is_final gone.0.named.spelled)) (less.each (name_of start (kind_of end is_final)))
    where
      no_record : (start other end : ℕ) (b : Bool) → name_of start (kind_of end b) ≡ name_of other Record → ⊥
      no_record start other end true same = let p = sym (front_is start (Final end)) ∙ ap front_in same ∙ front_is other Record in absurd (cc)
      no_record start other end false same = let p = sym (front_is start InProgress) ∙ ap front_in same ∙ front_is other Record in absurd (cc)

-- ## Which records may go
free_told : (seen : Files) (o : Option Segment) (p : Option SegmentRow) → IsFoundRow seen o p → IsFree p → NotAccepted o
free_told seen None p found free = tt
free_told seen (Some g) None found free = absurd found
free_told seen (Some g) (Some row) found free = λ open_. sym (ap (λ (i : SegmentInfo). i.accepted) found.info) ∙ free

-- a record that stays belongs to an accepted segment
taken_told : (seen : Files) (o : Option Segment) (p : Option SegmentRow) → IsFoundRow seen o p → (IsFree p → ⊥) → (g : Segment) × (o ≡ Some g) × (g.accepted ≡ true)
taken_told seen o None found taken = absurd (taken tt)
taken_told seen None (Some row) found taken = absurd found
taken_told seen (Some g) (Some row) found taken = (g, refl, sym (ap (λ (i : SegmentInfo). i.accepted) found.info) ∙ by row.info.accepted refl)
  where
    by : (b : Bool) → row.info.accepted ≡ b → row.info.accepted ≡ true
    by true is = is
    by false is = absurd (taken is)

-- ## One name
module _ (rows : List SegmentRow) (name : List ℕ) {T : Type 0} (r : Result T DiskFail) (v v1 : View) (does : RemovesIdle rows name r v v1) where
  pub step_less : (old : Files) → IsLess rows old v.seen → IsLess rows old v1.seen
  step_less old less = by does.either
    where
      kept : v1.seen ≡ v.seen → IsLess rows old v1.seen
      kept same = subst (λ (files : Files). IsLess rows old files) (sym same) less

      happened : IsIdle rows name → Happens (ChangesOnly name IsGone) v v1 → IsLess rows old v1.seen
      happened idle h = record {
        each = λ n. elim (same_or_not n name) [
          | inl same ↦ inr (subst (λ (m : List ℕ). IsIdle rows m) (sym same) idle, ap v1.seen same ∙ h.seen.here)
          | inr other ↦ ⊎_elim (λ was. inl (h.seen.others n other ∙ was)) (λ gone. inr (gone.0, h.seen.others n other ∙ gone.1)) (less.each n)
        ];
      }

      by : (IsIdle rows name × Atomic (ChangesOnly name IsGone) r v v1) ⊎ ((IsIdle rows name → ⊥) × Keeps v v1) → IsLess rows old v1.seen
      by (inl idle) = ⊎_elim (λ h. happened idle.0 h) (λ k. kept k.seen) idle.1.failed
      by (inr other) = kept other.1.seen

  pub step_stable : SegmentsStable v → SegmentsStable v1
  step_stable stable = by does.either
    where
      by : (IsIdle rows name × Atomic (ChangesOnly name IsGone) r v v1) ⊎ ((IsIdle rows name → ⊥) × Keeps v v1) → SegmentsStable v1
      by (inl idle) = ⊎_elim (λ h. gone_stable v v1 name h stable) (λ k. keeps_stable v v1 k stable) idle.1.failed
      by (inr other) = keeps_stable v v1 other.1 stable

  module _ (v0 : View) (sound0 : IsSound v0) (sound : IsSound v) (stable : SegmentsStable v) (tidy : IsTidy v.seen) (read : AreRead v0.seen rows) (quiet : Quiet Repairs v0 v) where
    -- the segments of an outcome of a crash are those that were read
    not_accepted : (e : Files) → v.may_leave e → (gs : List Segment) → StandsFor e gs → (start : ℕ) → 1 ≤ start → start ≤ 2 ^ 62 → IsFree (find_row start rows) → NotAccepted (find_segment start gs)
    not_accepted e left gs stands start first small free =
        let also : StandsFor e read.segments = stable_stands v stable read.segments (quiet.seen.segments read.segments read.stands) e left in
        subst NotAccepted (sym (found_once e gs read.segments stands also start first small))
        (free_told v0.seen (find_segment start read.segments) (find_row start rows) (find_rows v0.seen start read.segments rows read.told) free)

    removal : IsIdle rows name → (d e c : Files) → v0.may_leave d → v.may_leave e → Repairs d e → ChangesOnly name IsGone e c → Repairs d c
    removal idle d e c was left repairs change = record {
      segments = λ gs stands.
          let mid : StandsFor e gs = repairs.segments gs stands in
          record_gone_stands idle.start idle.named.small e c gs mid (subst (λ (n : List ℕ). ChangesOnly n IsGone e c) idle.named.spelled change)
          (λ epoch ok. (tidy_left v e sound tidy left).none_under_way idle.start epoch idle.named.first idle.named.small ok)
          (not_accepted e left gs mid idle.start idle.named.first idle.named.small idle.free);
      others = λ n other lasting. change.others n (λ same. other idle.start Record (sym (same ∙ idle.named.spelled))) ∙ repairs.others n other lasting;
    }

    pub step_quiet : Quiet Repairs v0 v1
    step_quiet = by does.either
      where
        kept : Keeps v v1 → Quiet Repairs v0 v1
        kept keeps = quiet_keeps Repairs v0 v v1 quiet keeps

        happened : IsIdle rows name → Atomic (ChangesOnly name IsGone) r v v1 → Happens (ChangesOnly name IsGone) v v1 → Quiet Repairs v0 v1
        happened idle atomic h = quiet_call Repairs v0 v v1 (ChangesOnly name IsGone) sound0 sound quiet atomic.time h.crash h.seen (removal idle)

        by : (IsIdle rows name × Atomic (ChangesOnly name IsGone) r v v1) ⊎ ((IsIdle rows name → ⊥) × Keeps v v1) → Quiet Repairs v0 v1
        by (inl idle) = ⊎_elim (λ h. happened idle.0 idle.1 h) (λ k. kept k) idle.1.failed
        by (inr other) = kept other.1

  -- another name stays, and one that is done with is gone
  pub step_others : (n : List ℕ) → n ≢ name → v1.seen n ≡ v.seen n
  step_others n ne = by does.either
    where
      by : (IsIdle rows name × Atomic (ChangesOnly name IsGone) r v v1) ⊎ ((IsIdle rows name → ⊥) × Keeps v v1) → v1.seen n ≡ v.seen n
      by (inl idle) = ⊎_elim (λ h. h.seen.others n ne) (λ k. ap (λ (files : Files). files n) k.seen) idle.1.failed
      by (inr other) = ap (λ (files : Files). files n) other.1.seen

  pub step_done : IsOk r → IsIdle rows name → v1.seen name ≡ None
  step_done ok idle = by does.either
    where
      done : (r : Result T DiskFail) → IsOk r → Atomic (ChangesOnly name IsGone) r v v1 → v1.seen name ≡ None
      done (Ok x) ok atomic = atomic.done.seen.here
      done (Err e) ok atomic = absurd (cc)

      by : (IsIdle rows name × Atomic (ChangesOnly name IsGone) r v v1) ⊎ ((IsIdle rows name → ⊥) × Keeps v v1) → v1.seen name ≡ None
      by (inl gone) = done r ok gone.1
      by (inr other) = absurd (other.0 idle)

pub repairs_nothing : (v : View) → IsSound v → Quiet Repairs v v
repairs_nothing v sound = quiet_start Repairs v sound (λ c left. record { segments = λ gs stands. stands; others = λ n other lasting. refl })

-- ## All names
-- of the first i names, each such record is gone
pub record IsRemovedTo (rows : List SegmentRow) (old new : Files) (names : List (List ℕ)) (i : ℕ) : Type 0 where
  pub less : IsLess rows old new
  pub gone : (j : ℕ) (name : List ℕ) → j < i → j < length names → slice_index_or names j name ≡ name → IsIdle rows name → new name ≡ None
  pub rest : (j : ℕ) (name : List ℕ) → i ≤ j → j < length names → slice_index_or names j name ≡ name → new name ≡ old name

pub nothing_removed : (rows : List SegmentRow) (files : Files) (names : List (List ℕ)) → IsRemovedTo rows files files names 0
nothing_removed rows files names = record {
  less = less_same rows files;
  gone = λ j name lt within at idle. absurd (omega (arith, lt));
  rest = λ j name le within at. refl;
}

module _ (rows : List SegmentRow) (old : Files) (names : List (List ℕ)) (lists : Lists names old) (i : ℕ) where
  module _ (within : i < length names) (name : List ℕ) (at : slice_index_or names i name ≡ name) where
    other_name : (j : ℕ) (n : List ℕ) → j ≢ i → j < length names → slice_index_or names j n ≡ n → n ≢ name
    other_name j n ne inside at_j same = elim (cases_lt j i) [
      | inl lt ↦ not_less_itself name (subst (λ (m : List ℕ). slice_cmp nat_cmp m name ≡ Less) same (sorted_at names j i n name lists.sorted lt within at_j at))
      | inr le ↦ not_less_itself name (subst (λ (m : List ℕ). slice_cmp nat_cmp name m ≡ Less) same (sorted_at names i j name n lists.sorted (omega (arith, le, ne)) inside at at_j))
    ]

    pub removed_more : {T : Type 0} (r : Result T DiskFail) (v v1 : View) → IsRemovedTo rows old v.seen names i → RemovesIdle rows name r v v1 → IsOk r → IsRemovedTo rows old v1.seen names (i + 1)
    removed_more r v v1 so_far does ok = record {
      less = step_less rows name r v v1 does old so_far.less;
      gone = λ j n lt inside at_j idle. elim (cases_eq j i) [
        | inl same ↦
            let named : n ≡ name = nth_is names i n name within (subst (λ (k : ℕ). slice_index_or names k n ≡ n) same at_j) at in
            ap v1.seen named ∙ step_done rows name r v v1 does ok (subst (λ (m : List ℕ). IsIdle rows m) named idle)
        | inr ne ↦ step_others rows name r v v1 does n (other_name j n ne inside at_j) ∙ so_far.gone j n (omega (arith, lt, ne)) inside at_j idle
      ];
      rest = λ j n le inside at_j. step_others rows name r v v1 does n (other_name j n (λ same. omega (arith, le, same)) inside at_j) ∙ so_far.rest j n (omega (arith, le)) inside at_j;
    }

    pub next_there : (new : Files) → IsRemovedTo rows old new names i → IsSome (new name)
    next_there new so_far = subst IsSome (sym (so_far.rest i name (omega arith) within at)) (lists.there name (i, within, at))

  module _ (all : length names ≤ i) (v : View) (so_far : IsRemovedTo rows old v.seen names i) (read : AreRead old rows) where
    only_accepted : OnlyAccepted v.seen read.segments
    only_accepted = record {
      accepted = λ start first small there.
          let is_same : v.seen (name_of start Record) ≡ old (name_of start Record) =
          ⊎_elim (λ same. same) (λ gone. absurd (none_is_not (v.seen (name_of start Record)) gone.1 there))
          (so_far.less.each (name_of start Record)) in
          let place = lists.all (name_of start Record) (subst IsSome is_same there) in
          taken_told old (find_segment start read.segments) (find_row start rows) (find_rows old start read.segments rows read.told)
          (λ free. none_is_not (v.seen (name_of start Record)) (so_far.gone place.0 (name_of start Record) (omega (arith, place.1, all)) place.1 place.2
          record { start = start; named = record { first = first; small = small; valid = tt; spelled = refl }; free = free }) there);
    }

    pub all_opened : SegmentsStable v → IsTidy v.seen → StandsFor v.seen read.segments → AreOpened old v rows
    all_opened stable tidy stands = record {
      segments = read.segments;
      sound = read.sound;
      starts = read.starts;
      stands = read.stands;
      ready = stable_ready v stable read.segments tidy stands;
      told = rows_stay old v.seen (own_files_stay rows old v.seen so_far.less) read.segments rows read.told;
      records = only_accepted;
    }
