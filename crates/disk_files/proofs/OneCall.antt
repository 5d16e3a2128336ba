-- An effect on the segments that is one call over their files: what it makes of the state that the
-- files stand for.
use Rattle.std.proofs.Common.{inl, inr, ⊎_elim, ◌⊎◌, ◌≡◌, ◌≢◌, ℕ, List, [], ap, sym, ◌∙◌, refl, subst, arith, ◌^◌, ◌≤◌, Bool, true, false}
use Rattle.std.specs.Prelude.{Option, Some, None, IsSome, Result, Ok, Err, OnOk, nat_le, if◌then◌else◌}
use Rattle.std.proofs.lemmas.Bool.{cases_eq}
use Rattle.base_disk.specs.Files.{Files}
use Rattle.base_disk.specs.View.{View, IsSound, LeavesOnly, AllLeave}
use Rattle.base_disk.specs.Runs.{weaker}
use Rattle.base_disk.specs.declared.disk.DiskFail.{DiskFail}
use Rattle.base_files.specs.Puts.{temporary}
use Rattle.base_files.specs.Records.{IsNumber}
use Rattle.journal_core.specs.declared.segment.Segment.{Segment}
use Rattle.journal_core.specs.declared.node_state.NodeState.{NodeState}
use Rattle.journal_core.specs.declared.cut.Cut.{Cut}
use Rattle.journal_core.specs.Segments.{find_segment, put_segment, remove_segment, has_edit, any_body}
use Rattle.journal_core.specs.Cuts.{Cost}
use Rattle.journal_core.proofs.SegmentLists.{find-put_same, find-put_other, find-remove_other}
use Rattle.disk_segment.specs.Names.{Kind, InProgress, Record, FreshRecord, name_of}
use Rattle.disk_segment.specs.Stands.{Holds, StandsFor, HasEpoch, IsAccepted, slot_of}
use Rattle.disk_segment.specs.Effects.{OnlyOf, Touches, Becomes, IsReady, IsCut}
use Rattle.disk_segment.specs.Calls.{HasNoEdit, HasOtherEpoch}
use Rattle.disk_files.specs.declared.node_number.NodeNumber.{NodeNumber}
use Rattle.disk_files.specs.declared.node_number.NodeNumber.TheVariants.{Promised, Writer, Committed}
use Rattle.disk_segment.specs.RowsTell.{OnlyAccepted, AreStarts}
use Rattle.disk_segment.proofs.EffectLaws.{none_is_not}
use Rattle.disk_files.specs.Durable.{number_name, number_of, HaveNumbers, StandsAs, AreFilled, HoldsState}
use Rattle.disk_files.specs.EffectCalls.{Does, IsCutAt, KeepsOthers}
use Rattle.disk_files.proofs.Names.{number_other, temporary_other, outside_all, outside_other}
use Rattle.disk_files.proofs.Lists.{starts_put, starts_remove, filled_put, filled_remove, filled_of}

-- ## Where only files of a segment change
pub numbers_same : (d c : Files) (s : NodeState) → ((n : NodeNumber) → c (number_name n) ≡ d (number_name n)) → HaveNumbers d s → HaveNumbers c s
numbers_same d c s same was = λ n. subst (λ (f : Option (List ℕ)). IsNumber f (number_of n s)) (sym (same n)) (was n)

-- the numbers don't depend on the segments
numbers_with : (c : Files) (s : NodeState) (gs : List Segment) → HaveNumbers c s → (n : NodeNumber) → IsNumber (c (number_name n)) (number_of n (record s { segments = gs }))
numbers_with c s gs was Promised = was Promised
numbers_with c s gs was Writer = was Writer
numbers_with c s gs was Committed = was Committed

pub stands_with : (c : Files) (s : NodeState) (gs : List Segment) → HaveNumbers c s → StandsFor c gs → StandsAs c (record s { segments = gs })
stands_with c s gs was stands = record { numbers = numbers_with c s gs was; segments = stands }

-- what a view is to have besides, for these segments
pub record Kept (v : View) (gs : List Segment) : Type 0 where
  pub starts : AreStarts gs
  pub filled : AreFilled gs
  pub records : OnlyAccepted v.seen gs
  pub none_fresh_record : (start : ℕ) → 1 ≤ start → start ≤ 2 ^ 62 → v.seen (name_of start FreshRecord) ≡ None

pub both_leave : (old new : View) (P Q : Files → Type 0) → LeavesOnly old new P → LeavesOnly old new Q → LeavesOnly old new (λ c. P c × Q c)
both_leave old new P Q one two = record {
  later = one.later;
  each = λ c left. (one.each c left, two.each c left);
  before = λ t c le left. ⊎_elim (λ was. inl was) (λ p. ⊎_elim (λ was. inl was) (λ q. inr (p, q)) (two.before t c le left)) (one.before t c le left);
}

pub on_ok_both : {T E : Type 0} (r : Result T E) (P Q R : Type 0) → (P → Q → R) → OnOk r P → OnOk r Q → OnOk r R
on_ok_both (Ok x) P Q R f p q = f p q
on_ok_both (Err e) P Q R f p q = tt

module _ (start : ℕ) (kinds : List Kind) (v0 v1 : View) (sound1 : IsSound v1) (touches : Touches start kinds v0 v1) where
  pub left_from : (c : Files) → v1.may_leave c → (d : Files) × v0.may_leave d × OnlyOf start kinds d c
  left_from c now = touches.any_moment.each c (sound1.counts_now v0.moment c touches.any_moment.later now)

  number_stays : (d c : Files) → OnlyOf start kinds d c → (n : NodeNumber) → c (number_name n) ≡ d (number_name n)
  number_stays d c only n = only.others (number_name n) (outside_all (number_name n) (number_other n) start kinds)

  pub numbers_now : (s : NodeState) → AllLeave v0 (λ c. HaveNumbers c s) → AllLeave v1 (λ c. HaveNumbers c s)
  numbers_now s was c now = let from = left_from c now in numbers_same from.0 c s (number_stays from.0 c from.2) (was from.0 from.1)

  pub temporary_stays : (n : NodeNumber) → v1.seen (temporary (number_name n)) ≡ v0.seen (temporary (number_name n))
  temporary_stays n = touches.seen.others (temporary (number_name n)) (outside_all (temporary (number_name n)) (temporary_other n) start kinds)

  pub keeps_others : start ≤ 2 ^ 62 → KeepsOthers start v0 v1
  keeps_others small = record {
    appends = λ g at ne was.
        let outside = outside_other start g.start InProgress small was.edits.header.start_within ne kinds in
        record {
          bytes = was.bytes;
          there = touches.seen.others (name_of g.start InProgress) outside ∙ was.there;
          edits = was.edits;
          more = was.more;
          stable = touches.stable (name_of g.start InProgress) outside was.stable;
        };
    files = λ name is. touches.seen.others name (outside_all name is start kinds);
  }

  module _ (s : NodeState) (holds : HoldsState v0 s) (after : List Segment) where
    pub moments_as : LeavesOnly v0 v1 (λ c. StandsFor c s.segments ⊎ StandsFor c after) → LeavesOnly v0 v1 (λ c. StandsAs c s ⊎ StandsAs c (record s { segments = after }))
    moments_as stands = weaker v0 v1 (λ c. (StandsFor c s.segments ⊎ StandsFor c after) × ((d : Files) × v0.may_leave d × OnlyOf start kinds d c))
        (λ c. StandsAs c s ⊎ StandsAs c (record s { segments = after }))
        (λ c both. let numbers : HaveNumbers c s = numbers_same both.1.0 c s (number_stays both.1.0 c both.1.2) (holds.numbers both.1.0 both.1.1) in
        ⊎_elim (λ was. inl record { numbers = numbers; segments = was }) (λ now. inr (stands_with c s after numbers now)) both.0)
        (both_leave v0 v1 (λ c. StandsFor c s.segments ⊎ StandsFor c after) (λ c. (d : Files) × v0.may_leave d × OnlyOf start kinds d c) stands touches.any_moment)

    pub holds_now : IsReady v1 after → Kept v1 after → HoldsState v1 (record s { segments = after })
    holds_now ready kept = record {
      numbers = λ c now. numbers_with c s after (numbers_now s holds.numbers c now);
      segments = ready;
      starts = kept.starts;
      filled = kept.filled;
      records = kept.records;
      none_temporary = λ n. temporary_stays n ∙ holds.none_temporary n;
      none_fresh_record = kept.none_fresh_record;
    }

    pub does_by : {T E : Type 0} (result : Result T E) → Becomes s.segments after result v0 v1 → OnOk result (Kept v1 after) → Does s (record s { segments = after }) result v0 v1
    does_by result becomes kept = record {
      any_moment = moments_as becomes.any_moment;
      done = on_ok_both result (IsReady v1 after) (Kept v1 after) (HoldsState v1 (record s { segments = after })) holds_now becomes.done kept;
    }

    pub cut_by : {T : Type 0} (cost : Cut → Cost) (left : Option ℕ) (result : Result T DiskFail) → IsCut cost s.segments after left result v1
        → IsCutAt cost s (record s { segments = after }) left result v1
    cut_by cost left result cut = record {
      stands = λ k is failed choice c chosen. by c (nat_le (cost choice).decides k) (numbers_now s holds.numbers c chosen.0) (cut.stands k is failed choice c chosen);
    }
      where
        by : (c : Files) (b : Bool) → HaveNumbers c s → StandsFor c (if b then after else s.segments) → StandsAs c (if b then record s { segments = after } else s)
        by c true numbers stands = stands_with c s after numbers stands
        by c false numbers stands = record { numbers = numbers; segments = stands }

-- a fact of every result
pub on_ok_always : {T E : Type 0} (r : Result T E) (P : Type 0) → P → OnOk r P
on_ok_always (Ok x) P fact = fact
on_ok_always (Err e) P fact = tt

module _ (start : ℕ) (first : 1 ≤ start) (small : start ≤ 2 ^ 62) (v0 v1 : View) (s : NodeState) (holds : HoldsState v0 s)
    (stays : (other : ℕ) → other ≤ 2 ^ 62 → other ≢ start → v1.seen (name_of other Record) ≡ v0.seen (name_of other Record))
    (fresh : (other : ℕ) → 1 ≤ other → other ≤ 2 ^ 62 → v1.seen (name_of other FreshRecord) ≡ None) where
  -- a segment is put
  pub kept_put : (g : Segment) → g.start ≡ start → (g.accepted ≡ true → has_edit g ≡ true) → (IsSome (v1.seen (name_of start Record)) → g.accepted ≡ true) → Kept v1 (put_segment g s.segments)
  kept_put g start_is fill accepted = record {
    starts = starts_put g s.segments (omega (arith, first, start_is)) (subst (λ (m : ℕ). m ≤ 2 ^ 62) (sym start_is) small) holds.starts;
    filled = filled_put g s.segments fill holds.filled;
    records = record {
      accepted = λ other first_other small_other there. elim (cases_eq other start) [
        | inl is ↦ (
          g,
          subst (λ (m : ℕ). find_segment m (put_segment g s.segments) ≡ Some g) (start_is ∙ sym is) (find-put_same g s.segments),
          accepted (subst (λ (m : ℕ). IsSome (v1.seen (name_of m Record))) is there),
        )
        | inr ne ↦ let was = holds.records.accepted other first_other small_other (subst IsSome (stays other small_other ne) there) in
            (was.0, find-put_other other g s.segments (λ same. ne (sym same ∙ start_is)) ∙ was.1, was.2)
      ];
    };
    none_fresh_record = fresh;
  }

  -- a segment is removed
  pub kept_remove : v1.seen (name_of start Record) ≡ None → Kept v1 (remove_segment start s.segments)
  kept_remove gone = record {
    starts = starts_remove start s.segments holds.starts;
    filled = filled_remove start s.segments holds.filled;
    records = record {
      accepted = λ other first_other small_other there. elim (cases_eq other start) [
        | inl is ↦ absurd (none_is_not (v1.seen (name_of start Record)) gone (subst (λ (m : ℕ). IsSome (v1.seen (name_of m Record))) is there))
        | inr ne ↦ let was = holds.records.accepted other first_other small_other (subst IsSome (stays other small_other ne) there) in
            (was.0, find-remove_other other start s.segments (λ same. ne (sym same)) ∙ was.1, was.2)
      ];
    };
    none_fresh_record = fresh;
  }

-- ## Records of acceptances
module _ (start : ℕ) (first : 1 ≤ start) (small : start ≤ 2 ^ 62) (v : View) (s : NodeState) (holds : HoldsState v s) where
  -- a record that is there is that of the segment that is found
  pub accepted_found : IsSome (v.seen (name_of start Record)) → (g : Segment) → find_segment start s.segments ≡ Some g → g.accepted ≡ true
  accepted_found there g known =
      let was = holds.records.accepted start first small there in
      let same : was.0 ≡ g = let p = sym was.1 ∙ known in cc in
      ap (λ (h : Segment). h.accepted) (sym same) ∙ was.2

  pub no_record_unless : ((g : Segment) → find_segment start s.segments ≡ Some g → g.accepted ≡ true → ⊥) → v.seen (name_of start Record) ≡ None
  no_record_unless never = by (v.seen (name_of start Record)) refl
    where
      by : (x : Option (List ℕ)) → v.seen (name_of start Record) ≡ x → v.seen (name_of start Record) ≡ None
      by None is = is
      by (Some bytes) is = let was = holds.records.accepted start first small (subst IsSome (sym is) refl) in absurd (never was.0 was.1 was.2)

  -- a segment without an edit has no record
  pub no_record : HasNoEdit (find_segment start s.segments) → v.seen (name_of start Record) ≡ None
  no_record empty = no_record_unless (λ g known accepted.
      let bodies : g.bodies ≡ [] = subst HasNoEdit known empty in
      let edit : has_edit g ≡ true = filled_of start s.segments g holds.filled known accepted in
      let p : false ≡ true = subst (λ (bs : List (List ℕ)). any_body bs ≡ true) bodies edit in absurd (cc))

  pub other_epoch : (epoch : ℕ) → IsSound v → v.seen (name_of start Record) ≡ None → HasOtherEpoch start epoch v
  other_epoch epoch sound none = λ c left has. let p = sym (sound.absent (name_of start Record) c none left) ∙ has.there in absurd (cc)

  -- the record of an accepted segment has the epoch of its header
  pub accepted_epoch : (c : Files) → v.may_leave c → (g : Segment) → find_segment start s.segments ≡ Some g → g.accepted ≡ true → HasEpoch (c (name_of start Record)) g.epoch
  accepted_epoch c left g known accepted = by (subst (λ (held : Option Segment). Holds start (slot_of c start) held) known ((holds.segments.stands c left).slots start first small).holds)
    where
      by : Holds start (slot_of c start) (Some g) → HasEpoch (c (name_of start Record)) g.epoch
      by (inl is) = let p : true ≡ false = sym accepted ∙ is.accepted in absurd (cc)
      by (inr is) = subst (λ (yes : Bool). IsAccepted (c (name_of start Record)) g.epoch yes) accepted is.accepted
