-- The files of one start where no acceptance is under way, and what each change of them makes of
-- the segments.
use Rattle.std.proofs.Common.{inl, inr, ◌⊎◌, ◌≡◌, ◌≢◌, ℕ, List, ◌++◌, sym, ◌∙◌, refl, subst, ◌^◌, ◌≤◌, true, false}
use Rattle.std.specs.Prelude.{Option, Some, None, IsSome}
use Rattle.base_disk.specs.Files.{Files}
use Rattle.base_disk.specs.View.{View, IsSound}
use Rattle.journal_core.specs.declared.segment.Segment.{Segment}
use Rattle.journal_core.specs.Segments.{find_segment, put_segment, remove_segment, IsNotFinal}
use Rattle.journal_core.proofs.SegmentLists.{find-put_same, find-remove_same}
use Rattle.disk_segment.proofs.FindLemmas.{find-put_other, find-remove_other}
use Rattle.disk_frame.specs.Segments.{IsSegmentFile}
use Rattle.disk_segment.specs.Names.{Kind, InProgress, Final, Record, UnderWay, Fresh, name_of, IsKind, IsLasting}
use Rattle.disk_segment.specs.Stands.{Slot, slot_of, IsRecordFile, IsAccepted, HoldsEdits, NoFinal, NoneUnderWay, CountsUnderWay, CountsPlain, Holds, SlotStands, StandsFor}
use Rattle.disk_segment.specs.Places.{Places}
use Rattle.disk_segment.specs.Effects.{IsTidy}
use Rattle.disk_segment.proofs.Frame.{stands_by, slot_same, apart, kinds_apart, no_final_same, accepted_same}

-- an outcome of a crash is as tidy as what is read
pub tidy_left : (v : View) (c : Files) → IsSound v → IsTidy v.seen → v.may_leave c → IsTidy c
tidy_left v c sound tidy left = record {
  none_under_way = λ start epoch first small ok. sound.absent (name_of start (UnderWay epoch)) c (tidy.none_under_way start epoch first small ok) left;
  not_both = λ start last first small ok there. sound.absent (name_of start InProgress) c
      (tidy.not_both start last first small ok (seen_there (name_of start (Final last)) there (v.seen (name_of start (Final last))) refl)) left;
}
  where
    seen_there : (name : List ℕ) → IsSome (c name) → (x : Option (List ℕ)) → v.seen name ≡ x → IsSome (v.seen name)
    seen_there name there None is = absurd (none_some (c name) (sound.absent name c is left) there)
      where
        none_some : (x : Option (List ℕ)) → x ≡ None → IsSome x → ⊥
        none_some None same some = absurd (cc)
        none_some (Some y) same some = absurd (cc)
    seen_there name there (Some y) is = subst IsSome (sym is) refl

-- a segment in progress whose content is in its own file
pub record IsPlain (start : ℕ) (slot : Slot) (g : Segment) : Type 0 where
  pub start_is : g.start ≡ start
  pub none_final : NoFinal start slot
  pub content : HoldsEdits start (slot InProgress) g
  pub accepted : IsAccepted (slot Record) g.epoch g.accepted

module _ (start : ℕ) (slot : Slot) (none : (epoch : ℕ) → IsKind start (UnderWay epoch) → slot (UnderWay epoch) ≡ None) where
  pub nothing_under_way : NoneUnderWay start slot
  nothing_under_way = record { none = λ epoch ok counts. none epoch ok }

  pub plain : (g : Segment) → Holds start slot (Some g) → g.is_final ≡ false → IsPlain start slot g
  plain g (inl is) open_ = let p : true ≡ false = sym is.final ∙ open_ in absurd (cc)
  plain g (inr is) open_ = record { start_is = is.start_is; none_final = is.none_final; content = by is.counts; accepted = is.accepted }
    where
      by : CountsUnderWay start slot is.file ⊎ CountsPlain start slot is.file → HoldsEdits start (slot InProgress) g
      by (inl way) = let p = sym (none way.epoch way.valid) ∙ way.there ∙ is.content.there in absurd (cc)
      by (inr own) = subst (λ (f : Option (List ℕ)). HoldsEdits start f g) (sym own.there) is.content

  pub none_final_of : (held : Option Segment) → Holds start slot held → IsNotFinal held → NoFinal start slot
  none_final_of None is open_ = is.none_final
  none_final_of (Some g) is open_ = (plain g is open_).none_final

pub plain_holds : (start : ℕ) (slot : Slot) (g : Segment) → NoneUnderWay start slot → IsPlain start slot g → g.is_final ≡ false → Holds start slot (Some g)
plain_holds start slot g none is open_ = inr record {
  start_is = is.start_is;
  final = open_;
  none_final = is.none_final;
  file = slot InProgress;
  counts = inr record { none = none; there = refl };
  content = is.content;
  accepted = is.accepted;
}

-- where only one kind of temporary file changes
pub temporary_stands : (start : ℕ) (t : Kind) (d c : Files) (gs : List Segment) → start ≤ 2 ^ 62 → IsKind start t → (IsLasting t → ⊥)
    → ((m : List ℕ) → m ≢ name_of start t → c m ≡ d m) → StandsFor d gs → StandsFor c gs
temporary_stands start t d c gs small ok_t passing others stands = record {
  slots = stands_by_slots.slots;
}
  where
    stands_by_slots : StandsFor c gs
    stands_by_slots = stands_by start d c gs gs stands
        (λ other k ne small_other ok lasts. others (name_of other k) (apart start other t k small small_other ne))
        (λ other ne. refl)
        (λ first. slot_same_here first)
      where
        slot_same_here : 1 ≤ start → SlotStands start (slot_of c start) (find_segment start gs)
        slot_same_here first = slot_same start (slot_of d start) (slot_of c start)
            (λ k ok lasts. others (name_of start k) (kinds_apart start t k ok_t ok (λ is. passing (subst IsLasting is lasts)))) (find_segment start gs) (stands.slots start first small)

-- the facts of an outcome before the call, for one start
pub record Before (start : ℕ) (d : Files) (gs : List Segment) : Type 0 where
  pub first : 1 ≤ start
  pub small : start ≤ 2 ^ 62
  pub tidy : IsTidy d
  pub stands : StandsFor d gs

module _ (start : ℕ) (d : Files) (gs : List Segment) (was : Before start d gs) where
  abbrev slot : Slot
  slot = slot_of d start

  pub here : SlotStands start slot (find_segment start gs)
  here = was.stands.slots start was.first was.small

  pub nothing : (epoch : ℕ) → IsKind start (UnderWay epoch) → slot (UnderWay epoch) ≡ None
  nothing epoch ok = was.tidy.none_under_way start epoch was.first was.small ok

  pub plain_here : (g : Segment) → find_segment start gs ≡ Some g → g.is_final ≡ false → IsPlain start slot g
  plain_here g known open_ = plain start slot nothing g (subst (λ (held : Option Segment). Holds start slot held) known here.holds) open_

  pub no_final_here : IsNotFinal (find_segment start gs) → NoFinal start slot
  no_final_here open_ = none_final_of start slot nothing (find_segment start gs) here.holds open_

  -- where two kinds of files of this start change
  module _ (c : Files) (j k : Kind) (ok_j : IsKind start j) (ok_k : IsKind start k) (others : (m : List ℕ) → m ≢ name_of start j → m ≢ name_of start k → c m ≡ d m) where
    outside : (other : ℕ) (n : Kind) → other ≢ start → other ≤ 2 ^ 62 → IsKind other n → IsLasting n → c (name_of other n) ≡ d (name_of other n)
    outside other n ne small_other ok lasts = others (name_of other n) (apart start other j n was.small small_other ne) (apart start other k n was.small small_other ne)

    pub same_kind_there : (n : Kind) → IsKind start n → n ≢ j → n ≢ k → c (name_of start n) ≡ d (name_of start n)
    same_kind_there n ok ne_j ne_k = others (name_of start n) (kinds_apart start j n ok_j ok ne_j) (kinds_apart start k n ok_k ok ne_k)

    pub put_stands : (g : Segment) → g.start ≡ start → SlotStands start (slot_of c start) (Some g) → StandsFor c (put_segment g gs)
    put_stands g start_is is = stands_by start d c gs (put_segment g gs) was.stands outside
        (λ other ne. find-put_other other g gs (λ same. ne (same ∙ start_is)))
        (λ first. subst (λ (held : Option Segment). SlotStands start (slot_of c start) held) (sym (subst (λ (m : ℕ). find_segment m (put_segment g gs) ≡ Some g) start_is (find-put_same g gs))) is)

    pub remove_stands : SlotStands start (slot_of c start) None → StandsFor c (remove_segment start gs)
    remove_stands is = stands_by start d c gs (remove_segment start gs) was.stands outside
        (λ other ne. find-remove_other other start gs ne)
        (λ first. subst (λ (held : Option Segment). SlotStands start (slot_of c start) held) (sym (find-remove_same start gs)) is)

    pub same_stands : SlotStands start (slot_of c start) (find_segment start gs) → StandsFor c gs
    same_stands is = stands_by start d c gs gs was.stands outside (λ other ne. refl) (λ first. is)

  -- a new content in the place of the file in progress, or of none
  module _ (c : Files) (bytes : List ℕ) (places : Places (name_of start InProgress) (name_of start Fresh) bytes d c) where
    others_there : (m : List ℕ) → m ≢ name_of start InProgress → m ≢ name_of start Fresh → c m ≡ d m
    others_there = places.others

    same_there : (n : Kind) → IsKind start n → n ≢ InProgress → n ≢ Fresh → c (name_of start n) ≡ d (name_of start n)
    same_there = same_kind_there c InProgress Fresh tt tt others_there

    pub placed_stands : (g : Segment) (whole : ℕ) → g.start ≡ start → g.is_final ≡ false → IsNotFinal (find_segment start gs)
        → ((behind : List ℕ) → IsSegmentFile (bytes ++ behind) start g.epoch g.bodies whole) → IsAccepted (d (name_of start Record)) g.epoch g.accepted → StandsFor c (put_segment g gs)
    placed_stands g whole start_is open_ was_open edits accepted = put_stands c InProgress Fresh tt tt others_there g start_is record {
      record_ = subst IsRecordFile (sym (same_there Record tt (λ is. absurd (cc)) (λ is. absurd (cc)))) here.record_;
      holds = plain_holds start (slot_of c start) g
          (nothing_under_way start (slot_of c start) (λ epoch ok. same_there (UnderWay epoch) ok (λ is. absurd (cc)) (λ is. absurd (cc)) ∙ nothing epoch ok))
          record {
            start_is = start_is;
            none_final = no_final_same start slot (slot_of c start) (λ last ok. same_there (Final last) ok (λ is. absurd (cc)) (λ is. absurd (cc))) (no_final_here was_open);
            content = record { bytes = bytes ++ places.behind; there = places.here; whole_length = whole; edits = edits places.behind };
            accepted = accepted_same (slot Record) (slot_of c start Record) g.epoch g.accepted (same_there Record tt (λ is. absurd (cc)) (λ is. absurd (cc))) accepted;
          }
          open_;
    }
