-- Changes of the files of a segment that leave the segments as they are: what opening repairs, and
-- a record that no longer counts.
use Rattle.std.proofs.Common.{inl, inr, ◌⊎◌, ◌≡◌, ◌≢◌, ℕ, List, ap, sym, ◌∙◌, refl, subst, ◌^◌, ◌≤◌, Bool, false, get_or}
use Rattle.std.specs.Prelude.{Option, Some, None, IsSome}
use Rattle.base_disk.specs.Files.{Files, ChangesOnly, IsGone}
use Rattle.journal_core.specs.declared.segment.Segment.{Segment}
use Rattle.journal_core.specs.Segments.{find_segment}
use Rattle.disk_segment.specs.Names.{Kind, InProgress, Final, Record, UnderWay, Fresh, FreshRecord, name_of, IsKind}
use Rattle.disk_segment.specs.Stands.{slot_of, HasEpoch, IsRecordFile, IsAccepted, NoFinal, NoneUnderWay, CountsUnderWay, CountsPlain, Holds, StandsFor}
use Rattle.disk_segment.proofs.Frame.{stands_by, stands_same, apart, kinds_apart, no_final_same, final_same}

abbrev pub NotAccepted : Option Segment → Type 0
NotAccepted None = Unit {0}
NotAccepted (Some g) = g.is_final ≡ false → g.accepted ≡ false

module _ (start : ℕ) (small : start ≤ 2 ^ 62) (d c : Files) (gs : List Segment) (stands : StandsFor d gs) where
  -- a file in progress beside a final one is removed
  module _ (change : ChangesOnly (name_of start InProgress) IsGone d c) (last : ℕ) (ok : IsKind start (Final last)) (there : IsSome (d (name_of start (Final last)))) where
    same_here : (k : Kind) → IsKind start k → k ≢ InProgress → c (name_of start k) ≡ d (name_of start k)
    same_here k valid ne = change.others (name_of start k) (kinds_apart start InProgress k tt valid ne)

    none_is_not : (x : Option (List ℕ)) → x ≡ None → IsSome x → ⊥
    none_is_not None is some = absurd (cc)
    none_is_not (Some y) is some = absurd (cc)

    final_holds : (held : Option Segment) → Holds start (slot_of d start) held → Holds start (slot_of c start) held
    final_holds None is = absurd (none_is_not (d (name_of start (Final last))) (is.none_final.none last ok) there)
    final_holds (Some g) (inl is) = inl (final_same start (slot_of d start) (slot_of c start) (λ other valid. same_here (Final other) valid (λ same. absurd (cc))) g is)
    final_holds (Some g) (inr is) = absurd (none_is_not (d (name_of start (Final last))) (is.none_final.none last ok) there)

    pub beside_final_stands : StandsFor c gs
    beside_final_stands = stands_by start d c gs gs stands
        (λ other k ne small_other valid lasts. change.others (name_of other k) (apart start other InProgress k small small_other ne))
        (λ other ne. refl)
        (λ first. let was = stands.slots start first small in
        record { record_ = subst IsRecordFile (sym (same_here Record tt (λ same. absurd (cc)))) was.record_; holds = final_holds (find_segment start gs) was.holds })

  -- a record that no segment in progress counts by is removed
  module _ (change : ChangesOnly (name_of start Record) IsGone d c) (none : (epoch : ℕ) → IsKind start (UnderWay epoch)
      → d (name_of start (UnderWay epoch)) ≡ None) (open_ : NotAccepted (find_segment start gs)) where
    same_there : (k : Kind) → IsKind start k → k ≢ Record → c (name_of start k) ≡ d (name_of start k)
    same_there k valid ne = change.others (name_of start k) (kinds_apart start Record k tt valid ne)

    no_way : NoneUnderWay start (slot_of c start)
    no_way = record { none = λ epoch valid has. same_there (UnderWay epoch) valid (λ same. absurd (cc)) ∙ none epoch valid }

    no_epoch : (file : Option (List ℕ)) (epoch : ℕ) → file ≡ None → HasEpoch file epoch → ⊥
    no_epoch file epoch gone has = let p = sym gone ∙ has.there in absurd (cc)

    no_final : NoFinal start (slot_of d start) → NoFinal start (slot_of c start)
    no_final is = no_final_same start (slot_of d start) (slot_of c start) (λ last valid. same_there (Final last) valid (λ same. absurd (cc))) is

    gone_holds : (held : Option Segment) → NotAccepted held → Holds start (slot_of d start) held → Holds start (slot_of c start) held
    gone_holds None free is = record { none_final = no_final is.none_final; counts = record { none = no_way; there = same_there InProgress tt (λ same. absurd (cc)) ∙ is.counts.there } }
    gone_holds (Some g) free (inl is) = inl (final_same start (slot_of d start) (slot_of c start) (λ last valid. same_there (Final last) valid (λ same. absurd (cc))) g is)
    gone_holds (Some g) free (inr is) = inr record {
      start_is = is.start_is;
      final = is.final;
      none_final = no_final is.none_final;
      file = is.file;
      counts = by is.counts;
      content = is.content;
      accepted = subst (λ (b : Bool). IsAccepted (c (name_of start Record)) g.epoch b) (sym (free is.final)) (λ has. no_epoch (c (name_of start Record)) g.epoch change.here has);
    }
      where
        by : CountsUnderWay start (slot_of d start) is.file ⊎ CountsPlain start (slot_of d start) is.file → CountsUnderWay start (slot_of c start) is.file ⊎ CountsPlain start (slot_of c start) is.file
        by (inl way) = let p = sym (none way.epoch way.valid) ∙ way.there ∙ is.content.there in absurd (cc)
        by (inr own) = inr record { none = no_way; there = same_there InProgress tt (λ same. absurd (cc)) ∙ own.there }

    pub record_gone_stands : StandsFor c gs
    record_gone_stands = stands_by start d c gs gs stands
        (λ other k ne small_other valid lasts. change.others (name_of other k) (apart start other Record k small small_other ne))
        (λ other ne. refl)
        (λ first. let was = stands.slots start first small in record { record_ = inl change.here; holds = gone_holds (find_segment start gs) open_ was.holds })

-- a name that begins as no file of a segment does, as the names of number files
pub record IsElsewhere (name : List ℕ) : Type 0 where
  pub no_segment : get_or name 0 0 ≢ 101
  pub no_record : get_or name 0 0 ≢ 112

pub elsewhere : (name : List ℕ) → IsElsewhere name → (start : ℕ) (kind : Kind) → name_of start kind ≢ name
unfolding name_of
elsewhere name is start InProgress same = is.no_segment (ap (λ (l : List ℕ). get_or l 0 0) (sym same))
elsewhere name is start (Final last) same = is.no_segment (ap (λ (l : List ℕ). get_or l 0 0) (sym same))
elsewhere name is start Record same = is.no_record (ap (λ (l : List ℕ). get_or l 0 0) (sym same))
elsewhere name is start (UnderWay epoch) same = is.no_segment (ap (λ (l : List ℕ). get_or l 0 0) (sym same))
elsewhere name is start Fresh same = is.no_segment (ap (λ (l : List ℕ). get_or l 0 0) (sym same))
elsewhere name is start FreshRecord same = is.no_record (ap (λ (l : List ℕ). get_or l 0 0) (sym same))
