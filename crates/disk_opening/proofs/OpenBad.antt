-- Files of which one is bad stand for no segments.
use Rattle.std.proofs.Common.{inl, inr, ◌⊎◌, ℕ, ◌^◌, ◌≤◌, List, refl, sym, ◌∙◌, ap, subst, arith}
use Rattle.std.specs.Prelude.{Option, Some, None, IsSome}
use Rattle.std.proofs.lemmas.Bool.{cases_eq}
use Rattle.base_disk.specs.Files.{Files}
use Rattle.journal_core.specs.declared.segment.Segment.{Segment}
use Rattle.journal_core.specs.Segments.{find_segment}
use Rattle.disk_segment.specs.Names.{Kind, InProgress, Final, Record, UnderWay, Fresh, FreshRecord, name_of, IsKind}
use Rattle.disk_segment.specs.Stands.{slot_of, CountsUnderWay, CountsPlain, IsRecordFile, IsFinalOf, IsProgressOf, Holds, StandsFor}
use Rattle.disk_segment.specs.Effects.{IsTidy}
use Rattle.disk_opening.specs.Opening.{IsBadRecordFile}
use Rattle.disk_opening.specs.Opened.{IsGoodFile, HoldsSegment, IsBadSegmentFile}
use Rattle.disk_segment.proofs.EffectLaws.{none_is_not}

pub bad_record_stands : (seen : Files) (name : List ℕ) → IsBadRecordFile seen name → (gs : List Segment) → StandsFor seen gs → ⊥
bad_record_stands seen name is gs stands = is.bad (subst (λ (n : List ℕ). IsRecordFile (seen n)) (sym is.named) (stands.slots is.start is.first is.small).record_)

module _ (seen : Files) (tidy : IsTidy seen) (start : ℕ) (first : 1 ≤ start) (small : start ≤ 2 ^ 62) where
  bad_final : (last : ℕ) → IsKind start (Final last) → IsSome (seen (name_of start (Final last))) → (IsGoodFile seen start (Final last) → ⊥)
      → (g : Segment) → IsFinalOf start (slot_of seen start) g → ⊥
  bad_final last ok there bad g is = elim (cases_eq last is.last) [
    | inl same ↦ bad record {
      bytes = is.content.bytes;
      there = ap (λ (n : ℕ). seen (name_of start (Final n))) same ∙ is.content.there;
      epoch = g.epoch;
      bodies = g.bodies;
      whole_length = is.content.whole_length;
      edits = is.content.edits;
      ends = omega (arith, same, is.ends);
      alone = λ other valid less. is.alone other valid (λ e. omega (arith, e, same, less));
    }
    | inr ne ↦ none_is_not (seen (name_of start (Final last))) (is.alone last ok ne) there
  ]

  bad_progress : (IsGoodFile seen start InProgress → ⊥) → (g : Segment) → IsProgressOf start (slot_of seen start) g → ⊥
  bad_progress bad g is = by is.counts
    where
      by : CountsUnderWay start (slot_of seen start) is.file ⊎ CountsPlain start (slot_of seen start) is.file → ⊥
      by (inl way) = let p = sym (tidy.none_under_way start way.epoch first small way.valid) ∙ way.there ∙ is.content.there in absurd (cc)
      by (inr own) = bad record {
        bytes = is.content.bytes;
        there = own.there ∙ is.content.there;
        epoch = g.epoch;
        bodies = g.bodies;
        whole_length = is.content.whole_length;
        edits = is.content.edits;
        ends = tt;
        alone = tt;
      }

  bad_here : (kind : Kind) → HoldsSegment kind → IsKind start kind → IsSome (seen (name_of start kind)) → (IsGoodFile seen start kind → ⊥)
      → (held : Option Segment) → Holds start (slot_of seen start) held → ⊥
  bad_here InProgress holds ok there bad None is = none_is_not (seen (name_of start InProgress)) is.counts.there there
  bad_here InProgress holds ok there bad (Some g) (inl is) =
      none_is_not (seen (name_of start InProgress)) (tidy.not_both start is.last first small is.valid (subst IsSome (sym is.content.there) refl)) there
  bad_here InProgress holds ok there bad (Some g) (inr is) = bad_progress bad g is
  bad_here (Final last) holds ok there bad None is = none_is_not (seen (name_of start (Final last))) (is.none_final.none last ok) there
  bad_here (Final last) holds ok there bad (Some g) (inl is) = bad_final last ok there bad g is
  bad_here (Final last) holds ok there bad (Some g) (inr is) = none_is_not (seen (name_of start (Final last))) (is.none_final.none last ok) there
  bad_here Record holds ok there bad held is = absurd holds
  bad_here (UnderWay epoch) holds ok there bad held is = absurd holds
  bad_here Fresh holds ok there bad held is = absurd holds
  bad_here FreshRecord holds ok there bad held is = absurd holds

pub bad_segment_stands : (seen : Files) → IsTidy seen → (name : List ℕ) → IsBadSegmentFile seen name → (gs : List Segment) → StandsFor seen gs → ⊥
bad_segment_stands seen tidy name is gs stands =
    bad_here seen tidy is.start is.named.first is.named.small is.kind is.holds is.named.valid (subst (λ (n : List ℕ). IsSome (seen n)) is.named.spelled is.there) is.bad
    (find_segment is.start gs) (stands.slots is.start is.named.first is.named.small).holds
