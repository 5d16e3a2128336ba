-- What the repaired files stand for, those stood for that were repaired.
use Rattle.std.proofs.Common.{inl, inr, ⊎_elim, ◌⊎◌, ◌≡◌, ℕ, ◌^◌, ◌≤◌, List, refl, sym, ◌∙◌, ap, subst, arith}
use Rattle.std.specs.Prelude.{Option, Some, None, IsSome}
use Rattle.std.proofs.lemmas.Bool.{cases_lt}
use Rattle.base_disk.specs.Files.{Files}
use Rattle.journal_core.specs.declared.segment.Segment.{Segment}
use Rattle.journal_core.specs.Segments.{find_segment}
use Rattle.disk_segment.specs.Names.{InProgress, Final, Record, UnderWay, name_of, IsKind}
use Rattle.disk_segment.specs.Stands.{slot_of, HasEpoch, IsRecordFile, NoFinal, CountsUnderWay, CountsPlain, Holds, StandsFor}
use Rattle.disk_segment.specs.Effects.{IsTidy}
use Rattle.disk_opening.specs.Completing.{HasFinal, BecomesFile, BecomesContent, Spares}
use Rattle.disk_segment.proofs.EffectLaws.{none_is_not}
use Rattle.disk_segment.proofs.Frame.{accepted_same, final_same, no_final_same}
use Rattle.disk_segment.proofs.OneEpoch.{one_epoch}

some_of : (file other : Option (List ℕ)) → file ≡ other → IsSome other → IsSome file
some_of file other same there = subst IsSome (sym same) there

module _ (old new : Files) (spares : Spares old new) (start : ℕ) (first : 1 ≤ start) (small : start ≤ 2 ^ 62) where
  record_back : old (name_of start Record) ≡ new (name_of start Record)
  record_back = sym (spares.records start first small)

  none_final_back : NoFinal start (slot_of new start) → NoFinal start (slot_of old start)
  none_final_back is = no_final_same start (slot_of new start) (slot_of old start) (λ last ok. sym (spares.finals start last first small ok)) is

  no_final : NoFinal start (slot_of new start) → HasFinal start old → ⊥
  no_final none has =
      none_is_not (old (name_of start (Final has.is.last))) ((none_final_back none).none has.is.last has.is.named.valid) (subst (λ (n : List ℕ). IsSome (old n)) has.is.named.spelled has.there)

  -- the file that counts as that in progress, which is there where it is the content of an
  -- acceptance
  abbrev Counted : Option (List ℕ) → Type 0
  Counted file = (CountsUnderWay start (slot_of old start) file × IsSome file) ⊎ CountsPlain start (slot_of old start) file

  module _ (file : Option (List ℕ)) (none_final : NoFinal start (slot_of new start)) (counts : CountsPlain start (slot_of new start) file) where
    plain : old (name_of start InProgress) ≡ file → ((epoch : ℕ) → IsKind start (UnderWay epoch) → HasEpoch (old (name_of start Record)) epoch
        → old (name_of start (UnderWay epoch)) ≡ None) → Counted file
    plain same none = inr record { none = record { none = none }; there = same }

    -- the content of an acceptance under the record's epoch was there
    content_back : (epoch : ℕ) → IsKind start (UnderWay epoch) → HasEpoch (old (name_of start Record)) epoch → IsSome (old (name_of start (UnderWay epoch))) → Counted file
    content_back epoch ok has there = by (spares.content start epoch first small ok has there)
      where
        by : BecomesContent start epoch old new → Counted file
        by (inl stays) = absurd (none_is_not (new (name_of start (UnderWay epoch)))
            (counts.none.none epoch ok (subst (λ (f : Option (List ℕ)). HasEpoch f epoch) record_back has))
            (some_of (new (name_of start (UnderWay epoch))) (old (name_of start (UnderWay epoch))) stays there))
        by (inr (inl put)) = let same = sym put ∙ counts.there in inl
            (record { epoch = epoch; valid = ok; counts = has; there = same }, some_of file (old (name_of start (UnderWay epoch))) (sym same) there)
        by (inr (inr final)) = absurd (no_final none_final final)

    epoch_back : old (name_of start InProgress) ≡ file → (epoch : ℕ) → HasEpoch (old (name_of start Record)) epoch → Counted file
    epoch_back same epoch has = elim (cases_lt 0 epoch) [
      | inl one ↦ by (old (name_of start (UnderWay epoch))) refl (omega (arith, one), has.spelled.epoch)
      | inr zero ↦ plain same (λ other ok counted. absurd (omega (arith, zero, ok.0, one_epoch (old (name_of start Record)) epoch other has counted)))
    ]
      where
        by : (way : Option (List ℕ)) → old (name_of start (UnderWay epoch)) ≡ way → IsKind start (UnderWay epoch) → Counted file
        by None is ok = plain same (λ other valid counted. ap (λ (e : ℕ). old (name_of start (UnderWay e))) (one_epoch (old (name_of start Record)) other epoch counted has) ∙ is)
        by (Some bytes) is ok = content_back epoch ok has (subst IsSome (sym is) refl)

    same_back : old (name_of start InProgress) ≡ file → IsRecordFile (old (name_of start Record)) → Counted file
    same_back same (inl none) = plain same (λ epoch ok has. let p = sym none ∙ has.there in absurd (cc))
    same_back same (inr has) = epoch_back same has.0 has.1

    counted_back : IsRecordFile (old (name_of start Record)) → Counted file
    counted_back record_ = by (spares.progress start first small)
      where
        by : BecomesFile start old (new (name_of start InProgress)) → Counted file
        by (inl same) = same_back (sym same ∙ counts.there) record_
        by (inr (inl content)) = let same = sym content.is ∙ counts.there in inl (
          record { epoch = content.epoch; valid = content.valid; counts = content.counts; there = same },
          some_of file (old (name_of start (UnderWay content.epoch))) (sym same) content.there,
        )
        by (inr (inr gone)) = absurd (no_final none_final gone.0)

  holds_back : IsTidy new → IsRecordFile (old (name_of start Record)) → (held : Option Segment) → Holds start (slot_of new start) held → Holds start (slot_of old start) held
  holds_back tidy record_ None is = record {
    none_final = none_final_back is.none_final;
    counts = ⊎_elim (λ way. absurd (none_is_not None refl way.1)) (λ own. own) (counted_back None is.none_final is.counts record_);
  }
  holds_back tidy record_ (Some g) (inl is) = inl (final_same start (slot_of new start) (slot_of old start) (λ last ok. sym (spares.finals start last first small ok)) g is)
  holds_back tidy record_ (Some g) (inr is) = inr record {
    start_is = is.start_is;
    final = is.final;
    none_final = none_final_back is.none_final;
    file = is.file;
    counts = by is.counts;
    content = is.content;
    accepted = accepted_same (new (name_of start Record)) (old (name_of start Record)) g.epoch g.accepted record_back is.accepted;
  }
    where
      by : CountsUnderWay start (slot_of new start) is.file ⊎ CountsPlain start (slot_of new start) is.file
          → CountsUnderWay start (slot_of old start) is.file ⊎ CountsPlain start (slot_of old start) is.file
      by (inl way) = let p = sym (tidy.none_under_way start way.epoch first small way.valid) ∙ way.there ∙ is.content.there in absurd (cc)
      by (inr own) = ⊎_elim (λ content. inl content.0) (λ same. inr same) (counted_back is.file is.none_final own record_)

pub completed_stood : (old new : Files) → Spares old new → IsTidy new → (gs : List Segment) → StandsFor new gs → StandsFor old gs
completed_stood old new spares tidy gs stands = record {
  slots = λ start first small.
      let was = stands.slots start first small in
      let record_ : IsRecordFile (old (name_of start Record)) = subst IsRecordFile (spares.records start first small) was.record_ in
      record { record_ = record_; holds = holds_back old new spares start first small tidy record_ (find_segment start gs) was.holds };
}
