-- The files of one start stand for one segment at most.
use Rattle.std.proofs.Common.{inl, inr, ◌⊎◌, ◌≡◌, ◌≢◌, ℕ, ◌^◌, ◌≤◌, List, [], ◌∷◌, Bool, true, false, refl, sym, ◌∙◌, ap, subst, arith}
use Rattle.std.specs.Prelude.{Option, Some, None}
use Rattle.std.proofs.lemmas.Bool.{cases_eq, cases_lt}
use Rattle.std.proofs.lemmas.Option.{same_Some}
use Rattle.base_words.proofs.StartLaws.{Above-mono, find_here, find_on, find_above}
use Rattle.base_disk.specs.Files.{Files}
use Rattle.journal_core.specs.declared.segment.Segment.{Segment}
use Rattle.journal_core.specs.Segments.{find_segment, AreAbove, AreRising}
use Rattle.journal_core.proofs.PlaceLaws.{by_segments}
use Rattle.disk_frame.specs.Segments.{IsSegmentFile}
use Rattle.disk_frame.proofs.SegmentLaws.{one_segment}
use Rattle.disk_segment.specs.Names.{Final, Record, UnderWay}
use Rattle.disk_segment.specs.Stands.{Slot, slot_of, IsAccepted, HoldsEdits, CountsUnderWay, CountsPlain, IsFinalOf, IsProgressOf, IsNone, Holds, StandsFor}
use Rattle.disk_segment.specs.RowsTell.{AreStarts}
use Rattle.disk_segment.proofs.OneEpoch.{one_epoch}

same_accepted : (file : Option (List ℕ)) (epoch : ℕ) (a b : Bool) → IsAccepted file epoch a → IsAccepted file epoch b → a ≡ b
same_accepted file epoch true true is other = refl
same_accepted file epoch false false is other = refl
same_accepted file epoch true false is other = absurd (other is)
same_accepted file epoch false true is other = absurd (is other)

module _ (start : ℕ) where
  pub record SameEdits (g h : Segment) : Type 0 where
    pub epoch : g.epoch ≡ h.epoch
    pub bodies : g.bodies ≡ h.bodies

  same_edits : (file other : Option (List ℕ)) (g h : Segment) → file ≡ other → HoldsEdits start file g → HoldsEdits start other h → SameEdits g h
  same_edits file other g h same is also =
      let bytes : also.bytes ≡ is.bytes = same_Some also.bytes is.bytes (sym also.there ∙ sym same ∙ is.there) in
      let one = one_segment is.bytes start start g.epoch h.epoch g.bodies h.bodies is.whole_length also.whole_length is.edits
      (subst (λ (l : List ℕ). IsSegmentFile l start h.epoch h.bodies also.whole_length) bytes also.edits) in
      record { epoch = one.1; bodies = one.2 }

  module _ (slot : Slot) where
    absent_holds : (file : Option (List ℕ)) (g : Segment) → file ≡ None → HoldsEdits start file g → ⊥
    absent_holds file g none is = let p = sym none ∙ is.there in absurd (cc)

    both_final : (g h : Segment) → IsFinalOf start slot g → IsFinalOf start slot h → g ≡ h
    both_final g h is also =
        let lasts : is.last ≡ also.last = by (cases_eq is.last also.last) in
        let edits = same_edits (slot (Final is.last)) (slot (Final also.last)) g h (ap (λ (n : ℕ). slot (Final n)) lasts) is.content also.content in
        λ i. record {
          start = (is.start_is ∙ sym also.start_is) i;
          epoch = edits.epoch i;
          bodies = edits.bodies i;
          is_final = (is.final ∙ sym also.final) i;
          accepted = (is.accepted ∙ sym also.accepted) i;
        }
      where
        by : (is.last ≡ also.last) ⊎ (is.last ≢ also.last) → is.last ≡ also.last
        by (inl same) = same
        by (inr ne) = absurd (absent_holds (slot (Final is.last)) g (also.alone is.last is.valid ne) is.content)

    final_alone : (g h : Segment) → IsFinalOf start slot g → IsProgressOf start slot h → ⊥
    final_alone g h is also = absent_holds (slot (Final is.last)) g (also.none_final.none is.last is.valid) is.content

    one_file : (file other : Option (List ℕ)) (g h : Segment) → HoldsEdits start file g → HoldsEdits start other h → CountsUnderWay start slot file ⊎ CountsPlain start slot file
        → CountsUnderWay start slot other ⊎ CountsPlain start slot other → file ≡ other
    one_file file other g h is also (inl a) (inl b) = sym a.there ∙ ap (λ (e : ℕ). slot (UnderWay e)) (one_epoch (slot Record) a.epoch b.epoch a.counts b.counts) ∙ b.there
    one_file file other g h is also (inl a) (inr b) = absurd (absent_holds file g (sym a.there ∙ b.none.none a.epoch a.valid a.counts) is)
    one_file file other g h is also (inr a) (inl b) = absurd (absent_holds other h (sym b.there ∙ a.none.none b.epoch b.valid b.counts) also)
    one_file file other g h is also (inr a) (inr b) = sym a.there ∙ b.there

    both_progress : (g h : Segment) → IsProgressOf start slot g → IsProgressOf start slot h → g ≡ h
    both_progress g h is also =
        let edits = same_edits is.file also.file g h (one_file is.file also.file g h is.content also.content is.counts also.counts) is.content also.content in
        let accepted : g.accepted ≡ h.accepted = same_accepted (slot Record) h.epoch g.accepted h.accepted
        (subst (λ (e : ℕ). IsAccepted (slot Record) e g.accepted) edits.epoch is.accepted) also.accepted in
        λ i. record {
          start = (is.start_is ∙ sym also.start_is) i;
          epoch = edits.epoch i;
          bodies = edits.bodies i;
          is_final = (is.final ∙ sym also.final) i;
          accepted = accepted i;
        }

    none_or_some : (g : Segment) → IsNone start slot → IsFinalOf start slot g ⊎ IsProgressOf start slot g → ⊥
    none_or_some g none (inl is) = absent_holds (slot (Final is.last)) g (none.none_final.none is.last is.valid) is.content
    none_or_some g none (inr is) = absent_holds is.file g (by is.counts) is.content
      where
        by : CountsUnderWay start slot is.file ⊎ CountsPlain start slot is.file → is.file ≡ None
        by (inl way) = sym way.there ∙ none.counts.none.none way.epoch way.valid way.counts
        by (inr own) = sym own.there ∙ none.counts.there

    pub held_once : (a b : Option Segment) → Holds start slot a → Holds start slot b → a ≡ b
    held_once None None is also = refl
    held_once None (Some h) is also = absurd (none_or_some h is also)
    held_once (Some g) None is also = absurd (none_or_some g also is)
    held_once (Some g) (Some h) (inl is) (inl also) = ap Some (both_final g h is also)
    held_once (Some g) (Some h) (inl is) (inr also) = absurd (final_alone g h is also)
    held_once (Some g) (Some h) (inr is) (inl also) = absurd (final_alone h g also is)
    held_once (Some g) (Some h) (inr is) (inr also) = ap Some (both_progress g h is also)

pub found_once : (files : Files) (gs hs : List Segment) → StandsFor files gs → StandsFor files hs → (start : ℕ) → 1 ≤ start → start ≤ 2 ^ 62 → find_segment start gs ≡ find_segment start hs
found_once files gs hs is also start first small = held_once start (slot_of files start) (find_segment start gs) (find_segment start hs)
    (is.slots start first small).holds (also.slots start first small).holds

-- ## Lists by rising start
pub none_some : (o : Option Segment) (g : Segment) → o ≡ None → o ≡ Some g → ⊥
none_some o g none some = let p = sym none ∙ some in absurd (cc)

-- the first of one list is found in the other only where that doesn't begin above it
not_above : (g : Segment) (gs hs : List Segment) → find_segment g.start (g ∷ gs) ≡ find_segment g.start hs → AreAbove g.start hs → ⊥
not_above g gs hs same above = none_some (find_segment g.start hs) g (find_above by_segments g.start hs above) (sym same ∙ find_here by_segments g.start g gs refl)

pub one_list : (gs hs : List Segment) → AreRising gs → AreRising hs → AreStarts gs → AreStarts hs → ((start : ℕ) → 1 ≤ start → start ≤ 2 ^ 62 → find_segment start gs ≡ find_segment start hs) → gs ≡ hs
one_list [] [] r s a b same = refl
one_list [] (h ∷ hs) r s a b same = absurd (not_above h hs [] (sym (same h.start b.0.0 b.0.1)) tt)
one_list (g ∷ gs) [] r s a b same = absurd (not_above g gs [] (same g.start a.0.0 a.0.1) tt)
one_list (g ∷ gs) (h ∷ hs) r s a b same = elim (cases_eq g.start h.start) [
  | inl starts ↦
      let first : g ≡ h = same_Some g h (sym (find_here by_segments g.start g gs refl) ∙ same g.start a.0.0 a.0.1 ∙ find_here by_segments g.start h hs (sym starts)) in
      λ i. first i ∷ one_list gs hs r.1 s.1 a.1 b.1 (λ start low high. elim (cases_eq g.start start) [
        | inl at ↦ find_above by_segments start gs (subst (λ (n : ℕ). AreAbove n gs) at r.0) ∙ sym (find_above by_segments start hs (subst (λ (n : ℕ). AreAbove n hs) (sym starts ∙ at) s.0))
        | inr ne ↦ sym (find_on by_segments start g gs ne) ∙ same start low high ∙ find_on by_segments start h hs (λ at. ne (starts ∙ at))
      ]) i
  | inr ne ↦ elim (cases_lt g.start h.start) [
    | inl lt ↦ absurd (not_above g gs (h ∷ hs) (same g.start a.0.0 a.0.1) (lt, Above-mono (λ (x : Segment). x.start) g.start h.start hs (omega (arith, lt)) s.0))
    | inr le ↦ absurd (not_above h hs (g ∷ gs) (sym (same h.start b.0.0 b.0.1)) (omega (arith, le, ne), Above-mono (λ (x : Segment). x.start) h.start g.start gs (omega (arith, le)) r.0))
  ]
]
