-- A table that covers segments, before an effect and after it.
use Rattle.std.proofs.Common.{inl, inr, ◌≡◌, ◌≤◌, ℕ, true, false, List, ◌++◌, Option, Some, None, refl, sym, subst, ◌∙◌, arith, length-append}
use Rattle.std.proofs.lemmas.Bool.{cases_eq}
use Rattle.std.proofs.lemmas.Option.{same_Some}
use Rattle.base_words.proofs.StartLaws.{find_put_same, find_put_other, found_all, without_all}
use Rattle.journal_core.specs.declared.segment.Segment.{Segment}
use Rattle.journal_core.specs.declared.request.Request.{Request}
use Rattle.journal_core.specs.Segments.{find_segment, put_segment, remove_segment, end_of, info_of, IsWithin, AreSound, IsNotFinal}
use Rattle.journal_core.specs.Limits.{max_number}
use Rattle.journal_core.specs.Effects.{segments_after, appended, finalized, empty_segment, accepted_segment}
use Rattle.journal_core.proofs.PlaceLaws.{by_segments, put_sound}
use Rattle.journal_core.proofs.SegmentLists.{find-start, find-put_same, find-put_other, find-remove_same, find-remove_other, Rising-remove}
use Rattle.disk_segment.specs.declared.segment_row.SegmentRow.{SegmentRow}
use Rattle.disk_segment.specs.Rows.{find_row, put_row}
use Rattle.disk_segment.proofs.RowLaws.{by_rows}
use Rattle.disk_effects.specs.Told.{Tells}
use Rattle.disk_files.specs.declared.node_number.NodeNumber.{NodeNumber}
use Rattle.disk_files.specs.declared.node_number.NodeNumber.TheVariants.{Promised, Writer, Committed}
use Rattle.disk_node.specs.FileState.{Covers}
use Rattle.disk_node.specs.Doing.{storing, place_after}
use Rattle.disk_effects.specs.Due.{batch_of, effect_of, puts_row, IsDue, IsAppendDue, begun_row, accepted_row, rows_after}
use Rattle.journal_step.specs.declared.durable_effect.DurableEffect.{DurableEffect}
use Rattle.journal_step.specs.declared.durable_effect.DurableEffect.TheVariants as durable
use Rattle.disk_effects.proofs.ToldLaws.{IsTold, found, end_told}

-- the row of a segment
pub row_of : (gs : List Segment) (rows : List SegmentRow) (start : ℕ) (g : Segment) → Tells gs rows → find_segment start gs ≡ Some g
    → (row : SegmentRow) × (find_row start rows ≡ Some row) × (row.info ≡ info_of g)
row_of gs rows start g t known = by (find_row start rows) refl (subst (λ o. IsTold o (find_row start rows)) known (found gs rows start t))
  where
    by : (o : Option SegmentRow) → find_row start rows ≡ o → IsTold (Some g) (find_row start rows) → (row : SegmentRow) × (find_row start rows ≡ Some row) × (row.info ≡ info_of g)
    by None is told = absurd (let none : IsTold (Some g) None = subst (λ o. IsTold (Some g) o) is told in none)
    by (Some row) is told = let one : IsTold (Some g) (Some row) = subst (λ o. IsTold (Some g) o) is told in (row, is, one.0)

-- ## What a table covers
pub tells_covers : (gs : List Segment) (rows : List SegmentRow) → Tells gs rows → Covers rows gs
tells_covers gs rows t = record {
  rows_of = λ start g known. let there = row_of gs rows start g t known in (there.0, there.1, λ final. end_told g there.0 there.2);
}

covers_put_row : (new : SegmentRow) (rows : List SegmentRow) (gs : List Segment) → Covers rows gs → IsNotFinal (find_segment new.info.start gs) → Covers (put_row new rows) gs
covers_put_row new rows gs covers open_ = record {
  rows_of = λ start g known. elim (cases_eq new.info.start start) [
    | inl is ↦ (
      new,
      subst (λ (m : ℕ). find_row m (put_row new rows) ≡ Some new) is (find_put_same by_rows new rows),
      λ final. let not : g.is_final ≡ false = subst IsNotFinal known (subst (λ (m : ℕ). IsNotFinal (find_segment m gs)) is open_) in let p : true ≡ false = sym final ∙ not in absurd (cc),
    )
    | inr ne ↦ let was = covers.rows_of start g known in (was.0, find_put_other by_rows start new rows ne ∙ was.1, was.2)
  ];
}

covers_put_segment : (new : Segment) (rows : List SegmentRow) (gs : List Segment) (row : SegmentRow) → Covers rows gs
    → find_row new.start rows ≡ Some row → (new.is_final ≡ true → row.info.end ≡ end_of new) → Covers rows (put_segment new gs)
covers_put_segment new rows gs row covers there ends = record {
  rows_of = λ start g known. elim (cases_eq new.start start) [
    | inl is ↦
        let same : new ≡ g = same_Some new g (sym (find-put_same new gs) ∙ subst (λ (m : ℕ). find_segment m (put_segment new gs) ≡ Some g) (sym is) known) in
        (row, subst (λ (m : ℕ). find_row m rows ≡ Some row) is there, subst (λ (h : Segment). h.is_final ≡ true → row.info.end ≡ end_of h) same ends)
    | inr ne ↦ covers.rows_of start g (sym (find-put_other start new gs ne) ∙ known)
  ];
}

covers_remove : (gone : ℕ) (rows : List SegmentRow) (gs : List Segment) → Covers rows gs → Covers rows (remove_segment gone gs)
covers_remove gone rows gs covers = record {
  rows_of = λ start g known. elim (cases_eq start gone) [
    | inl is ↦ let p = sym (find-remove_same gone gs) ∙ subst (λ (m : ℕ). find_segment m (remove_segment gone gs) ≡ Some g) is known in absurd (cc)
    | inr ne ↦ covers.rows_of start g (sym (find-remove_other start gone gs (λ same. ne (sym same))) ∙ known)
  ];
}

-- An effect that may put no row is noted after its calls: the table as it was covers what it leaves.
abbrev pub IsNotedAfter : DurableEffect → Type 0
IsNotedAfter d = puts_row d ≡ false

-- one that may is noted before them: the table with it covers what was
abbrev pub IsNotedBefore : DurableEffect → Type 0
IsNotedBefore d = puts_row d ≡ true

-- where frames end doesn't count for it
pub no_place : (r : Request) (d : DurableEffect) → IsNotedBefore d → 0 ≡ place_after r d
no_place r (durable.Promise epoch) before = refl
no_place r (durable.WriterEpoch epoch) before = refl
no_place r (durable.Commit txid) before = refl
no_place r (durable.NewSegment start epoch) before = refl
no_place r (durable.Append start at) before = absurd (cc before)
no_place r (durable.Replace epoch again) before = refl
no_place r (durable.MakeFinal start end accepted) before = refl
no_place r (durable.Remove info) before = refl

-- ## A number that is stored
pub number_fits : (number : NodeNumber) (value : ℕ) (gs : List Segment) (rows : List SegmentRow) (r : Request) → IsDue gs rows r (storing number value) → value ≤ max_number
number_fits Promised value gs rows r due = due
number_fits Writer value gs rows r due = due
number_fits Committed value gs rows r due = due

-- ## The segments of which the table tells
append_covers : (start at : ℕ) (r : Request) (gs : List Segment) (rows : List SegmentRow) → Tells gs rows → IsAppendDue start at (batch_of r) gs rows
    → Covers rows (appended (batch_of r).bodies (find_segment start gs) gs)
append_covers start at r gs rows t due =
    let new : Segment = record due.segment { bodies = due.segment.bodies ++ (batch_of r).bodies } in
    subst (λ (o : Option Segment). Covers rows (appended (batch_of r).bodies o gs)) (sym due.known)
    (covers_put_segment new rows gs due.row (tells_covers gs rows t) (subst (λ (m : ℕ). find_row m rows ≡ Some due.row) (sym due.start_is) due.told)
    (λ final. let p : true ≡ false = sym final ∙ due.in_progress in absurd (cc)))

finalize_covers : (start end : ℕ) (gs : List Segment) (rows : List SegmentRow) (g : Segment) → Tells gs rows → find_segment start gs ≡ Some g → Covers rows (finalized (find_segment start gs) gs)
finalize_covers start end gs rows g t known =
    let new : Segment = record g { is_final = true; accepted = false } in
    let there = row_of gs rows start g t known in
    subst (λ (o : Option Segment). Covers rows (finalized o gs)) (sym known)
    (covers_put_segment new rows gs there.0 (tells_covers gs rows t) (subst (λ (m : ℕ). find_row m rows ≡ Some there.0) (sym (find-start start gs g known)) there.1)
    (λ final. end_told g there.0 there.2))

pub covers_after : (r : Request) (d : DurableEffect) (gs : List Segment) (rows : List SegmentRow) → IsNotedAfter d → Tells gs rows → IsDue gs rows r d → Covers rows (segments_after gs (effect_of r d))
covers_after r (durable.Promise epoch) gs rows behind t due = tells_covers gs rows t
covers_after r (durable.WriterEpoch epoch) gs rows behind t due = tells_covers gs rows t
covers_after r (durable.Commit txid) gs rows behind t due = tells_covers gs rows t
covers_after r (durable.NewSegment start epoch) gs rows behind t due = absurd (cc behind)
covers_after r (durable.Append start at) gs rows behind t due = append_covers start at r gs rows t due
covers_after r (durable.Replace epoch again) gs rows behind t due = absurd (cc behind)
covers_after r (durable.MakeFinal start end accepted) gs rows behind t due = finalize_covers start end gs rows due.segment t due.known
covers_after r (durable.Remove info) gs rows behind t due = covers_remove info.start rows gs (tells_covers gs rows t)

pub covers_before : (r : Request) (d : DurableEffect) (place : ℕ) (gs : List Segment) (rows : List SegmentRow) → IsNotedBefore d → Tells gs rows
    → IsDue gs rows r d → Covers (rows_after r d place rows) gs
covers_before r (durable.Promise epoch) place gs rows before t due = absurd (cc before)
covers_before r (durable.WriterEpoch epoch) place gs rows before t due = absurd (cc before)
covers_before r (durable.Commit txid) place gs rows before t due = absurd (cc before)
covers_before r (durable.NewSegment start epoch) place gs rows before t due = covers_put_row (begun_row start epoch) rows gs (tells_covers gs rows t) due.not_final
covers_before r (durable.Append start at) place gs rows before t due = absurd (cc before)
covers_before r (durable.Replace epoch again) place gs rows before t due = covers_put_row (accepted_row epoch (batch_of r)) rows gs (tells_covers gs rows t) due.not_final
covers_before r (durable.MakeFinal start end accepted) place gs rows before t due = absurd (cc before)
covers_before r (durable.Remove info) place gs rows before t due = absurd (cc before)

-- ## Sound lists
append_sound : (start at : ℕ) (r : Request) (gs : List Segment) (rows : List SegmentRow) → AreSound gs → IsAppendDue start at (batch_of r) gs rows
    → AreSound (appended (batch_of r).bodies (find_segment start gs) gs)
append_sound start at r gs rows sound due =
    let new : Segment = record due.segment { bodies = due.segment.bodies ++ (batch_of r).bodies } in
    let was : IsWithin due.segment = found_all by_segments IsWithin start gs due.segment sound.within due.known in
    let fits : IsWithin new = omega (arith, due.last, due.next, due.start_is, was, length-append due.segment.bodies (batch_of r).bodies) in
    subst (λ (o : Option Segment). AreSound (appended (batch_of r).bodies o gs)) (sym due.known) (put_sound new gs fits sound)

finalize_sound : (start : ℕ) (gs : List Segment) (g : Segment) → AreSound gs → find_segment start gs ≡ Some g → AreSound (finalized (find_segment start gs) gs)
finalize_sound start gs g sound known =
    let new : Segment = record g { is_final = true; accepted = false } in
    subst (λ (o : Option Segment). AreSound (finalized o gs)) (sym known) (put_sound new gs (found_all by_segments IsWithin start gs g sound.within known) sound)

pub sound_after : (r : Request) (d : DurableEffect) (gs : List Segment) (rows : List SegmentRow) → AreSound gs → IsDue gs rows r d → AreSound (segments_after gs (effect_of r d))
sound_after r (durable.Promise epoch) gs rows sound due = sound
sound_after r (durable.WriterEpoch epoch) gs rows sound due = sound
sound_after r (durable.Commit txid) gs rows sound due = sound
sound_after r (durable.NewSegment start epoch) gs rows sound due = put_sound (empty_segment start epoch) gs (omega (arith, due.start_fits.1)) sound
sound_after r (durable.Append start at) gs rows sound due = append_sound start at r gs rows sound due
sound_after r (durable.Replace epoch again) gs rows sound due = put_sound (accepted_segment epoch (batch_of r)) gs (omega (arith, due.last)) sound
sound_after r (durable.MakeFinal start end accepted) gs rows sound due = finalize_sound start gs due.segment sound due.known
sound_after r (durable.Remove info) gs rows sound due = record { rising = Rising-remove info.start gs sound.rising; within = without_all by_segments IsWithin info.start gs sound.within }
