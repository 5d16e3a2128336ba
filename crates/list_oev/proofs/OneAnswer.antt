-- One answer at most is right for the bytes of a file.
use Rattle.std.proofs.Common.{◌≡◌, ℕ, ◌+◌, List, ◌∷◌, ◌++◌, length, drop, None, refl, sym, ap, ◌∙◌, arith, subst}
use Rattle.std.specs.List.{flat_map}
use Rattle.std.proofs.lemmas.List.{drop-drop}
use Rattle.journal_core.specs.Views.{BatchView}
use Rattle.disk_frame.specs.declared.frame_cause.FrameCause.{FrameCause}
use Rattle.disk_frame.specs.Frames.{entry_bytes, broken_rule, IsTail}
use Rattle.disk_frame.specs.Faults.{Spells, IsBadFrame}
use Rattle.edit_ops.specs.Records.{EditView}
use Rattle.list_oev.specs.declared.segment_listing.SegmentCause.{SegmentCause}
use Rattle.list_oev.specs.declared.segment_listing.SegmentListing.{SegmentListing}
use Rattle.list_oev.specs.declared.segment_listing.SegmentListing.TheVariants.{Text, BadBytes, OutOfMemory}
use Rattle.list_oev.specs.Segment.{AreRecords, Begins, IsSegment}
use Rattle.list_oev.specs.Damage.{cause_of_frame, HasNoHeader, HasBadFrame, IsBadBody, HasBadEdit, IsDamaged, header, bad_frame, bad_edit}
use Rattle.list_oev.specs.Listed.{IsListed, GivesText, GivesDamage}
use Rattle.list_oev.proofs.RecordLaws.{each_has, first_bad, one_cause}
use Rattle.disk_frame.proofs.SpellLaws.{one_spelling}
use Rattle.disk_frame.proofs.FaultLaws.{tail_stops, bad_stops, one_cause as one_frame_cause}
use Rattle.list_oev.proofs.EndLaws.{Halts, halts_at_tail, halts_at_bad, halts_at_edit, tail_not_bad, one_begin}

-- what stands where the whole frames of edits end
pub data Stand (next : ℕ) (bytes : List ℕ) (end : ℕ) (place : ℕ) (cause : SegmentCause) : Type 0 where
  frame : (of : FrameCause) → IsBadFrame next (drop end bytes) of → place ≡ end → cause ≡ cause_of_frame of → Stand next bytes end place cause
  edit : (f : BatchView) → Spells (drop end bytes) f → broken_rule next f ≡ None → (records : List (List ℕ)) (body : List ℕ) (others : List (List ℕ))
      → (done : List EditView) → AreRecords records done → f.bodies ≡ records ++ body ∷ others → IsBadBody body cause
      → place ≡ end + 17 + length (flat_map entry_bytes records) + 2 → Stand next bytes end place cause

stand_halts : (next : ℕ) (bytes : List ℕ) (end place : ℕ) (cause : SegmentCause) → Stand next bytes end place cause → Halts next (drop end bytes)
stand_halts next bytes end place cause (frame of bad p c) = halts_at_bad next (drop end bytes) of bad
stand_halts next bytes end place cause (edit f s g records body others done are e bad p) = halts_at_edit next (drop end bytes) f records body others cause s e bad

stand_no_tail : (next : ℕ) (bytes : List ℕ) (end place : ℕ) (cause : SegmentCause) → Stand next bytes end place cause → IsTail (drop end bytes) → ⊥
stand_no_tail next bytes end place cause (frame of bad p c) tail = tail_not_bad next (drop end bytes) of tail bad
stand_no_tail next bytes end place cause (edit f s g records body others done are e bad p) tail = tail_stops next (drop end bytes) tail f g s

pub record SameDamage (place other : ℕ) (cause of : SegmentCause) : Type 0 where
  pub same_place : place ≡ other
  pub same_cause : cause ≡ of

one_stand : (next : ℕ) (bytes : List ℕ) (end p q : ℕ) (c d : SegmentCause) → Stand next bytes end p c → Stand next bytes end q d → SameDamage p q c d
one_stand next bytes end p q c d (frame of bad ep ec) (frame of' bad' eq ed) =
    let h : of ≡ of' = one_frame_cause next (drop end bytes) of of' bad bad' in record { same_place = ep ∙ sym eq; same_cause = ec ∙ (ap cause_of_frame h ∙ sym ed) }
one_stand next bytes end p q c d (frame of bad ep ec) (edit f s g records body others done are e wrong eq) = absurd (bad_stops next (drop end bytes) of bad f g s)
one_stand next bytes end p q c d (edit f s g records body others done are e wrong ep) (frame of bad eq ed) = absurd (bad_stops next (drop end bytes) of bad f g s)
one_stand next bytes end p q c d (edit f s g records body others done are e wrong ep) (edit f' s' g' records' body' others' done' are' e' wrong' eq) =
    let h : f ≡ f' = one_spelling (drop end bytes) f f' s s' in
    let k : records ++ body ∷ others ≡ records' ++ body' ∷ others' = sym e ∙ (ap (λ (b : BatchView). b.bodies) h ∙ e') in
    let m = first_bad records records' body body' others others' c d (each_has records done are) (each_has records' done' are') wrong wrong' k in
    record {
      same_place = ep ∙ (ap (λ (r : List (List ℕ)). end + 17 + length (flat_map entry_bytes r) + 2) m.0 ∙ sym eq);
      same_cause = one_cause body' c d (subst (λ (b : List ℕ). IsBadBody b c) m.1 wrong) wrong';
    }

-- after a header: damage, by where the whole frames of edits end
record Damaged (bytes : List ℕ) (place : ℕ) (cause : SegmentCause) : Type 0 where
  start : ℕ
  edits : List EditView
  end : ℕ
  begins : Begins bytes start edits end
  stand : Stand (start + length edits) bytes end place cause

of_frame : (bytes : List ℕ) (place : ℕ) (cause : SegmentCause) (of : FrameCause) → HasBadFrame bytes place of → cause ≡ cause_of_frame of → Damaged bytes place cause
of_frame bytes place cause of h e = record { start = h.start; edits = h.edits; end = place; begins = h.begins; stand = frame of h.bad refl e }

of_edit : (bytes : List ℕ) (place : ℕ) (cause : SegmentCause) → HasBadEdit bytes place cause → Damaged bytes place cause
of_edit bytes place cause h = record {
  start = h.start;
  edits = h.edits;
  end = h.seal;
  begins = h.begins;
  stand = edit h.frame h.spells h.good h.records h.body h.others h.done h.are h.bodies_are h.bad h.at;
}

moved : (bytes : List ℕ) (place : ℕ) (cause : SegmentCause) (s t : ℕ) (es fs : List EditView) (end last : ℕ) → s ≡ t → es ≡ fs → end ≡ last
    → Stand (s + length es) bytes end place cause → Stand (t + length fs) bytes last place cause
moved bytes place cause s t es fs end last st ef el stand =
    let n : s + length es ≡ t + length fs = omega (arith, st, ap length ef) in
    subst (λ (m : ℕ). Stand m bytes last place cause) n (subst (λ (m : ℕ). Stand (s + length es) bytes m place cause) el stand)

one_damage_after : (bytes : List ℕ) (p q : ℕ) (c d : SegmentCause) → Damaged bytes p c → Damaged bytes q d → SameDamage p q c d
one_damage_after bytes p q c d a b =
    let same = one_begin bytes a.start b.start a.edits b.edits a.end b.end a.begins b.begins
    (stand_halts (a.start + length a.edits) bytes a.end p c a.stand) (stand_halts (b.start + length b.edits) bytes b.end q d b.stand) in
    one_stand (b.start + length b.edits) bytes b.end p q c d
    (moved bytes p c a.start b.start a.edits b.edits a.end b.end same.same_start same.same_edits same.same_end a.stand) b.stand

no_header : (bytes : List ℕ) (place : ℕ) (cause : SegmentCause) → HasNoHeader bytes → Damaged bytes place cause → ⊥
no_header bytes place cause h d = h d.start d.begins.epoch d.begins.header

pub one_damage : (bytes : List ℕ) (p q : ℕ) (c d : SegmentCause) → IsDamaged bytes p c → IsDamaged bytes q d → SameDamage p q c d
one_damage bytes p q c d (header h ep ec) (header k eq ed) = record { same_place = ep ∙ sym eq; same_cause = ec ∙ sym ed }
one_damage bytes p q c d (header h ep ec) (bad_frame of k e) = absurd (no_header bytes q d h (of_frame bytes q d of k e))
one_damage bytes p q c d (header h ep ec) (bad_edit k) = absurd (no_header bytes q d h (of_edit bytes q d k))
one_damage bytes p q c d (bad_frame of h e) (header k eq ed) = absurd (no_header bytes p c k (of_frame bytes p c of h e))
one_damage bytes p q c d (bad_edit h) (header k eq ed) = absurd (no_header bytes p c k (of_edit bytes p c h))
one_damage bytes p q c d (bad_frame of h e) (bad_frame of' k e') = one_damage_after bytes p q c d (of_frame bytes p c of h e) (of_frame bytes q d of' k e')
one_damage bytes p q c d (bad_frame of h e) (bad_edit k) = one_damage_after bytes p q c d (of_frame bytes p c of h e) (of_edit bytes q d k)
one_damage bytes p q c d (bad_edit h) (bad_frame of k e) = one_damage_after bytes p q c d (of_edit bytes p c h) (of_frame bytes q d of k e)
one_damage bytes p q c d (bad_edit h) (bad_edit k) = one_damage_after bytes p q c d (of_edit bytes p c h) (of_edit bytes q d k)

-- a segment's file, by where its whole frames end
record Whole (bytes : List ℕ) (start : ℕ) (edits : List EditView) : Type 0 where
  end : ℕ
  begins : Begins bytes start edits end
  tail : IsTail (drop end bytes)

whole_of : (bytes : List ℕ) (start : ℕ) (edits : List EditView) → IsSegment bytes start edits → Whole bytes start edits
whole_of bytes start edits s = record {
  end = s.whole_length;
  begins = record { epoch = s.epoch; bodies = s.bodies; behind = s.file.frames_length; header = s.file.header; frames = s.file.frames.frames; are = s.are; end_is = s.file.whole };
  tail = subst IsTail (drop-drop s.file.frames_length 24 bytes ∙ ap (λ (n : ℕ). drop n bytes) (sym s.file.whole)) s.file.frames.tail;
}

pub record SameSegment (start other : ℕ) (edits others : List EditView) : Type 0 where
  pub same_start : start ≡ other
  pub same_edits : edits ≡ others

pub one_segment : (bytes : List ℕ) (s t : ℕ) (es fs : List EditView) → IsSegment bytes s es → IsSegment bytes t fs → SameSegment s t es fs
one_segment bytes s t es fs p q =
    let a = whole_of bytes s es p in
    let b = whole_of bytes t fs q in
    let same = one_begin bytes s t es fs a.end b.end a.begins b.begins (halts_at_tail (s + length es) (drop a.end bytes) a.tail) (halts_at_tail (t + length fs) (drop b.end bytes) b.tail) in
    record { same_start = same.same_start; same_edits = same.same_edits }

undamaged_after : (bytes : List ℕ) (s : ℕ) (es : List EditView) (p : ℕ) (c : SegmentCause) → IsSegment bytes s es → Damaged bytes p c → ⊥
undamaged_after bytes s es p c q b =
    let a = whole_of bytes s es q in
    let same = one_begin bytes s b.start es b.edits a.end b.end a.begins b.begins (halts_at_tail (s + length es) (drop a.end bytes) a.tail)
    (stand_halts (b.start + length b.edits) bytes b.end p c b.stand) in
    stand_no_tail (b.start + length b.edits) bytes b.end p c b.stand (subst (λ (n : ℕ). IsTail (drop n bytes)) same.same_end a.tail)

pub undamaged : (bytes : List ℕ) (s : ℕ) (es : List EditView) (p : ℕ) (c : SegmentCause) → IsSegment bytes s es → IsDamaged bytes p c → ⊥
undamaged bytes s es p c q (header h ep ec) = h s q.epoch q.file.header
undamaged bytes s es p c q (bad_frame of h e) = undamaged_after bytes s es p c q (of_frame bytes p c of h e)
undamaged bytes s es p c q (bad_edit h) = undamaged_after bytes s es p c q (of_edit bytes p c h)

-- ---- answers

pub gives_text : (tell : ℕ → List EditView → List ℕ) (bytes : List ℕ) (given : SegmentListing) → IsListed tell bytes given → (start : ℕ) (edits : List EditView) → IsSegment bytes start edits
    → GivesText (tell start edits) given
gives_text tell bytes (Text text) is start edits s =
    let same = one_segment bytes is.start start is.edits edits is.segment s in
    is.spelled ∙ (ap (λ (n : ℕ). tell n is.edits) same.same_start ∙ ap (tell start) same.same_edits)
gives_text tell bytes (BadBytes place cause) is start edits s = undamaged bytes start edits place cause s is
gives_text tell bytes OutOfMemory is start edits s = tt

pub gives_damage : (tell : ℕ → List EditView → List ℕ) (bytes : List ℕ) (given : SegmentListing) → IsListed tell bytes given → (place : ℕ) (cause : SegmentCause) → IsDamaged bytes place cause
    → GivesDamage place cause given
gives_damage tell bytes (Text text) is place cause d = undamaged bytes is.start is.edits place cause is.segment d
gives_damage tell bytes (BadBytes at of) is place cause d = let same = one_damage bytes at place of cause is d in (same.same_place, same.same_cause)
gives_damage tell bytes OutOfMemory is place cause d = tt
