-- What an effect that was done leaves: at the disk, in the table and in memory.
use Rattle.std.proofs.Common.{inl, inr, ⊎_elim, ◌≡◌, ◌≢◌, ◌⊎◌, ℕ, ◌+◌, ◌++◌, true, false, List, [], length, Option, Some, None, refl, sym, ap, subst, ◌∙◌}
use Rattle.std.specs.Prelude.{Result, IsOk, IsErrOf}
use Rattle.std.proofs.lemmas.Bool.{cases_eq, cond_both, cond-true, cond-false}
use Rattle.std.proofs.lemmas.Option.{same_Some}
use Rattle.base_words.proofs.StartLaws.{find_put_same, find_put_other, find_without_other}
use Rattle.base_disk.specs.View.{View, IsSound, LeavesOnly, AllLeave}
use Rattle.base_disk.specs.declared.disk.DiskFail.{DiskFail}
use Rattle.base_disk.specs.declared.disk.DiskFail.TheVariants.{Failed}
use Rattle.journal_core.specs.declared.cut.Cut.{Cut}
use Rattle.journal_core.specs.Cuts.{Cost}
use Rattle.journal_core.specs.Views.{last_txid}
use Rattle.journal_core.specs.declared.segment.Segment.{Segment}
use Rattle.journal_core.specs.declared.node_state.NodeState.{NodeState}
use Rattle.journal_core.specs.declared.request.Request.{Request}
use Rattle.journal_core.specs.Segments.{find_segment, put_segment, AreSound}
use Rattle.journal_core.specs.Effects.{after_effect, segments_after, appended, finalized, empty_segment}
use Rattle.journal_core.proofs.SegmentLists.{find-start, find-put_same, find-put_other, find-remove_other}
use Rattle.disk_frame.specs.Frames.{frame_bytes}
use Rattle.disk_segment.specs.Effects.{AppendsAt}
use Rattle.disk_segment.proofs.Counts.{on_ok}
use Rattle.disk_segment.specs.Rows.{find_row, put_row}
use Rattle.disk_segment.proofs.RowLaws.{by_rows}
use Rattle.disk_segment.specs.declared.segment_row.SegmentRow.{SegmentRow}
use Rattle.disk_files.specs.Durable.{StandsAs, HoldsState}
use Rattle.disk_files.specs.EffectCalls.{IsCutAt}
use Rattle.disk_effects.specs.Told.{Tells, state_with}
use Rattle.disk_node.specs.FileState.{Covers, without_segments}
use Rattle.disk_effects.specs.Due.{batch_of, effect_of, puts_row, IsDue, IsAppendDue, begun_row, appended_row, final_row, changed, rows_after}
use Rattle.disk_node.specs.Held.{IsHeld, AppendsTo, OpenedAt, MayLeave, numbers_after, Opens, Spares}
use Rattle.disk_node.specs.Doing.{place_after, CanDo, Passes, AppendsAfter, DoesEffect, NotedAtFault}
use Rattle.journal_step.specs.declared.durable_effect.DurableEffect.{DurableEffect}
use Rattle.journal_step.specs.declared.durable_effect.DurableEffect.TheVariants as durable
use Rattle.disk_effects.proofs.ToldLaws.{start_told}
use Rattle.disk_effects.proofs.ApplyLaws.{after_told}
use Rattle.disk_node.proofs.DoingRows.{row_of, tells_covers, IsNotedAfter, IsNotedBefore, no_place, covers_after, covers_before, sound_after}

-- ## What a crash leaves
pub stands_now : (v : View) (s : NodeState) → HoldsState v s → AllLeave v (λ c. StandsAs c s)
stands_now v s holds c now = record { numbers = holds.numbers c now; segments = holds.segments.stands c now }

left_either : (rows : List SegmentRow) (s t : NodeState) (v0 v1 : View) → IsSound v1 → LeavesOnly v0 v1 (λ c. StandsAs c s ⊎ StandsAs c t)
    → AreSound s.segments → AreSound t.segments → Covers rows s.segments → Covers rows t.segments
    → AllLeave v1 (MayLeave rows s t)
left_either rows s t v0 v1 sound1 leaves sound soundt covers coverst c now =
    ⊎_elim (λ was. inl record { stands = was; sound = sound; covers = covers }) (λ is. inr record { stands = is; sound = soundt; covers = coverst })
    (leaves.each c (sound1.counts_now v0.moment c leaves.later now))

module _ {v0 : View} {rows : List SegmentRow} {s : NodeState} {r : Request} {d : DurableEffect} (can : CanDo v0 (without_segments s) rows s r d) where
  sound_then : AreSound (segments_after s.segments (effect_of r d))
  sound_then = sound_after r d s.segments rows can.held.sound can.due

  tells_then : (new : List SegmentRow) → new ≡ rows_after r d (place_after r d) rows → Tells (segments_after s.segments (effect_of r d)) new
  tells_then new is = subst (λ (xs : List SegmentRow). Tells (segments_after s.segments (effect_of r d)) xs) (sym is) (after_told r d (place_after r d) s.segments rows can.held.told can.due)

  -- what is left, by how the calls of the effect went
  module _ {T : Type 0} {v1 : View} (sound1 : IsSound v1) {l0 l1 : Option ℕ} {calls : Result T DiskFail} (does : DoesEffect s r d calls v0 v1 l0 l1) {new : List SegmentRow} where
    -- the table was noted before them
    pub done_before : IsNotedBefore d → new ≡ rows_after r d (place_after r d) rows → AllLeave v1 (MayLeave new s (after_effect s (effect_of r d)))
    done_before before is = left_either new s (after_effect s (effect_of r d)) v0 v1 sound1 does.effect.any_moment can.held.sound sound_then
        (subst (λ (xs : List SegmentRow). Covers xs s.segments) (sym is) (covers_before r d (place_after r d) s.segments rows before can.held.told can.due))
        (tells_covers (segments_after s.segments (effect_of r d)) new (tells_then new is))

    -- they were done, and then the table was noted
    pub done_after : IsOk calls → new ≡ rows_after r d (place_after r d) rows → AllLeave v1 (MayLeave new s (after_effect s (effect_of r d)))
    done_after ok is = λ c now. inr record {
      stands = stands_now v1 (after_effect s (effect_of r d)) (on_ok calls (HoldsState v1 (after_effect s (effect_of r d))) ok does.effect.done) c now;
      sound = sound_then;
      covers = tells_covers (segments_after s.segments (effect_of r d)) new (tells_then new is);
    }

    -- they failed, and the table wasn't noted
    pub failed_after : IsNotedAfter d → new ≡ rows → AllLeave v1 (MayLeave new s (after_effect s (effect_of r d)))
    failed_after behind same = left_either new s (after_effect s (effect_of r d)) v0 v1 sound1 does.effect.any_moment can.held.sound sound_then
        (subst (λ (xs : List SegmentRow). Covers xs s.segments) (sym same) (tells_covers s.segments rows can.held.told))
        (subst (λ (xs : List SegmentRow). Covers xs (segments_after s.segments (effect_of r d))) (sym same) (covers_after r d s.segments rows behind can.held.told can.due))

-- ## The table
pub rows_then : (r : Request) (d : DurableEffect) (gs : List Segment) (rows new : List SegmentRow) → Tells gs rows → IsDue gs rows r d
    → new ≡ rows_after r d (place_after r d) rows → Tells (segments_after gs (effect_of r d)) new
rows_then r d gs rows new t due is = subst (λ (xs : List SegmentRow). Tells (segments_after gs (effect_of r d)) xs) (sym is) (after_told r d (place_after r d) gs rows t due)

pub told_either : (r : Request) (d : DurableEffect) (gs : List Segment) (rows new : List SegmentRow) → (new ≡ rows) ⊎ (new ≡ rows_after r d (place_after r d) rows) → Tells gs rows → IsDue gs rows r d
    → Tells gs new ⊎ Tells (segments_after gs (effect_of r d)) new
told_either r d gs rows new (inl same) t due = inl (subst (λ (xs : List SegmentRow). Tells gs xs) (sym same) t)
told_either r d gs rows new (inr is) t due = inr (rows_then r d gs rows new t due is)

covers_same : (r : Request) (d : DurableEffect) (gs : List Segment) (rows new : List SegmentRow) → IsNotedAfter d → new ≡ rows → Tells gs rows
    → IsDue gs rows r d → Covers new gs × Covers new (segments_after gs (effect_of r d))
covers_same r d gs rows new behind same t due = (
  subst (λ (xs : List SegmentRow). Covers xs gs) (sym same) (tells_covers gs rows t),
  subst (λ (xs : List SegmentRow). Covers xs (segments_after gs (effect_of r d))) (sym same) (covers_after r d gs rows behind t due),
)

covers_noted : (r : Request) (d : DurableEffect) (gs : List Segment) (rows new : List SegmentRow) → IsNotedBefore d → new ≡ rows_after r d 0 rows
    → Tells gs rows → IsDue gs rows r d → Covers new gs × Covers new (segments_after gs (effect_of r d))
covers_noted r d gs rows new before is t due = (
  subst (λ (xs : List SegmentRow). Covers xs gs) (sym is) (covers_before r d 0 gs rows before t due),
  subst (λ (xs : List SegmentRow). Covers xs (segments_after gs (effect_of r d))) (sym is) (tells_covers (segments_after gs (effect_of r d)) (rows_after r d 0 rows) (after_told r d 0 gs rows t due)),
)

-- what the table tells where the disk failed
pub fault_before : (r : Request) (d : DurableEffect) (rows new : List SegmentRow) → IsNotedBefore d → new ≡ rows_after r d (place_after r d) rows → NotedAtFault r d rows new
fault_before r d rows new before is =
    is ∙ ap (λ (place : ℕ). rows_after r d place rows) (sym (no_place r d before)) ∙ sym (cond-true (puts_row d) (rows_after r d 0 rows) rows before)

pub fault_after : (r : Request) (d : DurableEffect) (rows : List SegmentRow) → IsNotedAfter d → NotedAtFault r d rows rows
fault_after r d rows behind = sym (cond-false (puts_row d) (rows_after r d 0 rows) rows behind)

-- where the disk failed the table covers both
pub covers_fault : (r : Request) (d : DurableEffect) (gs : List Segment) (rows new : List SegmentRow) → NotedAtFault r d rows new → Tells gs rows
    → IsDue gs rows r d → Covers new gs × Covers new (segments_after gs (effect_of r d))
covers_fault r d gs rows new is t due =
    cond_both (puts_row d) (rows_after r d 0 rows) rows (λ xs. new ≡ xs → Covers new gs × Covers new (segments_after gs (effect_of r d)))
    (λ before same. covers_noted r d gs rows new before same t due) (λ behind same. covers_same r d gs rows new behind same t due) is

pub cut_carried : {S T : Type 0} (cost : Cut → Cost) (s t : NodeState) (left : Option ℕ) (inner : Result S DiskFail) (outer : Result T DiskFail)
    (v : View) → (IsErrOf outer Failed → IsErrOf inner Failed) → IsCutAt cost s t left inner v → IsCutAt cost s t left outer v
cut_carried cost s t left inner outer v carry cut = record { stands = λ k is failed. cut.stands k is (carry failed) }

-- ## Memory
pub numbers_noted : (r : Request) (d : DurableEffect) (m0 m1 : NodeState)
    → ((gs : List Segment) → after_effect (state_with m0 gs) (effect_of r d) ≡ state_with m1 (segments_after gs (effect_of r d)))
    → m1.segments ≡ m0.segments → m1 ≡ numbers_after m0 (effect_of r d)
numbers_noted r d m0 m1 noted same =
    let p = sym (noted []) in
    λ i. record { promised = (p i).promised; writer = (p i).writer; committed = (p i).committed; known = (p i).known; segments = same i; opened = (p i).opened; serial = (p i).serial; up = (p i).up }

-- ## A state that is held
pub held_then : (v0 v1 : View) (m0 m1 : NodeState) (rows new : List SegmentRow) (s : NodeState) (r : Request) (d : DurableEffect)
    → CanDo v0 m0 rows s r d → new ≡ rows_after r d (place_after r d) rows → m1 ≡ numbers_after m0 (effect_of r d)
    → HoldsState v1 (after_effect s (effect_of r d)) → IsHeld v1 m1 new (after_effect s (effect_of r d))
held_then v0 v1 m0 m1 rows new s r d can is noted holds = record {
  memory = noted ∙ ap (λ (m : NodeState). numbers_after m (effect_of r d)) can.held.memory;
  files = holds;
  told = subst (λ (xs : List SegmentRow). Tells (segments_after s.segments (effect_of r d)) xs) (sym is) (after_told r d (place_after r d) s.segments rows can.held.told can.due);
  sound = sound_after r d s.segments rows can.held.sound can.due;
}

-- without what memory keeps
pub can_apart : (v : View) (m : NodeState) (rows : List SegmentRow) (s : NodeState) (r : Request) (d : DurableEffect) → CanDo v m rows s r d → CanDo v (without_segments s) rows s r d
can_apart v m rows s r d can = record { held = record { memory = refl; files = can.held.files; told = can.held.told; sound = can.held.sound }; due = can.due; place = can.place }

-- ## The open segment
-- a segment that the effect passes by
passed_by : (start : ℕ) (v0 v1 : View) (gs hs : List Segment) (rows new : List SegmentRow) (o : AppendsTo v0 gs rows start)
    → find_segment start hs ≡ find_segment start gs → find_row start new ≡ find_row start rows
    → AppendsAt v1 o.segment o.row.whole_length → AppendsTo v1 hs new start
passed_by start v0 v1 gs hs rows new o same_segment same_row appends = record {
  segment = o.segment;
  row = o.row;
  known = same_segment ∙ o.known;
  told = same_row ∙ o.told;
  in_progress = o.in_progress;
  appends = appends;
}

begun_opens : (start epoch : ℕ) (v1 : View) (gs : List Segment) (rows : List SegmentRow) → AppendsAt v1 (empty_segment start epoch) 24
    → AppendsTo v1 (put_segment (empty_segment start epoch) gs) (put_row (begun_row start epoch) rows) start
begun_opens start epoch v1 gs rows appends = record {
  segment = empty_segment start epoch;
  row = begun_row start epoch;
  known = find-put_same (empty_segment start epoch) gs;
  told = find_put_same by_rows (begun_row start epoch) rows;
  in_progress = refl;
  appends = appends;
}

module _ (r : Request) (v0 v1 : View) (gs : List Segment) (rows : List SegmentRow) (t : Tells gs rows) (opened : ℕ) where
  module _ (start at : ℕ) (due : IsAppendDue start at (batch_of r) gs rows) where
    longer : Segment
    longer = record due.segment { bodies = due.segment.bodies ++ (batch_of r).bodies }

    lengthened : SegmentRow
    lengthened = appended_row (last_txid (batch_of r)) (at + length (frame_bytes (batch_of r))) due.row

    row_start : due.row.info.start ≡ start
    row_start =
        let there = row_of gs rows start due.segment t due.known in
        let same : there.0 ≡ due.row = same_Some there.0 due.row (sym there.1 ∙ due.told) in
        ap (λ (row : SegmentRow). row.info.start) (sym same) ∙ start_told due.segment there.0 there.2 ∙ due.start_is

    segments_are : put_segment longer gs ≡ appended (batch_of r).bodies (find_segment start gs) gs
    unfolding longer
    segments_are = ap (λ (o : Option Segment). appended (batch_of r).bodies o gs) (sym due.known)

    rows_are : put_row lengthened rows ≡ changed (appended_row (last_txid (batch_of r)) (at + length (frame_bytes (batch_of r)))) (find_row start rows) rows
    unfolding lengthened
    rows_are = ap (λ (o : Option SegmentRow). changed (appended_row (last_txid (batch_of r)) (at + length (frame_bytes (batch_of r)))) o rows) (sym due.told)

    appended_opens : AppendsAfter v1 gs r (durable.Append start at) → AppendsTo v1 (put_segment longer gs) (put_row lengthened rows) start
    unfolding longer lengthened
    appended_opens behind = record {
      segment = longer;
      row = lengthened;
      known = subst (λ (m : ℕ). find_segment m (put_segment longer gs) ≡ Some longer) due.start_is (find-put_same longer gs);
      told = subst (λ (m : ℕ). find_row m (put_row lengthened rows) ≡ Some lengthened) row_start (find_put_same by_rows lengthened rows);
      in_progress = due.in_progress;
      appends = behind due.segment due.known;
    }

    append_keeps : AppendsAfter v1 gs r (durable.Append start at) → ((g : Segment) (place : ℕ) → g.start ≢ start → AppendsAt v0 g place → AppendsAt v1 g place) → AppendsTo v0 gs rows opened
        → AppendsTo v1 (appended (batch_of r).bodies (find_segment start gs) gs)
        (changed (appended_row (last_txid (batch_of r)) (at + length (frame_bytes (batch_of r)))) (find_row start rows) rows) opened
    unfolding longer lengthened
    append_keeps behind others o =
        subst (λ (hs : List Segment). AppendsTo v1 hs (changed (appended_row (last_txid (batch_of r)) (at + length (frame_bytes (batch_of r)))) (find_row start rows) rows) opened) segments_are
        (subst (λ (new : List SegmentRow). AppendsTo v1 (put_segment longer gs) new opened) rows_are
        (elim (cases_eq start opened) [
          | inl is ↦ subst (λ (m : ℕ). AppendsTo v1 (put_segment longer gs) (put_row lengthened rows) m) is (appended_opens behind)
          | inr ne ↦ passed_by opened v0 v1 gs (put_segment longer gs) rows (put_row lengthened rows) o
              (find-put_other opened longer gs (λ same. ne (sym due.start_is ∙ same)))
              (find_put_other by_rows opened lengthened rows (λ same. ne (sym row_start ∙ same)))
              (others o.segment o.row.whole_length (λ same. ne (sym same ∙ find-start opened gs o.segment o.known)) o.appends)
        ]))

  module _ (start : ℕ) (g : Segment) (known : find_segment start gs ≡ Some g) (ne : start ≢ opened) where
    final_keeps : AppendsTo v0 gs rows opened → ((h : Segment) (place : ℕ) → h.start ≢ start → AppendsAt v0 h place → AppendsAt v1 h place)
        → AppendsTo v1 (finalized (find_segment start gs) gs) (changed final_row (find_row start rows) rows) opened
    final_keeps o others =
        let there = row_of gs rows start g t known in
        let closed : Segment = record g { is_final = true; accepted = false } in
        let row_start : there.0.info.start ≡ start = start_told g there.0 there.2 ∙ find-start start gs g known in
        subst (λ (o : Option Segment). AppendsTo v1 (finalized o gs) (changed final_row (find_row start rows) rows) opened) (sym known)
        (subst (λ (o : Option SegmentRow). AppendsTo v1 (put_segment closed gs) (changed final_row o rows) opened) (sym there.1)
        (passed_by opened v0 v1 gs (put_segment closed gs) rows (put_row (final_row there.0) rows) o
        (find-put_other opened closed gs (λ same. ne (sym (find-start start gs g known) ∙ same)))
        (find_put_other by_rows opened (final_row there.0) rows (λ same. ne (sym row_start ∙ same)))
        (others o.segment o.row.whole_length (λ same. ne (sym same ∙ find-start opened gs o.segment o.known)) o.appends)))

  spared : (d : DurableEffect) → IsDue gs rows r d → Spares (Some opened) d
      → ((g : Segment) (at : ℕ) → Passes g.start r d → AppendsAt v0 g at → AppendsAt v1 g at) → AppendsAfter v1 gs r d → AppendsTo v0 gs rows opened
      → AppendsTo v1 (segments_after gs (effect_of r d)) (rows_after r d (place_after r d) rows) opened
  spared (durable.Promise epoch) due spares others behind o = passed_by opened v0 v1 gs gs rows rows o refl refl (others o.segment o.row.whole_length tt o.appends)
  spared (durable.WriterEpoch epoch) due spares others behind o = passed_by opened v0 v1 gs gs rows rows o refl refl (others o.segment o.row.whole_length tt o.appends)
  spared (durable.Commit txid) due spares others behind o = passed_by opened v0 v1 gs gs rows rows o refl refl (others o.segment o.row.whole_length tt o.appends)
  spared (durable.NewSegment start epoch) due ne others behind o =
      passed_by opened v0 v1 gs (put_segment (empty_segment start epoch) gs) rows (put_row (begun_row start epoch) rows) o
      (find-put_other opened (empty_segment start epoch) gs ne) (find_put_other by_rows opened (begun_row start epoch) rows ne)
      (others o.segment o.row.whole_length (λ same. ne (sym same ∙ find-start opened gs o.segment o.known)) o.appends)
  spared (durable.Append start at) due spares others behind o = append_keeps start at due behind others o
  spared (durable.Replace epoch again) due spares others behind o = absurd spares
  spared (durable.MakeFinal start end accepted) due ne others behind o = final_keeps start due.segment due.known ne o others
  spared (durable.Remove info) due ne others behind o =
      passed_by opened v0 v1 gs (segments_after gs (effect_of r (durable.Remove info))) rows (rows_after r (durable.Remove info) 0 rows) o
      (find-remove_other opened info.start gs ne) (find_without_other by_rows opened info.start rows ne)
      (others o.segment o.row.whole_length (λ same. ne (sym same ∙ find-start opened gs o.segment o.known)) o.appends)

  opens_now : (d : DurableEffect) → Opens (Some opened) d → AppendsAfter v1 gs r d → AppendsTo v1 (segments_after gs (effect_of r d)) (rows_after r d (place_after r d) rows) opened
  opens_now (durable.Promise epoch) opens behind = absurd opens
  opens_now (durable.WriterEpoch epoch) opens behind = absurd opens
  opens_now (durable.Commit txid) opens behind = absurd opens
  opens_now (durable.NewSegment start epoch) is behind =
      subst (λ (m : ℕ). AppendsTo v1 (put_segment (empty_segment start epoch) gs) (put_row (begun_row start epoch) rows) m) is (begun_opens start epoch v1 gs rows behind)
  opens_now (durable.Append start at) opens behind = absurd opens
  opens_now (durable.Replace epoch again) opens behind = absurd opens
  opens_now (durable.MakeFinal start end accepted) opens behind = absurd opens
  opens_now (durable.Remove info) opens behind = absurd opens

pub opened_then : (r : Request) (d : DurableEffect) (v0 v1 : View) (gs : List Segment) (rows new : List SegmentRow) → Tells gs rows → IsDue gs rows r d → new ≡ rows_after r d (place_after r d) rows
    → ((g : Segment) (at : ℕ) → Passes g.start r d → AppendsAt v0 g at → AppendsAt v1 g at) → AppendsAfter v1 gs r d
    → (o : Option ℕ) → Opens o d ⊎ (Spares o d × OpenedAt v0 gs rows o) → OpenedAt v1 (segments_after gs (effect_of r d)) new o
opened_then r d v0 v1 gs rows new t due is others behind None how = tt
opened_then r d v0 v1 gs rows new t due is others behind (Some opened) (inl opens) =
    subst (λ (xs : List SegmentRow). AppendsTo v1 (segments_after gs (effect_of r d)) xs opened) (sym is) (opens_now r v0 v1 gs rows t opened d opens behind)
opened_then r d v0 v1 gs rows new t due is others behind (Some opened) (inr kept) =
    subst (λ (xs : List SegmentRow). AppendsTo v1 (segments_after gs (effect_of r d)) xs opened) (sym is) (spared r v0 v1 gs rows t opened d due kept.0 others behind kept.1)
