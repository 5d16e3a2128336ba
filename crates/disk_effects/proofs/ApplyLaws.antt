-- What an effect makes of rows that tell segments: rows that tell what it leaves.
use Rattle.std.proofs.Common.{ℕ, ◌≡◌, ◌≤◌, ◌<◌, ◌+◌, ◌-◌, ◌^◌, ◌==◌, ◌++◌, List, [], ◌∷◌, length, Option, Some, None, Bool, true, false, cond, nat_lt}
use Rattle.std.proofs.Common.{refl, sym, ap, ◌∙◌, arith, subst, length-append, add-zero}
use Rattle.std.proofs.lemmas.Bool.Decides.{nat_tests}
use Rattle.std.specs.Prelude.{IsSome}
use Rattle.std.specs.List.{list_any, flat_map}
use Rattle.base_words.proofs.StartLaws.{put_all, without_all, found_all, find_start}
use Rattle.journal_core.specs.Views.{BatchView, HeadView, last_txid}
use Rattle.journal_core.specs.declared.segment.Segment.{Segment}
use Rattle.journal_core.specs.declared.segment_info.SegmentInfo.{SegmentInfo}
use Rattle.journal_core.specs.declared.request.Request.{Request}
use Rattle.journal_core.specs.declared.request.Request.TheVariants.{State, NewEpoch, Start, Journal, Finalize, Prepare, Fetch, Accept, Purge, Read, Manifest}
use Rattle.journal_core.specs.Limits.{limit_of, max_body, max_number}
use Rattle.journal_core.specs.Segments.{find_segment, put_segment, remove_segment, info_of}
use Rattle.journal_core.specs.Effects.{segments_after, appended, finalized, empty_segment, accepted_segment}
use Rattle.journal_core.proofs.PlaceLaws.{by_segments}
use Rattle.disk_frame.specs.Frames.{entry_bytes}
use Rattle.disk_frame.proofs.ReadLaws.{short_sized}
use Rattle.disk_segment.specs.declared.segment_row.SegmentRow.{SegmentRow}
use Rattle.disk_segment.specs.Rows.{find_row, put_row, remove_row, IsRowWithin}
use Rattle.disk_segment.specs.RowsTell.{AreInfos, IsStart}
use Rattle.disk_segment.proofs.RowLaws.{by_rows}
use Rattle.journal_step.specs.declared.durable_effect.DurableEffect.{DurableEffect}
use Rattle.journal_step.specs.declared.durable_effect.DurableEffect.TheVariants as durable
use Rattle.disk_effects.specs.Told.{Tells}
use Rattle.disk_effects.specs.Due.{batch_of, effect_of, IsDue, IsInRange, IsAppendDue, IsFinalizeDue, begun_row, accepted_row, appended_row, final_row, changed, rows_after}
use Rattle.disk_effects.proofs.ToldLaws.{IsTold, found, start_told}
use Rattle.journal_step.proofs.LimitLaws.{journal_fits, accept_fits}

-- ## Rows that are put and removed
put_infos : (new : Segment) (row : SegmentRow) (gs : List Segment) (rows : List SegmentRow) → row.info ≡ info_of new → AreInfos gs rows → AreInfos (put_segment new gs) (put_row row rows)
unfolding put_segment put_row
put_infos new row [] [] e i = (e, tt)
put_infos new row [] (r ∷ rows) e i = absurd i
put_infos new row (g ∷ gs) [] e i = absurd i
put_infos new row (g ∷ gs) (r ∷ rows) e i =
    let P : ℕ → Type 0 = λ m. AreInfos (put_segment new (g ∷ gs)) (cond (m == row.info.start) (row ∷ rows) (cond (nat_lt row.info.start m) (row ∷ r ∷ rows) (r ∷ put_row row rows))) in
    let Q : ℕ → Type 0 = λ n. AreInfos (put_segment new (g ∷ gs)) (cond (g.start == n) (row ∷ rows) (cond (nat_lt n g.start) (row ∷ r ∷ rows) (r ∷ put_row row rows))) in
    subst P (sym (start_told g r i.0)) (subst Q (sym (start_told new row e))
    (elim (g.start == new.start) as (λ b. AreInfos (cond b (new ∷ gs) (cond (nat_lt new.start g.start) (new ∷ g ∷ gs) (g ∷ put_segment new gs)))
    (cond b (row ∷ rows) (cond (nat_lt new.start g.start) (row ∷ r ∷ rows) (r ∷ put_row row rows)))) [
      | true ↦ (e, i.1)
      | false ↦ elim (nat_lt new.start g.start) as (λ b. AreInfos (cond b (new ∷ g ∷ gs) (g ∷ put_segment new gs)) (cond b (row ∷ r ∷ rows) (r ∷ put_row row rows)))
          [ true ↦ (e, i) | false ↦ (i.0, put_infos new row gs rows e i.1) ]
    ]))

put_told : (new : Segment) (row : SegmentRow) (gs : List Segment) (rows : List SegmentRow) → Tells gs rows → row.info ≡ info_of new → (1 ≤ new.start) × (new.start ≤ 2 ^ 62)
    → Tells (put_segment new gs) (put_row row rows)
put_told new row gs rows t e n = record { infos = put_infos new row gs rows e t.infos; starts = put_all by_segments IsStart new gs n t.starts }

remove_infos : (start : ℕ) (gs : List Segment) (rows : List SegmentRow) → AreInfos gs rows → AreInfos (remove_segment start gs) (remove_row start rows)
unfolding remove_segment remove_row
remove_infos start [] [] i = tt
remove_infos start [] (row ∷ rows) i = absurd i
remove_infos start (g ∷ gs) [] i = absurd i
remove_infos start (g ∷ gs) (row ∷ rows) i =
    let P : ℕ → Type 0 = λ n. AreInfos (remove_segment start (g ∷ gs)) (cond (n == start) (remove_row start rows) (row ∷ remove_row start rows)) in
    subst P (sym (start_told g row i.0))
    (elim (g.start == start) as (λ b. AreInfos (cond b (remove_segment start gs) (g ∷ remove_segment start gs)) (cond b (remove_row start rows) (row ∷ remove_row start rows)))
    [ true ↦ remove_infos start gs rows i.1 | false ↦ (i.0, remove_infos start gs rows i.1) ])

-- ## Each effect
begun_info : (start epoch : ℕ) → (begun_row start epoch).info ≡ info_of (empty_segment start epoch)
begun_info start epoch =
    ap (λ (n : ℕ). let i : SegmentInfo = record { start = start; end = n - 1; epoch = epoch; is_final = false; accepted = false } in i) (sym (add-zero start))

appended_info : (g : Segment) (row : SegmentRow) (b : BatchView) (start place : ℕ) → row.info ≡ info_of g → g.start ≡ start → b.first ≡ start + length g.bodies
    → (appended_row (last_txid b) place row).info ≡ info_of (record g { bodies = g.bodies ++ b.bodies })
appended_info g row b start place e s n =
    let last : last_txid b ≡ g.start + length (g.bodies ++ b.bodies) - 1 = omega (arith, length-append g.bodies b.bodies) in
    ap (λ (i : SegmentInfo). let j : SegmentInfo = record i { end = last_txid b } in j) e
    ∙ ap (λ (n : ℕ). let i : SegmentInfo = record { start = g.start; end = n; epoch = g.epoch; is_final = g.is_final; accepted = g.accepted } in i) last

append_told : (start at place : ℕ) (b : BatchView) (gs : List Segment) (rows : List SegmentRow) → Tells gs rows → IsAppendDue start at b gs rows
    → Tells (appended b.bodies (find_segment start gs) gs) (changed (appended_row (last_txid b) place) (find_row start rows) rows)
append_told start at place b gs rows t d =
    let told : IsTold (Some d.segment) (Some d.row) =
    subst (λ p. IsTold (Some d.segment) p) d.told (subst (λ o. IsTold o (find_row start rows)) d.known (found gs rows start t)) in
    let info = appended_info d.segment d.row b start place told.0 d.start_is d.next in
    subst (λ o. Tells (appended b.bodies o gs) (changed (appended_row (last_txid b) place) (find_row start rows) rows)) (sym d.known)
    (subst (λ p. Tells (appended b.bodies (Some d.segment) gs) (changed (appended_row (last_txid b) place) p rows)) (sym d.told)
    (put_told _ _ gs rows t info (found_all by_segments IsStart start gs d.segment t.starts d.known)))

final_by : (start : ℕ) (gs : List Segment) (rows : List SegmentRow) (g : Segment) (p : Option SegmentRow) → Tells gs rows → find_segment start gs ≡ Some g → IsTold (Some g) p
    → Tells (finalized (Some g) gs) (changed final_row p rows)
final_by start gs rows g None t e told = absurd told
final_by start gs rows g (Some row) t e told =
    put_told _ _ gs rows t (ap (λ (i : SegmentInfo). let j : SegmentInfo = record i { is_final = true; accepted = false } in j) told.0) (found_all by_segments IsStart start gs g t.starts e)

final_told : (start end : ℕ) (accepted : Bool) (gs : List Segment) (rows : List SegmentRow) → Tells gs rows → IsFinalizeDue start end accepted gs
    → Tells (finalized (find_segment start gs) gs) (changed final_row (find_row start rows) rows)
final_told start end accepted gs rows t d =
    subst (λ o. Tells (finalized o gs) (changed final_row (find_row start rows) rows)) (sym d.known)
    (final_by start gs rows d.segment (find_row start rows) t d.known (subst (λ o. IsTold o (find_row start rows)) d.known (found gs rows start t)))

-- what an effect that is due makes of rows that tell segments
pub after_told : (r : Request) (d : DurableEffect) (place : ℕ) (gs : List Segment) (rows : List SegmentRow) → Tells gs rows → IsDue gs rows r d
    → Tells (segments_after gs (effect_of r d)) (rows_after r d place rows)
after_told r (durable.Promise epoch) place gs rows t due = t
after_told r (durable.WriterEpoch epoch) place gs rows t due = t
after_told r (durable.Commit txid) place gs rows t due = t
after_told r (durable.NewSegment start epoch) place gs rows t due = put_told (empty_segment start epoch) (begun_row start epoch) gs rows t (begun_info start epoch) due.start_fits
after_told r (durable.Append start at) place gs rows t due = append_told start at place (batch_of r) gs rows t due
after_told r (durable.Replace epoch again) place gs rows t due = put_told (accepted_segment epoch (batch_of r)) (accepted_row epoch (batch_of r)) gs rows t refl due.start_fits
after_told r (durable.MakeFinal start end accepted) place gs rows t due = final_told start end accepted gs rows t due
after_told r (durable.Remove info) place gs rows t due =
    record { infos = remove_infos info.start gs rows t.infos; starts = without_all by_segments IsStart info.start gs t.starts }

-- an effect that is due is in range
pub due_in_range : (r : Request) (d : DurableEffect) (gs : List Segment) (rows : List SegmentRow) → IsDue gs rows r d → IsInRange r d
due_in_range r (durable.Promise epoch) gs rows due = tt
due_in_range r (durable.WriterEpoch epoch) gs rows due = tt
due_in_range r (durable.Commit txid) gs rows due = tt
due_in_range r (durable.NewSegment start epoch) gs rows due = due.start_fits
due_in_range r (durable.Append start at) gs rows due = omega (arith, due.next)
due_in_range r (durable.Replace epoch again) gs rows due = due.start_fits
due_in_range r (durable.MakeFinal start end accepted) gs rows due = tt
due_in_range r (durable.Remove info) gs rows due = tt

-- the row that is found is there by its own start
pub found_there : (start : ℕ) (row : SegmentRow) (rows : List SegmentRow) → find_row start rows ≡ Some row → IsSome (find_row row.info.start rows)
found_there start row rows is = subst (λ (n : ℕ). IsSome (find_row n rows)) (sym (find_start by_rows start rows row is)) (subst (λ (o : Option SegmentRow). IsSome o) (sym is) refl)

-- an append leaves a row that a table can hold
pub appended_within : (start end place : ℕ) (row : SegmentRow) (rows : List SegmentRow) → find_row start rows ≡ Some row → IsRowWithin row → start ≤ end + 1 → end ≤ max_number
    → IsRowWithin (appended_row end place row)
appended_within start end place row rows is w after small = (w.0, w.1, subst (λ (n : ℕ). n ≤ end + 1) (sym (find_start by_rows start rows row is)) after, small)

-- ## The batch of a request that passes no limit
pub last_within : (r : Request) → limit_of r ≡ None → last_txid (batch_of r) ≤ max_number
last_within (Journal h start b) none = (journal_fits h start b none).1
last_within (Accept h b) none = (accept_fits h b none).1
last_within State none = omega arith
last_within (NewEpoch epoch) none = omega arith
last_within (Start h start) none = omega arith
last_within (Finalize h start end) none = omega arith
last_within (Prepare h start) none = omega arith
last_within (Fetch h start from) none = omega arith
last_within (Purge h least) none = omega arith
last_within (Read from) none = omega arith
last_within Manifest none = omega arith

abbrev IsShort : BatchView → Type 0
IsShort b = (list_any (λ body. nat_lt max_body (length body)) b.bodies ≡ false) × (length b.bodies ≤ 16384)

journal_short : (h : HeadView) (start : ℕ) (b : BatchView) → limit_of (Journal h start b) ≡ None → IsShort b
unfolding limit_of
journal_short h start b none = (grind (arith, nat_tests), grind (arith, nat_tests))

accept_short : (h : HeadView) (b : BatchView) → limit_of (Accept h b) ≡ None → IsShort b
unfolding limit_of
accept_short h b none = (grind (arith, nat_tests), grind (arith, nat_tests))

short_batch : (r : Request) → limit_of r ≡ None → IsShort (batch_of r)
short_batch (Journal h start b) none = journal_short h start b none
short_batch (Accept h b) none = accept_short h b none
short_batch State none = (refl, omega arith)
short_batch (NewEpoch epoch) none = (refl, omega arith)
short_batch (Start h start) none = (refl, omega arith)
short_batch (Finalize h start end) none = (refl, omega arith)
short_batch (Prepare h start) none = (refl, omega arith)
short_batch (Fetch h start from) none = (refl, omega arith)
short_batch (Purge h least) none = (refl, omega arith)
short_batch (Read from) none = (refl, omega arith)
short_batch Manifest none = (refl, omega arith)

-- its frame is less than 2 ^ 32 bytes
pub frame_fits : (r : Request) → limit_of r ≡ None → length (flat_map entry_bytes (batch_of r).bodies) < 2 ^ 32
frame_fits r none = let short = short_batch r none in omega (arith, short_sized (batch_of r).bodies short.0, short.1)

pub ruleset batches = (last_within, frame_fits)
