-- What is decided by rows that tell segments: the effects are those of the request, and each is due
-- where those before it were done.
use Rattle.std.proofs.Common.{ℕ, ◌≡◌, ◌≢◌, ◌≤◌, ◌<◌, ◌+◌, ◌-◌, ◌==◌, List, [], ◌∷◌, ◌++◌, length, Option, Some, None, Bool, true, false, cond, nat_lt}
use Rattle.std.proofs.Common.{map, filter, option_map, refl, sym, ap, ◌∙◌, arith, subst}
use Rattle.std.proofs.lemmas.Bool.Decides.{nat_tests}
use Rattle.std.proofs.lemmas.List.{map-append}
use Rattle.journal_core.specs.Views.{HeadView}
use Rattle.journal_core.specs.declared.segment.Segment.{Segment}
use Rattle.journal_core.specs.declared.segment_info.SegmentInfo.{SegmentInfo}
use Rattle.journal_core.specs.declared.node_state.NodeState.{NodeState}
use Rattle.journal_core.specs.declared.refusal.Refusal.{Refusal}
use Rattle.journal_core.specs.declared.request.Request.{Request}
use Rattle.journal_core.specs.Segments.{find_segment, remove_segment, newest, any_body, info_of, IsNotFinal}
use Rattle.journal_core.specs.Limits.{head_of, limit_of, max_number}
use Rattle.journal_core.specs.Effects.{Promise, Remove, after_effect}
use Rattle.journal_core.specs.Places.{is_old}
use Rattle.journal_core.specs.Step.{row_refused, refused_at_once, fronted, front_known, front_effects, effects_of, effects_after, start_refused, bodies_in}
use Rattle.journal_core.proofs.SegmentLists.{find-start, find-remove_other}
use Rattle.journal_core.proofs.Stored.{some_body}
use Rattle.journal_core.proofs.Changes.{not_final_of}
use Rattle.disk_segment.specs.declared.segment_row.SegmentRow.{SegmentRow}
use Rattle.disk_segment.specs.Rows.{find_row, remove_row, newest_row, RowsAbove, RowsRise}
use Rattle.disk_segment.specs.RowsTell.{AreInfos, AreStarts}
use Rattle.disk_segment.specs.Calls.{HasNoEdit}
use Rattle.journal_step.specs.declared.segment_index.IndexedSegment.{IndexedSegment}
use Rattle.journal_step.specs.declared.durable_effect.DurableEffect.{DurableEffect}
use Rattle.journal_step.specs.declared.durable_effect.DurableEffect.TheVariants as durable
use Rattle.journal_step.specs.Index.{IsEntryOf, AreTold, entry_is_old}
use Rattle.journal_step.specs.Index as index
use Rattle.journal_step.specs.Decisions.{place_of, nowhere, listed, Sees, EachSees, HasEffects, HasRemovals}
use Rattle.journal_step.proofs.IndexLaws.{old_told}
use Rattle.journal_step.proofs.LimitLaws.{IsHeadWithin, head_fits}
use Rattle.journal_step.specs.declared.durable_effect.DurableEffect.{DurableEffect}
use Rattle.journal_step.specs.declared.durable_effect.DurableEffect.TheVariants as durable
use Rattle.disk_effects.specs.Told.{Tells, state_with}
use Rattle.disk_effects.specs.Decided.{entry_of, front_effect, CanStand, EachCanStand}
use Rattle.disk_effects.specs.Due.{batch_of, effect_of, IsDue, IsRemoveDue, AreDue, rows_after}
use Rattle.disk_effects.proofs.ToldLaws.{IsTold, found, start_told, edit_told, newest_told}
use Rattle.disk_effects.proofs.StepLaws.{unless_none}
use Rattle.disk_effects.proofs.ApplyLaws.{after_told}

-- ## The rows as an index
entry_told : (g : Segment) (row : SegmentRow) → row.info ≡ info_of g → 1 ≤ g.start → IsEntryOf g (entry_of row)
entry_told g row h s = record { info = h; edit = edit_told g row h s }

one_told : (o : Option Segment) (p : Option SegmentRow) → IsTold o p → index.IsTold o (option_map entry_of p)
one_told None None h = tt
one_told None (Some row) h = absurd h
one_told (Some g) None h = absurd h
one_told (Some g) (Some row) h = entry_told g row h.0 h.1

-- rows that tell segments do so as an index
pub table_told : (gs : List Segment) (rows : List SegmentRow) → Tells gs rows → AreTold gs (λ start. option_map entry_of (find_row start rows))
table_told gs rows t start = one_told (find_segment start gs) (find_row start rows) (found gs rows start t)

-- where something can be appended, the row is that of a segment in progress
record HasPlace (start at : ℕ) (rows : List SegmentRow) : Type 0 where
  row : SegmentRow
  known : find_row start rows ≡ Some row
  in_progress : row.info.is_final ≡ false
  place : row.whole_length ≡ at

abbrev Places : (ℕ → Option IndexedSegment) → List SegmentRow → Type 0
Places at rows = (start : ℕ) → place_of (at start) < max_number → HasPlace start (place_of (at start)) rows

place_by : (start : ℕ) (rows : List SegmentRow) (row : SegmentRow) (f : Bool) → row.info.is_final ≡ f → find_row start rows ≡ Some row → cond f max_number row.whole_length < max_number
    → HasPlace start (cond f max_number row.whole_length) rows
place_by start rows row true e is l = absurd (omega arith)
place_by start rows row false e is l = record { row = row; known = is; in_progress = e; place = refl }

place_found : (start : ℕ) (rows : List SegmentRow) (p : Option SegmentRow) → find_row start rows ≡ p → place_of (option_map entry_of p) < max_number
    → HasPlace start (place_of (option_map entry_of p)) rows
place_found start rows None is l = absurd (omega arith)
place_found start rows (Some row) is l = place_by start rows row row.info.is_final refl is l

table_places : (rows : List SegmentRow) → Places (λ start. option_map entry_of (find_row start rows)) rows
table_places rows start l = place_found start rows (find_row start rows) refl l

nowhere_places : (rows : List SegmentRow) → Places nowhere rows
nowhere_places rows start l = absurd (omega arith)

-- ## Each effect is due
no_body : (xs : List (List ℕ)) → any_body xs ≡ false → xs ≡ []
no_body [] h = refl
no_body (x ∷ xs) h = absurd (cc)

begin_clear : (o : Option Segment) → start_refused o ≡ None → IsNotFinal o × HasNoEdit o
begin_clear None h = (tt, tt)
begin_clear (Some g) h = (grind arith, no_body g.bodies (grind arith))

module _ (s : NodeState) (at : ℕ → Option IndexedSegment) (rows : List SegmentRow) (r : Request) (t : Tells s.segments rows) (places : Places at rows) (known : s.known ≤ max_number) where
  append_due : (start place : ℕ) (o : Option Segment) → find_segment start s.segments ≡ o → Sees s at r (durable.Append start place) → CanStand r (durable.Append start place)
      → IsDue s.segments rows r (durable.Append start place)
  append_due start place o is h l =
      let here : HasPlace start place rows = subst (λ (n : ℕ). HasPlace start n rows) (sym h.place) (places start (subst (λ (n : ℕ). n < max_number) h.place l)) in
      by_found o is here (subst (λ p. IsTold o p) here.known (subst (λ x. IsTold x (find_row start rows)) is (found s.segments rows start t)))
    where
      by_found : (o : Option Segment) → find_segment start s.segments ≡ o → (p : HasPlace start place rows) → IsTold o (Some p.row) → IsDue s.segments rows r (durable.Append start place)
      by_found None is p told = absurd told
      by_found (Some g) is p told =
          record {
            segment = g;
            row = p.row;
            known = is;
            start_is = find-start start s.segments g is;
            in_progress = ap (λ (i : SegmentInfo). i.is_final) (sym told.0) ∙ p.in_progress;
            told = p.known;
            place = p.place;
            small = l;
            next = h.next ∙ ap (λ x. start + bodies_in x) is;
            last = h.last;
          }

  due : (e : DurableEffect) → Sees s at r e → CanStand r e → IsDue s.segments rows r e
  due (durable.Promise epoch) h c = h
  due (durable.WriterEpoch epoch) h c = h
  due (durable.Commit txid) h c = subst (λ (n : ℕ). n ≤ max_number) (sym h) known
  due (durable.NewSegment start epoch) h c =
      let clear = begin_clear (find_segment start s.segments) h.passes in
      record { start_fits = (c.0, h.start_fits); epoch_fits = (c.1, h.epoch_fits); not_final = clear.0; no_edit = clear.1 }
  due (durable.Append start place) h c = append_due start place (find_segment start s.segments) refl h c
  due (durable.Replace epoch again) h c =
      record {
        start_fits = (c.0, h.first);
        epoch_fits = (c.1, h.epoch_fits);
        last = h.last;
        not_final = not_final_of (find_segment (batch_of r).first s.segments) h.in_progress;
        record_is = h.record_is;
      }
  due (durable.MakeFinal start end accepted) h c =
      let is : h.segment.start ≡ start = find-start start s.segments h.segment h.known in
      let told : IsTold (Some h.segment) (find_row start rows) = subst (λ o. IsTold o (find_row start rows)) h.known (found s.segments rows start t) in
      let more : 0 < length h.segment.bodies = some_body h.segment.bodies h.edit in
      let first : 1 ≤ h.segment.start = told_start h.segment (find_row start rows) told in
      let ends : h.segment.start + length h.segment.bodies - 1 ≡ end = h.ends in
      record {
        segment = h.segment;
        known = h.known;
        in_progress = h.in_progress;
        start_fits = (omega arith, h.start_fits);
        holds = omega arith;
        end_fits = h.end_fits;
        ends = omega arith;
        accepted_is = h.accepted_is;
      }
    where
      told_start : (g : Segment) (p : Option SegmentRow) → IsTold (Some g) p → 1 ≤ g.start
      told_start g None x = absurd x
      told_start g (Some row) x = x.1
  due (durable.Remove info) h c = absurd h

each_due : (es : List DurableEffect) (s : NodeState) (at : ℕ → Option IndexedSegment) (rows : List SegmentRow) (r : Request) → Tells s.segments rows → Places at rows → s.known ≤ max_number
    → EachSees s at r es → EachCanStand r es → AreDue s.segments rows r es
each_due [] s at rows r t places known h c = tt
each_due (e ∷ es) s at rows r t places known h c =
    let one = due s at rows r t places known e h.0 c.0 in (
      one,
      λ place. each_due es (after_effect s (effect_of r e)) nowhere (rows_after r e place rows) r (after_told r e place s.segments rows t one) (nowhere_places _) known h.1 c.1,
    )

-- ## Purge
-- the segment of each row is there
abbrev AreThere : List Segment → List SegmentRow → Type 0
AreThere gs [] = Unit {0}
AreThere gs (row ∷ rows) = IsRemoveDue row.info gs × AreThere gs rows

there_above : (gs : List Segment) (g : Segment) (rows : List SegmentRow) → RowsAbove g.start rows → AreThere gs rows → AreThere (g ∷ gs) rows
unfolding find_segment
there_above gs g [] a h = tt
there_above gs g (row ∷ rows) a h =
    let other : (g.start == row.info.start) ≡ false = (let l : g.start < row.info.start = a.0 in grind (arith, nat_tests)) in
    (record { segment = h.0.segment; known = rw other h.0.known; info_is = h.0.info_is }, there_above gs g rows a.1 h.1)

there_all : (gs : List Segment) (rows : List SegmentRow) → AreInfos gs rows → RowsRise rows → AreThere gs rows
unfolding find_segment
there_all [] [] i r = tt
there_all [] (row ∷ rows) i r = absurd i
there_all (g ∷ gs) [] i r = absurd i
there_all (g ∷ gs) (row ∷ rows) i r =
    let s : row.info.start ≡ g.start = start_told g row i.0 in
    let here : (g.start == row.info.start) ≡ true = grind (arith, nat_tests) in
    (record { segment = g; known = rw here refl; info_is = i.0 }, there_above gs g rows (subst (λ n. RowsAbove n rows) s r.0) (there_all gs rows i.1 r.1))

there_less : (start : ℕ) (gs : List Segment) (rows : List SegmentRow) → RowsAbove start rows → AreThere gs rows → AreThere (remove_segment start gs) rows
there_less start gs [] a h = tt
there_less start gs (row ∷ rows) a h =
    let ne : start ≢ row.info.start = (let l : start < row.info.start = a.0 in omega arith) in
    (record { segment = h.0.segment; known = find-remove_other row.info.start start gs ne ∙ h.0.known; info_is = h.0.info_is }, there_less start gs rows a.1 h.1)

there_some : (p : SegmentRow → Bool) (gs : List Segment) (rows : List SegmentRow) → AreThere gs rows → AreThere gs (filter p rows)
there_some p gs [] h = tt
there_some p gs (row ∷ rows) h = elim (p row) as (λ b. AreThere gs (cond b (row ∷ filter p rows) (filter p rows))) [ true ↦ (h.0, there_some p gs rows h.1) | false ↦ there_some p gs rows h.1 ]

above_some : (p : SegmentRow → Bool) (a : ℕ) (rows : List SegmentRow) → RowsAbove a rows → RowsAbove a (filter p rows)
above_some p a [] h = tt
above_some p a (row ∷ rows) h = elim (p row) as (λ b. RowsAbove a (cond b (row ∷ filter p rows) (filter p rows))) [ true ↦ (h.0, above_some p a rows h.1) | false ↦ above_some p a rows h.1 ]

rise_some : (p : SegmentRow → Bool) (rows : List SegmentRow) → RowsRise rows → RowsRise (filter p rows)
rise_some p [] h = tt
rise_some p (row ∷ rows) h = elim (p row) as (λ b. RowsRise (cond b (row ∷ filter p rows) (filter p rows)))
    [ true ↦ (above_some p row.info.start rows h.0, rise_some p rows h.1) | false ↦ rise_some p rows h.1 ]

removes_due : (r : Request) (gs : List Segment) (rows olds : List SegmentRow) → RowsRise olds → AreThere gs olds → AreDue gs rows r (map (λ row. durable.Remove row.info) olds)
removes_due r gs rows [] s h = tt
removes_due r gs rows (old ∷ olds) s h = (h.0, λ place. removes_due r (remove_segment old.info.start gs) (remove_row old.info.start rows) olds s.1 (there_less old.info.start gs olds s.0 h.1))

-- the rows that a purge removes
abbrev goes : NodeState → ℕ → ℕ → List SegmentRow → SegmentRow → Bool
goes m committed least rows row = entry_is_old m.opened (newest_row rows) committed least (entry_of row)

-- their removals
abbrev pub removed : NodeState → ℕ → ℕ → List SegmentRow → List DurableEffect
removed m committed least rows = map (λ row. durable.Remove row.info) (filter (goes m committed least rows) rows)

removals_due : (m : NodeState) (r : Request) (committed least : ℕ) (gs : List Segment) (rows : List SegmentRow) → Tells gs rows → RowsRise rows
    → AreDue gs rows r (map (λ row. durable.Remove row.info) (filter (goes m committed least rows) rows))
removals_due m r committed least gs rows t rise =
    let p = goes m committed least rows in
    removes_due r gs rows (filter p rows) (rise_some p rows rise) (there_some p gs rows (there_all gs rows t.infos rise))

purge_each : (r : Request) (m : NodeState) (committed least : ℕ) (top : Option ℕ) (gs : List Segment) (rows : List SegmentRow) → AreInfos gs rows → AreStarts gs
    → map (effect_of r) (map (λ row. durable.Remove row.info) (filter (λ row. entry_is_old m.opened top committed least (entry_of row)) rows))
    ≡ map (λ (g : Segment). Remove g.start) (filter (is_old m.opened top committed least) gs)
purge_each r m committed least top [] [] i s = refl
purge_each r m committed least top [] (row ∷ rows) i s = absurd i
purge_each r m committed least top (g ∷ gs) [] i s = absurd i
purge_each r m committed least top (g ∷ gs) (row ∷ rows) i s =
    let p : SegmentRow → Bool = λ x. entry_is_old m.opened top committed least (entry_of x) in
    let q : Segment → Bool = is_old m.opened top committed least in
    let same : p row ≡ q g = old_told m.opened top committed least g (entry_of row) (entry_told g row i.0 s.0.0) in
    let rest = purge_each r m committed least top gs rows i.1 s.1 in
    let start = start_told g row i.0 in
    rw same (elim (q g) as (λ b. map (effect_of r) (map (λ x. durable.Remove x.info) (cond b (row ∷ filter p rows) (filter p rows))) ≡ map
    (λ (x : Segment). Remove x.start) (cond b (g ∷ filter q gs) (filter q gs))) [
      | true ↦ ap (λ n. Remove n ∷ map (effect_of r) (map (λ x. durable.Remove x.info) (filter p rows))) start ∙ ap (λ es. Remove g.start ∷ es) rest
      | false ↦ rest
    ])

-- ## The effects after the front
-- what is refused has none
pub refused_has_none : (s : NodeState) (r : Request) (refusal : Refusal) → row_refused s r ≡ Some refusal → [] ≡ effects_after s r (row_refused s r)
refused_has_none s r refusal e = sym (ap (effects_after s r) e)

pub few_effects : (s : NodeState) (at : ℕ → Option IndexedSegment) (r : Request) (a b : Option DurableEffect) (ds : List DurableEffect) → HasEffects s at r (listed a ++ listed b)
    → ds ≡ listed a ++ listed b → map (effect_of r) ds ≡ effects_after s r (row_refused s r)
few_effects s at r a b ds h e =
    ap (map (effect_of r)) e ∙ sym h.effects ∙ sym (ap (effects_after s r) h.passes)

stand_both : (r : Request) (xs ys : List DurableEffect) → EachCanStand r xs → EachCanStand r ys → EachCanStand r (xs ++ ys)
stand_both r [] ys a b = b
stand_both r (x ∷ xs) ys a b = (a.0, stand_both r xs ys a.1 b)

pub few_due : (m : NodeState) (gs : List Segment) (rows : List SegmentRow) (r : Request) (a b : Option DurableEffect) (ds : List DurableEffect) → Tells gs rows → m.known ≤ max_number
    → HasEffects (state_with m gs) (λ start. option_map entry_of (find_row start rows)) r (listed a ++ listed b) → ds ≡ listed a ++ listed b
    → EachCanStand r (listed a) → EachCanStand r (listed b) → AreDue gs rows r ds
few_due m gs rows r a b ds t known h e c d =
    subst (λ (xs : List DurableEffect). AreDue gs rows r xs) (sym e)
    (each_due (listed a ++ listed b) (state_with m gs) (λ start. option_map entry_of (find_row start rows)) rows r t (table_places rows) known h.sees (stand_both r (listed a) (listed b) c d))

pub purge_effects : (m : NodeState) (gs : List Segment) (rows : List SegmentRow) (r : Request) (committed least : ℕ) (ds : List DurableEffect)
    → Tells gs rows → HasRemovals (state_with m gs) r committed least
    → ds ≡ map (λ row. durable.Remove row.info) (filter (goes m committed least rows) rows) → map (effect_of r) ds ≡ effects_after (state_with m gs) r (row_refused (state_with m gs) r)
purge_effects m gs rows r committed least ds t h e =
    ap (map (effect_of r)) e
    ∙ ap (λ top. map (effect_of r) (map (λ row. durable.Remove row.info) (filter (λ row. entry_is_old m.opened top committed least (entry_of row)) rows))) (newest_told gs rows t)
    ∙ purge_each r m committed least (newest gs) gs rows t.infos t.starts ∙ sym h.removals ∙ sym (ap (effects_after (state_with m gs) r) h.passes)

pub purge_due : (m : NodeState) (gs : List Segment) (rows : List SegmentRow) (r : Request) (committed least : ℕ) (ds : List DurableEffect) → Tells gs rows → RowsRise rows
    → ds ≡ map (λ row. durable.Remove row.info) (filter (goes m committed least rows) rows) → AreDue gs rows r ds
purge_due m gs rows r committed least ds t rise e = subst (λ (xs : List DurableEffect). AreDue gs rows r xs) (sym e) (removals_due m r committed least gs rows t rise)

-- ## The front
pub known_fits : (known : ℕ) (h : Option HeadView) → IsHeadWithin h → known ≤ max_number → front_known known h ≤ max_number
known_fits known None f k = k
known_fits known (Some h) f k = omega (arith, f.1)

front_same : (m : NodeState) (r : Request) (h : Option HeadView) → map (effect_of r) (listed (front_effect m h)) ≡ front_effects m h
front_same m r None = refl
front_same m r (Some h) =
    elim (nat_lt m.promised h.epoch) as (λ b. map (effect_of r) (listed (cond b (Some (durable.Promise h.epoch)) None)) ≡ cond b (Promise h.epoch ∷ []) []) [ true ↦ refl | false ↦ refl ]

front_due : (m : NodeState) (r : Request) (h : Option HeadView) (gs : List Segment) (rows : List SegmentRow) (rest : List DurableEffect) → IsHeadWithin h → AreDue gs rows r rest
    → AreDue gs rows r (listed (front_effect m h) ++ rest)
front_due m r None gs rows rest f due = due
front_due m r (Some h) gs rows rest f due =
    elim (nat_lt m.promised h.epoch) as (λ b. AreDue gs rows r (listed (cond b (Some (durable.Promise h.epoch)) None) ++ rest)) [ true ↦ (f.0, λ place. due) | false ↦ due ]

-- that of the front and those after it are the effects of the request
pub plan_effects : (m : NodeState) (r : Request) (gs : List Segment) (front rest ds : List DurableEffect) → refused_at_once m r ≡ None → front ≡ listed (front_effect m (head_of r))
    → map (effect_of r) rest ≡ effects_after (fronted (state_with m gs) r) r (row_refused (fronted (state_with m gs) r) r) → ds ≡ front ++ rest → map (effect_of r) ds ≡ effects_of (state_with m gs) r
unfolding effects_of
plan_effects m r gs front rest ds none f behind e =
    let s = state_with m gs in
    ap (map (effect_of r)) e ∙ map-append (effect_of r) front rest
    ∙ ap (λ es. es ++ map (effect_of r) rest) (ap (map (effect_of r)) f ∙ front_same m r (head_of r))
    ∙ ap (λ es. front_effects s (head_of r) ++ es) behind ∙ sym (unless_none s r (refused_at_once s r) none)

pub plan_due : (m : NodeState) (r : Request) (gs : List Segment) (rows : List SegmentRow) (front rest ds : List DurableEffect) → limit_of r ≡ None → front ≡ listed (front_effect m (head_of r))
    → AreDue gs rows r rest → ds ≡ front ++ rest → AreDue gs rows r ds
plan_due m r gs rows front rest ds fits f due e =
    subst (λ (xs : List DurableEffect). AreDue gs rows r xs) (sym (e ∙ ap (λ (xs : List DurableEffect). xs ++ rest) f)) (front_due m r (head_of r) gs rows rest (head_fits r fits) due)

-- ## The plan
module _ (m front : NodeState) (r : Request) (gs : List Segment) (is : front ≡ state_with (fronted m r) []) where
  pub refusal_planned : (refusal : Option Refusal) → row_refused (state_with front gs) r ≡ refusal → refusal ≡ row_refused (state_with (fronted m r) gs) r
  refusal_planned refusal h = sym h ∙ ap (λ (x : NodeState). row_refused (state_with x gs) r) is

  pub effects_planned : (promise : Option DurableEffect) (rest ds : List DurableEffect) → refused_at_once m r ≡ None → promise ≡ front_effect m (head_of r)
      → map (effect_of r) rest ≡ effects_after (state_with front gs) r (row_refused (state_with front gs) r) → ds ≡ listed promise ++ rest → map (effect_of r) ds ≡ effects_of (state_with m gs) r
  effects_planned promise rest ds none raised after e =
      plan_effects m r gs (listed promise) rest ds none (ap listed raised)
      (subst (λ (x : NodeState). map (effect_of r) rest ≡ effects_after (state_with x gs) r (row_refused (state_with x gs) r)) is after) e

  pub due_planned : (rows : List SegmentRow) (promise : Option DurableEffect) (rest ds : List DurableEffect) → limit_of r ≡ None
      → promise ≡ front_effect m (head_of r) → AreDue gs rows r rest → ds ≡ listed promise ++ rest
      → AreDue gs rows r ds
  due_planned rows promise rest ds fits raised due e = plan_due m r gs rows (listed promise) rest ds fits (ap listed raised) due e

  pub known_planned : limit_of r ≡ None → m.known ≤ max_number → front.known ≤ max_number
  known_planned fits known = subst (λ (x : NodeState). x.known ≤ max_number) (sym is) (known_fits m.known (head_of r) (head_fits r fits) known)
