-- What a node holds after it answered Ok, and that its newest start never falls.
use Rattle.std.proofs.Common.{◌≡◌, ℕ, suc, ◌+◌, ◌≤◌, ◌⊎◌, ◌==◌, ◌&&◌, Bool, true, false, not, List, [], ◌∷◌, ◌++◌, length, length-append, Option}
use Rattle.std.proofs.Common.{Some, None, refl, inl, inr, arith, subst, sym, ap, ◌∙◌, if◌then◌else◌}
use Rattle.std.specs.Prelude.{slice_get}
use Rattle.std.proofs.lemmas.Bool.{cond_both, cases_Bool, cond-true, eqb-true}
use Rattle.journal_core.specs.Laws.{OpenIsLed}
use Rattle.journal_core.specs.Effects.{Effect, Commit, Replace, MakeFinal as SealIt, after_effects, appended, finalized, segments_after}
use Rattle.journal_core.specs.Reads.{told_of}
use Rattle.journal_core.specs.Segments.{find_segment, put_segment, newest, has_edit, any_body, end_of, HasAt}
use Rattle.journal_core.specs.Step.{node_step, refused_at_once, row_refused, row_effects, row_reply, row_then, fronted, is_final_one, finalize_refused, accept_refused, bodies_in}
use Rattle.journal_core.specs.Views.{HeadView, BatchView, last_txid}
use Rattle.journal_core.specs.declared.node_state.NodeState.{NodeState}
use Rattle.journal_core.specs.declared.refusal.Refusal.TheVariants.{LengthDiffers, NoSegment}
use Rattle.journal_core.specs.declared.reply.Reply.{Reply}
use Rattle.journal_core.specs.declared.reply.Reply.TheVariants.{Prepared, Refused}
use Rattle.journal_core.specs.declared.request.Request.{Request}
use Rattle.journal_core.specs.declared.request.Request.TheVariants.{Journal, Finalize, Prepare, Accept}
use Rattle.journal_core.specs.declared.segment.Segment.{Segment}
use Rattle.journal_core.specs.declared.segment_info.SegmentInfo.{SegmentInfo}
use Rattle.journal_history.specs.Entries.{Entry, node_after, Earlier, now, before}
use Rattle.run_safety.specs.Run.{Story, Follows}
use Rattle.run_safety.proofs.Places.{Earlier-tail}
use Rattle.journal_core.proofs.SegmentLists.{find-start, find-put_same, newest-above, newest-found}
use Rattle.journal_core.proofs.Steps.{Acted, at_once, by_row, done, acted, front_le, none≢some, segments-after, segments_all, AllQuiet, quiet_whole}
use Rattle.journal_core.proofs.Stored.{any_body_append}
use Rattle.run_safety.proofs.SoundNodes.{stored_after}
use Rattle.journal_core.proofs.Changes.{Change, same, created, grown, made_final, replaced, removed, NoEdit, JournalPassed, journal_passed, FinalizePassed, finalize_passed, open_kept}
use Rattle.run_safety.proofs.Along.{Requested, entry_change}
use Rattle.run_safety.proofs.Slots.{some_same, true≢false}
use Rattle.run_safety.proofs.Frames.{Framed}
use Rattle.run_safety.proofs.Rounds.{frame}
use Rattle.run_safety.proofs.Sent.{OfRound, round_within, to}
use Rattle.run_safety.proofs.Values.{accept_round}

-- the case of a step whose reply isn't a refusal
pub record Passed (s : NodeState) (r : Request) : Type 0 where
  pub at_once : refused_at_once s r ≡ None
  pub row : row_refused (fronted s r) r ≡ None
  pub state : (node_step s r).state ≡ row_then (after_effects (fronted s r) (row_effects (fronted s r) r)) r
  pub reply : (node_step s r).reply ≡ row_reply (fronted s r) r

abbrev pub NotRefused : Reply → Type 0
NotRefused (Refused x) = ⊥
NotRefused _ = Unit {0}

pub passed : (s : NodeState) (r : Request) (reply : Reply) → (node_step s r).reply ≡ reply → NotRefused reply → Passed s r
passed s r reply e n = go (acted s r)
  where
    go : Acted s r → Passed s r
    go (at_once x a b c) = absurd (to NotRefused (sym e ∙ ap (λ z. z.reply) b) n)
    go (by_row x a b c d) = absurd (to NotRefused (sym e ∙ ap (λ z. z.reply) c) n)
    go (done a b c d) = record { at_once = a; row = b; state = ap (λ z. z.state) c; reply = ap (λ z. z.reply) c }

-- the segments after a request that passed
pub passed_segments : (s : NodeState) (r : Request) → Passed s r → (node_step s r).state.segments ≡ segments_all s.segments (row_effects (fronted s r) r)
passed_segments s r p = ap (λ z. z.segments) p.state ∙ segments-after (fronted s r) (row_effects (fronted s r) r)

-- ## Journal
pub get_append_right : {A : Type 0} (xs ys : List A) (j : ℕ) (x : A) → slice_get ys j ≡ Some x → slice_get (xs ++ ys) (length xs + j) ≡ Some x
get_append_right [] ys j x e = subst (λ k. slice_get ys k ≡ Some x) (let h : j ≡ 0 + j = omega arith in h) e
get_append_right (y ∷ xs) ys j x e = subst (λ k. slice_get (y ∷ (xs ++ ys)) k ≡ Some x) (let h : suc (length xs + j) ≡ suc (length xs) + j = omega arith in h) (get_append_right xs ys j x e)

pub record JournalHeld (s : NodeState) (h : HeadView) (m : ℕ) (b : BatchView) : Type 0 where
  pub held : Segment
  pub found : find_segment m (node_step s (Journal h m b)).state.segments ≡ Some held
  pub header : held.epoch ≡ h.epoch
  pub has : (k : ℕ) (body : List ℕ) → slice_get b.bodies k ≡ Some body → HasAt held (b.first + k) body
  pub ends : held.start + length held.bodies ≡ b.first + length b.bodies

pub journal_held : (s : NodeState) (h : HeadView) (m : ℕ) (b : BatchView) → OpenIsLed s → Passed s (Journal h m b) → JournalHeld s h m b
journal_held s h m b sound p =
    let jp : JournalPassed (fronted s (Journal h m b)) h m b = journal_passed (fronted s (Journal h m b)) h m b p.row in
    let kept : (s.opened ≡ Some m) × (h.epoch ≤ s.promised) = open_kept s (Journal h m b) h m jp.opened in
    let le : s.promised ≤ h.epoch = front_le s (Journal h m b) h refl p.at_once in
    let there : (g : Segment) × (find_segment m s.segments ≡ Some g) × (g.epoch ≡ s.promised) × (g.is_final ≡ false) = sound m kept.0 in
    let g : Segment = there.0 in
    let start : g.start ≡ m = find-start m s.segments g there.1 in
    let first : b.first ≡ m + length g.bodies = jp.first ∙ ap (λ o. m + bodies_in o) there.1 in
    let more : Segment = record g { bodies = g.bodies ++ b.bodies } in
    let len : length (g.bodies ++ b.bodies) ≡ length g.bodies + length b.bodies = length-append g.bodies b.bodies in
    record {
      held = record g { bodies = g.bodies ++ b.bodies };
      found = ap (λ z. find_segment m z) (passed_segments s (Journal h m b) p) ∙ (ap (λ o. find_segment m (appended b.bodies o s.segments)) there.1
          ∙ (ap (λ j. find_segment j (put_segment more s.segments)) (sym start) ∙ find-put_same more s.segments));
      header = omega (arith, there.2);
      has = λ k body e. (length g.bodies + k, omega arith, get_append_right g.bodies b.bodies k body e);
      ends = omega (arith, len);
    }

-- ## Accept
pub record AcceptHeld (s : NodeState) (h : HeadView) (b : BatchView) : Type 0 where
  pub held : Segment
  pub found : find_segment b.first (node_step s (Accept h b)).state.segments ≡ Some held
  pub as_sent : ((held.epoch ≡ h.epoch) × (held.bodies ≡ b.bodies)) ⊎ ((held.is_final ≡ true) × (end_of held ≡ last_txid b))

accept_case : (s : NodeState) (h : HeadView) (b : BatchView) → Passed s (Accept h b) → (o : Option Segment) → find_segment b.first s.segments ≡ o → accept_refused b o ≡ None → AcceptHeld s h b
accept_case s h b p None is e = record {
  held = record { start = b.first; epoch = h.epoch; bodies = b.bodies; is_final = false; accepted = true };
  found = ap (λ z. find_segment b.first z) (passed_segments s (Accept h b) p)
      ∙ (ap (λ o. find_segment b.first (segments_all s.segments (if is_final_one o then [] else Replace h.epoch b ∷ []))) is
      ∙ find-put_same _ s.segments);
  as_sent = inl (refl, refl);
}
accept_case s h b p (Some g) is e = elim (cases_Bool g.is_final) [
  | inr f ↦ record {
    held = record { start = b.first; epoch = h.epoch; bodies = b.bodies; is_final = false; accepted = true };
    found = ap (λ z. find_segment b.first z) (passed_segments s (Accept h b) p) ∙ (ap (λ o. find_segment b.first (segments_all s.segments (if is_final_one o then [] else Replace h.epoch b ∷ []))) is
        ∙ (ap (λ z. find_segment b.first (segments_all s.segments (if z then [] else Replace h.epoch b ∷ []))) f ∙ find-put_same _ s.segments));
    as_sent = inl (refl, refl);
  }
  | inl t ↦ record {
    held = g;
    found = ap (λ z. find_segment b.first z) (passed_segments s (Accept h b) p) ∙ (ap (λ o. find_segment b.first (segments_all s.segments (if is_final_one o then [] else Replace h.epoch b ∷ []))) is
        ∙ (ap (λ z. find_segment b.first (segments_all s.segments (if z then [] else Replace h.epoch b ∷ []))) t ∙ is));
    as_sent = inr (
      t,
      elim (cases_Bool (end_of g == last_txid b)) [
        | inl agree ↦ eqb-true (end_of g) (last_txid b) agree
        | inr other ↦ absurd (none≢some {P = ⊥} (LengthDiffers (end_of g)) (sym e ∙ cond-true (g.is_final && not (end_of g == last_txid b)) _ None (rw (t, other))))
      ],
    );
  }
]

pub accept_held : (s : NodeState) (h : HeadView) (b : BatchView) → Passed s (Accept h b) → AcceptHeld s h b
accept_held s h b p = accept_case s h b p (find_segment b.first s.segments) refl p.row

-- ## Finalize
pub record FinalizeHeld (s : NodeState) (h : HeadView) (m l : ℕ) : Type 0 where
  pub held : Segment
  pub found : find_segment m (node_step s (Finalize h m l)).state.segments ≡ Some held
  pub final : held.is_final ≡ true
  pub ends : end_of held ≡ l
  pub edit : has_edit held ≡ true

finalize_segments : (s : NodeState) (h : HeadView) (m l : ℕ) → Passed s (Finalize h m l)
    → (node_step s (Finalize h m l)).state.segments ≡ segments_all s.segments (if is_final_one (find_segment m s.segments) then [] else SealIt m ∷ [])
finalize_segments s h m l p = passed_segments s (Finalize h m l) p ∙ drop_quiet (if is_final_one (find_segment m s.segments) then [] else SealIt m ∷ []) _ s.segments (commits_quiet _ _)
  where
    commits_quiet : (b : Bool) (c : ℕ) → AllQuiet (if b then Commit c ∷ [] else [])
    commits_quiet b c = cond_both b (Commit c ∷ []) [] (λ es. AllQuiet es) (λ e. (tt, tt)) (λ e. tt)

    drop_quiet : (xs ys : List Effect) (segments : List Segment) → AllQuiet ys → segments_all segments (xs ++ ys) ≡ segments_all segments xs
    drop_quiet [] ys segments q = quiet_whole segments ys q
    drop_quiet (x ∷ xs) ys segments q = drop_quiet xs ys (segments_after segments x) q

finalize_case : (s : NodeState) (h : HeadView) (m l : ℕ) → Passed s (Finalize h m l) → (o : Option Segment) → find_segment m s.segments ≡ o → finalize_refused h.epoch l o ≡ None → FinalizeHeld s h m l
finalize_case s h m l p None is e = none≢some NoSegment (sym e)
finalize_case s h m l p (Some g) is e =
    let q : FinalizePassed h.epoch l g = finalize_passed h.epoch l g e in
    let start : g.start ≡ m = find-start m s.segments g is in
    elim (cases_Bool g.is_final) [
      | inl t ↦ record {
        held = g;
        found = ap (λ z. find_segment m z) (finalize_segments s h m l p) ∙ (ap (λ o. find_segment m (segments_all s.segments (if is_final_one o then [] else SealIt m ∷ []))) is
            ∙ (ap (λ z. find_segment m (segments_all s.segments (if z then [] else SealIt m ∷ []))) t ∙ is));
        final = t;
        ends = q.end_is;
        edit = q.edit;
      }
      | inr f ↦ record {
        held = record g { is_final = true; accepted = false };
        found = ap (λ z. find_segment m z) (finalize_segments s h m l p) ∙ (ap (λ o. find_segment m (segments_all s.segments (if is_final_one o then [] else SealIt m ∷ []))) is
            ∙ (ap (λ z. find_segment m (segments_all s.segments (if z then [] else SealIt m ∷ []))) f
            ∙ (ap (λ o. find_segment m (finalized o s.segments)) is ∙
            (ap (λ j. find_segment j (put_segment (record g { is_final = true; accepted = false }) s.segments)) (sym start)
            ∙ find-put_same _ s.segments))));
        final = refl;
        ends = q.end_is;
        edit = q.edit;
      }
    ]

pub finalize_held : (s : NodeState) (h : HeadView) (m l : ℕ) → Passed s (Finalize h m l) → FinalizeHeld s h m l
finalize_held s h m l p = finalize_case s h m l p (find_segment m s.segments) refl p.row

-- ## Prepare
pub record PrepareTold (s : NodeState) (h : HeadView) (m : ℕ) (segment : Option SegmentInfo) : Type 0 where
  pub promise : s.promised ≤ h.epoch
  pub tells : segment ≡ told_of (find_segment m s.segments)

pub prepare_told : (s : NodeState) (h : HeadView) (m writer known : ℕ) (segment : Option SegmentInfo) → (node_step s (Prepare h m)).reply ≡ Prepared writer known segment → PrepareTold s h m segment
prepare_told s h m writer known segment e =
    let p : Passed s (Prepare h m) = passed s (Prepare h m) (Prepared writer known segment) e tt in
    let same_one : Prepared writer known segment ≡ Prepared s.writer (fronted s (Prepare h m)).known (told_of (find_segment m s.segments)) = sym e ∙ p.reply in
    record { promise = front_le s (Prepare h m) h refl p.at_once; tells = cc }

-- ## The newest start never falls
keeps_edit : (n : ℕ) (story : Story) (past : List Entry) (s : NodeState) (m : ℕ) (o new : Option Segment) (r : Request) → Change s r m o new → OfRound n story past r → newest s.segments ≡ Some m →
    (g : Segment) → o ≡ Some g → has_edit g ≡ true → (x : Segment) × (new ≡ Some x) × (has_edit x ≡ true)
keeps_edit n story past s m o new r same y top g at edit = (g, at, edit)
keeps_edit n story past s m o new r (created h q none) y top g at edit = true≢false (sym edit ∙ to NoEdit at none)
keeps_edit n story past s m (Some x) new r (grown h b q header f first) y top g at edit =
    (_, refl, any_body_append x.bodies b.bodies (to (λ z. has_edit z ≡ true) (sym (some_same at)) edit))
keeps_edit n story past s m (Some x) new r (made_final h l q ed f header ends) y top g at edit = (_, refl, to (λ z. has_edit z ≡ true) (sym (some_same at)) edit)
keeps_edit n story past s m o new r (replaced h b q first f) y top g at edit =
    let round = (accept_round (story.takeover y.a).epoch y.s y.w.committed y.w.round h b (sym q ∙ y.is)).0 in
    let fr = to (λ z. Framed y.w z) round (frame n (story.takeover y.a) y.s y.w y.sent.at) in
    (_, refl, long b.bodies fr.2)
  where
    long : (xs : List (List ℕ)) → 1 ≤ length xs → any_body xs ≡ true
    long [] le = absurd (omega arith)
    long (x ∷ xs) le = refl
keeps_edit n story past s m (Some x) new r (removed h l q newer le shut) y top g at edit = absurd (newer (to (λ z. has_edit z ≡ true) (sym (some_same at)) edit) top)

pub newest_step : (n : ℕ) (story : Story) (past : List Entry) → Follows n story past → (i k : ℕ) (e : Entry) (old : List Entry) → Earlier (e ∷ old) past → newest (node_after i old).segments ≡ Some k →
    (j : ℕ) × (newest (node_after i (e ∷ old)).segments ≡ Some j) × (k ≤ j)
newest_step n story past f i k e old p is =
    let there : (g : Segment) × (find_segment k (node_after i old).segments ≡ Some g) × (has_edit g ≡ true) = newest-found k (node_after i old).segments (stored_after i old).rising is in
    elim (entry_change i e old k) [
      | inl same_one ↦ newest-above k (node_after i (e ∷ old)).segments there.0 (same_one ∙ there.1) there.2
      | inr c ↦
          (let asked_here : Requested (node_after e.node old) e.move c.by.request = subst (λ z. Requested (node_after z old) e.move c.by.request) (sym c.node) c.by.asked in
          let kept = keeps_edit n story past (node_after i old) k _ _ c.by.request c.by.change (round_within n story past old e c.by.request f p asked_here) is there.0 there.1 there.2 in
          newest-above k (node_after i (e ∷ old)).segments kept.0 kept.1 kept.2)
    ]

-- from one place of a run to a later one
pub newest_rises : (n : ℕ) (story : Story) (past : List Entry) → Follows n story past → (i k : ℕ) {old new : List Entry} → Earlier old new
    → Earlier new past → newest (node_after i old).segments ≡ Some k →
    (j : ℕ) × (newest (node_after i new).segments ≡ Some j) × (k ≤ j)
newest_rises n story past f i k now q is = (k, is, omega arith)
newest_rises n story past f i k (before {past = rest} {e = e} p) q is =
    let r : (j : ℕ) × (newest (node_after i rest).segments ≡ Some j) × (k ≤ j) = newest_rises n story past f i k p (Earlier-tail q) is in
    let x : (j : ℕ) × (newest (node_after i (e ∷ rest)).segments ≡ Some j) × (r.0 ≤ j) = newest_step n story past f i r.0 e rest q r.1 in
    (x.0, x.1, omega (arith, r.2, x.2))
