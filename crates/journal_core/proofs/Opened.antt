-- An open segment is in progress, and its header has the promise: kept by each step.
use Rattle.std.proofs.Common.{◌≡◌, ℕ, ◌≤◌, max, ◌==◌, ◌||◌, true, false, List, [], ◌∷◌, ◌++◌, map, Option, Some, None, refl, inl, inr, arith, subst, sym, ap, ◌∙◌, nat_lt, if◌then◌else◌}
use Rattle.std.specs.List.{filter}
use Rattle.std.proofs.lemmas.Bool.{cond_both, cases_Bool, cond-true, cond-false, eq-eqb}
use Rattle.journal_core.specs.Effects.{Effect, Promise, WriterEpoch, Commit, NewSegment, Append, Replace, MakeFinal, Remove, after_effect, after_effects}
use Rattle.journal_core.specs.Limits.{head_of}
use Rattle.journal_core.specs.Segments.{find_segment}
use Rattle.journal_core.specs.Step.{node_step, refused_at_once, row_effects, is_one, is_final_one, may_go, fronted, front_opened, opened_then, row_then, row_reply, front_promised}
use Rattle.journal_core.specs.Views.{HeadView, BatchView}
use Rattle.journal_core.specs.declared.node_state.NodeState.{NodeState}
use Rattle.journal_core.specs.declared.request.Request.{Request}
use Rattle.journal_core.specs.declared.request.Request.TheVariants.{State, NewEpoch, Start, Journal, Finalize, Prepare, Fetch, Accept, Purge, Read, Manifest}
use Rattle.journal_core.specs.declared.segment.Segment.{Segment}
use Rattle.journal_core.proofs.SegmentLists.{find-put_same}
use Rattle.journal_core.proofs.Steps.{Acted, at_once, by_row, done, front_le, none≢some, segments-after, AllQuiet, quiet_first}
use Rattle.journal_core.specs.Laws.{IsStored, OpenIsLed}
use Rattle.journal_core.proofs.Changes.{Change, same, created, grown, made_final, replaced, removed, open_kept, change_answered}

opened_after : (s : NodeState) (es : List Effect) → (after_effects s es).opened ≡ s.opened
unfolding after_effects
opened_after s [] = refl
opened_after s (e ∷ es) = opened_after (after_effect s e) es

-- an effect that leaves the promise
abbrev Keeps : Effect → Type 0
Keeps (Promise e) = ⊥
Keeps _ = Unit {0}

abbrev AllKeep : List Effect → Type 0
AllKeep [] = Unit {0}
AllKeep (e ∷ es) = Keeps e × AllKeep es

keep_one : (s : NodeState) (e : Effect) → Keeps e → (after_effect s e).promised ≡ s.promised
keep_one s (Promise e) k = absurd k
keep_one s (WriterEpoch e) k = refl
keep_one s (Commit t) k = refl
keep_one s (NewSegment m e) k = refl
keep_one s (Append m b) k = refl
keep_one s (Replace e b) k = refl
keep_one s (MakeFinal m) k = refl
keep_one s (Remove m) k = refl

keep_all : (s : NodeState) (es : List Effect) → AllKeep es → (after_effects s es).promised ≡ s.promised
unfolding after_effects
keep_all s [] k = refl
keep_all s (e ∷ es) k = keep_all (after_effect s e) es k.1 ∙ keep_one s e k.0

keep_append : (xs ys : List Effect) → AllKeep xs → AllKeep ys → AllKeep (xs ++ ys)
keep_append [] ys a b = b
keep_append (x ∷ xs) ys a b = (a.0, keep_append xs ys a.1 b)

keep_map : (gs : List Segment) → AllKeep (map (λ g. Remove g.start) gs)
keep_map [] = tt
keep_map (g ∷ gs) = (tt, keep_map gs)

abbrev pub IsProposal : Request → Type 0
IsProposal (NewEpoch e) = Unit {0}
IsProposal _ = ⊥

keep_rows : (s : NodeState) (r : Request) → (IsProposal r → ⊥) → AllKeep (row_effects s r)
keep_rows s State n = tt
keep_rows s (NewEpoch e) n = absurd (n tt)
keep_rows s (Start h m) n = keep_append (if s.writer == h.epoch then [] else WriterEpoch h.epoch ∷ []) (NewSegment m h.epoch ∷ [])
    (cond_both (s.writer == h.epoch) [] (WriterEpoch h.epoch ∷ []) (λ es. AllKeep es) (λ e. tt) (λ e. (tt, tt))) (tt, tt)
keep_rows s (Journal h m b) n = (tt, tt)
keep_rows s (Finalize h m l) n = keep_append (if is_final_one (find_segment m s.segments) then [] else MakeFinal m ∷ []) (if nat_lt s.committed s.known then Commit s.known ∷ [] else [])
    (cond_both (is_final_one (find_segment m s.segments)) [] (MakeFinal m ∷ []) (λ es. AllKeep es) (λ e. tt) (λ e. (tt, tt)))
    (cond_both (nat_lt s.committed s.known) (Commit s.known ∷ []) [] (λ es. AllKeep es) (λ e. (tt, tt)) (λ e. tt))
keep_rows s (Prepare h m) n = tt
keep_rows s (Fetch h m from) n = tt
keep_rows s (Accept h b) n = cond_both (is_final_one (find_segment b.first s.segments)) [] (Replace h.epoch b ∷ []) (λ es. AllKeep es) (λ e. tt) (λ e. (tt, tt))
keep_rows s (Purge h l) n = keep_map (filter (may_go s h.committed l) s.segments)
keep_rows s (Read f) n = tt
keep_rows s Manifest n = tt

-- the promise after a request that no test refused, but for a proposal
pub promise_done : (s : NodeState) (r : Request) → (IsProposal r → ⊥) → (after_effects (fronted s r) (row_effects (fronted s r) r)).promised ≡ (fronted s r).promised
promise_done s r n = keep_all (fronted s r) (row_effects (fronted s r) r) (keep_rows (fronted s r) r n)

-- ## The open segment over a change of its start
abbrev IsSound : ℕ → Option Segment → Type 0
IsSound p None = ⊥
IsSound p (Some g) = (g.epoch ≡ p) × (g.is_final ≡ false)

abbrev IsStart : Request → Type 0
IsStart (Start h m) = Unit {0}
IsStart _ = ⊥

is_one_refl : (m : ℕ) → is_one m (Some m) ≡ true
is_one_refl m = eq-eqb m m refl

closed_by_accept : (s : NodeState) (h : HeadView) (b : BatchView) (m : ℕ) → opened_then (fronted s (Accept h b)).opened (Accept h b) ≡ Some m → ⊥
closed_by_accept s h b m e = elim (cases_Bool (nat_lt s.promised h.epoch)) [
  | inl t ↦ none≢some m (sym (cond-true (nat_lt s.promised h.epoch || true) None s.opened (ap (λ x. x || true) t)) ∙ e)
  | inr f ↦ none≢some m (sym (cond-true (nat_lt s.promised h.epoch || true) None s.opened (ap (λ x. x || true) f)) ∙ e)
]

closed_by_finalize : (o : Option ℕ) (h : HeadView) (m l : ℕ) → opened_then o (Finalize h m l) ≡ Some m → ⊥
closed_by_finalize o h m l e = elim (cases_Bool (is_one m o)) [
  | inl t ↦ none≢some m (sym (cond-true (is_one m o) None o t) ∙ e)
  | inr f ↦ let is : o ≡ Some m = sym (cond-false (is_one m o) None o f) ∙ e in
      let no : true ≡ false = sym (is_one_refl m) ∙ (ap (λ x. is_one m x) (sym is) ∙ f) in cc
]

not_purged : (s : NodeState) (h : HeadView) (l m : ℕ) → opened_then (fronted s (Purge h l)).opened (Purge h l) ≡ Some m → is_one m (fronted s (Purge h l)).opened ≡ false → ⊥
not_purged s h l m e f = let no : true ≡ false = sym (is_one_refl m) ∙ (ap (λ x. is_one m x) (sym e) ∙ f) in cc

open_change : (s : NodeState) (r : Request) (m p : ℕ) (o new : Option Segment) → Change s r m o new → (IsStart r → ⊥) → opened_then (fronted s r).opened r ≡ Some m → IsSound p o → IsSound p new
open_change s r m p o new same n e sound = sound
open_change s r m p o new (created h is none) n e sound = absurd (subst (λ x. IsStart x → ⊥) is n tt)
open_change s r m p (Some g) new (grown h b is header f first) n e sound = sound
open_change s r m p (Some g) new (made_final h l is edit f header ends) n e sound =
    absurd (closed_by_finalize (fronted s r).opened h m l (subst (λ x. opened_then (fronted s r).opened x ≡ Some m) is e))
open_change s r m p o new (replaced h b is first f) n e sound =
    absurd (closed_by_accept s h b m (subst (λ x. opened_then (fronted s x).opened x ≡ Some m) is e))
open_change s r m p (Some g) new (removed h l is newer le shut) n e sound =
    absurd (not_purged s h l m (subst (λ x. opened_then (fronted s x).opened x ≡ Some m) is e) (subst (λ x. is_one m (fronted s x).opened ≡ false) is shut))

sound_found : (p : ℕ) (o : Option Segment) → IsSound p o → (g : Segment) × (o ≡ Some g) × (g.epoch ≡ p) × (g.is_final ≡ false)
sound_found p None x = absurd x
sound_found p (Some g) x = (g, refl, x.0, x.1)

sound_from : (p : ℕ) (o : Option Segment) (g : Segment) → o ≡ Some g → g.epoch ≡ p → g.is_final ≡ false → IsSound p o
sound_from p o g is header f = subst (λ z. IsSound p z) (sym is) (header, f)

-- a headed request that neither proposes nor starts
open_headed : (s : NodeState) (r : Request) (h : HeadView) → OpenIsLed s → IsStored s → Acted s r → head_of r ≡ Some h → (IsStart r → ⊥) → refused_at_once s r ≡ None →
    (m p : ℕ) → opened_then (fronted s r).opened r ≡ Some m → (fronted s r).opened ≡ Some m → p ≡ (fronted s r).promised →
    (g : Segment) × (find_segment m (node_step s r).state.segments ≡ Some g) × (g.epoch ≡ p) × (g.is_final ≡ false)
open_headed s r h sound d a is no_start passed m p then_open front_open promise =
    let le : s.promised ≤ h.epoch = front_le s r h is passed in
    let kept : (s.opened ≡ Some m) × (h.epoch ≤ s.promised) = open_kept s r h m (subst (λ o. front_opened s r o ≡ Some m) is front_open) in
    let there : (g : Segment) × (find_segment m s.segments ≡ Some g) × (g.epoch ≡ s.promised) × (g.is_final ≡ false) = sound m kept.0 in
    let same_promise : p ≡ max s.promised h.epoch = promise ∙ ap (λ o. front_promised s.promised o) is in
    let header : there.0.epoch ≡ p = omega (arith, there.2) in
    sound_found p (find_segment m (node_step s r).state.segments)
    (open_change s r m p (find_segment m s.segments) (find_segment m (node_step s r).state.segments) (change_answered s r sound d m) no_start then_open
    (sound_from p (find_segment m s.segments) there.0 there.1 header there.3))

finalize_open : (o : Option ℕ) (h : HeadView) (n l m : ℕ) → opened_then o (Finalize h n l) ≡ Some m → o ≡ Some m
finalize_open o h n l m e = elim (cases_Bool (is_one n o)) [
  | inl t ↦ none≢some m (sym (cond-true (is_one n o) None o t) ∙ e)
  | inr f ↦ sym (cond-false (is_one n o) None o f) ∙ e
]

start_segments : (s : NodeState) (h : HeadView) (n : ℕ) →
    find_segment n (after_effects (fronted s (Start h n)) (row_effects (fronted s (Start h n)) (Start h n))).segments ≡ Some
    (record { start = n; epoch = h.epoch; bodies = []; is_final = false; accepted = false })
start_segments s h n =
    ap (λ zs. find_segment n zs) (segments-after (fronted s (Start h n)) (row_effects (fronted s (Start h n)) (Start h n))
    ∙ quiet_first s.segments (if s.writer == h.epoch then [] else WriterEpoch h.epoch ∷ []) (NewSegment n h.epoch ∷ [])
    (cond_both (s.writer == h.epoch) [] (WriterEpoch h.epoch ∷ []) (λ es. AllQuiet es) (λ e. tt) (λ e. (tt, tt))))
    ∙ find-put_same (record { start = n; epoch = h.epoch; bodies = []; is_final = false; accepted = false }) s.segments

-- the state after a request that no test refused
abbrev pub done_state : NodeState → Request → NodeState
done_state s r = row_then (after_effects (fronted s r) (row_effects (fronted s r) r)) r

open_done : (s : NodeState) (r : Request) → OpenIsLed s → IsStored s → Acted s r → refused_at_once s r ≡ None
    → node_step s r ≡ record { state = done_state s r; reply = row_reply (fronted s r) r } → OpenIsLed (done_state s r)
unfolding after_effects
open_done s State sound d a n e = sound
open_done s (NewEpoch p) sound d a n e = λ m f. none≢some m f
open_done s (Start h k) sound d a n e = λ m f.
    let same_start : k ≡ m = cc in
    let le : s.promised ≤ h.epoch = front_le s (Start h k) h refl n in
    let keeps : (done_state s (Start h k)).promised ≡ max s.promised h.epoch = promise_done s (Start h k) (λ x. x) in (
      record { start = k; epoch = h.epoch; bodies = []; is_final = false; accepted = false },
      ap (λ j. find_segment j (done_state s (Start h k)).segments) (sym same_start) ∙ start_segments s h k,
      omega arith,
      refl,
    )
open_done s (Journal h k b) sound d a n e = λ m f.
    let front : (fronted s (Journal h k b)).opened ≡ Some m = sym (opened_after (fronted s (Journal h k b)) (row_effects (fronted s (Journal h k b)) (Journal h k b))) ∙ f in
    subst (λ z. (g : Segment) × (find_segment m z.state.segments ≡ Some g) × (g.epoch ≡ (done_state s (Journal h k b)).promised) × (g.is_final ≡ false)) e
    (open_headed s (Journal h k b) h sound d a refl (λ x. x) n m _ front front (promise_done s (Journal h k b) (λ x. x)))
open_done s (Finalize h k l) sound d a n e = λ m f.
    let then_open : opened_then (fronted s (Finalize h k l)).opened (Finalize h k l) ≡ Some m =
    ap (λ o. opened_then o (Finalize h k l)) (sym (opened_after (fronted s (Finalize h k l)) (row_effects (fronted s (Finalize h k l)) (Finalize h k l)))) ∙ f in
    subst (λ z. (g : Segment) × (find_segment m z.state.segments ≡ Some g) × (g.epoch ≡ (done_state s (Finalize h k l)).promised) × (g.is_final ≡ false)) e
    (open_headed s (Finalize h k l) h sound d a refl (λ x. x) n m _ then_open (finalize_open _ h k l m then_open) (promise_done s (Finalize h k l) (λ x. x)))
open_done s (Prepare h k) sound d a n e = λ m f.
    subst (λ z. (g : Segment) × (find_segment m z.state.segments ≡ Some g) × (g.epoch ≡ (done_state s (Prepare h k)).promised) × (g.is_final ≡ false)) e
    (open_headed s (Prepare h k) h sound d a refl (λ x. x) n m _ f f refl)
open_done s (Fetch h k from) sound d a n e = λ m f.
    subst (λ z. (g : Segment) × (find_segment m z.state.segments ≡ Some g) × (g.epoch ≡ (done_state s (Fetch h k from)).promised) × (g.is_final ≡ false)) e
    (open_headed s (Fetch h k from) h sound d a refl (λ x. x) n m _ f f refl)
open_done s (Accept h b) sound d a n e = λ m f.
    absurd (closed_by_accept s h b m (sym (opened_after (fronted s (Accept h b)) (row_effects (fronted s (Accept h b)) (Accept h b))) ∙ f))
open_done s (Purge h l) sound d a n e = λ m f.
    let front : (fronted s (Purge h l)).opened ≡ Some m = sym (opened_after (fronted s (Purge h l)) (row_effects (fronted s (Purge h l)) (Purge h l))) ∙ f in
    subst (λ z. (g : Segment) × (find_segment m z.state.segments ≡ Some g) × (g.epoch ≡ (done_state s (Purge h l)).promised) × (g.is_final ≡ false)) e
    (open_headed s (Purge h l) h sound d a refl (λ x. x) n m _ front front (promise_done s (Purge h l) (λ x. x)))
open_done s (Read k) sound d a n e = sound
open_done s Manifest sound d a n e = sound

-- the front alone
open_fronted : (s : NodeState) (r : Request) → OpenIsLed s → (o : Option HeadView) → head_of r ≡ o → refused_at_once s r ≡ None → OpenIsLed (fronted s r)
open_fronted s r sound None is n = λ m f.
    let there = sound m (sym (ap (λ o. front_opened s r o) is) ∙ f) in
    (there.0, there.1, there.2 ∙ ap (λ o. front_promised s.promised o) (sym is), there.3)
open_fronted s r sound (Some h) is n = λ m f.
    let le : s.promised ≤ h.epoch = front_le s r h is n in
    let kept : (s.opened ≡ Some m) × (h.epoch ≤ s.promised) = open_kept s r h m (sym (ap (λ o. front_opened s r o) is) ∙ f) in
    let there : (g : Segment) × (find_segment m s.segments ≡ Some g) × (g.epoch ≡ s.promised) × (g.is_final ≡ false) = sound m kept.0 in
    let front : max s.promised h.epoch ≡ front_promised s.promised (head_of r) = ap (λ o. front_promised s.promised o) (sym is) in
    (there.0, there.1, omega (arith, there.2), there.3)

pub open_acted : (s : NodeState) (r : Request) → OpenIsLed s → IsStored s → Acted s r → OpenIsLed (node_step s r).state
open_acted s r sound d (at_once x a n e) = rw n sound
open_acted s r sound d (by_row x a b n e) = rw n (open_fronted s r sound (head_of r) refl a)
open_acted s r sound d (done a b n e) = subst (λ z. OpenIsLed z.state) (sym n) (open_done s r sound d (done a b n e) a n)
