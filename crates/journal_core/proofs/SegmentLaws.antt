-- What happens to the segment at one start, and to the newest start.
use Rattle.std.proofs.Common.{◌≡◌, ℕ, zero, suc, ◌++◌, ◌<◌, ◌≤◌, ◌⊎◌, max, true, false, List, [], ◌∷◌, length, take, Option, Some, None, refl, inl, inr, arith, subst, sym, ap, ◌∙◌}
use Rattle.journal_core.specs.declared.node_state.NodeState.{NodeState}
use Rattle.journal_core.specs.declared.refusal.Refusal.{Refusal}
use Rattle.journal_core.specs.declared.reply.Reply.TheVariants.{Refused}
use Rattle.journal_core.specs.declared.request.Request.{Request}
use Rattle.journal_core.specs.declared.request.Request.TheVariants.{State, NewEpoch, Start, Journal, Finalize, Prepare, Fetch, Accept, Purge, Read, Manifest}
use Rattle.journal_core.specs.declared.segment.Segment.{Segment}
use Rattle.journal_core.specs.Views.{HeadView}
use Rattle.journal_core.specs.Limits.{head_of}
use Rattle.journal_core.specs.Segments.{find_segment, has_edit, any_body, newest, IsNotFinal}
use Rattle.journal_core.specs.Effects.{after_effects}
use Rattle.journal_core.specs.Step.{node_step, refused_at_once, effects_of, front_effects, fronted, front_promised, row_effects, row_then, crashed, stopped, fresh_state}
use Rattle.journal_core.specs.Laws.{Event, Asked, Stopped, Killed, Restarted, after_event, IsStored, OpenIsLed, IsSound, SoundStays, OpenSegmentIsLed}
use Rattle.journal_core.specs.Laws.{PromiseNeverFalls, epoch_of, AnsweredIsPromised, IsPurge, FinalStays, HeaderNeverFalls, HasEdit, NewestNeverFalls}
use Rattle.journal_core.specs.Laws.{RefusedAfterLeavesFront, IsQuestion, QuestionsAreIdle}
use Rattle.journal_core.proofs.SegmentLists.{newest-above, newest-found}
use Rattle.journal_core.proofs.Steps.{Acted, at_once, by_row, done, acted, append_nil, front_le, none≢some, segments_all, segments-after}
use Rattle.journal_core.proofs.KeptLaws.{rows_kept, stop_from_front, event_kept, all_events}
use Rattle.journal_core.proofs.Stored.{any_body_append, stored_kept, stored_fresh, promise_kept}
use Rattle.journal_core.proofs.Changes.{Change, same, created, grown, made_final, replaced, removed, NoEdit, change_stopped, change_answered}
use Rattle.journal_core.proofs.Opened.{open_acted, IsProposal, promise_done}
use Rattle.journal_core.proofs.StopLaws.{take_nil}

-- ## What holds of every node
open_event : (s : NodeState) (e : Event) → IsSound s → OpenIsLed (after_event s e)
open_event s (Asked r) x = open_acted s r x.led x.stored (acted s r)
open_event s (Stopped r k) x = λ m f. none≢some m f
open_event s Killed x = λ m f. none≢some m f
open_event s Restarted x = λ m f. none≢some m f

pub sound_event : (s : NodeState) (e : Event) → IsSound s → IsSound (after_event s e)
sound_event s e x = record { stored = event_kept IsStored stored_kept s e x.stored; led = open_event s e x }

pub sound_fresh : IsSound fresh_state
sound_fresh = record { stored = stored_fresh; led = λ m f. none≢some m f }

pub sound_stays : SoundStays
sound_stays = record { fresh = sound_fresh; stays = sound_event }

pub open_is_led : OpenSegmentIsLed
open_is_led es = (all_events IsSound sound_event es fresh_state sound_fresh).led

-- ## Promises
pub promise_never_falls : PromiseNeverFalls
promise_never_falls s e = event_kept (λ t. s.promised ≤ t.promised) (promise_kept s.promised) s e (omega arith)

abbrev done_state : NodeState → Request → NodeState
done_state s r = row_then (after_effects (fronted s r) (row_effects (fronted s r) r)) r

headed_promise : (s : NodeState) (r : Request) (h : HeadView) (epoch : ℕ) → head_of r ≡ Some h → (IsProposal r → ⊥) → refused_at_once s r ≡ None → h.epoch ≡ epoch → (done_state s r).promised ≡ epoch
headed_promise s r h epoch is other a e =
    let le : s.promised ≤ h.epoch = front_le s r h is a in
    let most : max s.promised h.epoch ≡ epoch = omega arith in
    promise_done s r other ∙ (ap (front_promised s.promised) is ∙ most)

some_same : (a b : ℕ) → ◌≡◌ {A = Option ℕ} (Some a) (Some b) → a ≡ b
some_same a b e = cc

done_promise : (r : Request) (s : NodeState) (epoch : ℕ) → epoch_of r ≡ Some epoch → refused_at_once s r ≡ None → (done_state s r).promised ≡ epoch
unfolding after_effects
done_promise State s epoch e a = none≢some epoch e
done_promise (NewEpoch x) s epoch e a = some_same x epoch e
done_promise (Start h m) s epoch e a = headed_promise s (Start h m) h epoch refl (λ x. x) a (some_same h.epoch epoch e)
done_promise (Journal h m b) s epoch e a = headed_promise s (Journal h m b) h epoch refl (λ x. x) a (some_same h.epoch epoch e)
done_promise (Finalize h m l) s epoch e a = headed_promise s (Finalize h m l) h epoch refl (λ x. x) a (some_same h.epoch epoch e)
done_promise (Prepare h m) s epoch e a = headed_promise s (Prepare h m) h epoch refl (λ x. x) a (some_same h.epoch epoch e)
done_promise (Fetch h m f) s epoch e a = headed_promise s (Fetch h m f) h epoch refl (λ x. x) a (some_same h.epoch epoch e)
done_promise (Accept h b) s epoch e a = headed_promise s (Accept h b) h epoch refl (λ x. x) a (some_same h.epoch epoch e)
done_promise (Purge h l) s epoch e a = headed_promise s (Purge h l) h epoch refl (λ x. x) a (some_same h.epoch epoch e)
done_promise (Read f) s epoch e a = none≢some epoch e
done_promise Manifest s epoch e a = none≢some epoch e

pub answered_is_promised : AnsweredIsPromised
answered_is_promised s r epoch is told = go (acted s r)
  where
    go : Acted s r → (node_step s r).state.promised ≡ epoch
    go (at_once x a n e) = absurd (told (rw n tt))
    go (by_row x a b n e) = absurd (told (rw n tt))
    go (done a b n e) = ap (λ z. z.state.promised) n ∙ done_promise r s epoch is a

-- stopped after at least one effect of a request that wasn't refused at once, a node has the
-- request's epoch as a promise, or a higher one
pub stopped_is_promised : (s : NodeState) (r : Request) (h : HeadView) (k : ℕ) → head_of r ≡ Some h → refused_at_once s r ≡ None → h.epoch ≤ (stopped s r (suc k)).promised
unfolding after_effects
stopped_is_promised s r h k is a = go (acted s r)
  where
    front : h.epoch ≤ (fronted s r).promised
    front = let most : max s.promised h.epoch ≡ front_promised s.promised (head_of r) = ap (λ o. front_promised s.promised o) (sym is) in omega arith

    go : Acted s r → h.epoch ≤ (stopped s r (suc k)).promised
    go (at_once x b n e) = none≢some x (sym a ∙ b)
    go (by_row x b c n e) =
        let split = stop_from_front s r [] a k in
        subst (λ es. h.epoch ≤ (crashed (after_effects s (take (suc k) es))).promised) (sym (e ∙ sym (append_nil (front_effects s (head_of r)))))
        (subst (λ t. h.epoch ≤ t.promised) (sym split.1) (subst (λ es. h.epoch ≤ (after_effects (fronted s r) es).promised) (sym (take_nil split.0)) front))
    go (done b c n e) =
        let split = stop_from_front s r (row_effects (fronted s r) r) a k in
        subst (λ es. h.epoch ≤ (crashed (after_effects s (take (suc k) es))).promised) (sym e)
        (subst (λ t. h.epoch ≤ t.promised) (sym split.1)
        (rows_kept (λ t. h.epoch ≤ t.promised) (promise_kept h.epoch) s r b c split.0 [] (row_effects (fronted s r) r) refl front))

-- ## The segment at one start
stop_change : (s : NodeState) (r : Request) (k m : ℕ) → IsSound s → Change s r m (find_segment m s.segments) (find_segment m (stopped s r k).segments)
stop_change s r k m x = subst (λ zs. Change s r m (find_segment m s.segments) (find_segment m zs)) (sym (segments-after s (take k (effects_of s r)))) (change_stopped s r x.led x.stored k m)

true≢false : {P : Type 0} → true ≡ false → P
true≢false e = cc

one_of : (x g : Segment) → ◌≡◌ {A = Option Segment} (Some x) (Some g) → x ≡ g
one_of x g e = cc

-- what was final isn't in progress, and what holds an edit isn't empty
not_open : {P : Type 0} (x g : Segment) → ◌≡◌ {A = Option Segment} (Some x) (Some g) → g.is_final ≡ true → x.is_final ≡ false → P
not_open x g is f shut = true≢false (sym f ∙ (ap (λ z. z.is_final) (sym (one_of x g is)) ∙ shut))

not_empty : {P : Type 0} (o : Option Segment) (g : Segment) → o ≡ Some g → has_edit g ≡ true → NoEdit o → P
not_empty None g is edit n = none≢some g is
not_empty (Some x) g is edit n = true≢false (sym edit ∙ (ap has_edit (sym (one_of x g is)) ∙ n))

not_final : {P : Type 0} (o : Option Segment) (g : Segment) → o ≡ Some g → g.is_final ≡ true → IsNotFinal o → P
not_final None g is f n = none≢some g is
not_final (Some x) g is f n = not_open x g is f n

final_change : (s : NodeState) (r : Request) (m : ℕ) (o new : Option Segment) → Change s r m o new → (g : Segment) → o ≡ Some g → g.is_final ≡ true → has_edit g ≡ true
    → (new ≡ Some g) ⊎ (IsPurge r × (new ≡ None))
final_change s r m o new same g is f edit = inl is
final_change s r m o new (created h q n) g is f edit = not_empty o g is edit n
final_change s r m (Some x) new (grown h b q header shut first) g is f edit = not_open x g is f shut
final_change s r m (Some x) new (made_final h l q some shut header ends) g is f edit = not_open x g is f shut
final_change s r m o new (replaced h b q first n) g is f edit = not_final o g is f n
final_change s r m (Some x) new (removed h l q newer le shut) g is f edit = inr (subst IsPurge (sym q) tt, refl)

pub final_stays : FinalStays
final_stays s (Asked r) m g x is f =
    final_change s r m (find_segment m s.segments) (find_segment m (node_step s r).state.segments) (change_answered s r x.led x.stored m) g is f ((x.stored.segments m g is).final_edit f)
final_stays s (Stopped r k) m g x is f =
    final_change s r m (find_segment m s.segments) (find_segment m (stopped s r k).segments) (stop_change s r k m x) g is f ((x.stored.segments m g is).final_edit f)
final_stays s Killed m g x is f = inl is
final_stays s Restarted m g x is f = inl is

-- ## Header epochs
header_change : (s : NodeState) (r : Request) (m : ℕ) (o new : Option Segment) → Change s r m o new → refused_at_once s r ≡ None → (g h : Segment)
    → o ≡ Some g → new ≡ Some h → g.epoch ≤ s.promised → g.epoch ≤ h.epoch
header_change s r m o new same a g h is to low = let one : g ≡ h = one_of g h (sym is ∙ to) in omega (arith, ap (λ z. z.epoch) one)
header_change s r m o new (created d q n) a g h is to low =
    let le : s.promised ≤ d.epoch = front_le s r d (ap head_of q) a in
    let one : d.epoch ≡ h.epoch = cc in omega arith
header_change s r m (Some x) new (grown d b q header shut first) a g h is to low =
    let old : x.epoch ≡ g.epoch = ap (λ z. z.epoch) (one_of x g is) in
    let one : x.epoch ≡ h.epoch = cc in omega arith
header_change s r m (Some x) new (made_final d l q some shut header ends) a g h is to low =
    let old : x.epoch ≡ g.epoch = ap (λ z. z.epoch) (one_of x g is) in
    let one : x.epoch ≡ h.epoch = cc in omega arith
header_change s r m o new (replaced d b q first n) a g h is to low =
    let le : s.promised ≤ d.epoch = front_le s r d (ap head_of q) a in
    let one : d.epoch ≡ h.epoch = cc in omega arith
header_change s r m (Some x) new (removed d l q newer le shut) a g h is to low = none≢some h to

-- the segments where a request is refused at once
same_header : (m : ℕ) (gs hs : List Segment) (g h : Segment) → hs ≡ gs → find_segment m gs ≡ Some g → find_segment m hs ≡ Some h → g.epoch ≤ h.epoch
same_header m gs hs g h e is to = let one : g ≡ h = one_of g h (sym is ∙ (ap (find_segment m) (sym e) ∙ to)) in omega (arith, ap (λ z. z.epoch) one)

pub header_never_falls : HeaderNeverFalls
unfolding after_effects
header_never_falls s (Asked r) m g h x is to = go (acted s r)
  where
    by_change : refused_at_once s r ≡ None → g.epoch ≤ h.epoch
    by_change a = header_change s r m (find_segment m s.segments) (find_segment m (node_step s r).state.segments) (change_answered s r x.led x.stored m) a g h is to (x.stored.segments m g is).header

    go : Acted s r → g.epoch ≤ h.epoch
    go (at_once y a n e) = same_header m s.segments (node_step s r).state.segments g h (ap (λ z. z.state.segments) n) is to
    go (by_row y a b n e) = by_change a
    go (done a b n e) = by_change a
header_never_falls s (Stopped r k) m g h x is to = go (acted s r)
  where
    by_change : refused_at_once s r ≡ None → g.epoch ≤ h.epoch
    by_change a = header_change s r m (find_segment m s.segments) (find_segment m (stopped s r k).segments) (stop_change s r k m x) a g h is to (x.stored.segments m g is).header

    take_nothing : (k : ℕ) → segments_all s.segments (take k []) ≡ s.segments
    take_nothing zero = refl
    take_nothing (suc k) = refl

    go : Acted s r → g.epoch ≤ h.epoch
    go (at_once y a n e) =
        same_header m s.segments (stopped s r k).segments g h (segments-after s (take k (effects_of s r)) ∙ (ap (λ es. segments_all s.segments (take k es)) e ∙ take_nothing k)) is to
    go (by_row y a b n e) = by_change a
    go (done a b n e) = by_change a
header_never_falls s Killed m g h x is to = same_header m s.segments s.segments g h refl is to
header_never_falls s Restarted m g h x is to = same_header m s.segments s.segments g h refl is to

-- ## The newest start
abbrev HasEditIn : Option Segment → Type 0
HasEditIn o = (g : Segment) × (o ≡ Some g) × (has_edit g ≡ true)

some_edit : (bodies : List (List ℕ)) → 0 < length bodies → any_body bodies ≡ true
some_edit [] l = absurd (omega arith)
some_edit (x ∷ xs) l = refl

edit_change : (s : NodeState) (r : Request) (m : ℕ) (o new : Option Segment) → Change s r m o new → HasEdit r → newest s.segments ≡ Some m
    → (g : Segment) → o ≡ Some g → has_edit g ≡ true → HasEditIn new
edit_change s r m o new same brings n g is edit = (g, is, edit)
edit_change s r m o new (created h q none) brings n g is edit = not_empty o g is edit none
edit_change s r m (Some x) new (grown h b q header shut first) brings n g is edit =
    (record x { bodies = x.bodies ++ b.bodies }, refl, any_body_append x.bodies b.bodies (ap has_edit (one_of x g is) ∙ edit))
edit_change s r m (Some x) new (made_final h l q some shut header ends) brings n g is edit = (record x { is_final = true; accepted = false }, refl, some)
edit_change s r m o new (replaced h b q first shut) brings n g is edit =
    (record { start = b.first; epoch = h.epoch; bodies = b.bodies; is_final = false; accepted = true }, refl, some_edit b.bodies (subst HasEdit q brings))
edit_change s r m (Some x) new (removed h l q newer le shut) brings n g is edit = absurd (newer (ap has_edit (one_of x g is) ∙ edit) n)

newest_from : (m : ℕ) (gs : List Segment) → HasEditIn (find_segment m gs) → (k : ℕ) × (newest gs ≡ Some k) × (m ≤ k)
newest_from m gs there = newest-above m gs there.0 there.1 there.2

pub newest_never_falls : NewestNeverFalls
newest_never_falls s (Asked r) m x brings n =
    let there : HasEditIn (find_segment m s.segments) = newest-found m s.segments x.stored.rising n in
    newest_from m (node_step s r).state.segments
    (edit_change s r m (find_segment m s.segments) (find_segment m (node_step s r).state.segments) (change_answered s r x.led x.stored m) brings n there.0 there.1 there.2)
newest_never_falls s (Stopped r k) m x brings n =
    let there : HasEditIn (find_segment m s.segments) = newest-found m s.segments x.stored.rising n in
    newest_from m (stopped s r k).segments
    (edit_change s r m (find_segment m s.segments) (find_segment m (stopped s r k).segments) (stop_change s r k m x) brings n there.0 there.1 there.2)
newest_never_falls s Killed m x brings n = (m, n, omega arith)
newest_never_falls s Restarted m x brings n = (m, n, omega arith)

-- ## Requests that change nothing, or only what the front changes
pub refused_after : RefusedAfterLeavesFront
refused_after s r x e f = go (acted s r)
  where
    go : Acted s r → node_step s r ≡ record { state = fronted s r; reply = Refused x }
    go (at_once y a n t) = none≢some y (sym e ∙ a)
    go (by_row y a b n t) = n ∙ ap (λ z. record { state = fronted s r; reply = Refused z }) (let one : y ≡ x = one_cause y x (sym b ∙ f) in one)
      where
        one_cause : (y x : Refusal) → ◌≡◌ {A = Option Refusal} (Some y) (Some x) → y ≡ x
        one_cause y x e = cc
    go (done a b n t) = none≢some x (sym b ∙ f)

question_done : (r : Request) (s : NodeState) → IsQuestion r → done_state s r ≡ s
unfolding after_effects
question_done State s q = refl
question_done (NewEpoch e) s q = absurd q
question_done (Start h m) s q = absurd q
question_done (Journal h m b) s q = absurd q
question_done (Finalize h m l) s q = absurd q
question_done (Prepare h m) s q = absurd q
question_done (Fetch h m f) s q = absurd q
question_done (Accept h b) s q = absurd q
question_done (Purge h l) s q = absurd q
question_done (Read f) s q = refl
question_done Manifest s q = refl

question_front : (r : Request) (s : NodeState) → IsQuestion r → fronted s r ≡ s
question_front State s q = refl
question_front (NewEpoch e) s q = absurd q
question_front (Start h m) s q = absurd q
question_front (Journal h m b) s q = absurd q
question_front (Finalize h m l) s q = absurd q
question_front (Prepare h m) s q = absurd q
question_front (Fetch h m f) s q = absurd q
question_front (Accept h b) s q = absurd q
question_front (Purge h l) s q = absurd q
question_front (Read f) s q = refl
question_front Manifest s q = refl

pub questions_are_idle : QuestionsAreIdle
questions_are_idle s r q = go (acted s r)
  where
    go : Acted s r → (node_step s r).state ≡ s
    go (at_once x a n e) = ap (λ z. z.state) n
    go (by_row x a b n e) = ap (λ z. z.state) n ∙ question_front r s q
    go (done a b n e) = ap (λ z. z.state) n ∙ question_done r s q
