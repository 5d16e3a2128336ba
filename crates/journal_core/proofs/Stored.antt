-- What holds of all that is durable, kept by each effect.
use Rattle.std.proofs.Common.{◌≡◌, ℕ, ◌<◌, ◌≤◌, ◌==◌, Bool, true, false, not, List, [], ◌∷◌, ◌++◌, map, Option, Some, None, refl, inl, inr, arith, subst, sym, ap, ◌∙◌, nat_le, if◌then◌else◌, length}
use Rattle.std.proofs.lemmas.Bool.{cond_both, cases_Bool, cases_eq, leb-false, cond-true, not-false}
use Rattle.journal_core.specs.Effects.{Effect, Promise, WriterEpoch, Commit, NewSegment, Append, Replace, MakeFinal, Remove, after_effect, after_effects, segments_after, appended, finalized}
use Rattle.journal_core.specs.Limits.{head_of}
use Rattle.journal_core.specs.Segments.{find_segment, put_segment, remove_segment, has_edit, any_body, AreRising}
use Rattle.journal_core.specs.Laws.{EachFound, IsBelow, IsStored, front, one_effect, follow, down, up, IsKept}
use Rattle.journal_core.specs.Step.{row_refused, row_effects, finalize_refused, front_promised, fronted, fresh_state}
use Rattle.journal_core.specs.Views.{HeadView, BatchView}
use Rattle.journal_core.specs.declared.node_state.NodeState.{NodeState}
use Rattle.journal_core.specs.declared.refusal.Refusal.{Refusal}
use Rattle.journal_core.specs.declared.refusal.Refusal.TheVariants.{EpochRefused, NoSegment}
use Rattle.journal_core.specs.declared.request.Request.{Request}
use Rattle.journal_core.specs.declared.request.Request.TheVariants.{State, NewEpoch, Start, Journal, Finalize, Prepare, Fetch, Accept, Purge, Read, Manifest}
use Rattle.journal_core.specs.declared.segment.Segment.{Segment}
use Rattle.journal_core.proofs.SegmentLists.{Rising-put, Rising-remove, find-put_same, find-put_other, find-remove_same, find-remove_other}
use Rattle.journal_core.proofs.Steps.{none≢some}

pub EachFound-put : (Q : Segment → Type 0) (x : Segment) (segments : List Segment) → Q x → EachFound Q segments → EachFound Q (put_segment x segments)
EachFound-put Q x segments q each m g e = elim (cases_eq x.start m) [
  | inl same ↦
      let is : ◌≡◌ {A = Option Segment} (Some x) (Some g) = sym (find-put_same x segments) ∙ (ap (λ k. find_segment k (put_segment x segments)) same ∙ e) in
      let same_one : x ≡ g = cc in subst Q same_one q
  | inr other ↦ each m g (sym (find-put_other m x segments other) ∙ e)
]

pub EachFound-remove : (Q : Segment → Type 0) (k : ℕ) (segments : List Segment) → EachFound Q segments → EachFound Q (remove_segment k segments)
EachFound-remove Q k segments each m g e = elim (cases_eq k m) [
  | inl same ↦ none≢some g (sym (find-remove_same k segments) ∙ (ap (λ j. find_segment j (remove_segment k segments)) same ∙ e))
  | inr other ↦ each m g (sym (find-remove_other m k segments other) ∙ e)
]

abbrev pub Allowed : NodeState → Effect → Type 0
Allowed s (Promise e) = s.promised ≤ e
Allowed s (WriterEpoch e) = e ≤ s.promised
Allowed s (Commit t) = Unit {0}
Allowed s (NewSegment m e) = e ≤ s.promised
Allowed s (Append m b) = Unit {0}
Allowed s (Replace e b) = e ≤ s.promised
Allowed s (MakeFinal m) = (g : Segment) → find_segment m s.segments ≡ Some g → has_edit g ≡ true
Allowed s (Remove m) = Unit {0}

abbrev pub AllAllowed : NodeState → List Effect → Type 0
AllAllowed s [] = Unit {0}
AllAllowed s (e ∷ rest) = Allowed s e × AllAllowed (after_effect s e) rest

false≢true : {P : Type 0} → false ≡ true → P
false≢true e = cc

pub some_body : (bodies : List (List ℕ)) → any_body bodies ≡ true → 0 < length bodies
some_body [] e = false≢true e
some_body (x ∷ xs) e = omega arith

pub any_body_append : (xs ys : List (List ℕ)) → any_body xs ≡ true → any_body (xs ++ ys) ≡ true
any_body_append [] ys e = false≢true e
any_body_append (x ∷ xs) ys e = refl

appended_below : (p m : ℕ) (bodies : List (List ℕ)) (segments : List Segment) → EachFound (IsBelow p) segments → (o : Option Segment)
    → find_segment m segments ≡ o → EachFound (IsBelow p) (appended bodies o segments)
appended_below p m bodies segments each None e = each
appended_below p m bodies segments each (Some g) e =
    EachFound-put (IsBelow p) (record g { bodies = g.bodies ++ bodies }) segments
    (record { header = (each m g e).header; final_edit = λ f. any_body_append g.bodies bodies ((each m g e).final_edit f) }) each

sealed_below : (p m : ℕ) (segments : List Segment) → EachFound (IsBelow p) segments
    → ((g : Segment) → find_segment m segments ≡ Some g → has_edit g ≡ true) → (o : Option Segment) → find_segment m segments ≡ o
    → EachFound (IsBelow p) (finalized o segments)
sealed_below p m segments each edit None e = each
sealed_below p m segments each edit (Some g) e =
    EachFound-put (IsBelow p) (record g { is_final = true; accepted = false }) segments
    (record { header = (each m g e).header; final_edit = λ f. edit g e }) each

segments_below : (s : NodeState) (e : Effect) → IsStored s → Allowed s e → EachFound (IsBelow (after_effect s e).promised) (after_effect s e).segments
segments_below s (Promise e) d a = λ m g f. record { header = let h = (d.segments m g f).header in omega arith; final_edit = (d.segments m g f).final_edit }
segments_below s (WriterEpoch e) d a = d.segments
segments_below s (Commit t) d a = d.segments
segments_below s (NewSegment m e) d a = EachFound-put (IsBelow s.promised) _ s.segments (record { header = a; final_edit = λ f. false≢true f }) d.segments
segments_below s (Append m b) d a = appended_below s.promised m b s.segments d.segments (find_segment m s.segments) refl
segments_below s (Replace e b) d a = EachFound-put (IsBelow s.promised) _ s.segments (record { header = a; final_edit = λ f. false≢true f }) d.segments
segments_below s (MakeFinal m) d a = sealed_below s.promised m s.segments d.segments a (find_segment m s.segments) refl
segments_below s (Remove m) d a = EachFound-remove (IsBelow s.promised) m s.segments d.segments

appended_rising : (bodies : List (List ℕ)) (o : Option Segment) (segments : List Segment) → AreRising segments → AreRising (appended bodies o segments)
appended_rising bodies None segments r = r
appended_rising bodies (Some g) segments r = Rising-put _ segments r

sealed_rising : (o : Option Segment) (segments : List Segment) → AreRising segments → AreRising (finalized o segments)
sealed_rising None segments r = r
sealed_rising (Some g) segments r = Rising-put _ segments r

pub rising_after : (segments : List Segment) (e : Effect) → AreRising segments → AreRising (segments_after segments e)
rising_after segments (Promise e) r = r
rising_after segments (WriterEpoch e) r = r
rising_after segments (Commit t) r = r
rising_after segments (NewSegment m e) r = Rising-put _ segments r
rising_after segments (Append m b) r = appended_rising b (find_segment m segments) segments r
rising_after segments (Replace e b) r = Rising-put _ segments r
rising_after segments (MakeFinal m) r = sealed_rising (find_segment m segments) segments r
rising_after segments (Remove m) r = Rising-remove m segments r

writer_below : (s : NodeState) (e : Effect) → IsStored s → Allowed s e → (after_effect s e).writer ≤ (after_effect s e).promised
writer_below s (Promise e) d a = omega (arith, d.writer)
writer_below s (WriterEpoch e) d a = a
writer_below s (Commit t) d a = d.writer
writer_below s (NewSegment m e) d a = d.writer
writer_below s (Append m b) d a = d.writer
writer_below s (Replace e b) d a = d.writer
writer_below s (MakeFinal m) d a = d.writer
writer_below s (Remove m) d a = d.writer

-- kept by each effect
pub stored_effect : (s : NodeState) (e : Effect) → IsStored s → Allowed s e → IsStored (after_effect s e)
stored_effect s e d a = record { writer = writer_below s e d a; segments = segments_below s e d a; rising = rising_after s.segments e d.rising }

-- ## Each request's effects are allowed
start_allowed : (t : NodeState) (writer m e : ℕ) → e ≤ t.promised → AllAllowed t ((if writer == e then [] else WriterEpoch e ∷ []) ++ NewSegment m e ∷ [])
start_allowed t writer m e le = cond_both (writer == e) [] (WriterEpoch e ∷ []) (λ es. AllAllowed t (es ++ NewSegment m e ∷ [])) (λ c. (le, tt)) (λ c. (le, (le, tt)))

commit_allowed : (t : NodeState) (b : Bool) (c : ℕ) → AllAllowed t (if b then Commit c ∷ [] else [])
commit_allowed t b c = cond_both b (Commit c ∷ []) [] (λ es. AllAllowed t es) (λ e. (tt, tt)) (λ e. tt)

seal_allowed : (t : NodeState) (m : ℕ) (a b : Bool) (c : ℕ) → ((g : Segment) → find_segment m t.segments ≡ Some g → has_edit g ≡ true) →
    AllAllowed t ((if a then [] else MakeFinal m ∷ []) ++ (if b then Commit c ∷ [] else []))
seal_allowed t m a b c edit = cond_both a [] (MakeFinal m ∷ []) (λ es. AllAllowed t (es ++ (if b then Commit c ∷ [] else [])))
    (λ e. commit_allowed t b c) (λ e. (edit, commit_allowed (after_effect t (MakeFinal m)) b c))

remove_allowed : (t : NodeState) (gs : List Segment) → AllAllowed t (map (λ g. Remove g.start) gs)
remove_allowed t [] = tt
remove_allowed t (g ∷ gs) = (tt, remove_allowed (after_effect t (Remove g.start)) gs)

-- a finalise that isn't refused meets a segment with an edit
pub finalize_edit : (epoch end : ℕ) (o : Option Segment) (g : Segment) → o ≡ Some g → finalize_refused epoch end o ≡ None → has_edit g ≡ true
finalize_edit epoch end None g is e = none≢some g is
finalize_edit epoch end (Some x) g is e = elim (cases_Bool (not (has_edit x))) [
  | inl t ↦ none≢some NoSegment (sym (sym (cond-true (not (has_edit x)) _ _ t) ∙ e))
  | inr f ↦ let same : x ≡ g = cc in subst (λ z. has_edit z ≡ true) same (not-false (has_edit x) f)
]

new_epoch_above : (e p : ℕ) → ◌≡◌ {A = Option Refusal} (if nat_le e p then Some (EpochRefused p) else None) None → p < e
new_epoch_above e p n = elim (cases_Bool (nat_le e p)) [
  | inl t ↦ none≢some (EpochRefused p) (sym (sym (cond-true (nat_le e p) _ _ t) ∙ n))
  | inr f ↦ leb-false e p f
]

accept_allowed : (t : NodeState) (b : Bool) (e : ℕ) (batch : BatchView) → e ≤ t.promised → AllAllowed t (if b then [] else Replace e batch ∷ [])
accept_allowed t b e batch le = cond_both b [] (Replace e batch ∷ []) (λ es. AllAllowed t es) (λ c. tt) (λ c. (le, tt))

pub rows_allowed : (s t : NodeState) (r : Request) → row_refused (fronted s r) r ≡ None → t.promised ≡ (fronted s r).promised → t.segments ≡ s.segments → AllAllowed t (row_effects (fronted s r) r)
rows_allowed s t State n p q = tt
rows_allowed s t (NewEpoch e) n p q = (let h : s.promised < e = new_epoch_above e s.promised n in omega (arith, p), tt)
rows_allowed s t (Start h m) n p q = start_allowed t s.writer m h.epoch (omega arith)
rows_allowed s t (Journal h m b) n p q = (tt, tt)
rows_allowed s t (Finalize h m l) n p q = seal_allowed t m _ _ _ (λ g is. finalize_edit h.epoch l (find_segment m s.segments) g (ap (λ z. find_segment m z) (sym q) ∙ is) n)
rows_allowed s t (Prepare h m) n p q = tt
rows_allowed s t (Fetch h m from) n p q = tt
rows_allowed s t (Accept h b) n p q = accept_allowed t _ h.epoch b (omega arith)
rows_allowed s t (Purge h l) n p q = remove_allowed t _
rows_allowed s t (Read f) n p q = tt
rows_allowed s t Manifest n p q = tt

-- the effect at each place
allowed_at : (t : NodeState) (before later : List Effect) (e : Effect) → AllAllowed t (before ++ e ∷ later) → Allowed (after_effects t before) e
unfolding after_effects
allowed_at t [] later e a = a.0
allowed_at t (x ∷ before) later e a = allowed_at (after_effect t x) before later e a.1

effect_allowed : (s old : NodeState) (r : Request) (before later : List Effect) (e : Effect) → row_refused (fronted old r) r ≡ None → row_effects (fronted old r) r ≡ before ++ e ∷ later
    → s ≡ after_effects (fronted old r) before → Allowed s e
effect_allowed s old r before later e b all is =
    subst (λ x. Allowed x e) (sym is) (allowed_at (fronted old r) before later e (subst (λ es. AllAllowed (fronted old r) es) all (rows_allowed old (fronted old r) r b refl refl)))

-- ## Kept by each part
front_promise_le : (p : ℕ) (o : Option HeadView) → p ≤ front_promised p o
front_promise_le p None = omega arith
front_promise_le p (Some h) = omega arith

pub stored_fronted : (s : NodeState) (r : Request) → IsStored s → IsStored (fronted s r)
stored_fronted s r d =
    let le : s.promised ≤ front_promised s.promised (head_of r) = front_promise_le s.promised (head_of r) in
    record {
      writer = omega (arith, d.writer);
      segments = λ m g f. record { header = omega (arith, (d.segments m g f).header); final_edit = (d.segments m g f).final_edit };
      rising = d.rising;
    }

pub stored_kept : IsKept IsStored
stored_kept s t (front r a is) d = subst IsStored (sym is) (stored_fronted s r d)
stored_kept s t (one_effect old r before later e a b all from is) d = subst IsStored (sym is) (stored_effect s e d (effect_allowed s old r before later e b all from))
stored_kept s t (follow old r a b from is) d = subst IsStored (sym is) (record { writer = d.writer; segments = d.segments; rising = d.rising })
stored_kept s t (down is) d = subst IsStored (sym is) (record { writer = d.writer; segments = d.segments; rising = d.rising })
stored_kept s t (up is) d = subst IsStored (sym is) (record { writer = d.writer; segments = d.segments; rising = d.rising })

pub stored_fresh : IsStored fresh_state
unfolding find_segment
stored_fresh = record { writer = omega arith; segments = λ m g e. none≢some g e; rising = tt }

-- ## The promise never falls
pub promise_effect : (s : NodeState) (e : Effect) → Allowed s e → s.promised ≤ (after_effect s e).promised
promise_effect s (Promise e) a = a
promise_effect s (WriterEpoch e) a = omega arith
promise_effect s (Commit t) a = omega arith
promise_effect s (NewSegment m e) a = omega arith
promise_effect s (Append m b) a = omega arith
promise_effect s (Replace e b) a = omega arith
promise_effect s (MakeFinal m) a = omega arith
promise_effect s (Remove m) a = omega arith

pub promise_kept : (p : ℕ) → IsKept (λ s. p ≤ s.promised)
promise_kept p s t (front r a is) le = subst (λ x. p ≤ x.promised) (sym is) (let more : s.promised ≤ front_promised s.promised (head_of r) = front_promise_le s.promised (head_of r) in omega arith)
promise_kept p s t (one_effect old r before later e a b all from is) le =
    subst (λ x. p ≤ x.promised) (sym is) (let more : s.promised ≤ (after_effect s e).promised = promise_effect s e (effect_allowed s old r before later e b all from) in omega arith)
promise_kept p s t (follow old r a b from is) le = subst (λ x. p ≤ x.promised) (sym is) le
promise_kept p s t (down is) le = subst (λ x. p ≤ x.promised) (sym is) le
promise_kept p s t (up is) le = subst (λ x. p ≤ x.promised) (sym is) le
