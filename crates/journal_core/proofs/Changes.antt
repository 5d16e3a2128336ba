-- How one request may change the segment at one start, answered or stopped after any number of
-- effects.
use Rattle.std.proofs.Common.{◌≡◌, ℕ, zero, suc, ◌+◌, ◌<◌, ◌≤◌, ◌⊎◌, ◌==◌, ◌&&◌, ◌||◌, Bool, true, false, not, List, [], ◌∷◌, ◌++◌, length, take, map}
use Rattle.std.proofs.Common.{Option, Some, None, refl, inl, inr, arith, subst, sym, ap, ◌∙◌, nat_lt, if◌then◌else◌, append_assoc}
use Rattle.std.specs.List.{filter}
use Rattle.std.proofs.lemmas.Bool.{cond_both, cases_Bool, cases_eq, eqb-true, leb-true, ltb-false, cond-true, cond-false, and_parts, or_parts, eq-eqb, ne_eqb}
use Rattle.std.proofs.lemmas.List.{take_all}
use Rattle.journal_core.specs.Effects.{Effect, Promise, WriterEpoch, Commit, NewSegment, Append, Replace, MakeFinal, Remove, segments_after, appended, finalized}
use Rattle.journal_core.specs.Limits.{head_of}
use Rattle.journal_core.specs.Segments.{find_segment, put_segment, remove_segment, newest, has_edit, end_of, AreRising, AreAbove, IsNotFinal}
use Rattle.journal_core.specs.Step.{node_step, effects_of, refused_at_once, row_refused, row_effects, start_refused, journal_refused, open_refused}
use Rattle.journal_core.specs.Step.{finalize_refused, bodies_in, is_one, is_final_one, may_go, last_or_start, front_effects, fronted, front_opened}
use Rattle.journal_core.specs.Step.{closes_segment}
use Rattle.journal_core.specs.Views.{HeadView, BatchView}
use Rattle.journal_core.specs.declared.node_state.NodeState.{NodeState}
use Rattle.journal_core.specs.declared.refusal.Refusal.{Refusal}
use Rattle.journal_core.specs.declared.refusal.Refusal.TheVariants.{NoOpenSegment}
use Rattle.journal_core.specs.declared.request.Request.{Request}
use Rattle.journal_core.specs.declared.request.Request.TheVariants.{State, NewEpoch, Start, Journal, Finalize, Prepare, Fetch, Accept, Purge, Read, Manifest}
use Rattle.journal_core.specs.declared.segment.Segment.{Segment}
use Rattle.journal_core.proofs.SegmentLists.{find-put_same, find-put_other, find-remove_same, find-remove_other, find-start}
use Rattle.journal_core.proofs.Steps.{Acted, at_once, by_row, done, acted, front_le, none≢some, segments_all, AllQuiet, quiet_all, quiet_after, quiet_front, quiet_append, one_touch, answer_segments}
use Rattle.journal_core.specs.Laws.{IsStored, OpenIsLed}

abbrev pub NoEdit : Option Segment → Type 0
NoEdit None = Unit {0}
NoEdit (Some g) = has_edit g ≡ false

pub data Change (s : NodeState) (r : Request) (m : ℕ) : Option Segment → Option Segment → Type 0 where
  same : {o : Option Segment} → Change s r m o o
  created : {o : Option Segment} (h : HeadView) → r ≡ Start h m → NoEdit o →
      Change s r m o (Some (record { start = m; epoch = h.epoch; bodies = []; is_final = false; accepted = false }))
  grown : {g : Segment} (h : HeadView) (b : BatchView) → r ≡ Journal h m b → g.epoch ≡ h.epoch → g.is_final ≡ false → b.first ≡ m + length g.bodies →
      Change s r m (Some g) (Some (record g { bodies = g.bodies ++ b.bodies }))
  made_final : {g : Segment} (h : HeadView) (l : ℕ) → r ≡ Finalize h m l → has_edit g ≡ true → g.is_final ≡ false → g.epoch ≡ h.epoch → end_of g ≡ l →
      Change s r m (Some g) (Some (record g { is_final = true; accepted = false }))
  replaced : {o : Option Segment} (h : HeadView) (b : BatchView) → r ≡ Accept h b → b.first ≡ m → IsNotFinal o →
      Change s r m o (Some (record { start = b.first; epoch = h.epoch; bodies = b.bodies; is_final = false; accepted = true }))
  removed : {g : Segment} (h : HeadView) (l : ℕ) → r ≡ Purge h l → (has_edit g ≡ true → newest s.segments ≡ Some m → ⊥) → last_or_start g ≤ h.committed →
      is_one m (fronted s r).opened ≡ false → Change s r m (Some g) None

-- a put changes one start
put_change : (s : NodeState) (r : Request) (m : ℕ) (x : Segment) (segments : List Segment)
    → Change s r x.start (find_segment x.start segments) (Some x) → Change s r m (find_segment m segments) (find_segment m (put_segment x segments))
put_change s r m x segments c = elim (cases_eq x.start m) [
  | inl is ↦ subst (λ k. Change s r k (find_segment k segments) (find_segment k (put_segment x segments))) is
      (subst (λ o. Change s r x.start (find_segment x.start segments) o) (sym (find-put_same x segments)) c)
  | inr other ↦ subst (λ o. Change s r m (find_segment m segments) o) (sym (find-put_other m x segments other)) same
]

-- ## What the tests say
start_passed : (o : Option Segment) → start_refused o ≡ None → NoEdit o
start_passed None e = tt
start_passed (Some g) e = elim (cases_Bool g.is_final) [
  | inl t ↦ absurd (none≢some {P = ⊥} _ (sym e ∙ cond-true g.is_final _ _ t))
  | inr f ↦ elim (cases_Bool (has_edit g)) [
    | inl t ↦ absurd (none≢some {P = ⊥} _ (sym e ∙ (cond-false g.is_final _ _ f ∙ cond-true (has_edit g) _ _ t)))
    | inr n ↦ n
  ]
]

pub record JournalPassed (s : NodeState) (h : HeadView) (m : ℕ) (b : BatchView) : Type 0 where
  pub writer : s.writer ≡ h.epoch
  pub opened : s.opened ≡ Some m
  pub first : b.first ≡ m + bodies_in (find_segment m s.segments)

open_passed : (start first expected : ℕ) (o : Option ℕ) → open_refused o start first expected ≡ None → (o ≡ Some start) × (first ≡ expected)
open_passed start first expected None e = none≢some NoOpenSegment (sym e)
open_passed start first expected (Some opened) e = elim (cases_Bool (opened == start)) [
  | inr f ↦ absurd (none≢some {P = ⊥} _ (sym e ∙ cond-true (not (opened == start)) _ _ (rw f)))
  | inl t ↦ elim (cases_Bool (first == expected)) [
    | inr f ↦ absurd (none≢some {P = ⊥} _ (sym e ∙ (cond-false (not (opened == start)) _ _ (rw t) ∙ cond-true (not (first == expected)) _ _ (rw f))))
    | inl u ↦ (ap (λ z. Some z) (eqb-true opened start t), eqb-true first expected u)
  ]
]

pub journal_passed : (s : NodeState) (h : HeadView) (m : ℕ) (b : BatchView) → journal_refused s h m b ≡ None → JournalPassed s h m b
journal_passed s h m b e = elim (cases_Bool (s.writer == h.epoch)) [
  | inr f ↦ absurd (none≢some {P = ⊥} _ (sym e ∙ cond-false (s.writer == h.epoch) _ _ f))
  | inl t ↦
      let rest : (s.opened ≡ Some m) × (b.first ≡ m + bodies_in (find_segment m s.segments)) =
      open_passed m b.first (m + bodies_in (find_segment m s.segments)) s.opened (sym (cond-true (s.writer == h.epoch) _ _ t) ∙ e) in
      record { writer = eqb-true s.writer h.epoch t; opened = rest.0; first = rest.1 }
]

pub record FinalizePassed (epoch end : ℕ) (g : Segment) : Type 0 where
  pub edit : has_edit g ≡ true
  pub header : g.is_final ≡ false → g.epoch ≡ epoch
  pub end_is : end_of g ≡ end

not_and : (a b : Bool) → (not a && not b) ≡ false → a ≡ false → b ≡ true
not_and a true e f = refl
not_and a false e f = let x : (not a && not false) ≡ true = rw f in cc

not_false_is : (a : Bool) → not a ≡ false → a ≡ true
not_false_is true e = refl
not_false_is false e = cc

finalize_tests : (a b c : Bool) (x y z : Refusal) → ◌≡◌ {A = Option Refusal} (if a then Some x else if b then Some y else if c then Some z else None) None →
    (a ≡ false) × (b ≡ false) × (c ≡ false)
finalize_tests true b c x y z e = none≢some x (sym e)
finalize_tests false true c x y z e = none≢some y (sym e)
finalize_tests false false true x y z e = none≢some z (sym e)
finalize_tests false false false x y z e = (refl, refl, refl)

pub finalize_passed : (epoch end : ℕ) (g : Segment) → finalize_refused epoch end (Some g) ≡ None → FinalizePassed epoch end g
finalize_passed epoch end g e =
    let t : (not (has_edit g) ≡ false) × ((not g.is_final && not (g.epoch == epoch)) ≡ false) × (not (end_of g == end) ≡ false) = finalize_tests _ _ _ _ _ _ e in
    record {
      edit = not_false_is (has_edit g) t.0;
      header = λ f. eqb-true g.epoch epoch (not_and g.is_final (g.epoch == epoch) t.1 f);
      end_is = eqb-true (end_of g) end (not_false_is (end_of g == end) t.2);
    }

-- the front leaves a segment open only where the promise stays
pub open_kept : (s : NodeState) (r : Request) (h : HeadView) (m : ℕ) → front_opened s r (Some h) ≡ Some m → (s.opened ≡ Some m) × (h.epoch ≤ s.promised)
open_kept s r h m e = elim (cases_Bool (nat_lt s.promised h.epoch || closes_segment r)) [
  | inl t ↦ none≢some m (sym (cond-true (nat_lt s.promised h.epoch || closes_segment r) None s.opened t) ∙ e)
  | inr f ↦ (sym (cond-false (nat_lt s.promised h.epoch || closes_segment r) None s.opened f) ∙ e, ltb-false s.promised h.epoch (or_parts _ _ f).0)
]

-- ## One effect
journal_change : (s : NodeState) (h : HeadView) (m k : ℕ) (b : BatchView) → OpenIsLed s → s.promised ≤ h.epoch → JournalPassed (fronted s (Journal h k b)) h k b →
    (o : Option Segment) → find_segment k s.segments ≡ o → Change s (Journal h k b) m (find_segment m s.segments) (find_segment m (appended b.bodies o s.segments))
journal_change s h m k b sound le p None is = same
journal_change s h m k b sound le p (Some g) is =
    let kept : (s.opened ≡ Some k) × (h.epoch ≤ s.promised) = open_kept s (Journal h k b) h k p.opened in
    let there : (x : Segment) × (find_segment k s.segments ≡ Some x) × (x.epoch ≡ s.promised) × (x.is_final ≡ false) = sound k kept.0 in
    let some_same : ◌≡◌ {A = Option Segment} (Some there.0) (Some g) = sym there.1 ∙ is in
    let one : there.0 ≡ g = cc in
    let header : g.epoch ≡ s.promised = ap (λ z. z.epoch) (sym one) ∙ there.2 in
    let in_progress : g.is_final ≡ false = ap (λ z. z.is_final) (sym one) ∙ there.3 in
    let start : g.start ≡ k = find-start k s.segments g is in
    let first : b.first ≡ k + length g.bodies = p.first ∙ ap (λ z. k + bodies_in z) is in
    put_change s (Journal h k b) m (record g { bodies = g.bodies ++ b.bodies }) s.segments
    (subst (λ j. Change s (Journal h k b) j (find_segment j s.segments) (Some (record g { bodies = g.bodies ++ b.bodies }))) (sym start)
    (subst (λ o. Change s (Journal h k b) k o (Some (record g { bodies = g.bodies ++ b.bodies }))) (sym is)
    (grown h b refl (omega arith) in_progress first)))

seal_change : (s : NodeState) (h : HeadView) (m k l : ℕ) → (o : Option Segment) → find_segment k s.segments ≡ o → finalize_refused h.epoch l o ≡ None → is_final_one o ≡ false →
    Change s (Finalize h k l) m (find_segment m s.segments) (find_segment m (finalized o s.segments))
seal_change s h m k l None is e f = same
seal_change s h m k l (Some g) is e f =
    let p : FinalizePassed h.epoch l g = finalize_passed h.epoch l g e in
    let start : g.start ≡ k = find-start k s.segments g is in
    put_change s (Finalize h k l) m (record g { is_final = true; accepted = false }) s.segments
    (subst (λ j. Change s (Finalize h k l) j (find_segment j s.segments) (Some (record g { is_final = true; accepted = false }))) (sym start)
    (subst (λ o. Change s (Finalize h k l) k o (Some (record g { is_final = true; accepted = false }))) (sym is)
    (made_final h l refl p.edit f (p.header f) p.end_is)))

pub not_final_of : (o : Option Segment) → is_final_one o ≡ false → IsNotFinal o
not_final_of None e = tt
not_final_of (Some g) e = e

-- ## Removals
abbrev pub In : Segment → List Segment → Type 0
In g [] = ⊥
In g (x ∷ xs) = (x ≡ g) ⊎ In g xs

In-filter : (p : Segment → Bool) (g : Segment) (xs : List Segment) → In g (filter p xs) → (p g ≡ true) × In g xs
In-filter p g [] i = absurd i
In-filter p g (x ∷ xs) i = cond_both (p x) (x ∷ filter p xs) (filter p xs) (λ zs. In g zs → (p g ≡ true) × In g (x ∷ xs))
    (λ t. elim [ inl is ↦ (ap p (sym is) ∙ t, inl is) | inr j ↦ let r = In-filter p g xs j in (r.0, inr r.1) ])
    (λ f j. let r = In-filter p g xs j in (r.0, inr r.1)) i

In-above : (k : ℕ) (g : Segment) (xs : List Segment) → AreAbove k xs → In g xs → k < g.start
In-above k g [] a i = absurd i
In-above k g (x ∷ xs) a (inl is) = subst (λ z. k < z.start) is a.0
In-above k g (x ∷ xs) a (inr i) = In-above k g xs a.1 i

pub find-in : (g : Segment) (xs : List Segment) → AreRising xs → In g xs → find_segment g.start xs ≡ Some g
unfolding find_segment
find-in g [] r i = absurd i
find-in g (x ∷ xs) r (inl is) = cond-true (x.start == g.start) (Some x) (find_segment g.start xs) (eq-eqb x.start g.start (ap (λ z. z.start) is)) ∙ ap (λ z. Some z) is
find-in g (x ∷ xs) r (inr i) =
    let lt : x.start < g.start = In-above x.start g xs r.0 i in
    cond-false (x.start == g.start) (Some x) (find_segment g.start xs) (ne_eqb x.start g.start (omega arith)) ∙ find-in g xs r.1 i

removals : (m k : ℕ) (gs segments : List Segment) →
    (find_segment m (segments_all segments (take k (map (λ g. Remove g.start) gs))) ≡ find_segment m segments) ⊎
    ((g : Segment) × In g gs × (g.start ≡ m) × (find_segment m (segments_all segments (take k (map (λ g. Remove g.start) gs))) ≡ None))
removals m zero gs segments = inl refl
removals m (suc k) [] segments = inl refl
removals m (suc k) (g ∷ gs) segments = elim (removals m k gs (remove_segment g.start segments)) [
  | inr x ↦ inr (x.0, inr x.1, x.2, x.3)
  | inl e ↦ elim (cases_eq g.start m) [
    | inl is ↦ inr (g, inl refl, is, e ∙ (ap (λ j. find_segment m (remove_segment j segments)) is ∙ find-remove_same m segments))
    | inr other ↦ inl (e ∙ find-remove_other m g.start segments other)
  ]
]

skip_quiet : (segments : List Segment) (k : ℕ) (xs ys : List Effect) → AllQuiet xs → (j : ℕ) × (segments_all segments (take k (xs ++ ys)) ≡ segments_all segments (take j ys))
skip_quiet segments k [] ys q = (k, refl)
skip_quiet segments zero (x ∷ xs) ys q = (0, refl)
skip_quiet segments (suc k) (x ∷ xs) ys q =
    let r : (j : ℕ) × (segments_all segments (take k (xs ++ ys)) ≡ segments_all segments (take j ys)) = skip_quiet segments k xs ys q.1 in
    (r.0, ap (λ zs. segments_all zs (take k (xs ++ ys))) (quiet_after segments x q.0) ∙ r.1)

not_true_is : (a : Bool) → not a ≡ true → a ≡ false
not_true_is true e = cc
not_true_is false e = refl

is_one_refl : (m : ℕ) → is_one m (Some m) ≡ true
is_one_refl m = eq-eqb m m refl

purge_change : (s : NodeState) (h : HeadView) (m l k : ℕ) → AreRising s.segments →
    Change s (Purge h l) m (find_segment m s.segments) (find_segment m
    (segments_all s.segments (take k (map (λ g. Remove g.start) (filter (may_go (fronted s (Purge h l)) h.committed l) s.segments)))))
purge_change s h m l k rising = elim (removals m k (filter (may_go (fronted s (Purge h l)) h.committed l) s.segments) s.segments) [
  | inl e ↦ subst (λ o. Change s (Purge h l) m (find_segment m s.segments) o) (sym e) same
  | inr x ↦
      let chosen : (may_go (fronted s (Purge h l)) h.committed l x.0 ≡ true) × In x.0 s.segments = In-filter (may_go (fronted s (Purge h l)) h.committed l) x.0 s.segments x.1 in
      let found : find_segment m s.segments ≡ Some x.0 = subst (λ j. find_segment j s.segments ≡ Some x.0) x.2 (find-in x.0 s.segments rising chosen.1) in
      let p = and_parts _ _ chosen.0 in
      let q = and_parts _ _ p.1 in
      let u = and_parts _ _ q.1 in
      subst (λ o. Change s (Purge h l) m (find_segment m s.segments) o) (sym x.3)
      (subst (λ o. Change s (Purge h l) m o None) (sym found)
      (removed h l refl
      (λ edit new. both_true (has_edit x.0) (is_one x.0.start (newest s.segments)) edit
      (ap (λ o. is_one x.0.start o) new ∙ (ap (λ j. is_one j (Some m)) x.2 ∙ is_one_refl m)) (not_true_is _ q.0))
      (leb-true (last_or_start x.0) h.committed u.1)
      (ap (λ j. is_one j (fronted s (Purge h l)).opened) (sym x.2) ∙ not_true_is _ p.0)))
]
  where
    both_true : (a b : Bool) → a ≡ true → b ≡ true → (a && b) ≡ false → ⊥
    both_true a b p q e = cc

-- ## Any number of a request's effects
touch : (s : NodeState) (r : Request) (m k : ℕ) (front xs : List Effect) (e : Effect) (ys : List Effect) → AllQuiet front → AllQuiet xs → AllQuiet ys →
    Change s r m (find_segment m s.segments) (find_segment m (segments_after s.segments e))
    → Change s r m (find_segment m s.segments) (find_segment m (segments_all s.segments (take k (front ++ (xs ++ e ∷ ys)))))
touch s r m k front xs e ys f p q c = subst (λ es. Change s r m (find_segment m s.segments) (find_segment m (segments_all s.segments (take k es)))) (append_assoc front xs (e ∷ ys))
    (elim (one_touch s.segments k (front ++ xs) e ys (quiet_append front xs f p) q) [
      | inl n ↦ subst (λ zs. Change s r m (find_segment m s.segments) (find_segment m zs)) (sym n) same
      | inr y ↦ subst (λ zs. Change s r m (find_segment m s.segments) (find_segment m zs)) (sym y) c
    ])

no_touch : (s : NodeState) (r : Request) (m k : ℕ) (front xs : List Effect) → AllQuiet front → AllQuiet xs →
    Change s r m (find_segment m s.segments) (find_segment m (segments_all s.segments (take k (front ++ xs))))
no_touch s r m k front xs f p =
    subst (λ zs. Change s r m (find_segment m s.segments) (find_segment m zs)) (sym (quiet_all s.segments k (front ++ xs) (quiet_append front xs f p))) same

commits_quiet : (b : Bool) (c : ℕ) → AllQuiet (if b then Commit c ∷ [] else [])
commits_quiet b c = cond_both b (Commit c ∷ []) [] (λ es. AllQuiet es) (λ e. (tt, tt)) (λ e. tt)

change_rows : (s : NodeState) (r : Request) → OpenIsLed s → IsStored s → refused_at_once s r ≡ None → row_refused (fronted s r) r ≡ None → (k m : ℕ) →
    Change s r m (find_segment m s.segments) (find_segment m (segments_all s.segments (take k (front_effects s (head_of r) ++ row_effects (fronted s r) r))))
change_rows s State sound d a b k m = no_touch s State m k [] [] (quiet_front s None) tt
change_rows s (NewEpoch e) sound d a b k m = no_touch s (NewEpoch e) m k [] (Promise e ∷ []) (quiet_front s None) (tt, tt)
change_rows s (Start h n) sound d a b k m =
    touch s (Start h n) m k (front_effects s (Some h)) (if s.writer == h.epoch then [] else WriterEpoch h.epoch ∷ []) (NewSegment n h.epoch) []
    (quiet_front s (Some h)) (cond_both (s.writer == h.epoch) [] (WriterEpoch h.epoch ∷ []) (λ es. AllQuiet es) (λ e. tt) (λ e. (tt, tt))) tt
    (put_change s (Start h n) m _ s.segments (created h refl (start_passed (find_segment n s.segments) b)))
change_rows s (Journal h n c) sound d a b k m =
    touch s (Journal h n c) m k (front_effects s (Some h)) [] (Append n c.bodies) [] (quiet_front s (Some h)) tt tt
    (journal_change s h m n c sound (front_le s (Journal h n c) h refl a) (journal_passed (fronted s (Journal h n c)) h n c b) (find_segment n s.segments) refl)
change_rows s (Finalize h n l) sound d a b k m =
    cond_both (is_final_one (find_segment n s.segments)) [] (MakeFinal n ∷ [])
    (λ es. is_final_one (find_segment n s.segments) ≡ is_final_one (find_segment n s.segments)
    → Change s (Finalize h n l) m (find_segment m s.segments) (find_segment m
    (segments_all s.segments (take k (front_effects s (Some h) ++ (es ++ commits))))))
    (λ t u. no_touch s (Finalize h n l) m k (front_effects s (Some h)) commits (quiet_front s (Some h)) (commits_quiet _ _))
    (λ f u. touch s (Finalize h n l) m k (front_effects s (Some h)) [] (MakeFinal n) commits (quiet_front s (Some h)) tt (commits_quiet _ _)
    (seal_change s h m n l (find_segment n s.segments) refl b f)) refl
  where
    commits : List Effect
    commits = if nat_lt s.committed (fronted s (Finalize h n l)).known then Commit (fronted s (Finalize h n l)).known ∷ [] else []
change_rows s (Prepare h n) sound d a b k m = no_touch s (Prepare h n) m k (front_effects s (Some h)) [] (quiet_front s (Some h)) tt
change_rows s (Fetch h n from) sound d a b k m = no_touch s (Fetch h n from) m k (front_effects s (Some h)) [] (quiet_front s (Some h)) tt
change_rows s (Accept h c) sound d a b k m =
    cond_both (is_final_one (find_segment c.first s.segments)) [] (Replace h.epoch c ∷ [])
    (λ es. Change s (Accept h c) m (find_segment m s.segments) (find_segment m (segments_all s.segments (take k (front_effects s (Some h) ++ es)))))
    (λ t. no_touch s (Accept h c) m k (front_effects s (Some h)) [] (quiet_front s (Some h)) tt)
    (λ f. touch s (Accept h c) m k (front_effects s (Some h)) [] (Replace h.epoch c) [] (quiet_front s (Some h)) tt tt
    (put_change s (Accept h c) m _ s.segments (replaced h c refl refl (not_final_of (find_segment c.first s.segments) f))))
change_rows s (Purge h l) sound d a b k m =
    let r = skip_quiet s.segments k (front_effects s (Some h)) (row_effects (fronted s (Purge h l)) (Purge h l)) (quiet_front s (Some h)) in
    subst (λ zs. Change s (Purge h l) m (find_segment m s.segments) (find_segment m zs)) (sym r.1) (purge_change s h m l r.0 d.rising)
change_rows s (Read f) sound d a b k m = no_touch s (Read f) m k [] [] (quiet_front s None) tt
change_rows s Manifest sound d a b k m = no_touch s Manifest m k [] [] (quiet_front s None) tt

take_none : (k : ℕ) (segments : List Segment) → segments_all segments (take k []) ≡ segments
take_none zero segments = refl
take_none (suc k) segments = refl

change_in : (s : NodeState) (r : Request) → OpenIsLed s → IsStored s → Acted s r → (k m : ℕ)
    → Change s r m (find_segment m s.segments) (find_segment m (segments_all s.segments (take k (effects_of s r))))
change_in s r sound d (at_once x a n e) k m = rw e (subst (λ zs. Change s r m (find_segment m s.segments) (find_segment m zs)) (sym (take_none k s.segments)) same)
change_in s r sound d (by_row x a b n e) k m = rw e (subst (λ zs. Change s r m (find_segment m s.segments) (find_segment m zs))
    (sym (quiet_all s.segments k (front_effects s (head_of r)) (quiet_front s (head_of r)))) same)
change_in s r sound d (done a b n e) k m = rw e (change_rows s r sound d a b k m)

pub change_stopped : (s : NodeState) (r : Request) → OpenIsLed s → IsStored s → (k m : ℕ)
    → Change s r m (find_segment m s.segments) (find_segment m (segments_all s.segments (take k (effects_of s r))))
change_stopped s r sound d k m = change_in s r sound d (acted s r) k m

pub change_answered : (s : NodeState) (r : Request) → OpenIsLed s → IsStored s → (m : ℕ) → Change s r m (find_segment m s.segments) (find_segment m (node_step s r).state.segments)
change_answered s r sound d m =
    subst (λ zs. Change s r m (find_segment m s.segments) (find_segment m zs)) (sym (answer_segments s r))
    (subst (λ es. Change s r m (find_segment m s.segments) (find_segment m (segments_all s.segments es))) (take_all (length (effects_of s r)) (effects_of s r) (omega arith))
    (change_stopped s r sound d (length (effects_of s r)) m))
