-- One node along a run: what an entry may change at one start, and what stays from one place to a
-- later one.
use Rattle.std.proofs.Common.{◌≡◌, ◌≢◌, ℕ, zero, suc, ◌<◌, ◌≤◌, ◌⊎◌, ◌==◌, Bool, List, [], ◌∷◌, take, Option, Some, None, refl, inl, inr, arith, subst, sym, ap, ◌∙◌}
use Rattle.std.proofs.lemmas.Bool.{cases_eq, cond-true, cond-false, eq-eqb, ne_eqb}
use Rattle.journal_core.specs.Laws.{IsStored, OpenIsLed}
use Rattle.journal_core.specs.Effects.{Effect}
use Rattle.journal_core.specs.Limits.{head_of}
use Rattle.journal_core.specs.Segments.{find_segment}
use Rattle.journal_core.specs.Step.{node_step, effects_of, refused_at_once}
use Rattle.journal_core.specs.declared.node_state.NodeState.{NodeState}
use Rattle.journal_core.specs.declared.reply.Reply.{Reply}
use Rattle.journal_core.specs.declared.request.Request.{Request}
use Rattle.journal_core.specs.declared.segment.Segment.{Segment}
use Rattle.journal_history.specs.Entries.{Entry, Move, Answer, Stop, Kill, Restart, Way, after_move, node_after, Earlier, now, before}
use Rattle.journal_core.proofs.Steps.{Acted, at_once, by_row, done, acted, front_le, none≢some, segments_all, segments-after}
use Rattle.run_safety.proofs.SoundNodes.{stored_after, promise_earlier, led_after}
use Rattle.journal_core.proofs.Changes.{Change, same, created, grown, made_final, replaced, removed, change_stopped, change_answered}

pub node_here : (i : ℕ) (e : Entry) (old : List Entry) → e.node ≡ i → node_after i (e ∷ old) ≡ after_move (node_after i old) e.move
unfolding node_after
node_here i e old is = cond-true (e.node == i) _ _ (eq-eqb e.node i is)

pub node_elsewhere : (i : ℕ) (e : Entry) (old : List Entry) → e.node ≢ i → node_after i (e ∷ old) ≡ node_after i old
unfolding node_after
node_elsewhere i e old other = cond-false (e.node == i) _ _ (ne_eqb e.node i other)

pub unmoved : (i : ℕ) (past : List Entry) (e : Entry) → after_move (node_after e.node past) e.move ≡ node_after e.node past → node_after i (e ∷ past) ≡ node_after i past
unmoved i past e still = elim (cases_eq e.node i) [
  | inl here ↦ node_here i e past here ∙ (ap (λ j. after_move (node_after j past) e.move) (sym here) ∙ (still ∙ ap (λ j. node_after j past) here))
  | inr other ↦ node_elsewhere i e past other
]

-- a request that had an effect or an answer
abbrev pub Requested : NodeState → Move → Request → Type 0
Requested s move r =
    ((caller : ℕ) × (way : Way) × (reply : Reply) × (move ≡ Answer caller way r reply)) ⊎
    ((caller : ℕ) × (late : Bool) × (keep : ℕ) × (move ≡ Stop caller late r keep) × (0 < keep))

-- a request changes the segment at m
pub record ChangedBy (s : NodeState) (move : Move) (m : ℕ) (old new : Option Segment) : Type 0 where
  pub request : Request
  pub asked : Requested s move request
  pub passed : refused_at_once s request ≡ None
  pub change : Change s request m old new

passed_or : (s : NodeState) (r : Request) → (effects_of s r ≡ []) ⊎ (refused_at_once s r ≡ None)
passed_or s r = go (acted s r)
  where
    go : Acted s r → (effects_of s r ≡ []) ⊎ (refused_at_once s r ≡ None)
    go (at_once x a n e) = inl e
    go (by_row x a b n e) = inr a
    go (done a b n e) = inr a

answer_change : (s : NodeState) (r : Request) (m : ℕ) → OpenIsLed s → IsStored s → Acted s r →
    (find_segment m (node_step s r).state.segments ≡ find_segment m s.segments)
    ⊎ ((refused_at_once s r ≡ None) × Change s r m (find_segment m s.segments) (find_segment m (node_step s r).state.segments))
answer_change s r m sound d (at_once x a n e) = inl (ap (λ z. find_segment m z.state.segments) n)
answer_change s r m sound d (by_row x a b n e) = inr (a, change_answered s r sound d m)
answer_change s r m sound d (done a b n e) = inr (a, change_answered s r sound d m)

stop_change : (s : NodeState) (caller : ℕ) (late : Bool) (r : Request) (k m : ℕ) → OpenIsLed s → IsStored s →
    (find_segment m (after_move s (Stop caller late r k)).segments ≡ find_segment m s.segments)
    ⊎ ChangedBy s (Stop caller late r k) m (find_segment m s.segments) (find_segment m (after_move s (Stop caller late r k)).segments)
stop_change s caller late r zero m sound d = inl (ap (λ zs. find_segment m zs) (segments-after s []))
stop_change s caller late r (suc k) m sound d = elim (passed_or s r) [
  | inl none ↦ inl (ap (λ zs. find_segment m zs) (segments-after s (take (suc k) (effects_of s r)) ∙ ap (λ es. segments_all s.segments (take (suc k) es)) none))
  | inr passed ↦ go (effects_of s r) refl passed
]
  where
    go : (es : List Effect) → effects_of s r ≡ es → refused_at_once s r ≡ None →
        (find_segment m (after_move s (Stop caller late r (suc k))).segments ≡ find_segment m s.segments)
        ⊎ ChangedBy s (Stop caller late r (suc k)) m (find_segment m s.segments)
        (find_segment m (after_move s (Stop caller late r (suc k))).segments)
    go [] is passed = inl (ap (λ zs. find_segment m zs) (segments-after s (take (suc k) (effects_of s r)) ∙ ap (λ es. segments_all s.segments (take (suc k) es)) is))
    go (x ∷ xs) is passed = inr (record {
      request = r;
      asked = inr (caller, late, suc k, refl, omega arith);
      passed = passed;
      change = subst (λ zs. Change s r m (find_segment m s.segments) (find_segment m zs)) (sym (segments-after s (take (suc k) (effects_of s r)))) (change_stopped s r sound d (suc k) m);
    })

pub move_change : (s : NodeState) (move : Move) (m : ℕ) → OpenIsLed s → IsStored s →
    (find_segment m (after_move s move).segments ≡ find_segment m s.segments) ⊎ ChangedBy s move m (find_segment m s.segments) (find_segment m (after_move s move).segments)
move_change s (Answer caller way r reply) m sound d = elim (answer_change s r m sound d (acted s r)) [
  | inl e ↦ inl e
  | inr c ↦ inr (record { request = r; asked = inl (caller, way, reply, refl); passed = c.0; change = c.1 })
]
move_change s (Stop caller late r k) m sound d = stop_change s caller late r k m sound d
move_change s Kill m sound d = inl refl
move_change s Restart m sound d = inl refl

-- an entry at this node changes the segment at m
pub record Changes (i : ℕ) (e : Entry) (old : List Entry) (m : ℕ) : Type 0 where
  pub node : e.node ≡ i
  pub by : ChangedBy (node_after i old) e.move m (find_segment m (node_after i old).segments) (find_segment m (node_after i (e ∷ old)).segments)

pub entry_change : (i : ℕ) (e : Entry) (old : List Entry) (m : ℕ) → (find_segment m (node_after i (e ∷ old)).segments ≡ find_segment m (node_after i old).segments) ⊎ Changes i e old m
entry_change i e old m = elim (cases_eq e.node i) [
  | inr other ↦ inl (ap (λ z. find_segment m z.segments) (node_elsewhere i e old other))
  | inl is ↦ elim (move_change (node_after i old) e.move m (led_after i old) (stored_after i old)) [
    | inl unchanged ↦ inl (ap (λ z. find_segment m z.segments) (node_here i e old is) ∙ unchanged)
    | inr c ↦ inr (record {
      node = is;
      by = subst (λ z. ChangedBy (node_after i old) e.move m (find_segment m (node_after i old).segments)
          (find_segment m z.segments)) (sym (node_here i e old is)) c;
    })
  ]
]

-- what each change keeps holds at a later place
pub along : (i m : ℕ) (P : Option Segment → Type 0) {q past : List Entry} → Earlier q past → P (find_segment m (node_after i q).segments) →
    ((e : Entry) (old : List Entry) → Earlier q old → Earlier (e ∷ old) past → Changes i e old m → P (find_segment m (node_after i old).segments)
    → P (find_segment m (node_after i (e ∷ old)).segments)) →
    P (find_segment m (node_after i past).segments)
along i m P now p step = p
along i m P (before {past = old} {e = e} q) p step =
    let earlier : P (find_segment m (node_after i old).segments) = along i m P q p (λ x older a b c. step x older a (before b) c) in
    elim (entry_change i e old m) [ inl same_one ↦ subst P (sym same_one) earlier | inr c ↦ step e old q now c earlier ]

-- the epoch of the segment that a request changes is the request's
changed_header : (s : NodeState) (r : Request) (m : ℕ) (o new : Option Segment) → Change s r m o new → refused_at_once s r ≡ None → (g : Segment) → new ≡ Some g → (o ≡ Some g) ⊎ (s.promised ≤ g.epoch)
changed_header s r m o new same a g is = inl is
changed_header s r m o new (created h q n) a g is =
    let le : s.promised ≤ h.epoch = front_le s r h (ap head_of q) a in
    let e : h.epoch ≡ g.epoch = cc in inr (omega arith)
changed_header s r m (Some x) new (grown h b q header f first) a g is =
    let le : s.promised ≤ h.epoch = front_le s r h (ap head_of q) a in
    let e : x.epoch ≡ g.epoch = cc in inr (omega arith)
changed_header s r m (Some x) new (made_final h l q edit f header ends) a g is =
    let le : s.promised ≤ h.epoch = front_le s r h (ap head_of q) a in
    let e : x.epoch ≡ g.epoch = cc in inr (omega arith)
changed_header s r m o new (replaced h b q first f) a g is =
    let le : s.promised ≤ h.epoch = front_le s r h (ap head_of q) a in
    let e : h.epoch ≡ g.epoch = cc in inr (omega arith)
changed_header s r m (Some x) new (removed h l q newer le shut) a g is = none≢some g is

-- a segment whose header is below an earlier promise was there, as it is, when that promise was
pub frozen : (i m : ℕ) (g : Segment) {q past : List Entry} → Earlier q past → find_segment m (node_after i past).segments ≡ Some g → g.epoch < (node_after i q).promised →
    find_segment m (node_after i q).segments ≡ Some g
frozen i m g now is lt = is
frozen i m g {q} (before {past = old} {e = e} p) is lt = elim (entry_change i e old m) [
  | inl same_one ↦ frozen i m g p (sym same_one ∙ is) lt
  | inr c ↦ elim (changed_header _ _ _ _ _ c.by.change c.by.passed g is) [
    | inl there ↦ frozen i m g p there lt
    | inr le ↦ let up : (node_after i q).promised ≤ (node_after i old).promised = promise_earlier i p in absurd (omega arith)
  ]
]
