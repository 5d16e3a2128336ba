-- A call that a writer under an epoch makes: its entry, and the table with its answer.
use Rattle.std.proofs.Common.{◌≡◌, ◌≢◌, ℕ, ◌+◌, ◌<◌, ◌≤◌, ◌⊎◌, inl, inr, List, [], ◌∷◌, true, length, refl, sym, ap, ◌∙◌, subst, arith, Option, Some, None, slice_get}
use Rattle.std.proofs.lemmas.Bool.{eq-eqb}
use Rattle.std.specs.List.{list_all}
use Rattle.journal_core.specs.declared.request.Request.{Request}
use Rattle.journal_core.specs.declared.reply.Reply.{Reply}
use Rattle.journal_core.specs.declared.heard.Heard.{Heard as HeardOf}
use Rattle.journal_core.specs.declared.heard.Heard.TheVariants as told
use Rattle.writer_core.specs.declared.round.Round.{Round}
use Rattle.writer_core.specs.declared.round.Round.TheVariants as round
use Rattle.writer_core.specs.declared.phase.Phase.{Phase}
use Rattle.writer_core.specs.declared.phase.Phase.TheVariants as phase
use Rattle.writer_core.specs.declared.slot.Slot.{Slot}
use Rattle.writer_core.specs.declared.slot.Slot.TheVariants.{Waiting}
use Rattle.writer_core.specs.Views.{WriterView}
use Rattle.writer_core.specs.Rounds.{request_in}
use Rattle.writer_core.specs.Writer.{node_in}
use Rattle.writer_core.specs.Whole.{Takeover, heard_of, round_after, calls_in}
use Rattle.writer_core.proofs.Plain.{plain_heard}
use Rattle.writer_core.proofs.PlainRounds.{IsWhole, alike_phase}
use Rattle.writer_core.proofs.Filling.{fills_waits}
use Rattle.writer_core.proofs.WholeLaws.{Reaches, reaches_heard, reaches_now}
use Rattle.writer_core.proofs.WholeRounds.{IsFirst, whole_first, waits_calls, IsCalling, request_alike, unslotted_alike}
use Rattle.journal_history.specs.Entries.{Heard, Move, Answer, Entry, Earlier, now, before}
use Rattle.run_safety.specs.Run.{WasHeard, may_follow, IsInTurn, IsInOrder}
use Rattle.journal_history.specs.Moving.{epoch_of}
use Rattle.run_safety.proofs.Tales.{Tale, IsLabelled, IsMadeAt, Grows, Tells, place_below, made_still}
use Rattle.run_safety.proofs.Fair.{IsFairEntry, IsTold, told_more}
use Rattle.run_safety.proofs.TaleSteps.{put_here, put_there, Continues, grows_not, hears, hears_here, hears_there, hears_cases, grows_heard, labelled, labelled_continues, heard_later, continues_not}
use Rattle.run_safety.proofs.Tracked.{IsSilent, Stands, calling, fetching, writing, IsBefore, Tracked}
use Rattle.run_safety.proofs.CallLeft.{entry, HasEpoch, CallLeft, nothing, unheard, answered}

-- what a step of a caller gives
abbrev pub Gives : ℕ → ℕ → Tale → List Entry → List Entry → (Tale → Type 0) → Type 0
Gives n c a past next Q = (b : Tale) × IsTold n b next × Continues c a past b next × Q b

-- ## The call, before its answer is heard: it is the takeover's, in its order
pub record Making (n : ℕ) (a : Tale) (past : List Entry) (c : ℕ) (v : WriterView) (node : ℕ) (r : Request) (k : ℕ) : Type 0 where
  pub made : IsMadeAt n a past k (a.top k) c node r
  pub silent : (a.story.takeover k).heard (a.top k) node ≡ None
  pub epoch : HasEpoch r
  pub last : (j : ℕ) → IsBefore v.phase v.slots j → j < node

request_epoch : (q : Round) (w : WriterView) → IsWhole q → HasEpoch (request_in w q)
unfolding epoch_of
request_epoch round.State w i = absurd i
request_epoch (round.Fetch node start end bodies) w i = absurd i
request_epoch round.Propose w i = refl
request_epoch (round.Prepare start) w i = refl
request_epoch (round.Accept batch) w i = refl
request_epoch (round.Finalize start end) w i = refl
request_epoch round.Start w i = refl
request_epoch round.Open w i = refl
request_epoch (round.Write bodies) w i = refl
request_epoch (round.Purge min) w i = refl

fetch_epoch : (node start end : ℕ) (bodies : List (List ℕ)) (w : WriterView) → HasEpoch (request_in w (round.Fetch node start end bodies))
unfolding epoch_of
fetch_epoch node start end bodies w = refl

made_by : (n : ℕ) (a : Tale) (past : List Entry) (c : ℕ) (v : WriterView) (node : ℕ) (r : Request) (h : Tracked n a past c v) (q : Round) → h.writer.phase ≡ phase.InRound q
    → calls_in q h.writer.slots node ≡ true → r ≡ request_in h.writer q → IsMadeAt n a past h.k (a.top h.k) c node r
made_by n a past c v node r h q is calls_it asks = record {
  known = h.known;
  within = omega arith;
  by = h.by;
  tasks_follow = h.follow;
  underway = record { writer = h.writer; round = q; tasks = [] };
  is_there = reaches_now n (a.story.takeover h.k) (a.top h.k) h.writer h.reaches ∙ ap (λ (p : Phase). round_after p h.writer []) is;
  calls_it = calls_it;
  is_asked = asks;
  heard_before = λ x i reply l e. h.heard x i reply e;
}

round_is : (q p : Round) → phase.InRound q ≡ phase.InRound p → q ≡ p
round_is q p e = cc

pub from_is : (q : Round) (node from start end : ℕ) (bodies : List (List ℕ)) (slots : List Slot) → q ≡ round.Fetch from start end bodies → node_in q slots ≡ Some node → from ≡ node
from_is q node from start end bodies slots is e = got (sym (ap (λ (p : Round). node_in p slots) is) ∙ e)
  where
    got : Some from ≡ Some node → from ≡ node
    got f = cc

pub making_by : (n : ℕ) (a : Tale) (past : List Entry) (c : ℕ) (v : WriterView) (node : ℕ) (r : Request) (h : Tracked n a past c v) → IsCalling v node r
    → Stands v h.writer ((a.story.takeover h.k).heard (a.top h.k)) → Making n a past c v node r h.k
making_by n a past c v node r h call (calling q whole is same fills) =
    let one : call.round ≡ q = round_is call.round q (sym call.phase ∙ is) in
    let f : IsFirst v.slots node = whole_first q v.slots node whole (sym (ap (λ (p : Round). node_in p v.slots) one) ∙ call.node_is) in
    let w : (slice_get h.writer.slots f.place ≡ Some Waiting) × ((a.story.takeover h.k).heard (a.top h.k) (1 + f.place) ≡ None) = fills_waits 1 f.place _ v.slots h.writer.slots f.waits fills in
    let asks : r ≡ request_in v q = call.request ∙ ap (λ (p : Round). request_in v p) one in
    let at : node ≡ 1 + f.place = omega (arith, f.is) in
    record {
      made = made_by n a past c v node r h q (sym (ap (λ (x : WriterView). x.phase) same) ∙ is)
          (ap (λ (j : ℕ). calls_in q h.writer.slots j) f.is ∙ waits_calls q h.writer.slots f.place whole w.0) (asks ∙ request_alike q v h.writer is same);
      silent = ap ((a.story.takeover h.k).heard (a.top h.k)) at ∙ w.1;
      epoch = subst HasEpoch (sym asks) (request_epoch q v whole);
      last = λ j lower. subst (λ (p : Phase). IsBefore p v.slots j) is lower node (ap (λ (i : ℕ). calls_in q v.slots i) f.is ∙ waits_calls q v.slots f.place whole f.waits);
    }
making_by n a past c v node r h call (fetching from start end bodies is same silent) =
    let q : Round = round.Fetch from start end bodies in
    let one : call.round ≡ q = round_is call.round q (sym call.phase ∙ is) in
    let here : from ≡ node = from_is call.round node from start end bodies v.slots one call.node_is in
    let asks : r ≡ request_in v q = call.request ∙ ap (λ (p : Round). request_in v p) one in
    record {
      made = made_by n a past c v node r h q (sym (alike_phase v h.writer same) ∙ is) (eq-eqb node from (sym here)) (asks ∙ request_alike q v h.writer is (unslotted_alike v h.writer same));
      silent = silent node;
      epoch = subst HasEpoch (sym asks) (fetch_epoch from start end bodies v);
      last = λ j lower. subst (λ (p : Phase). IsBefore p v.slots j) is lower node (eq-eqb node from (sym here));
    }
making_by n a past c v node r h call (writing is same silent) = absurd (off (sym call.phase ∙ is))
  where
    off : phase.InRound call.round ≡ phase.Writing → ⊥
    off e = cc e

-- ## The call, with its entry in the list and its answer in the table
pub record Called (n : ℕ) (a : Tale) (past : List Entry) (c : ℕ) (v : WriterView) (node : ℕ) (d : HeardOf) : Type 0 where
  pub k : ℕ
  pub known : k ≤ a.count
  pub by : (a.story.takeover k).caller ≡ c
  pub follow : list_all may_follow (a.story.takeover k).tasks ≡ true
  pub writer : WriterView
  pub reaches : Reaches n (a.story.takeover k) (a.top k) writer
  pub heard_by : ℕ → Option Reply
  pub stands : Stands v writer heard_by
  pub silent : heard_by node ≡ None
  pub answer : plain_heard (heard_of ((a.story.takeover k).heard (a.top k) node)) ≡ plain_heard d
  pub rest : (j : ℕ) → j ≢ node → (a.story.takeover k).heard (a.top k) j ≡ heard_by j
  pub above : (x : ℕ) → a.top k < x → IsSilent ((a.story.takeover k).heard x)
  pub heard : (x i : ℕ) (reply : Reply) → (a.story.takeover k).heard x i ≡ Some reply → WasHeard a.story past k x i reply
  pub placed :
      (old : List Entry) (e : Entry) → Earlier (e ∷ old) past → a.story.whose (length old) ≡ k → IsInTurn e.move
      → (a.story.round (length old) < a.top k) ⊎ ((a.story.round (length old) ≡ a.top k) × (IsBefore v.phase v.slots e.node ⊎ (e.node ≡ node)))

unheard_plain : (o : Option Reply) (d : HeardOf) → o ≡ None → plain_heard d ≡ told.Silent → plain_heard (heard_of o) ≡ plain_heard d
unheard_plain o d e f = ap (λ (x : Option Reply). plain_heard (heard_of x)) e ∙ sym f

weaker : (A B C D : Type 0) → A ⊎ (B × C) → A ⊎ (B × (C ⊎ D))
weaker A B C D (inl x) = inl x
weaker A B C D (inr x) = inr (x.0, inl x.1)

-- no entry: the table is as it was
left_nothing : (n : ℕ) (a : Tale) (past : List Entry) (c : ℕ) (v : WriterView) (node : ℕ) (r : Request) (d : HeardOf) (h : Tracked n a past c v) → Making n a past c v node r h.k → IsTold n a past
    → plain_heard d ≡ told.Silent → Gives n c a past past (λ b. Called n b past c v node d)
left_nothing n a past c v node r d h m told quiet = (
  a,
  told,
  continues_not c a past,
  record {
    k = h.k;
    known = h.known;
    by = h.by;
    follow = h.follow;
    writer = h.writer;
    reaches = h.reaches;
    heard_by = (a.story.takeover h.k).heard (a.top h.k);
    stands = h.stands;
    silent = m.silent;
    answer = unheard_plain ((a.story.takeover h.k).heard (a.top h.k) node) d m.silent quiet;
    rest = λ j off. refl;
    above = h.above;
    heard = h.heard;
    placed = λ old e p is turn. weaker _ _ _ _ (h.placed old e p is turn);
  },
)

-- ## An entry: what its takeover has heard after it
record Heeds (n : ℕ) (a : Tale) (past : List Entry) (c : ℕ) (v : WriterView) (node : ℕ) (d : HeardOf) (h : Tracked n a past c v) (move : Move) (t : Takeover) : Type 0 where
  grows : Grows (a.top h.k) (a.story.takeover h.k) t
  by : t.caller ≡ c
  follow : list_all may_follow t.tasks ≡ true
  reaches : Reaches n t (a.top h.k) h.writer
  answer : plain_heard (heard_of (t.heard (a.top h.k) node)) ≡ plain_heard d
  rest : (j : ℕ) → j ≢ node → t.heard (a.top h.k) j ≡ (a.story.takeover h.k).heard (a.top h.k) j
  above : (x : ℕ) → a.top h.k < x → IsSilent (t.heard x)
  heard : (x i : ℕ) (reply : Reply) → t.heard x i ≡ Some reply
      → ((a.story.takeover h.k).heard x i ≡ Some reply) ⊎ ((x ≡ a.top h.k) × (i ≡ node) × ((caller : ℕ) × (request : Request) × (move ≡ Answer caller Heard request reply)))

-- the tale with this entry's labels
abbrev its_tale : Tale → List Entry → ℕ → Takeover → Tale
its_tale a past k t = labelled a (length past) k (a.top k) t

left_entry : (n : ℕ) (a : Tale) (past : List Entry) (c : ℕ) (v : WriterView) (node : ℕ) (d : HeardOf) (h : Tracked n a past c v) (move : Move) (t : Takeover)
    → (a.story.takeover h.k).heard (a.top h.k) node ≡ None → Heeds n a past c v node d h move t → IsTold n a past
    → IsFairEntry n (its_tale a past h.k t).story past (entry node move)
    → Gives n c a past (entry node move ∷ past) (λ x. Called n x (entry node move ∷ past) c v node d)
left_entry n a past c v node d h move t silent g told next = (
  its_tale a past h.k t,
  told_more n a (its_tale a past h.k t) past (entry node move) goes.tells told label next,
  goes,
  record {
    k = h.k;
    known = h.known;
    by = ap (λ (x : Takeover). x.caller) same ∙ g.by;
    follow = ap (λ (x : Takeover). list_all may_follow x.tasks) same ∙ g.follow;
    writer = h.writer;
    reaches = subst (λ (x : Takeover). Reaches n x (a.top h.k) h.writer) (sym same) g.reaches;
    heard_by = (a.story.takeover h.k).heard (a.top h.k);
    stands = h.stands;
    silent = silent;
    answer = ap (λ (x : Takeover). plain_heard (heard_of (x.heard (a.top h.k) node))) same ∙ g.answer;
    rest = λ j off. ap (λ (x : Takeover). x.heard (a.top h.k) j) same ∙ g.rest j off;
    above = λ x l i. ap (λ (y : Takeover). y.heard x i) same ∙ g.above x l i;
    heard = λ x i reply e. heard x i reply (g.heard x i reply (ap (λ (y : Takeover). y.heard x i) (sym same) ∙ e));
    placed = placed;
  },
)
  where
    same : (its_tale a past h.k t).story.takeover h.k ≡ t
    same = put_here a.story.takeover h.k t

    whose_is : (its_tale a past h.k t).story.whose (length past) ≡ h.k
    whose_is = put_here a.story.whose (length past) h.k

    round_at : (its_tale a past h.k t).story.round (length past) ≡ a.top h.k
    round_at = put_here a.story.round (length past) (a.top h.k)

    goes : Continues c a past (its_tale a past h.k t) (entry node move ∷ past)
    goes = labelled_continues c a past (entry node move) h.k (a.top h.k) t g.grows (inl h.by) (λ turn. g.by)

    label : IsLabelled (its_tale a past h.k t) past
    label = record {
      known = let e : (its_tale a past h.k t).story.whose (length past) ≡ h.k = whose_is in omega (arith, e, h.known);
      within = subst (λ (k : ℕ). (its_tale a past h.k t).story.round (length past) ≤ a.top k) (sym whose_is) (omega (arith, round_at));
    }

    heard : (x i : ℕ) (reply : Reply)
        → ((a.story.takeover h.k).heard x i ≡ Some reply) ⊎ ((x ≡ a.top h.k) × (i ≡ node) × ((caller : ℕ) × (request : Request) × (move ≡ Answer caller Heard request reply)))
        → WasHeard (its_tale a past h.k t).story (entry node move ∷ past) h.k x i reply
    heard x i reply (inl e) = heard_later c a (its_tale a past h.k t) past (entry node move ∷ past) h.k x i reply goes (h.heard x i reply e)
    heard x i reply (inr e) = (past, entry node move, now, (whose_is, round_at ∙ sym e.0, sym e.1, e.2))

    placed : (old : List Entry) (e : Entry) → Earlier (e ∷ old) (entry node move ∷ past) → (its_tale a past h.k t).story.whose (length old) ≡ h.k → IsInTurn e.move
        → ((its_tale a past h.k t).story.round (length old) < (its_tale a past h.k t).top h.k)
        ⊎ (((its_tale a past h.k t).story.round (length old) ≡ (its_tale a past h.k t).top h.k)
        × (IsBefore v.phase v.slots e.node ⊎ (e.node ≡ node)))
    placed old e now is turn = inr (round_at, inr refl)
    placed old e (before p) is turn =
        let lt : length old < length past = place_below e p in
        let r : (its_tale a past h.k t).story.round (length old) ≡ a.story.round (length old) = goes.tells.round (length old) lt in
        elim (h.placed old e p (sym (goes.tells.whose (length old) lt) ∙ is) turn) [
          | inl f ↦ inl (omega (arith, f, r))
          | inr f ↦ inr (r ∙ f.0, inl f.1)
        ]

-- ## By what the call left
heeds_not : (n : ℕ) (a : Tale) (past : List Entry) (c : ℕ) (v : WriterView) (node : ℕ) (d : HeardOf) (h : Tracked n a past c v) (move : Move)
    → (a.story.takeover h.k).heard (a.top h.k) node ≡ None → plain_heard d ≡ told.Silent → Heeds n a past c v node d h move (a.story.takeover h.k)
heeds_not n a past c v node d h move silent quiet = record {
  grows = grows_not (a.top h.k) (a.story.takeover h.k);
  by = h.by;
  follow = h.follow;
  reaches = h.reaches;
  answer = unheard_plain ((a.story.takeover h.k).heard (a.top h.k) node) d silent quiet;
  rest = λ j off. refl;
  above = h.above;
  heard = λ x i reply e. inl e;
}

heeds : (n : ℕ) (a : Tale) (past : List Entry) (c : ℕ) (v : WriterView) (node : ℕ) (r : Request) (d : HeardOf) (h : Tracked n a past c v) (reply : Reply)
    → (a.story.takeover h.k).heard (a.top h.k) node ≡ None → d ≡ told.Answer reply → Heeds n a past c v node d h (Answer c Heard r reply) (hears (a.story.takeover h.k) (a.top h.k) node reply)
heeds n a past c v node r d h reply silent is =
    let t : Takeover = a.story.takeover h.k in
    let s : ℕ = a.top h.k in
    record {
      grows = grows_heard t s node reply silent;
      by = h.by;
      follow = h.follow;
      reaches = reaches_heard n t (hears t s node reply).heard s h.writer (λ x l. hears_there t s node reply x (λ same. absurd (omega (arith, l, same)))) h.reaches;
      answer = ap (λ (f : ℕ → Option Reply). plain_heard (heard_of (f node))) (hears_here t s node reply)
          ∙ ap (λ (o : Option Reply). plain_heard (heard_of o)) (put_here (t.heard s) node (Some reply)) ∙ ap plain_heard (sym is);
      rest = λ j off. ap (λ (f : ℕ → Option Reply). f j) (hears_here t s node reply) ∙ put_there (t.heard s) node (Some reply) j off;
      above = λ x l i. ap (λ (f : ℕ → Option Reply). f i) (hears_there t s node reply x (λ same. absurd (omega (arith, l, same)))) ∙ h.above x l i;
      heard = λ x i other e. by x i other (hears_cases t s node reply x i other e);
    }
  where
    by : (x i : ℕ) (other : Reply) → ((a.story.takeover h.k).heard x i ≡ Some other) ⊎ ((x ≡ a.top h.k) × (i ≡ node) × (reply ≡ other))
        → ((a.story.takeover h.k).heard x i ≡ Some other) ⊎ ((x ≡ a.top h.k) × (i ≡ node) × ((caller : ℕ) × (request : Request) × (Answer c Heard r reply ≡ Answer caller Heard request other)))
    by x i other (inl e) = inl e
    by x i other (inr e) = inr (e.0, e.1, (c, r, ap (λ (y : Reply). Answer c Heard r y) e.2))

-- the entry's place has its labels, its request is made there, and its order is right
entering : (n : ℕ) (a : Tale) (past : List Entry) (c : ℕ) (v : WriterView) (node : ℕ) (r : Request) (h : Tracked n a past c v) → Making n a past c v node r h.k → (t : Takeover)
    → Grows (a.top h.k) (a.story.takeover h.k) t → t.caller ≡ c → (move : Move)
    → (IsMadeAt n (its_tale a past h.k t) past h.k (a.top h.k) c node r) × (IsInOrder (its_tale a past h.k t).story past node)
entering n a past c v node r h m t g mine move = (made_still n a (its_tale a past h.k t) (length past) past h.k (a.top h.k) c node r tells (omega arith) m.made, order)
  where
    tells : Tells a (its_tale a past h.k t) (length past)
    tells = (labelled_continues c a past (entry node move) h.k (a.top h.k) t g (inl h.by) (λ turn. mine)).tells

    order : IsInOrder (its_tale a past h.k t).story past node
    order old e p same turn =
        let lt : length old < length past = place_below e p in
        let here : (its_tale a past h.k t).story.whose (length past) ≡ h.k = put_here a.story.whose (length past) h.k in
        let at : (its_tale a past h.k t).story.round (length past) ≡ a.top h.k = put_here a.story.round (length past) (a.top h.k) in
        let r0 : (its_tale a past h.k t).story.round (length old) ≡ a.story.round (length old) = tells.round (length old) lt in
        elim (h.placed old e p (sym (tells.whose (length old) lt) ∙ same ∙ here) turn) [
          | inl f ↦ inl (omega (arith, f, r0, at))
          | inr f ↦ inr (r0 ∙ f.0 ∙ sym at, m.last e.node f.1)
        ]

pub called : (n : ℕ) (a : Tale) (past next : List Entry) (c : ℕ) (v : WriterView) (node : ℕ) (r : Request) (d : HeardOf) → Tracked n a past c v → IsCalling v node r → IsTold n a past
    → CallLeft n past c node r d next → Gives n c a past next (λ b. Called n b next c v node d)
called n a past next c v node r d h call told left = by left
  where
    m : Making n a past c v node r h.k
    m = making_by n a past c v node r h call h.stands

    by : CallLeft n past c node r d next → Gives n c a past next (λ b. Called n b next c v node d)
    by (nothing same quiet) = subst (λ (l : List Entry). Gives n c a past l (λ b. Called n b l c v node d)) (sym same) (left_nothing n a past c v node r d h m told (quiet m.epoch))
    by (unheard move same quiet turn enters) =
        let t : Takeover = a.story.takeover h.k in
        let g : Heeds n a past c v node d h move t = heeds_not n a past c v node d h move m.silent quiet in
        let e : (IsMadeAt n (its_tale a past h.k t) past h.k (a.top h.k) c node r) × (IsInOrder (its_tale a past h.k t).story past node) = entering n a past c v node r h m t g.grows g.by move in
        subst (λ (l : List Entry). Gives n c a past l (λ b. Called n b l c v node d)) (sym same)
        (left_entry n a past c v node d h move t m.silent g told
        (enters (its_tale a past h.k t) h.k (a.top h.k) (put_here a.story.whose (length past) h.k) (put_here a.story.round (length past) (a.top h.k)) (λ some. e.0) (λ in_turn. e.1)))
    by (answered reply same is some enters) =
        let t : Takeover = hears (a.story.takeover h.k) (a.top h.k) node reply in
        let move : Move = Answer c Heard r reply in
        let g : Heeds n a past c v node d h move t = heeds n a past c v node r d h reply m.silent is in
        let e : (IsMadeAt n (its_tale a past h.k t) past h.k (a.top h.k) c node r) × (IsInOrder (its_tale a past h.k t).story past node) = entering n a past c v node r h m t g.grows g.by move in
        let has : ((its_tale a past h.k t).story.takeover h.k).heard (a.top h.k) node ≡ Some reply =
        ap (λ (x : Takeover). x.heard (a.top h.k) node) (put_here a.story.takeover h.k t)
        ∙ ap (λ (f : ℕ → Option Reply). f node) (hears_here (a.story.takeover h.k) (a.top h.k) node reply) ∙ put_here ((a.story.takeover h.k).heard (a.top h.k)) node (Some reply) in
        subst (λ (l : List Entry). Gives n c a past l (λ b. Called n b l c v node d)) (sym same)
        (left_entry n a past c v node d h move t m.silent g told
        (enters (its_tale a past h.k t) h.k (a.top h.k) (put_here a.story.whose (length past) h.k) (put_here a.story.round (length past) (a.top h.k)) e.0 e.1 has))
