-- Who owns an epoch was promised it by more than half of the nodes, all of them different.
use Rattle.std.proofs.Common.{◌≡◌, ℕ, ◌+◌, ◌-◌, ◌*◌, ◌<◌, ◌≤◌, List, [], ◌∷◌, ◌++◌, Bool, true, false, cond, refl, sym, ap, ◌∙◌, subst, arith, length}
use Rattle.std.proofs.Common.{get_or, set, length-set, get_or-set_other, get_or-set_same, append_assoc, ◌⊎◌, inl, inr}
use Rattle.std.specs.Prelude.{Option, Some, None, ◌||◌, nat_lt}
use Rattle.std.proofs.lemmas.Bool.{ltb-true, cases_Bool}
use Rattle.journal_core.specs.declared.request.Request.{Request}
use Rattle.journal_core.specs.declared.request.Request.TheVariants as request
use Rattle.journal_core.specs.declared.heard.Heard.{Heard}
use Rattle.writer_core.specs.declared.round.Round.{Round}
use Rattle.writer_core.specs.declared.round.Round.TheVariants as round
use Rattle.writer_core.specs.declared.phase.Phase.{Phase}
use Rattle.writer_core.specs.declared.phase.Phase.TheVariants as phase
use Rattle.writer_core.specs.declared.slot.Slot.{Slot}
use Rattle.writer_core.specs.declared.slot.Slot.TheVariants.{Waiting, Told}
use Rattle.writer_core.specs.declared.task.Task.{Task}
use Rattle.writer_core.specs.declared.task.Task.TheVariants as task
use Rattle.writer_core.specs.Views.{WriterView}
use Rattle.writer_core.specs.Answers.{is_waiting}
use Rattle.writer_core.specs.Rounds.{request_in}
use Rattle.writer_core.specs.Writer.{new_writer, Began, HasBody, writer_begun, log_begins, log_limit, is_writing, is_under_way, if_writing, next_call, node_in, writer_heard, with_answer}
use Rattle.writer_core.specs.Left.{IsLive}
use Rattle.writer_core.proofs.LiveLaws.{heard_live, begun_live, new_live}
use Rattle.journal_history.specs.declared.record.Record.{Record}
use Rattle.journal_history.specs.declared.record.Record.TheVariants.{Call, Late, Operator, Outcome}
use Rattle.journal_history.specs.declared.record.Told.{Told as TellsOf}
use Rattle.mesh.specs.Makers.{heard_of, Maker, maker_of, asks, maker_hears, IsMade, IsOfChores}
use Rattle.mesh.specs.Owners.{proposes, promised_to, wins}
use Rattle.mesh.proofs.Lists.{Alike, alike}
use Rattle.run_safety.proofs.WriterRange.{Sized, heard_sized, begun_sized, new_sized}
use Rattle.mesh.proofs.WriterNext.{IsLater, Next, Stays, Proposes, Stops, Goes, next_of}
use Rattle.mesh.proofs.Calls.{CallAt, call_at, Waiter, waiter}
use Rattle.mesh.proofs.Chores.{Asked, Writing, Reads, asked_of, at_rest, Stands, maker_stands, hears_stands}
use Rattle.mesh.proofs.Shared.{In, Below, below_more}

-- a promise of e was heard from the node k
unfoldable pub HeardOk : ℕ → ℕ → List Record → Type 0
HeardOk k e [] = ⊥
HeardOk k e (Call i q t ∷ rs) = ((i ≡ k) × (q ≡ request.NewEpoch e) × (promised_to t ≡ true)) ⊎ HeardOk k e rs
HeardOk k e (Late i q ∷ rs) = HeardOk k e rs
HeardOk k e (Operator i q d ∷ rs) = HeardOk k e rs
HeardOk k e (Outcome x ∷ rs) = HeardOk k e rs

heard_left : (k e : ℕ) (xs ys : List Record) → HeardOk k e xs → HeardOk k e (xs ++ ys)
unfolding HeardOk
heard_left k e [] ys h = absurd h
heard_left k e (Call i q t ∷ xs) ys (inl h) = inl h
heard_left k e (Call i q t ∷ xs) ys (inr h) = inr (heard_left k e xs ys h)
heard_left k e (Late i q ∷ xs) ys h = heard_left k e xs ys h
heard_left k e (Operator i q d ∷ xs) ys h = heard_left k e xs ys h
heard_left k e (Outcome x ∷ xs) ys h = heard_left k e xs ys h

heard_last : (k e : ℕ) (t : TellsOf) (xs : List Record) → promised_to t ≡ true → HeardOk k e (xs ++ Call k (request.NewEpoch e) t ∷ [])
unfolding HeardOk
heard_last k e t [] o = inl (refl, refl, o)
heard_last k e t (Call i q u ∷ xs) o = inr (heard_last k e t xs o)
heard_last k e t (Late i q ∷ xs) o = heard_last k e t xs o
heard_last k e t (Operator i q d ∷ xs) o = heard_last k e t xs o
heard_last k e t (Outcome x ∷ xs) o = heard_last k e t xs o

unfoldable pub AllHeard : ℕ → List ℕ → List Record → Type 0
AllHeard e [] xs = Unit {0}
AllHeard e (k ∷ ks) xs = HeardOk k e xs × AllHeard e ks xs

all_left : (e : ℕ) (ks : List ℕ) (xs ys : List Record) → AllHeard e ks xs → AllHeard e ks (xs ++ ys)
unfolding AllHeard
all_left e [] xs ys h = tt
all_left e (k ∷ ks) xs ys h = (heard_left k e xs ys h.0, all_left e ks xs ys h.1)

pub all_in : (e k : ℕ) (ks : List ℕ) (xs : List Record) → AllHeard e ks xs → In k ks → HeardOk k e xs
unfolding AllHeard In
all_in e k [] xs h i = absurd i
all_in e k (j ∷ ks) xs h (inl x) = subst (λ (z : ℕ). HeardOk z e xs) x h.0
all_in e k (j ∷ ks) xs h (inr x) = all_in e k ks xs h.1 x

pub record HasMajority (n e : ℕ) (rs : List Record) : Type 0 where
  pub nodes : List ℕ
  pub below : Below (n + 1) nodes
  pub more : n < 2 * length nodes
  pub heard : AllHeard e nodes rs

-- only the nodes from this one on still wait
WaitsFrom : ℕ → List Slot → Type 0
WaitsFrom lo slots = (j : ℕ) → j < length slots → is_waiting (get_or slots j Waiting) ≡ true → lo ≤ j + 1

waits_after : (slots : List Slot) (k : ℕ) (h : Heard) → Waiter slots k → WaitsFrom (k + 1) (set slots (k - 1) (Told h))
unfolding WaitsFrom Alike
waits_after slots k h x j below is = by (alike j (k - 1))
  where
    long : length (set slots (k - 1) (Told h)) ≡ length slots
    long = length-set slots (k - 1) (Told h)

    in_ : k - 1 < length slots
    in_ = omega (arith, x.low, x.high)

    by : Alike j (k - 1) → k + 1 ≤ j + 1
    by (inl e) =
        let told : get_or (set slots (k - 1) (Told h)) j Waiting ≡ Told h = ap (λ (z : ℕ). get_or (set slots (k - 1) (Told h)) z Waiting) e.1 ∙ get_or-set_same slots (k - 1) (Told h) Waiting in_ in
        let off : is_waiting (get_or (set slots (k - 1) (Told h)) j Waiting) ≡ false = ap is_waiting told in
        absurd (cc (is, off))
    by (inr e) =
        let same : get_or (set slots (k - 1) (Told h)) j Waiting ≡ get_or slots j Waiting = get_or-set_other slots (k - 1) j (Told h) Waiting e.1 in
        either (cases j (k - 1)) (ap is_waiting (sym same) ∙ is)
      where
        cases : (a b : ℕ) → (a < b) ⊎ (b ≤ a)
        cases a b = grind arith

        either : (j < k - 1) ⊎ (k - 1 ≤ j) → is_waiting (get_or slots j Waiting) ≡ true → k + 1 ≤ j + 1
        either (inl l) f = absurd (cc (f, x.first j l))
        either (inr l) f = grind (arith, l, e.1, x.low)

module _ (n e : ℕ) where
  -- the nodes that were counted stand below those still to be asked for e
  abbrev TurnIn : Phase → ℕ → List Slot → List ℕ → Type 0
  TurnIn (phase.InRound round.Propose) epoch slots ks = (lo : ℕ) × (1 ≤ lo) × WaitsFrom lo slots × (epoch ≡ e → Below lo ks)
  TurnIn _ epoch slots ks = Unit {0}

  record Runs (ks : List ℕ) (w : WriterView) : Type 0 where
    sized : Sized n w
    live : IsLive w
    turn : TurnIn w.phase w.epoch w.slots ks

  later_turn : (p : Phase) (epoch : ℕ) (slots : List Slot) (ks : List ℕ) → IsLater p → TurnIn p epoch slots ks
  later_turn (phase.InRound round.State) epoch slots ks l = tt
  later_turn (phase.InRound round.Propose) epoch slots ks l = absurd l
  later_turn (phase.InRound (round.Prepare start)) epoch slots ks l = tt
  later_turn (phase.InRound (round.Fetch node start end bodies)) epoch slots ks l = tt
  later_turn (phase.InRound (round.Accept batch)) epoch slots ks l = tt
  later_turn (phase.InRound (round.Finalize start end)) epoch slots ks l = tt
  later_turn (phase.InRound round.Start) epoch slots ks l = tt
  later_turn (phase.InRound round.Open) epoch slots ks l = tt
  later_turn (phase.InRound (round.Write bodies)) epoch slots ks l = tt
  later_turn (phase.InRound (round.Purge min)) epoch slots ks l = tt
  later_turn phase.Writing epoch slots ks l = tt
  later_turn phase.Idle epoch slots ks l = tt
  later_turn phase.Stopped epoch slots ks l = tt

  same_round : (w : WriterView) (r s : Round) → w.phase ≡ phase.InRound r → w.phase ≡ phase.InRound s → r ≡ s
  same_round w r s f g = let both : phase.InRound r ≡ phase.InRound s = sym f ∙ g in cc both

  -- a proposal that was told: its node is the one that waited first
  waiter_of : (w : WriterView) (k : ℕ) (x : Request) (at : CallAt w k x) → at.round ≡ round.Propose → Waiter w.slots k
  waiter_of w k x at p = waiter w.slots k (subst (λ (r : Round). node_in r w.slots ≡ Some k) p at.node)

  stay_turn : (r : Round) (w : WriterView) (k : ℕ) (x : Request) (h : Heard) (ls : List ℕ) (at : CallAt w k x) → at.round ≡ r → (at.round ≡ round.Propose → w.epoch ≡ e → Below (k + 1) ls)
      → TurnIn (phase.InRound r) w.epoch (with_answer w k h).slots ls
  stay_turn round.Propose w k x h ls at p b = (k + 1, omega arith, waits_after w.slots k h (waiter_of w k x at p), λ f. b p f)
  stay_turn round.State w k x h ls at p b = tt
  stay_turn (round.Prepare start) w k x h ls at p b = tt
  stay_turn (round.Fetch node start end bodies) w k x h ls at p b = tt
  stay_turn (round.Accept batch) w k x h ls at p b = tt
  stay_turn (round.Finalize start end) w k x h ls at p b = tt
  stay_turn round.Start w k x h ls at p b = tt
  stay_turn round.Open w k x h ls at p b = tt
  stay_turn (round.Write bodies) w k x h ls at p b = tt
  stay_turn (round.Purge min) w k x h ls at p b = tt

  none_below : (ls : List ℕ) → ls ≡ [] → Below 1 ls
  unfolding Below
  none_below ls z = subst (Below 1) (sym z) tt

  next_turn : (w : WriterView) (k : ℕ) (x : Request) (h : Heard) (ls : List ℕ) (v : WriterView) (at : CallAt w k x)
      → (at.round ≡ round.Propose → w.epoch ≡ e → Below (k + 1) ls) → (at.round ≡ round.State → ls ≡ [])
      → Next w k h v → TurnIn v.phase v.epoch v.slots ls
  unfolding WaitsFrom
  next_turn w k x h ls _ at b z (Stays r p) = subst (λ (y : Phase). TurnIn y w.epoch (with_answer w k h).slots ls) (sym p) (stay_turn r w k x h ls at (same_round w at.round r at.phase p) b)
  next_turn w k x h ls v at b z (Proposes _ p is new) =
      subst (λ (y : Phase). TurnIn y v.epoch v.slots ls) (sym is) (1, omega arith, (λ j below waits. omega arith), λ f. none_below ls (z (same_round w at.round round.State at.phase p)))
  next_turn w k x h ls v at b z (Stops _ is) = subst (λ (y : Phase). TurnIn y v.epoch v.slots ls) (sym is) tt
  next_turn w k x h ls v at b z (Goes _ r p d epoch l) = later_turn v.phase v.epoch v.slots ls l

  hears_runs : (w : WriterView) (ks ls : List ℕ) (k : ℕ) (x : Request) (t : TellsOf) (at : CallAt w k x) → Runs ks w
      → (at.round ≡ round.Propose → w.epoch ≡ e → Below (k + 1) ls) → (at.round ≡ round.State → ls ≡ [])
      → Runs ls (writer_heard w k (heard_of t)).writer
  hears_runs w ks ls k x t at h b z = record {
    sized = heard_sized n w k (heard_of t) h.sized;
    live = heard_live w k (heard_of t) h.live;
    turn = next_turn w k x (heard_of t) ls (writer_heard w k (heard_of t)).writer at b z (next_of w at.round k (heard_of t) at.phase);
  }

  -- what a turn says of the node that is asked
  counted_below : (w : WriterView) (ks : List ℕ) (k : ℕ) (x : Request) (at : CallAt w k x) → Runs ks w → at.round ≡ round.Propose → w.epoch ≡ e → (1 ≤ k) × (k ≤ n) × Below k ks
  unfolding WaitsFrom
  counted_below w ks k x at h p f =
      let t : TurnIn (phase.InRound round.Propose) w.epoch w.slots ks = subst (λ (y : Phase). TurnIn y w.epoch w.slots ks) (at.phase ∙ ap phase.InRound p) h.turn in
      let a : Waiter w.slots k = waiter_of w k x at p in
      let waits : is_waiting (get_or w.slots (k - 1) Waiting) ≡ true = ap is_waiting a.waits in
      let lo : t.0 ≤ k - 1 + 1 = t.2 (k - 1) (omega (arith, a.low, a.high)) waits in
      (a.low, omega (arith, a.high, h.sized.slots), below_more t.0 k ks (omega (arith, lo, a.low)) (t.3 f))

  -- ## A task that begins
  log_turn : (o : Option ℕ) (bodies : List (List ℕ)) (w : WriterView) (ks : List ℕ) → TurnIn w.phase w.epoch w.slots ks
      → TurnIn (log_begins o bodies w).writer.phase (log_begins o bodies w).writer.epoch (log_begins o bodies w).writer.slots ks
  log_turn (Some k) bodies w ks h = h
  log_turn None bodies w ks h = tt

  if_turn : (b : Bool) (x : Began) (w : WriterView) (ks : List ℕ) → TurnIn w.phase w.epoch w.slots ks
      → TurnIn x.writer.phase x.writer.epoch x.writer.slots ks → TurnIn (if_writing b x w).writer.phase (if_writing b x w).writer.epoch
      (if_writing b x w).writer.slots ks
  if_turn true x w ks h g = g
  if_turn false x w ks h g = h

  begun_turn : (t : Task) (w : WriterView) (ks : List ℕ) → TurnIn w.phase w.epoch w.slots ks → TurnIn (writer_begun w t).writer.phase (writer_begun w t).writer.epoch (writer_begun w t).writer.slots ks
  unfolding writer_begun
  begun_turn task.Takeover w ks h = tt
  begun_turn (task.Log bodies) w ks h = if_turn (is_writing w.phase) (log_begins (log_limit w bodies) bodies w) w ks h (log_turn (log_limit w bodies) bodies w ks h)
  begun_turn task.Roll w ks h = if_turn (is_writing w.phase) _ w ks h tt
  begun_turn task.Close w ks h = if_turn (is_writing w.phase) _ w ks h tt
  begun_turn (task.Purge min) w ks h = if_turn (is_writing w.phase) _ w ks h tt

  task_runs : (ks : List ℕ) (w : WriterView) (t : Task) → HasBody t → Runs ks w → Runs ks (writer_begun w t).writer
  task_runs ks w t b h = record { sized = begun_sized n w t h.sized; live = begun_live w t h.live; turn = begun_turn t w ks h.turn }

  abbrev Standing : List ℕ → Maker → Type 0
  Standing ks m = Stands Runs task_runs ks m

  -- ## A read comes between tasks
  rest_turn : (p : Phase) (epoch : ℕ) (slots : List Slot) (ks : List ℕ) → is_under_way p ≡ false → TurnIn p epoch slots ks
  rest_turn (phase.InRound r) epoch slots ks is = absurd (cc is)
  rest_turn phase.Writing epoch slots ks is = tt
  rest_turn phase.Idle epoch slots ks is = tt
  rest_turn phase.Stopped epoch slots ks is = tt

  rests_runs : (ks ls : List ℕ) (w : WriterView) → next_call w ≡ None → Runs ks w → Runs ls w
  rests_runs ks ls w none h = record { sized = h.sized; live = h.live; turn = rest_turn w.phase w.epoch w.slots ls (at_rest w h.live none) }

  -- ## A proposal of e is asked in the round of proposals, under e
  proposal_is : (x : Request) → proposes e x ≡ true → x ≡ request.NewEpoch e
  unfolding Alike
  proposal_is (request.NewEpoch f) h = by (alike f e)
    where
      by : Alike f e → request.NewEpoch f ≡ request.NewEpoch e
      by (inl y) = ap request.NewEpoch y.1
      by (inr y) = absurd (cc (h, y.0))
  proposal_is request.State h = absurd (cc h)
  proposal_is (request.Start head start) h = absurd (cc h)
  proposal_is (request.Journal head start batch) h = absurd (cc h)
  proposal_is (request.Finalize head start end) h = absurd (cc h)
  proposal_is (request.Prepare head start) h = absurd (cc h)
  proposal_is (request.Fetch head start from) h = absurd (cc h)
  proposal_is (request.Accept head batch) h = absurd (cc h)
  proposal_is (request.Purge head min) h = absurd (cc h)
  proposal_is (request.Read from) h = absurd (cc h)
  proposal_is request.Manifest h = absurd (cc h)

  proposing : (r : Round) (w : WriterView) → request_in w r ≡ request.NewEpoch e → (r ≡ round.Propose) × (w.epoch ≡ e)
  proposing round.Propose w h = (refl, cc h)
  proposing round.State w h = absurd (cc h)
  proposing (round.Prepare start) w h = absurd (cc h)
  proposing (round.Fetch node start end bodies) w h = absurd (cc h)
  proposing (round.Accept batch) w h = absurd (cc h)
  proposing (round.Finalize start end) w h = absurd (cc h)
  proposing round.Start w h = absurd (cc h)
  proposing round.Open w h = absurd (cc h)
  proposing (round.Write bodies) w h = absurd (cc h)
  proposing (round.Purge min) w h = absurd (cc h)

  -- ## Along a record
  none_some : {B : Type 0} (o : Option B) (c : B) → o ≡ None → o ≡ Some c → ⊥
  none_some o c e f = let both : None ≡ Some c = sym e ∙ f in cc both

  -- the call was the writer's; so many were counted after it
  wrote : (m : Maker) (ks ls : List ℕ) (k : ℕ) (x : Request) (t : TellsOf) → Standing ks m → asks m.reading m.writer ≡ Some (k, x) → next_call m.writer ≡ Some (k, x)
      → Runs ls (writer_heard m.writer k (heard_of t)).writer → Standing ls (maker_hears m k t)
  wrote m ks ls k x t h e c r = hears_stands Runs task_runs ls m k x t h.bodies h.rests e (λ f. r) (λ from is none. absurd (none_some (next_call m.writer) (k, x) none c))

  -- it was a read
  has_read : (m : Maker) (ks ls : List ℕ) (k : ℕ) (x : Request) (t : TellsOf) → Standing ks m → asks m.reading m.writer ≡ Some (k, x) → next_call m.writer ≡ None → Standing ls (maker_hears m k t)
  has_read m ks ls k x t h e none = hears_stands Runs task_runs ls m k x t h.bodies h.rests e
      (λ f. absurd (none_some (next_call m.writer) (k, x) none f)) (λ from is none. rests_runs ks ls m.writer none h.writer)

  made_majority : (m : Maker) (xs rs : List Record) (ks : List ℕ) → Standing ks m → Below (n + 1) ks → AllHeard e ks xs → IsMade m rs → wins n e (length ks) rs ≡ true → HasMajority n e (xs ++ rs)
  unfolding IsMade wins
  made_majority m xs [] ks h b a d o = record { nodes = ks; below = b; more = ltb-true n (2 * length ks) o; heard = all_left e ks xs [] a }
  made_majority m xs (Late k x ∷ rs) ks h b a d o = subst (HasMajority n e) (append_assoc xs (Late k x ∷ []) rs)
      (made_majority m (xs ++ Late k x ∷ []) rs ks h b (all_left e ks xs (Late k x ∷ []) a) d o)
  made_majority m xs (Operator k x y ∷ rs) ks h b a d o = absurd d
  made_majority m xs (Outcome x ∷ rs) ks h b a d o = subst (HasMajority n e) (append_assoc xs (Outcome x ∷ []) rs)
      (made_majority m (xs ++ Outcome x ∷ []) rs ks h b (all_left e ks xs (Outcome x ∷ []) a) d o)
  made_majority m xs (Call k x t ∷ rs) ks h b a d o =
      subst (HasMajority n e) (append_assoc xs (Call k x t ∷ []) rs)
      (split (asked_of m k x d.0 h.rests) (λ ls r l v w. made_majority (maker_hears m k t) (xs ++ Call k x t ∷ []) rs ls r l v d.1 w))
    where
      Goal : Type 0
      Goal = HasMajority n e ((xs ++ Call k x t ∷ []) ++ rs)

      GoesOn : Type 0
      GoesOn = (ls : List ℕ) → Standing ls (maker_hears m k t) → Below (n + 1) ls → AllHeard e ls (xs ++ Call k x t ∷ []) → wins n e (length ls) rs ≡ true → Goal

      more : nat_lt n (2 * length ks) ≡ true → Goal
      more l = record { nodes = ks; below = b; more = ltb-true n (2 * length ks) l; heard = all_left e ks (xs ++ Call k x t ∷ []) rs (all_left e ks xs (Call k x t ∷ []) a) }

      -- the count begins anew
      anew : Standing [] (maker_hears m k t) → (nat_lt n (2 * length ks) || wins n e 0 rs) ≡ true → GoesOn → Goal
      anew s w go = either (cases_Bool (nat_lt n (2 * length ks)))
        where
          either : (nat_lt n (2 * length ks) ≡ true) ⊎ (nat_lt n (2 * length ks) ≡ false) → Goal
          either (inl l) = more l
          either (inr l) = let y : wins n e 0 rs ≡ true = rw l at w in go [] s (unfold Below in tt) (unfold AllHeard in tt) y

      by : (p : Bool) → proposes e x ≡ p → cond p (wins n e (cond (promised_to t) (length ks + 1) (length ks)) rs)
          (nat_lt n (2 * length ks) || wins n e 0 rs) ≡ true → next_call m.writer ≡ Some (k, x) → CallAt m.writer k x → GoesOn → Goal
      by true pe w c at go = turn (proposing at.round m.writer (sym at.asks ∙ proposal_is x pe))
        where
          turn : (at.round ≡ round.Propose) × (m.writer.epoch ≡ e) → Goal
          turn p = counted (promised_to t) refl w (counted_below m.writer ks k x at h.writer p.0 p.1)
            where
              no_state : at.round ≡ round.State → ⊥
              no_state z = apart (sym p.0 ∙ z)
                where
                  apart : round.Propose ≡ round.State → ⊥
                  apart y = cc y

              counted : (v : Bool) → promised_to t ≡ v → wins n e (cond v (length ks + 1) (length ks)) rs ≡ true → (1 ≤ k) × (k ≤ n) × Below k ks → Goal
              counted true ve y c2 =
                  let next : length (k ∷ ks) ≡ length ks + 1 = omega arith in
                  let here : Below (k + 1) (k ∷ ks) = unfold Below in (c2.0, omega arith, c2.2) in
                  go (k ∷ ks) (wrote m ks (k ∷ ks) k x t h d.0 c (hears_runs m.writer ks (k ∷ ks) k x t at h.writer (λ i j. here)
                  (λ z. absurd (no_state z)))) (below_more (k + 1) (n + 1) (k ∷ ks) (omega (arith, c2.1)) here)
                  (unfold AllHeard in (subst (λ (z : Request). HeardOk k e (xs ++ Call k z t ∷ [])) (sym (proposal_is x pe)) (heard_last k e t xs ve), all_left e ks xs (Call k x t ∷ []) a))
                  (subst (λ (z : ℕ). wins n e z rs ≡ true) (sym next) y)
              counted false ve y c2 =
                  go ks (wrote m ks ks k x t h d.0 c (hears_runs m.writer ks ks k x t at h.writer (λ i j. below_more k (k + 1) ks (omega arith) c2.2)
                  (λ z. absurd (no_state z)))) b (all_left e ks xs (Call k x t ∷ []) a) y
      by false pe w c at go = anew (wrote m ks [] k x t h d.0 c (hears_runs m.writer ks [] k x t at h.writer (λ i j. unfold Below in tt) (λ z. refl))) w go

      split : Asked m k x → GoesOn → Goal
      split (Writing c) go = by (proposes e x) refl o c (call_at m.writer k x c) go
      split (Reads from is none) go =
          let no : proposes e x ≡ false = ap (proposes e) is in
          let w : (nat_lt n (2 * length ks) || wins n e 0 rs) ≡ true = rw no at o in
          anew (has_read m ks [] k x t h d.0 none) w go

  pub owner_heard : (rs : List Record) → 0 < n → IsOfChores n rs → wins n e 0 rs ≡ true → HasMajority n e rs
  unfolding Below AllHeard
  owner_heard rs some d o =
      let h : Runs [] (new_writer n) = record { sized = new_sized n; live = new_live n some; turn = tt } in
      made_majority (maker_of d.0 (new_writer n)) [] rs [] (maker_stands Runs task_runs d.0 [] (new_writer n) d.1 h) tt tt d.2 o
