-- Who sends a request with a head has had its proposals of that epoch promised by more than half of
-- the nodes.
use Rattle.std.proofs.Common.{◌≡◌, ℕ, ◌+◌, ◌-◌, ◌*◌, ◌<◌, List, [], ◌∷◌, ◌++◌, Bool, true, false, cond, refl, sym, ap, ◌∙◌, subst, arith, length, length-set, append_assoc, ◌⊎◌, inl, inr}
use Rattle.std.specs.Prelude.{Option, Some, None, ◌==◌, ◌||◌, nat_lt, count_by}
use Rattle.std.proofs.lemmas.Bool.{lt-ltb, or_left, or_right}
use Rattle.std.proofs.lemmas.Bool.Decides.{nat_tests}
use Rattle.journal_core.specs.declared.request.Request.{Request}
use Rattle.journal_core.specs.declared.request.Request.TheVariants as request
use Rattle.journal_core.specs.declared.heard.Heard.{Heard}
use Rattle.writer_core.specs.declared.round.Round.{Round}
use Rattle.writer_core.specs.declared.round.Round.TheVariants as round
use Rattle.writer_core.specs.declared.phase.Phase.{Phase}
use Rattle.writer_core.specs.declared.phase.Phase.TheVariants as phase
use Rattle.writer_core.specs.declared.slot.Slot.{Slot}
use Rattle.writer_core.specs.declared.slot.Slot.TheVariants.{Waiting, Told}
use Rattle.writer_core.specs.declared.task.Task.{Task}
use Rattle.writer_core.specs.declared.task.Task.TheVariants as task
use Rattle.writer_core.specs.Views.{WriterView}
use Rattle.writer_core.specs.Answers.{is_ok, has_majority}
use Rattle.writer_core.specs.Rounds.{request_in}
use Rattle.writer_core.specs.Writer.{new_writer, Began, HasBody, writer_begun, log_begins, log_limit, is_writing, is_under_way, if_writing, next_call, node_in, writer_heard, with_answer}
use Rattle.writer_core.specs.Left.{IsLive}
use Rattle.writer_core.proofs.LiveLaws.{heard_live, begun_live, new_live}
use Rattle.journal_history.specs.declared.record.Record.{Record}
use Rattle.journal_history.specs.declared.record.Record.TheVariants.{Call, Late, Operator, Outcome}
use Rattle.journal_history.specs.declared.record.Told.{Told as TellsOf}
use Rattle.journal_history.specs.Moving.{epoch_of, is_proposal}
use Rattle.mesh.specs.Makers.{heard_of, Maker, maker_of, maker_hears, IsMade, IsOfChores}
use Rattle.mesh.specs.Owners.{proposes, promised_to, wins}
use Rattle.mesh.proofs.Lists.{same_test}
use Rattle.run_safety.proofs.WriterRange.{Sized, heard_sized, begun_sized, new_sized}
use Rattle.mesh.proofs.WriterNext.{IsLater, IsLaterRound, IsDone, Next, Stays, Proposes, Stops, Goes, next_of}
use Rattle.mesh.proofs.Calls.{CallAt, call_at, Waiter, waiter, none_count, count_set}
use Rattle.mesh.proofs.Chores.{Asked, Writing, Reads, asked_of, at_rest, Stands, maker_stands, hears_stands}

-- some call of the record asks this
unfoldable pub Sends : Request → List Record → Type 0
Sends q [] = ⊥
Sends q (Call k p t ∷ rs) = (p ≡ q) ⊎ Sends q rs
Sends q (Late k p ∷ rs) = Sends q rs
Sends q (Operator k p d ∷ rs) = Sends q rs
Sends q (Outcome x ∷ rs) = Sends q rs

module _ (n : ℕ) where
  -- whatever follows, the epoch is owned
  unfoldable Owned : ℕ → List Record → Type 0
  Owned e xs = (ys : List Record) → wins n e 0 (xs ++ ys) ≡ true

  -- so many were heard at the end of the list
  unfoldable Counts : ℕ → ℕ → List Record → Type 0
  Counts e c xs = (ys : List Record) → wins n e c ys ≡ true → wins n e 0 (xs ++ ys) ≡ true

  -- more than half stays so
  enough : (e c : ℕ) (ys : List Record) → n < 2 * c → wins n e c ys ≡ true
  unfolding wins
  enough e c [] l = lt-ltb n (2 * c) l
  enough e c (Late k q ∷ ys) l = enough e c ys l
  enough e c (Operator k q d ∷ ys) l = enough e c ys l
  enough e c (Outcome x ∷ ys) l = enough e c ys l
  enough e c (Call k q t ∷ ys) l = by (proposes e q) (promised_to t) (enough e c ys l) (enough e (c + 1) ys (omega (arith, l)))
    where
      by : (b o : Bool) → wins n e c ys ≡ true → wins n e (c + 1) ys ≡ true → cond b (wins n e (cond o (c + 1) c) ys) (nat_lt n (2 * c) || wins n e 0 ys) ≡ true
      by true true h g = g
      by true false h g = h
      by false o h g = or_left (nat_lt n (2 * c)) (wins n e 0 ys) (lt-ltb n (2 * c) l)

  -- a call for the state begins the count anew
  reset : (e c k : ℕ) (t : TellsOf) (xs ys : List Record) → wins n e 0 ys ≡ true → wins n e c (xs ++ Call k request.State t ∷ ys) ≡ true
  unfolding wins
  reset e c k t [] ys h = or_right (nat_lt n (2 * c)) (wins n e 0 ys) h
  reset e c k t (Late i q ∷ xs) ys h = reset e c k t xs ys h
  reset e c k t (Operator i q d ∷ xs) ys h = reset e c k t xs ys h
  reset e c k t (Outcome x ∷ xs) ys h = reset e c k t xs ys h
  reset e c k t (Call i q u ∷ xs) ys h = by (proposes e q) (promised_to u) (reset e c k t xs ys h) (reset e (c + 1) k t xs ys h) (reset e 0 k t xs ys h)
    where
      by : (b o : Bool) → wins n e c (xs ++ Call k request.State t ∷ ys) ≡ true → wins n e (c + 1) (xs ++ Call k request.State t ∷ ys) ≡ true → wins n e 0 (xs ++ Call k request.State t ∷ ys) ≡ true
          → cond b (wins n e (cond o (c + 1) c) (xs ++ Call k request.State t ∷ ys)) (nat_lt n (2 * c) || wins n e 0 (xs ++ Call k request.State t ∷ ys)) ≡ true
      by true true x y z = y
      by true false x y z = x
      by false o x y z = or_right (nat_lt n (2 * c)) (wins n e 0 (xs ++ Call k request.State t ∷ ys)) z

  counts_reset : (e k : ℕ) (t : TellsOf) (xs : List Record) → Counts e 0 (xs ++ Call k request.State t ∷ [])
  unfolding Counts
  counts_reset e k t xs ys h = subst (λ (l : List Record). wins n e 0 l ≡ true) (sym (append_assoc xs (Call k request.State t ∷ []) ys)) (reset e 0 k t xs ys h)

  counts_one : (e c k : ℕ) (t : TellsOf) (xs : List Record) → Counts e c xs → Counts e (cond (promised_to t) (c + 1) c) (xs ++ Call k (request.NewEpoch e) t ∷ [])
  unfolding Counts wins
  counts_one e c k t xs h ys g =
      let here : cond (e == e) (wins n e (cond (promised_to t) (c + 1) c) ys) (nat_lt n (2 * c) || wins n e 0 ys) ≡ true = rw (same_test e e refl) g in
      subst (λ (l : List Record). wins n e 0 l ≡ true) (sym (append_assoc xs (Call k (request.NewEpoch e) t ∷ []) ys)) (h (Call k (request.NewEpoch e) t ∷ ys) here)

  counts_skip : (e c : ℕ) (xs : List Record) (r : Record) → ((ys : List Record) → wins n e c (r ∷ ys) ≡ wins n e c ys) → Counts e c xs → Counts e c (xs ++ r ∷ [])
  unfolding Counts
  counts_skip e c xs r skip h ys g = subst (λ (l : List Record). wins n e 0 l ≡ true) (sym (append_assoc xs (r ∷ []) ys)) (h (r ∷ ys) (skip ys ∙ g))

  owned_more : (e : ℕ) (xs : List Record) (r : Record) → Owned e xs → Owned e (xs ++ r ∷ [])
  unfolding Owned
  owned_more e xs r h ys = subst (λ (l : List Record). wins n e 0 l ≡ true) (sym (append_assoc xs (r ∷ []) ys)) (h (r ∷ ys))

  counted : (e c : ℕ) (xs : List Record) → n < 2 * c → Counts e c xs → Owned e xs
  unfolding Owned Counts
  counted e c xs l h ys = h ys (enough e c ys l)

  -- ## What is known in each phase, with the writer's epoch and its count
  abbrev OwnsIn : Phase → ℕ → ℕ → List Record → Type 0
  OwnsIn (phase.InRound round.State) e c xs = Unit {0}
  OwnsIn (phase.InRound round.Propose) e c xs = Counts e c xs
  OwnsIn (phase.InRound _) e c xs = Owned e xs
  OwnsIn phase.Writing e c xs = Owned e xs
  OwnsIn phase.Idle e c xs = Unit {0}
  OwnsIn phase.Stopped e c xs = Unit {0}

  abbrev promises : List Slot → ℕ
  promises slots = count_by (is_ok round.Propose) slots

  record Owns (xs : List Record) (w : WriterView) : Type 0 where
    sized : Sized n w
    live : IsLive w
    owns : OwnsIn w.phase w.epoch (promises w.slots) xs

  later_in : (p : Phase) (e c : ℕ) (xs : List Record) → IsLater p → Owned e xs → OwnsIn p e c xs
  later_in (phase.InRound round.State) e c xs l h = absurd l
  later_in (phase.InRound round.Propose) e c xs l h = absurd l
  later_in (phase.InRound (round.Prepare start)) e c xs l h = h
  later_in (phase.InRound (round.Fetch node start end bodies)) e c xs l h = h
  later_in (phase.InRound (round.Accept batch)) e c xs l h = h
  later_in (phase.InRound (round.Finalize start end)) e c xs l h = h
  later_in (phase.InRound round.Start) e c xs l h = h
  later_in (phase.InRound round.Open) e c xs l h = h
  later_in (phase.InRound (round.Write bodies)) e c xs l h = h
  later_in (phase.InRound (round.Purge min)) e c xs l h = h
  later_in phase.Writing e c xs l h = h
  later_in phase.Idle e c xs l h = tt
  later_in phase.Stopped e c xs l h = tt

  later_round : (r : Round) (e c : ℕ) (xs : List Record) → IsLaterRound r → OwnsIn (phase.InRound r) e c xs → Owned e xs
  later_round round.State e c xs l h = absurd l
  later_round round.Propose e c xs l h = absurd l
  later_round (round.Prepare start) e c xs l h = h
  later_round (round.Fetch node start end bodies) e c xs l h = h
  later_round (round.Accept batch) e c xs l h = h
  later_round (round.Finalize start end) e c xs l h = h
  later_round round.Start e c xs l h = h
  later_round round.Open e c xs l h = h
  later_round (round.Write bodies) e c xs l h = h
  later_round (round.Purge min) e c xs l h = h

  -- ## A call that was told
  told_count : (w : WriterView) (k : ℕ) (t : TellsOf) → Waiter w.slots k → promises (with_answer w k (heard_of t)).slots ≡ cond (promised_to t) (promises w.slots + 1) (promises w.slots)
  told_count w k t x = count_set (is_ok round.Propose) w.slots (k - 1) Waiting (Told (heard_of t)) (omega (arith, x.low, x.high)) (ap (is_ok round.Propose) x.waits)

  proposed : (w : WriterView) (xs : List Record) (k : ℕ) (q : Request) (t : TellsOf) → Waiter w.slots k → q ≡ request.NewEpoch w.epoch
      → Counts w.epoch (promises w.slots) xs → Counts w.epoch (promises (with_answer w k (heard_of t)).slots) (xs ++ Call k q t ∷ [])
  proposed w xs k q t x asks h =
      subst (λ (c : ℕ). Counts w.epoch c (xs ++ Call k q t ∷ [])) (sym (told_count w k t x))
      (subst (λ (p : Request). Counts w.epoch (cond (promised_to t) (promises w.slots + 1) (promises w.slots)) (xs ++ Call k p t ∷ [])) (sym asks) (counts_one w.epoch (promises w.slots) k t xs h))

  stays : (r : Round) (w : WriterView) (xs : List Record) (k : ℕ) (q : Request) (t : TellsOf) (at : CallAt w k q) → at.round ≡ r → OwnsIn (phase.InRound r) w.epoch (promises w.slots) xs
      → OwnsIn (phase.InRound r) w.epoch (promises (with_answer w k (heard_of t)).slots) (xs ++ Call k q t ∷ [])
  stays round.State w xs k q t at e h = tt
  stays round.Propose w xs k q t at e h =
      proposed w xs k q t (waiter w.slots k (subst (λ (r : Round). node_in r w.slots ≡ Some k) e at.node)) (at.asks ∙ ap (request_in w) e) h
  stays (round.Prepare start) w xs k q t at e h = owned_more w.epoch xs (Call k q t) h
  stays (round.Fetch node start end bodies) w xs k q t at e h = owned_more w.epoch xs (Call k q t) h
  stays (round.Accept batch) w xs k q t at e h = owned_more w.epoch xs (Call k q t) h
  stays (round.Finalize start end) w xs k q t at e h = owned_more w.epoch xs (Call k q t) h
  stays round.Start w xs k q t at e h = owned_more w.epoch xs (Call k q t) h
  stays round.Open w xs k q t at e h = owned_more w.epoch xs (Call k q t) h
  stays (round.Write bodies) w xs k q t at e h = owned_more w.epoch xs (Call k q t) h
  stays (round.Purge min) w xs k q t at e h = owned_more w.epoch xs (Call k q t) h

  same_round : (w : WriterView) (r s : Round) → w.phase ≡ phase.InRound r → w.phase ≡ phase.InRound s → r ≡ s
  same_round w r s e f = let both : phase.InRound r ≡ phase.InRound s = sym e ∙ f in cc both

  more_than_half : (w : WriterView) (k : ℕ) (h : Heard) → Sized n w → has_majority round.Propose (with_answer w k h).slots ≡ true → n < 2 * promises (with_answer w k h).slots
  more_than_half w k h s e =
      let long : length (with_answer w k h).slots ≡ n = length-set w.slots (k - 1) (Told h) ∙ s.slots in
      grind (arith, nat_tests, e, long)

  next_owns : (w : WriterView) (xs : List Record) (k : ℕ) (q : Request) (t : TellsOf) (v : WriterView) → CallAt w k q → Sized n w
      → OwnsIn w.phase w.epoch (promises w.slots) xs → Next w k (heard_of t) v
      → OwnsIn v.phase v.epoch (promises v.slots) (xs ++ Call k q t ∷ [])
  next_owns w xs k q t _ at s h (Stays r p) =
      subst (λ (x : Phase). OwnsIn x w.epoch (promises (with_answer w k (heard_of t)).slots) (xs ++ Call k q t ∷ [])) (sym p)
      (stays r w xs k q t at (same_round w at.round r at.phase p) (subst (λ (x : Phase). OwnsIn x w.epoch (promises w.slots) xs) p h))
  next_owns w xs k q t v at s h (Proposes _ p is new) =
      let asks : q ≡ request.State = at.asks ∙ ap (request_in w) (same_round w at.round round.State at.phase p) in
      let none : promises v.slots ≡ 0 = ap promises new ∙ none_count v.left in
      subst (λ (x : Phase). OwnsIn x v.epoch (promises v.slots) (xs ++ Call k q t ∷ [])) (sym is)
      (subst (λ (c : ℕ). Counts v.epoch c (xs ++ Call k q t ∷ [])) (sym none) (subst (λ (x : Request). Counts v.epoch 0 (xs ++ Call k x t ∷ [])) (sym asks) (counts_reset v.epoch k t xs)))
  next_owns w xs k q t v at s h (Stops _ is) = subst (λ (x : Phase). OwnsIn x v.epoch (promises v.slots) (xs ++ Call k q t ∷ [])) (sym is) tt
  next_owns w xs k q t v at s h (Goes _ r p d epoch l) =
      later_in v.phase v.epoch (promises v.slots) (xs ++ Call k q t ∷ []) l (subst (λ (e : ℕ). Owned e (xs ++ Call k q t ∷ [])) (sym epoch) (owned d))
    where
      here : OwnsIn (phase.InRound r) w.epoch (promises w.slots) xs
      here = subst (λ (x : Phase). OwnsIn x w.epoch (promises w.slots) xs) p h

      owned : IsLaterRound r ⊎ IsDone w k (heard_of t) r → Owned w.epoch (xs ++ Call k q t ∷ [])
      owned (inl x) = owned_more w.epoch xs (Call k q t) (later_round r w.epoch (promises w.slots) xs x here)
      owned (inr x) =
          counted w.epoch (promises (with_answer w k (heard_of t)).slots) (xs ++ Call k q t ∷ []) (more_than_half w k (heard_of t) s x.1)
          (stays round.Propose w xs k q t at (same_round w at.round r at.phase p ∙ x.0) (subst (λ (z : Round). OwnsIn (phase.InRound z) w.epoch (promises w.slots) xs) x.0 here))

  heard_owns : (w : WriterView) (xs : List Record) (k : ℕ) (q : Request) (t : TellsOf) → next_call w ≡ Some (k, q) → Owns xs w → Owns (xs ++ Call k q t ∷ []) (writer_heard w k (heard_of t)).writer
  heard_owns w xs k q t e h =
      let at : CallAt w k q = call_at w k q e in
      record {
        sized = heard_sized n w k (heard_of t) h.sized;
        live = heard_live w k (heard_of t) h.live;
        owns = next_owns w xs k q t (writer_heard w k (heard_of t)).writer at h.sized h.owns (next_of w at.round k (heard_of t) at.phase);
      }

  -- ## A task that begins
  log_owns : (o : Option ℕ) (bodies : List (List ℕ)) (w : WriterView) (xs : List Record) → OwnsIn w.phase w.epoch (promises w.slots) xs → Owned w.epoch xs
      → OwnsIn (log_begins o bodies w).writer.phase (log_begins o bodies w).writer.epoch (promises (log_begins o bodies w).writer.slots) xs
  log_owns (Some k) bodies w xs h o = h
  log_owns None bodies w xs h o = o

  writing_owned : (p : Phase) (e c : ℕ) (xs : List Record) → is_writing p ≡ true → OwnsIn p e c xs → Owned e xs
  writing_owned phase.Writing e c xs is h = h
  writing_owned (phase.InRound r) e c xs is h = absurd (cc is)
  writing_owned phase.Idle e c xs is h = absurd (cc is)
  writing_owned phase.Stopped e c xs is h = absurd (cc is)

  if_owns : (b : Bool) (x : Began) (w : WriterView) (xs : List Record) → OwnsIn w.phase w.epoch (promises w.slots) xs → (b ≡ true → OwnsIn x.writer.phase x.writer.epoch (promises x.writer.slots) xs)
      → OwnsIn (if_writing b x w).writer.phase (if_writing b x w).writer.epoch (promises (if_writing b x w).writer.slots) xs
  if_owns true x w xs h g = g refl
  if_owns false x w xs h g = h

  begun_owns : (t : Task) (w : WriterView) (xs : List Record) → OwnsIn w.phase w.epoch (promises w.slots) xs
      → OwnsIn (writer_begun w t).writer.phase (writer_begun w t).writer.epoch (promises (writer_begun w t).writer.slots) xs
  unfolding writer_begun
  begun_owns task.Takeover w xs h = tt
  begun_owns (task.Log bodies) w xs h = if_owns (is_writing w.phase) (log_begins (log_limit w bodies) bodies w) w xs h
      (λ is. log_owns (log_limit w bodies) bodies w xs h (writing_owned w.phase w.epoch (promises w.slots) xs is h))
  begun_owns task.Roll w xs h = if_owns (is_writing w.phase) _ w xs h (λ is. writing_owned w.phase w.epoch (promises w.slots) xs is h)
  begun_owns task.Close w xs h = if_owns (is_writing w.phase) _ w xs h (λ is. writing_owned w.phase w.epoch (promises w.slots) xs is h)
  begun_owns (task.Purge min) w xs h = if_owns (is_writing w.phase) _ w xs h (λ is. writing_owned w.phase w.epoch (promises w.slots) xs is h)

  task_owns : (xs : List Record) (w : WriterView) (t : Task) → HasBody t → Owns xs w → Owns xs (writer_begun w t).writer
  task_owns xs w t b h = record { sized = begun_sized n w t h.sized; live = begun_live w t h.live; owns = begun_owns t w xs h.owns }

  -- ## A call with a head
  asked_owned : (r : Round) (w : WriterView) (xs : List Record) (e : ℕ) → OwnsIn (phase.InRound r) w.epoch (promises w.slots) xs
      → epoch_of (request_in w r) ≡ Some e → is_proposal (request_in w r) ≡ false → Owned e xs
  unfolding epoch_of
  asked_owned round.State w xs e h i p = absurd (cc i)
  asked_owned round.Propose w xs e h i p = absurd (cc p)
  asked_owned (round.Prepare start) w xs e h i p = let same : w.epoch ≡ e = cc i in subst (λ (z : ℕ). Owned z xs) same h
  asked_owned (round.Fetch node start end bodies) w xs e h i p = let same : w.epoch ≡ e = cc i in subst (λ (z : ℕ). Owned z xs) same h
  asked_owned (round.Accept batch) w xs e h i p = let same : w.epoch ≡ e = cc i in subst (λ (z : ℕ). Owned z xs) same h
  asked_owned (round.Finalize start end) w xs e h i p = let same : w.epoch ≡ e = cc i in subst (λ (z : ℕ). Owned z xs) same h
  asked_owned round.Start w xs e h i p = let same : w.epoch ≡ e = cc i in subst (λ (z : ℕ). Owned z xs) same h
  asked_owned round.Open w xs e h i p = let same : w.epoch ≡ e = cc i in subst (λ (z : ℕ). Owned z xs) same h
  asked_owned (round.Write bodies) w xs e h i p = let same : w.epoch ≡ e = cc i in subst (λ (z : ℕ). Owned z xs) same h
  asked_owned (round.Purge min) w xs e h i p = let same : w.epoch ≡ e = cc i in subst (λ (z : ℕ). Owned z xs) same h

  call_owned : (w : WriterView) (xs : List Record) (k : ℕ) (q : Request) (e : ℕ) → Owns xs w → next_call w ≡ Some (k, q) → epoch_of q ≡ Some e → is_proposal q ≡ false → Owned e xs
  call_owned w xs k q e h c i p =
      let at : CallAt w k q = call_at w k q c in
      asked_owned at.round w xs e (subst (λ (x : Phase). OwnsIn x w.epoch (promises w.slots) xs) at.phase h.owns)
      (subst (λ (z : Request). epoch_of z ≡ Some e) at.asks i) (subst (λ (z : Request). is_proposal z ≡ false) at.asks p)

  skip_in : (p : Phase) (e c : ℕ) (xs : List Record) (r : Record) → ((e c : ℕ) (ys : List Record) → wins n e c (r ∷ ys) ≡ wins n e c ys) → OwnsIn p e c xs → OwnsIn p e c (xs ++ r ∷ [])
  skip_in (phase.InRound round.State) e c xs r skip h = tt
  skip_in (phase.InRound round.Propose) e c xs r skip h = counts_skip e c xs r (skip e c) h
  skip_in (phase.InRound (round.Prepare start)) e c xs r skip h = owned_more e xs r h
  skip_in (phase.InRound (round.Fetch node start end bodies)) e c xs r skip h = owned_more e xs r h
  skip_in (phase.InRound (round.Accept batch)) e c xs r skip h = owned_more e xs r h
  skip_in (phase.InRound (round.Finalize start end)) e c xs r skip h = owned_more e xs r h
  skip_in (phase.InRound round.Start) e c xs r skip h = owned_more e xs r h
  skip_in (phase.InRound round.Open) e c xs r skip h = owned_more e xs r h
  skip_in (phase.InRound (round.Write bodies)) e c xs r skip h = owned_more e xs r h
  skip_in (phase.InRound (round.Purge min)) e c xs r skip h = owned_more e xs r h
  skip_in phase.Writing e c xs r skip h = owned_more e xs r h
  skip_in phase.Idle e c xs r skip h = tt
  skip_in phase.Stopped e c xs r skip h = tt

  skips : (xs : List Record) (r : Record) (w : WriterView) → ((e c : ℕ) (ys : List Record) → wins n e c (r ∷ ys) ≡ wins n e c ys) → Owns xs w → Owns (xs ++ r ∷ []) w
  skips xs r w skip h = record { sized = h.sized; live = h.live; owns = skip_in w.phase w.epoch (promises w.slots) xs r skip h.owns }

  -- ## A read, which has no head, comes between tasks
  rest_in : (p : Phase) (e c : ℕ) (xs : List Record) (r : Record) → is_under_way p ≡ false → OwnsIn p e c xs → OwnsIn p e c (xs ++ r ∷ [])
  rest_in (phase.InRound x) e c xs r is h = absurd (cc is)
  rest_in phase.Writing e c xs r is h = owned_more e xs r h
  rest_in phase.Idle e c xs r is h = tt
  rest_in phase.Stopped e c xs r is h = tt

  rests_owns : (xs : List Record) (r : Record) (w : WriterView) → next_call w ≡ None → Owns xs w → Owns (xs ++ r ∷ []) w
  rests_owns xs r w none h =
      record { sized = h.sized; live = h.live; owns = rest_in w.phase w.epoch (promises w.slots) xs r (at_rest w h.live none) h.owns }

  read_headless : (q : Request) (from e : ℕ) → q ≡ request.Read from → epoch_of q ≡ Some e → ⊥
  unfolding epoch_of
  read_headless q from e is of = let none : epoch_of (request.Read from) ≡ Some e = subst (λ (z : Request). epoch_of z ≡ Some e) is of in cc none

  -- ## Along a record
  abbrev Standing : List Record → Maker → Type 0
  Standing xs m = Stands Owns task_owns xs m

  asked_owns : (m : Maker) (xs : List Record) (k : ℕ) (q : Request) (e : ℕ) → Standing xs m → Asked m k q → epoch_of q ≡ Some e → is_proposal q ≡ false → Owned e xs
  asked_owns m xs k q e h (Writing c) i p = call_owned m.writer xs k q e h.writer c i p
  asked_owns m xs k q e h (Reads from is none) i p = absurd (read_headless q from e is i)

  made_owns : (m : Maker) (xs rs : List Record) (e : ℕ) (q : Request) → Standing xs m → IsMade m rs → Sends q rs → epoch_of q ≡ Some e → is_proposal q ≡ false → wins n e 0 (xs ++ rs) ≡ true
  unfolding IsMade Sends wins Owned
  made_owns m xs [] e q h d s i p = absurd s
  made_owns m xs (Call k x t ∷ rs) e q h d (inl same) i p =
      asked_owns m xs k x e h (asked_of m k x d.0 h.rests) (subst (λ (z : Request). epoch_of z ≡ Some e) (sym same) i) (subst (λ (z : Request). is_proposal z ≡ false) (sym same) p) (Call k x t ∷ rs)
  made_owns m xs (Call k x t ∷ rs) e q h d (inr s) i p =
      subst (λ (l : List Record). wins n e 0 l ≡ true) (append_assoc xs (Call k x t ∷ []) rs)
      (made_owns (maker_hears m k t) (xs ++ Call k x t ∷ []) rs e q
      (hears_stands Owns task_owns (xs ++ Call k x t ∷ []) m k x t h.bodies h.rests d.0 (λ c. heard_owns m.writer xs k x t c h.writer)
      (λ from is none. rests_owns xs (Call k x t) m.writer none h.writer))
      d.1 s i p)
  made_owns m xs (Late k x ∷ rs) e q h d s i p =
      subst (λ (l : List Record). wins n e 0 l ≡ true) (append_assoc xs (Late k x ∷ []) rs)
      (made_owns m (xs ++ Late k x ∷ []) rs e q (record { bodies = h.bodies; writer = skips xs (Late k x) m.writer (λ a b c. refl) h.writer; rests = h.rests }) d s i p)
  made_owns m xs (Operator k x y ∷ rs) e q h d s i p = absurd d
  made_owns m xs (Outcome x ∷ rs) e q h d s i p =
      subst (λ (l : List Record). wins n e 0 l ≡ true) (append_assoc xs (Outcome x ∷ []) rs)
      (made_owns m (xs ++ Outcome x ∷ []) rs e q (record { bodies = h.bodies; writer = skips xs (Outcome x) m.writer (λ a b c. refl) h.writer; rests = h.rests }) d s i p)

  pub sender_owns : (rs : List Record) (e : ℕ) (q : Request) → 0 < n → IsOfChores n rs → Sends q rs → epoch_of q ≡ Some e → is_proposal q ≡ false → wins n e 0 rs ≡ true
  sender_owns rs e q some d s i p =
      let h : Owns [] (new_writer n) = record { sized = new_sized n; live = new_live n some; owns = tt } in
      made_owns (maker_of d.0 (new_writer n)) [] rs e q (maker_stands Owns task_owns d.0 [] (new_writer n) d.1 h) d.2 s i p
