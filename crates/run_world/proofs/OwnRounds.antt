-- A takeover that a majority of nodes serves makes its next call, in a round that asks all nodes.
use Rattle.std.proofs.Common.{◌≡◌, ◌≢◌, ℕ, zero, suc, ◌+◌, ◌-◌, ◌<◌, ◌≤◌, ◌⊎◌, inl, inr, List, [], ◌∷◌, ◌++◌, Bool, true, false, length, refl, sym, ◌∙◌, subst, arith, Some, slice_get}
use Rattle.std.specs.List.{list_any}
use Rattle.std.proofs.lemmas.Bool.{cases_eq}
use Rattle.journal_core.specs.Limits.{head_of}
use Rattle.journal_core.specs.Step.{node_step}
use Rattle.journal_core.specs.declared.node_state.NodeState.{NodeState}
use Rattle.journal_core.specs.declared.request.Request.{Request}
use Rattle.journal_core.specs.declared.reply.Reply.{Reply}
use Rattle.journal_core.specs.declared.heard.Heard.{Heard}
use Rattle.journal_core.specs.declared.heard.Heard.TheVariants.{Answer}
use Rattle.writer_core.specs.declared.round.Round.{Round}
use Rattle.writer_core.specs.declared.round.Round.TheVariants as round
use Rattle.writer_core.specs.declared.phase.Phase.TheVariants as phase
use Rattle.writer_core.specs.declared.phase.Aim.TheVariants as aim
use Rattle.writer_core.specs.declared.slot.Slot.{Slot}
use Rattle.writer_core.specs.declared.slot.Slot.TheVariants.{Waiting, Told}
use Rattle.writer_core.specs.Views.{WriterView}
use Rattle.writer_core.specs.Answers.{is_waiting}
use Rattle.writer_core.specs.Rounds.{request_in, head_now, numbers_fit, Judgment, judgment}
use Rattle.writer_core.specs.Writer.{with_answer, judgment_when, heard_in}
use Rattle.writer_core.proofs.PlainRounds.{IsWhole}
use Rattle.writer_core.proofs.WholeRounds.{IsFirst, whole_heard}
use Rattle.run_world.specs.Complete.{IsHeeded}
use Rattle.run_safety.specs.Majority.{Member, IsMajority}
use Rattle.run_safety.specs.Actings.{CallMade}
use Rattle.run_safety.proofs.Slots.{none≢some, some_same, true≢false, At, At-range}
use Rattle.run_world.proofs.Enough.{At-one, At-other, At-here, waits_any}
use Rattle.run_world.proofs.Heeding.{not_heeded, heeded_fits}
use Rattle.run_world.proofs.Duties.{Off, Due, Had, After, Part, waits, told, NumbersFit}
use Rattle.run_world.proofs.Serves.{Sane, Answers, serves, old_other}
use Rattle.run_world.proofs.Passing.{Facts, Way, goes, Spoken, accepted, finalized, started, opened, prepared}

-- the node at this place
pub get_at : (first p : ℕ) (xs : List Slot) (s : Slot) → slice_get xs p ≡ Some s → At first xs (first + p) s
get_at first p [] s e = none≢some s e
get_at first zero (x ∷ xs) s e = inl (omega arith, some_same e)
get_at first (suc p) (x ∷ xs) s e = inr (subst (λ j. At (first + 1) xs j s) (omega arith) (get_at (first + 1) p xs s e))

pub first_waits : (v : WriterView) (j : ℕ) → IsFirst v.slots j → At 1 v.slots j Waiting
first_waits v j f = subst (λ k. At 1 v.slots k Waiting) (let e : 1 + f.place ≡ j = omega (arith, f.is) in e) (get_at 1 f.place v.slots Waiting f.waits)

-- an answer in its place
pub answer_here : (v : WriterView) (j : ℕ) (d : Heard) → At 1 v.slots j Waiting → At 1 (with_answer v j d).slots j (Told d)
answer_here v j d at = let r = At-range 1 v.slots j Waiting at in At-here 1 (j - 1) j v.slots (Told d) (omega (arith, r.0)) (omega (arith, r.0, r.1))

pub answer_there : (v : WriterView) (j i : ℕ) (d : Heard) (s : Slot) → 1 ≤ j → i ≢ j → At 1 v.slots i s → At 1 (with_answer v j d).slots i s
answer_there v j i d s low off at = At-other 1 (j - 1) i v.slots (Told d) s (λ e. off (omega (arith, e, low))) at

-- ## What no slot is asked for
due_slots : (r : Round) (v : WriterView) (j : ℕ) (d : Heard) (s : NodeState) → Due r v s → Due r (with_answer v j d) s
due_slots round.State v j d s h = h
due_slots round.Propose v j d s h = h
due_slots (round.Prepare m) v j d s h = h
due_slots (round.Fetch node m end bodies) v j d s h = h
due_slots (round.Accept b) v j d s h = h
due_slots (round.Finalize m l) v j d s h = h
due_slots round.Start v j d s h = h
due_slots round.Open v j d s h = h
due_slots (round.Write bodies) v j d s h = h
due_slots (round.Purge min) v j d s h = h

had_slots : (r : Round) (v : WriterView) (j : ℕ) (d : Heard) (s : NodeState) (x : Reply) → Had r v s x → Had r (with_answer v j d) s x
had_slots round.State v j d s x h = h
had_slots round.Propose v j d s x h = h
had_slots (round.Prepare m) v j d s x h = h
had_slots (round.Fetch node m end bodies) v j d s x h = h
had_slots (round.Accept b) v j d s x h = h
had_slots (round.Finalize m l) v j d s x h = h
had_slots round.Start v j d s x h = h
had_slots round.Open v j d s x h = h
had_slots (round.Write bodies) v j d s x h = h
had_slots (round.Purge min) v j d s x h = h

numbers_slots : (r : Round) (v : WriterView) (j : ℕ) (d : Heard) → NumbersFit r v → NumbersFit r (with_answer v j d)
numbers_slots round.State v j d h = h
numbers_slots round.Propose v j d h = h
numbers_slots (round.Prepare m) v j d h = h
numbers_slots (round.Fetch node m end bodies) v j d h = h
numbers_slots (round.Accept b) v j d h = h
numbers_slots (round.Finalize m l) v j d h = h
numbers_slots round.Start v j d h = h
numbers_slots round.Open v j d h = h
numbers_slots (round.Write bodies) v j d h = h
numbers_slots (round.Purge min) v j d h = h

numbers_of_whole : (r : Round) (v : WriterView) → IsWhole r → numbers_fit v r ≡ true → NumbersFit r v
numbers_of_whole round.State v w h = h
numbers_of_whole round.Propose v w h = h
numbers_of_whole (round.Prepare m) v w h = h
numbers_of_whole (round.Fetch node m end bodies) v w h = tt
numbers_of_whole (round.Accept b) v w h = h
numbers_of_whole (round.Finalize m l) v w h = h
numbers_of_whole round.Start v w h = h
numbers_of_whole round.Open v w h = h
numbers_of_whole (round.Write bodies) v w h = h
numbers_of_whole (round.Purge min) v w h = h

facts_slots : (nodes : List ℕ) (r : Round) (v : WriterView) (j : ℕ) (d : Heard) → IsWhole r → Facts nodes r v → Facts nodes r (with_answer v j d)
facts_slots nodes round.State v j d w h = h
facts_slots nodes round.Propose v j d w h = h
facts_slots nodes (round.Prepare m) v j d w h = h
facts_slots nodes (round.Fetch node m end bodies) v j d w h = absurd w
facts_slots nodes (round.Accept b) v j d w h = h
facts_slots nodes (round.Finalize m l) v j d w h = h
facts_slots nodes round.Start v j d w h = h
facts_slots nodes round.Open v j d w h = h
facts_slots nodes (round.Write bodies) v j d w h = h
facts_slots nodes (round.Purge min) v j d w h = h

-- a round that goes on has a head
mid_head : (nodes : List ℕ) (r : Round) (v : WriterView) → Facts nodes r v → head_of (request_in v r) ≡ Some (head_now v)
mid_head nodes round.State v f = absurd f
mid_head nodes round.Propose v f = absurd f
mid_head nodes (round.Prepare m) v f = refl
mid_head nodes (round.Fetch node m end bodies) v f = refl
mid_head nodes (round.Accept b) v f = refl
mid_head nodes (round.Finalize m l) v f = refl
mid_head nodes round.Start v f = refl
mid_head nodes round.Open v f = refl
mid_head nodes (round.Write bodies) v f = absurd f
mid_head nodes (round.Purge min) v f = absurd f

-- ## A call to node j, of which d was heard
pub record Call (n : ℕ) (nodes : List ℕ) (before after : ℕ → NodeState) (v : WriterView) (j : ℕ) (q : Request) (d : Heard) : Type 0 where
  pub left : length v.left ≡ n
  pub slots : length v.slots ≡ n
  pub low : 1 ≤ j
  pub up : (i : ℕ) → Member i nodes → (before i).up ≡ true
  pub sane : (i : ℕ) → Member i nodes → Sane (before i)
  pub sane_after : (i : ℕ) → Member i nodes → Sane (after i)
  pub others : (i : ℕ) → Member i nodes → i ≢ j → after i ≡ before i
  pub heard : Member j nodes → d ≡ Answer (node_step (before j) q).reply
  pub heeded : Member j nodes → IsHeeded (node_step (before j) q).reply
  pub moved : Member j nodes → after j ≡ (node_step (before j) q).state

module _ (n : ℕ) (nodes : List ℕ) (majority : IsMajority n nodes) (before after : ℕ → NodeState) (calls : List CallMade) (v : WriterView) (j : ℕ) (d : Heard) where
  -- ## Its own part
  own_part : (r : Round) → IsWhole r → Facts nodes r v → (k : Call n nodes before after v j (request_in v r) d) → Member j nodes → At 1 v.slots j Waiting → Part r v (before j) calls j
      → Part r (with_answer v j d) (after j) (calls ++ record { node = j; request = request_in v r } ∷ []) j
  own_part r whole f k m at (told x at_told kind numbers p) = absurd (off (At-one 1 v.slots j Waiting (Told (Answer x)) at at_told))
    where
      off : Waiting ≡ Told (Answer x) → ⊥
      off e = cc e
  own_part r whole f k m at (waits at_it (inl (inr down))) = absurd (true≢false (sym (k.up j m) ∙ down))
  own_part r whole f k m at (waits at_it (inl (inl lost))) = absurd (not_heeded (before j) (request_in v r) (head_now v) (mid_head nodes r v f) (k.up j m) lost (k.heeded m))
  own_part r whole f k m at (waits at_it (inr ready)) =
      let a : Answers r v (before j) calls j = serves r v (before j) calls j (k.up j m) (k.sane j m) (subst Sane (k.moved m) (k.sane_after j m)) ready (k.heeded m) in
      let s : NodeState = (node_step (before j) (request_in v r)).state in
      told (node_step (before j) (request_in v r)).reply
      (subst (λ z. At 1 (with_answer v j d).slots j (Told z)) (k.heard m) (answer_here v j d at)) a.kind
      (numbers_slots r v j d (numbers_of_whole r v whole (heeded_fits (before j) (request_in v r) (k.up j m) (k.heeded m))))
      (subst (λ z. Off v.epoch z ⊎ After r (with_answer v j d) z (calls ++ record { node = j; request = request_in v r } ∷ []) j (node_step (before j) (request_in v r)).reply) (sym (k.moved m))
      (inr (record {
        bound = a.after.bound;
        serial = a.after.serial;
        had = had_slots r v j d (node_step (before j) (request_in v r)).state (node_step (before j) (request_in v r)).reply a.after.had;
        old = a.after.old;
      })))

  -- ## Another node's
  other_part : (r : Round) (i : ℕ) (q : Request) → 1 ≤ j → i ≢ j → Part r v (before i) calls i → Part r (with_answer v j d) (before i) (calls ++ record { node = j; request = q } ∷ []) i
  other_part r i q low off (waits at (inl f)) = waits (answer_there v j i d Waiting low off at) (inl f)
  other_part r i q low off (waits at (inr k)) = waits (answer_there v j i d Waiting low off at) (inr (record {
    bound = k.bound;
    serial = k.serial;
    due = due_slots r v j d (before i) k.due;
    old = old_other i v.epoch (before i).serial calls (record { node = j; request = q }) (λ e. off (sym e)) k.old;
  }))
  other_part r i q low off (told x at kind numbers (inl f)) = told x (answer_there v j i d (Told (Answer x)) low off at) kind (numbers_slots r v j d numbers) (inl f)
  other_part r i q low off (told x at kind numbers (inr k)) = told x (answer_there v j i d (Told (Answer x)) low off at) kind (numbers_slots r v j d numbers) (inr (record {
    bound = k.bound;
    serial = k.serial;
    had = had_slots r v j d (before i) x k.had;
    old = old_other i v.epoch (before i).serial calls (record { node = j; request = q }) (λ e. off (sym e)) k.old;
  }))

  parts_after : (r : Round) → IsWhole r → Facts nodes r v → Call n nodes before after v j (request_in v r) d → At 1 v.slots j Waiting → ((i : ℕ) → Member i nodes → Part r v (before i) calls i)
      → (i : ℕ) → Member i nodes → Part r (with_answer v j d) (after i) (calls ++ record { node = j; request = request_in v r } ∷ []) i
  parts_after r whole f k at parts i m = by (cases_eq i j)
    where
      by : (i ≡ j) ⊎ (i ≢ j) → Part r (with_answer v j d) (after i) (calls ++ record { node = j; request = request_in v r } ∷ []) i
      by (inl same) =
          let mine : Member j nodes = subst (λ z. Member z nodes) same m in
          subst (λ z. Part r (with_answer v j d) (after z) (calls ++ record { node = j; request = request_in v r } ∷ []) z) (sym same) (own_part r whole f k mine at (parts j mine))
      by (inr off) = subst (λ z. Part r (with_answer v j d) z (calls ++ record { node = j; request = request_in v r } ∷ []) i)
          (sym (k.others i m off)) (other_part r i (request_in v r) k.low off (parts i m))

  -- ## The round ends
  abbrev Now : Request → List CallMade
  Now q = calls ++ record { node = j; request = q } ∷ []

  no_wait : (i : ℕ) → list_any is_waiting (with_answer v j d).slots ≡ false → At 1 (with_answer v j d).slots i Waiting → ⊥
  no_wait i e at = true≢false (sym (waits_any 1 (with_answer v j d).slots i at) ∙ e)

  spoken : (r : Round) (i : ℕ) (q : Request) → ((u : WriterView) → NumbersFit r u → numbers_fit u r ≡ true)
      → list_any is_waiting (with_answer v j d).slots ≡ false → Part r (with_answer v j d) (after i) (Now q) i
      → Spoken n nodes majority after (Now q) r (with_answer v j d) i
  spoken r i q fit e (waits at p) = absurd (no_wait i e at)
  spoken r i q fit e (told x at kind numbers p) = record { reply = x; at = at; kind = kind; numbers = fit (with_answer v j d) numbers; part = p }

  -- by round
  ends : (r : Round) (q : Request) → IsWhole r → Facts nodes r v → length v.left ≡ n → length (with_answer v j d).slots ≡ n → v.aim ≡ aim.Takeover → ((i : ℕ) → Member i nodes → Sane (after i))
      → list_any is_waiting (with_answer v j d).slots ≡ false → ((i : ℕ) → Member i nodes → Part r (with_answer v j d) (after i) (Now q) i)
      → Way nodes after (Now q) (judgment r (with_answer v j d)).writer
  ends round.State q whole f left slots is sane e parts = absurd f
  ends round.Propose q whole f left slots is sane e parts = absurd f
  ends (round.Prepare m) q whole f left slots is sane e parts =
      prepared n nodes majority after (Now q) (with_answer v j d) m left slots is f (λ i k. (sane i k).durable) (λ i k. spoken (round.Prepare m) i q (λ u z. z) e (parts i k))
  ends (round.Fetch node m end bodies) q whole f left slots is sane e parts = absurd whole
  ends (round.Accept b) q whole f left slots is sane e parts =
      accepted n nodes majority after (Now q) (with_answer v j d) b left slots is f (λ i k. spoken (round.Accept b) i q (λ u z. z) e (parts i k))
  ends (round.Finalize m l) q whole f left slots is sane e parts =
      finalized n nodes majority after (Now q) (with_answer v j d) m l left slots is f (λ i k. spoken (round.Finalize m l) i q (λ u z. z) e (parts i k))
  ends round.Start q whole f left slots is sane e parts =
      started n nodes majority after (Now q) (with_answer v j d) left slots is (λ i k. spoken round.Start i q (λ u z. z) e (parts i k))
  ends round.Open q whole f left slots is sane e parts = opened n nodes majority after (Now q) (with_answer v j d) slots is (λ i k. spoken round.Open i q (λ u z. z) e (parts i k))
  ends (round.Write bodies) q whole f left slots is sane e parts = absurd f
  ends (round.Purge min) q whole f left slots is sane e parts = absurd f

  -- the answer is heard
  pub hears_way : (r : Round) → v.phase ≡ phase.InRound r → IsWhole r → v.aim ≡ aim.Takeover → 0 < v.serial → Facts nodes r v
      → (k : Call n nodes before after v j (request_in v r) d) → length (with_answer v j d).slots ≡ n
      → At 1 v.slots j Waiting → ((i : ℕ) → Member i nodes → Part r v (before i) calls i) → Way nodes after (Now (request_in v r)) (heard_in r v j d).writer
  hears_way r phase_is whole is pos f k size at parts =
      subst (λ (z : Judgment). Way nodes after (Now (request_in v r)) z.writer) (sym (whole_heard r v j d whole)) (by (list_any is_waiting (with_answer v j d).slots) refl)
    where
      now_parts : (i : ℕ) → Member i nodes → Part r (with_answer v j d) (after i) (Now (request_in v r)) i
      now_parts = parts_after r whole f k at parts

      by : (b : Bool) → list_any is_waiting (with_answer v j d).slots ≡ b → Way nodes after (Now (request_in v r)) (judgment_when b r (with_answer v j d)).writer
      by true e = goes r phase_is is pos (facts_slots nodes r v j d whole f) now_parts
      by false e = ends r (request_in v r) whole f k.left size is k.sane_after e now_parts
