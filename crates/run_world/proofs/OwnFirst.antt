-- A takeover that a majority of nodes serves asks for the promises, and proposes its epoch.
use Rattle.std.proofs.Common.{◌≡◌, ◌≢◌, ℕ, ◌-◌, ◌<◌, ◌≤◌, ◌⊎◌, inl, inr, List, [], ◌∷◌, ◌++◌, Bool, true, false, cond, length, refl, sym, ap, ◌∙◌, subst, arith}
use Rattle.std.specs.List.{list_any}
use Rattle.std.proofs.lemmas.Bool.{cases_eq, lt-ltb}
use Rattle.std.proofs.lemmas.Bool.Decides.{nat_tests}
use Rattle.journal_core.specs.Limits.{max_number}
use Rattle.journal_core.specs.Segments.{newest}
use Rattle.journal_core.specs.Step.{node_step}
use Rattle.journal_core.specs.declared.node_state.NodeState.{NodeState}
use Rattle.journal_core.specs.declared.request.Request.TheVariants.{State, NewEpoch}
use Rattle.journal_core.specs.declared.reply.Reply.{Reply}
use Rattle.journal_core.specs.declared.reply.Reply.TheVariants as reply
use Rattle.journal_core.specs.declared.heard.Heard.{Heard}
use Rattle.journal_core.specs.declared.heard.Heard.TheVariants.{Answer}
use Rattle.writer_core.specs.declared.round.Round.TheVariants as round
use Rattle.writer_core.specs.declared.phase.Phase.TheVariants as phase
use Rattle.writer_core.specs.declared.phase.Aim.TheVariants as aim
use Rattle.writer_core.specs.declared.slot.Slot.{Slot}
use Rattle.writer_core.specs.declared.slot.Slot.TheVariants.{Waiting, Told}
use Rattle.writer_core.specs.declared.turn.Turn.TheVariants as turn
use Rattle.writer_core.specs.Views.{WriterView}
use Rattle.writer_core.specs.Answers.{is_ok, is_waiting, fits_propose, fits_state, has_majority}
use Rattle.writer_core.specs.Best.{greatest_promise, promise_in}
use Rattle.writer_core.specs.Rounds.{keep_going, stops_with, begin_propose, with_causes, judgment_by, judgment}
use Rattle.writer_core.specs.Writer.{with_answer, judgment_when, heard_in}
use Rattle.run_safety.specs.Majority.{Member, IsMajority}
use Rattle.run_safety.specs.Actings.{CallMade}
use Rattle.run_safety.proofs.Slots.{true≢false, At}
use Rattle.run_world.proofs.Enough.{waits_any, all_wait, enough}
use Rattle.run_world.proofs.Heeding.{heeded_fits, Proposed, proposed as proposes_at, low_proposal, state_told}
use Rattle.run_world.proofs.Duties.{Off, AreOld, Voted, Voter}
use Rattle.run_world.proofs.Duties as duties
use Rattle.run_world.proofs.Serves.{newest_fits}
use Rattle.run_world.proofs.Passing.{AreIn, AreLow, greatest_low, set_low, Chosen, proposed}
use Rattle.run_world.proofs.Course.{Teller, silent, tells, Doomed, Course, asks, proposes, on}
use Rattle.run_world.proofs.OwnRounds.{answer_here, answer_there, Call}

-- ## Its own proposal at a node
module _ (n : ℕ) (nodes : List ℕ) (majority : IsMajority n nodes) (before after : ℕ → NodeState) (calls : List CallMade) (v : WriterView) (j : ℕ) (d : Heard) where
  own_vote : (k : Call n nodes before after v j (NewEpoch v.epoch) d) → v.serial ≡ 0 → Member j nodes → At 1 v.slots j Waiting → Voter (with_answer v j d) (after j) j
  own_vote k zero_serial m at =
      let p : Proposed (before j) v.epoch = proposes_at (before j) v.epoch (k.up j m) (k.heeded m) in
      duties.told (node_step (before j) (NewEpoch v.epoch)).reply
      (subst (λ z. At 1 (with_answer v j d).slots j (Told z)) (k.heard m) (answer_here v j d at))
      (ap fits_propose p.tells ∙ newest_fits (before j) (k.sane j m))
      (heeded_fits (before j) (NewEpoch v.epoch) (k.up j m) (k.heeded m))
      (subst (λ z. Off v.epoch z ⊎ Voted (with_answer v j d) z (node_step (before j) (NewEpoch v.epoch)).reply) (sym (k.moved m))
      (inr (record { bound = p.promise; serial = p.serial; tells = p.tells ∙ ap (λ z. reply.NewEpoch (newest z)) (sym p.segments) })))

  other_vote : (i : ℕ) → 1 ≤ j → i ≢ j → Voter v (before i) i → Voter (with_answer v j d) (before i) i
  other_vote i low off (duties.waits at) = duties.waits (answer_there v j i d Waiting low off at)
  other_vote i low off (duties.told x at kind numbers (inl f)) = duties.told x (answer_there v j i d (Told (Answer x)) low off at) kind numbers (inl f)
  other_vote i low off (duties.told x at kind numbers (inr k)) = duties.told x (answer_there v j i d (Told (Answer x)) low off at) kind numbers
      (inr (record { bound = k.bound; serial = k.serial; tells = k.tells }))

  votes_after : (k : Call n nodes before after v j (NewEpoch v.epoch) d) → v.serial ≡ 0 → At 1 v.slots j Waiting
      → ((i : ℕ) → Member i nodes → Voter v (before i) i) → (i : ℕ) → Member i nodes → Voter (with_answer v j d) (after i) i
  votes_after k zero_serial at voters i m = by (cases_eq i j)
    where
      by : (i ≡ j) ⊎ (i ≢ j) → Voter (with_answer v j d) (after i) i
      by (inl same) = subst (λ z. Voter (with_answer v j d) (after z) z) (sym same) (own_vote k zero_serial (subst (λ z. Member z nodes) same m) at)
      by (inr off) = subst (λ z. Voter (with_answer v j d) z i) (sym (k.others i m off)) (other_vote i k.low off (voters i m))

  -- a takeover that is doomed stays so
  still_doomed : (k : Call n nodes before after v j (NewEpoch v.epoch) d) → At 1 v.slots j Waiting → Doomed nodes before v → Doomed nodes after (with_answer v j d)
  still_doomed k at x = by (cases_eq x.node j)
    where
      by : (x.node ≡ j) ⊎ (x.node ≢ j) → Doomed nodes after (with_answer v j d)
      by (inl same) =
          let m : Member j nodes = subst (λ z. Member z nodes) same x.member in
          let low : v.epoch ≤ (before j).promised = subst (λ z. v.epoch ≤ (before z).promised) same x.promised in
          absurd (low_proposal (before j) v.epoch (k.up j m) low (k.heeded m))
      by (inr off) = record {
        node = x.node;
        member = x.member;
        waits_still = answer_there v j x.node d Waiting k.low off x.waits_still;
        promised = subst (λ z. v.epoch ≤ z.promised) (sym (k.others x.node x.member off)) x.promised;
      }

  abbrev Now : List CallMade
  Now = calls ++ record { node = j; request = NewEpoch v.epoch } ∷ []

  no_wait : (i : ℕ) → list_any is_waiting (with_answer v j d).slots ≡ false → At 1 (with_answer v j d).slots i Waiting → ⊥
  no_wait i e at = true≢false (sym (waits_any 1 (with_answer v j d).slots i at) ∙ e)

  -- all have voted: the calls so far under this epoch are old, by what is known of them
  chosen : (i : ℕ) → list_any is_waiting (with_answer v j d).slots ≡ false → ((x : Reply) → Voted (with_answer v j d) (after i) x → AreOld i v.epoch (after i).serial Now)
      → Voter (with_answer v j d) (after i) i → Chosen n nodes majority after Now (with_answer v j d) i
  chosen i e old (duties.waits at) = absurd (no_wait i e at)
  chosen i e old (duties.told x at kind numbers p) = record { reply = x; at = at; kind = kind; numbers = numbers; part = by p }
    where
      by : Off v.epoch (after i) ⊎ Voted (with_answer v j d) (after i) x → Off v.epoch (after i) ⊎ (Voted (with_answer v j d) (after i) x × AreOld i v.epoch (after i).serial Now)
      by (inl f) = inl f
      by (inr y) = inr (y, old x y)

  pub hears_vote : v.phase ≡ phase.InRound round.Propose → v.aim ≡ aim.Takeover → v.serial ≡ 0 → AreIn nodes v.left
      → (k : Call n nodes before after v j (NewEpoch v.epoch) d) → length (with_answer v j d).slots ≡ n → At 1 v.slots j Waiting
      → (((i : ℕ) → Member i nodes → Voter v (before i) i) → list_any is_waiting (with_answer v j d).slots ≡ false → (i : ℕ) → Member i nodes
      → (x : Reply) → Voted (with_answer v j d) (after i) x → AreOld i v.epoch (after i).serial Now)
      → Doomed nodes before v ⊎ ((i : ℕ) → Member i nodes → Voter v (before i) i) → Course nodes after (record { writer = (heard_in round.Propose v j d).writer; calls = Now })
  hears_vote phase_is is zero_serial left k size at old state = by (list_any is_waiting (with_answer v j d).slots) refl state
    where
      by : (b : Bool) → list_any is_waiting (with_answer v j d).slots ≡ b → Doomed nodes before v ⊎ ((i : ℕ) → Member i nodes → Voter v (before i) i)
          → Course nodes after (record { writer = (judgment_when b round.Propose (with_answer v j d)).writer; calls = Now })
      by true e (inl x) = proposes phase_is is zero_serial left (inl (still_doomed k at x))
      by true e (inr voters) = proposes phase_is is zero_serial left (inr (votes_after k zero_serial at voters))
      by false e (inl x) = let y : Doomed nodes after (with_answer v j d) = still_doomed k at x in absurd (no_wait y.node e y.waits_still)
      by false e (inr voters) =
          let now_voters : (i : ℕ) → Member i nodes → Voter (with_answer v j d) (after i) i = votes_after k zero_serial at voters in
          on (proposed n nodes majority after Now (with_answer v j d) k.left size is zero_serial left
          (λ i m. chosen i e (old voters e i m) (now_voters i m)))

-- ## The promises
module _ (n : ℕ) (nodes : List ℕ) (majority : IsMajority n nodes) (before after : ℕ → NodeState) (calls : List CallMade) (v : WriterView) (j : ℕ) (d : Heard) where
  own_tells : (k : Call n nodes before after v j State d) → Member j nodes → At 1 v.slots j Waiting → Teller (with_answer v j d) j
  own_tells k m at =
      let told_it : (node_step (before j) State).reply ≡ reply.State (before j).promised = state_told (before j) (k.up j m) in
      tells (node_step (before j) State).reply (subst (λ z. At 1 (with_answer v j d).slots j (Told z)) (k.heard m) (answer_here v j d at))
      (ap fits_state told_it ∙ (let low : (before j).promised ≤ max_number = (k.sane j m).small.0 in grind (arith, nat_tests, low)))

  tellers_after : (k : Call n nodes before after v j State d) → At 1 v.slots j Waiting → ((i : ℕ) → Member i nodes → Teller v i) → (i : ℕ) → Member i nodes → Teller (with_answer v j d) i
  tellers_after k at tellers i m = by (cases_eq i j) (tellers i m)
    where
      by : (i ≡ j) ⊎ (i ≢ j) → Teller v i → Teller (with_answer v j d) i
      by (inl same) t = subst (λ z. Teller (with_answer v j d) z) (sym same) (own_tells k (subst (λ z. Member z nodes) same m) at)
      by (inr off) (silent at_it) = silent (answer_there v j i d Waiting k.low off at_it)
      by (inr off) (tells x at_it kind) = tells x (answer_there v j i d (Told (Answer x)) k.low off at_it) kind

  abbrev Then : List CallMade
  Then = calls ++ record { node = j; request = State } ∷ []

  told_slot : (i : ℕ) → list_any is_waiting (with_answer v j d).slots ≡ false → Teller (with_answer v j d) i → (slot : Slot) × At 1 (with_answer v j d).slots i slot × (is_ok round.State slot ≡ true)
  told_slot i e (silent at) = absurd (true≢false (sym (waits_any 1 (with_answer v j d).slots i at) ∙ e))
  told_slot i e (tells x at kind) = (Told (Answer x), at, kind)

  begins_proposal : (w : WriterView) → w.aim ≡ aim.Takeover → AreIn nodes w.left → length w.left ≡ n → AreLow w.slots
      → has_majority round.State w.slots ≡ true → Course nodes after (record { writer = (judgment round.State w).writer; calls = Then })
  unfolding judgment
  begins_proposal w is left size low enough_it =
      subst (λ (b : Bool). Course nodes after (record { writer = (judgment_by b round.State w).writer; calls = Then })) (sym enough_it)
      (subst (λ (b : Bool). Course nodes after (record {
        writer = (cond b
            (keep_going (begin_propose (greatest_promise w.slots) (with_causes round.State w)))
            (stops_with (turn.EpochLimit (greatest_promise w.slots)) (with_causes round.State w))).writer;
        calls = Then;
      }))
      (sym (lt-ltb (greatest_promise w.slots) max_number (greatest_low w.slots low)))
      (proposes refl is refl left (inr (λ i m. duties.waits (let b = majority.within i m in all_wait 1 w.left i b.0 (omega (arith, b.1, size)))))))

  pub hears_promise : v.phase ≡ phase.InRound round.State → v.aim ≡ aim.Takeover → AreIn nodes v.left → (k : Call n nodes before after v j State d)
      → length (with_answer v j d).slots ≡ n → At 1 v.slots j Waiting → promise_in (Told d) < max_number → AreLow v.slots
      → ((i : ℕ) → Member i nodes → Teller v i) → Course nodes after (record { writer = (heard_in round.State v j d).writer; calls = Then })
  hears_promise phase_is is left k size at low lows tellers = by (list_any is_waiting (with_answer v j d).slots) refl
    where
      now_low : AreLow (with_answer v j d).slots
      now_low = set_low v.slots (j - 1) (Told d) lows low

      now_tellers : (i : ℕ) → Member i nodes → Teller (with_answer v j d) i
      now_tellers = tellers_after k at tellers

      by : (b : Bool) → list_any is_waiting (with_answer v j d).slots ≡ b → Course nodes after (record { writer = (judgment_when b round.State (with_answer v j d)).writer; calls = Then })
      by true e = asks phase_is is left now_low now_tellers
      by false e = begins_proposal (with_answer v j d) is left k.left now_low (enough n round.State (with_answer v j d).slots nodes size majority (λ i m. told_slot i e (now_tellers i m)))
