-- A takeover that a majority of nodes serves makes its next call.
use Rattle.std.proofs.Common.{◌≡◌, ◌≢◌, ℕ, ◌-◌, ◌<◌, ◌≤◌, ◌⊎◌, inl, inr, List, [], ◌∷◌, ◌++◌, true, false, length, set, length-set, refl, sym, ap, ◌∙◌, subst, arith, Some}
use Rattle.std.specs.List.{list_any}
use Rattle.std.proofs.lemmas.Bool.{cases_eq}
use Rattle.journal_core.specs.Views.{HeadView}
use Rattle.journal_core.specs.Limits.{head_of, max_number}
use Rattle.journal_core.specs.Segments.{find_segment}
use Rattle.journal_core.specs.Step.{node_step}
use Rattle.journal_core.specs.declared.node_state.NodeState.{NodeState}
use Rattle.journal_core.specs.declared.request.Request.{Request}
use Rattle.journal_core.specs.declared.request.Request.TheVariants.{NewEpoch, State}
use Rattle.journal_core.specs.declared.reply.Reply.{Reply}
use Rattle.journal_core.specs.declared.reply.Reply.TheVariants as reply
use Rattle.journal_core.specs.declared.heard.Heard.{Heard}
use Rattle.journal_core.specs.declared.heard.Heard.TheVariants.{Answer, Silent}
use Rattle.writer_core.specs.declared.round.Round.{Round}
use Rattle.writer_core.specs.declared.round.Round.TheVariants as round
use Rattle.writer_core.specs.declared.phase.Phase.{Phase}
use Rattle.writer_core.specs.declared.phase.Phase.TheVariants as phase
use Rattle.writer_core.specs.declared.phase.Aim.TheVariants as aim
use Rattle.writer_core.specs.declared.slot.Slot.{Slot}
use Rattle.writer_core.specs.declared.slot.Slot.TheVariants.{Waiting, Told}
use Rattle.writer_core.specs.Views.{WriterView}
use Rattle.writer_core.specs.Answers.{is_waiting, fits_round}
use Rattle.writer_core.specs.Best.{promise_in}
use Rattle.writer_core.specs.Rounds.{request_in, failure_of}
use Rattle.writer_core.specs.Writer.{next_call, node_in, with_answer, heard_in, heard_at, writer_heard}
use Rattle.writer_core.proofs.PlainRounds.{IsWhole}
use Rattle.writer_core.proofs.WholeRounds.{IsCalling, calling_in, whole_first}
use Rattle.run_safety.specs.declared.event.Fate.{Fate}
use Rattle.run_world.specs.declared.seen.Seen.TheVariants as seen
use Rattle.run_world.specs.Complete.{IsHeeded, IsAnswered, IsLow}
use Rattle.run_safety.specs.Run.{Story, Follows}
use Rattle.journal_history.specs.Entries.{Entry, Earlier, now, before, node_after}
use Rattle.run_safety.specs.Majority.{Member, IsMajority}
use Rattle.run_safety.specs.Actings.{CallMade}
use Rattle.run_world.specs.World.{World, acting_at, call_heard, call_reached}
use Rattle.run_safety.proofs.Slots.{none≢some, some_same, true≢false, At, best_told, TellsSegment}
use Rattle.run_safety.proofs.Answers.{segment_slot, fits_info}
use Rattle.run_world.proofs.Enough.{waits_any}
use Rattle.run_safety.proofs.CallLeft.{CallLeft, nothing, unheard, answered}
use Rattle.run_world.proofs.Heeding.{low_proposal}
use Rattle.run_world.proofs.Duties.{AreOld, Voted, Voter}
use Rattle.run_world.proofs.Duties as duties
use Rattle.run_world.proofs.Serves.{Sane}
use Rattle.run_safety.proofs.WriterRange.{call_within}
use Rattle.run_safety.proofs.Tracked.{Tracked}
use Rattle.run_world.proofs.Passing.{Facts, Fetching, goes, writes, Agreed, answer_low}
use Rattle.run_world.proofs.Rivals.{Rival, rival, voted}
use Rattle.run_world.proofs.WorldNodes.{entries}
use Rattle.run_world.proofs.WorldEntries.{state_at}
use Rattle.run_safety.proofs.WorldActs.{IsMadeBy, AreOwn}
use Rattle.run_world.proofs.WorldRuns.{Runs, runs_follow}
use Rattle.run_world.proofs.NodeFacts.{state, sane, WasServed, was_served, call_other}
use Rattle.run_world.proofs.Course.{Course, asks, proposes, on, its_takeover, head_epoch}
use Rattle.run_world.proofs.OwnRounds.{first_waits, answer_there, Call, hears_way}
use Rattle.run_world.proofs.OwnFirst.{hears_vote, hears_promise}
use Rattle.run_world.proofs.OwnFetch.{hears_piece}
use Rattle.run_world.proofs.BestHeld.{best_held, as_long}

-- the list goes on
pub left_earlier : (n : ℕ) (past : List Entry) (c j : ℕ) (q : Request) (d : Heard) (next : List Entry) → CallLeft n past c j q d next → Earlier past next
left_earlier n past c j q d next (nothing same quiet) = subst (λ l. Earlier past l) (sym same) now
left_earlier n past c j q d next (unheard move same quiet turn enters) = subst (λ l. Earlier past l) (sym same) (before now)
left_earlier n past c j q d next (answered x same is some enters) = subst (λ l. Earlier past l) (sym same) (before now)

-- a round that asks all nodes, or one that fetches
whole_or : (nodes : List ℕ) (r : Round) (v : WriterView) → Facts nodes r v → IsWhole r ⊎ ((node : ℕ) × (m : ℕ) × (end : ℕ) × (bodies : List (List ℕ)) × (r ≡ round.Fetch node m end bodies))
whole_or nodes round.State v f = absurd f
whole_or nodes round.Propose v f = absurd f
whole_or nodes (round.Prepare m) v f = inl tt
whole_or nodes (round.Fetch node m end bodies) v f = inr (node, m, end, bodies, refl)
whole_or nodes (round.Accept b) v f = inl tt
whole_or nodes (round.Finalize m l) v f = inl tt
whole_or nodes round.Start v f = inl tt
whole_or nodes round.Open v f = inl tt
whole_or nodes (round.Write bodies) v f = absurd f
whole_or nodes (round.Purge min) v f = absurd f

heard_low : (d : Heard) → IsLow (seen.Heard d) → promise_in (Told d) < max_number
heard_low Silent l = omega arith
heard_low (Answer x) l = answer_low x (λ p e. subst (λ z. IsLow (seen.Heard (Answer z))) e l)

module _ (n c : ℕ) (nodes : List ℕ) (majority : IsMajority n nodes) (w : World) (h : Runs n w) (j : ℕ) (q : Request) (f : Fate) (next : next_call (acting_at c w).writer ≡ Some (j, q)) where
  its_call : IsCalling (acting_at c w).writer j q
  its_call = calling_in (acting_at c w).writer j q next

  within_n : (1 ≤ j) × (j ≤ n)
  within_n = call_within n (acting_at c w).writer j q (h.all c).sized next

  abbrev d : Heard
  d = call_heard f j q w

  abbrev after : ℕ → NodeState
  after = state (call_reached f c j q w)

  round_is : (r : Round) → (acting_at c w).writer.phase ≡ phase.InRound r → (its_call).round ≡ r
  round_is r is = one (sym its_call.phase ∙ is)
    where
      one : phase.InRound its_call.round ≡ phase.InRound r → its_call.round ≡ r
      one e = cc

  request_is : (r : Round) → (acting_at c w).writer.phase ≡ phase.InRound r → q ≡ request_in (acting_at c w).writer r
  request_is r is = its_call.request ∙ ap (λ z. request_in (acting_at c w).writer z) (round_is r is)

  node_is : (r : Round) → (acting_at c w).writer.phase ≡ phase.InRound r → node_in r (acting_at c w).writer.slots ≡ Some j
  node_is r is = sym (ap (λ z. node_in z (acting_at c w).writer.slots) (round_is r is)) ∙ its_call.node_is

  at_waits : (r : Round) → IsWhole r → (acting_at c w).writer.phase ≡ phase.InRound r → At 1 (acting_at c w).writer.slots j Waiting
  at_waits r whole is = first_waits (acting_at c w).writer j (whole_first r (acting_at c w).writer.slots j whole (node_is r is))

  set_size : (s : Slot) (p : ℕ) → length (set (acting_at c w).writer.slots p s) ≡ n
  set_size s p = length-set (acting_at c w).writer.slots p s ∙ (h.all c).sized.slots

  -- the call, as its round sees it
  the_call : (up : (i : ℕ) → Member i nodes → (state w i).up ≡ true) → (Member j nodes → IsAnswered (seen.Heard (call_heard f j q w)))
      → ((i : ℕ) → Member i nodes → Sane (state (call_reached f c j q w) i))
      → (r : Request) → q ≡ r → Call n nodes (state w) (state (call_reached f c j q w)) (acting_at c w).writer j r (call_heard f j q w)
  the_call up answer sane_after r same = record {
    left = (h.all c).sized.left;
    slots = (h.all c).sized.slots;
    low = within_n.0;
    up = up;
    sane = λ i m. sane n w i h (majority.within i m).0 (majority.within i m).1;
    sane_after = sane_after;
    others = λ i m off. call_other w c j i q f within_n.0 (majority.within i m).0 off;
    heard = λ m. (served m).heard ∙ ap (λ z. Answer (node_step (state w j) z).reply) same;
    heeded = λ m. subst (λ z. IsHeeded (node_step (state w j) z).reply) same (served m).heeded;
    moved = λ m. (served m).after ∙ ap (λ z. (node_step (state w j) z).state) same;
  }
    where
      served : Member j nodes → WasServed n w c j q f
      served m = was_served n w c j q f h.agree.size within_n.0 within_n.1 (answer m)

  -- the calls so far aren't of the epoch that is proposed
  olds : (p : (acting_at c w).writer.phase ≡ phase.InRound round.Propose)
      (k : Call n nodes (state w) (state (call_reached f c j q w)) (acting_at c w).writer j (NewEpoch (acting_at c w).writer.epoch)
      (call_heard f j q w))
      → At 1 (acting_at c w).writer.slots j Waiting → ((i : ℕ) → Member i nodes → Voter (acting_at c w).writer (state w i) i)
      → list_any is_waiting (with_answer (acting_at c w).writer j (call_heard f j q w)).slots ≡ false
      → (i top : ℕ) (xs : List CallMade) → AreOwn n h.tale (entries w.trace) c xs
      → AreOld i (acting_at c w).writer.epoch top (xs ++ record { node = j; request = NewEpoch (acting_at c w).writer.epoch } ∷ [])
  olds p k at voters e i top [] own = (λ a hd is same. none≢some hd is, tt)
  olds p k at voters e i top (y ∷ xs) own = (λ a hd is same. absurd (clash (own.0 (head_epoch y.request hd is)) hd is same), olds p k at voters e i top xs own.1)
    where
      v : WriterView
      v = (acting_at c w).writer

      t : Tracked n h.tale (entries w.trace) c (acting_at c w).writer
      t = its_takeover n c nodes majority w h round.Propose p (λ z. off z)
        where
          off : round.Propose ≡ round.State → ⊥
          off z = cc z

      against : (rv : Rival n h.tale (entries w.trace) (runs_follow n w h) c (acting_at c w).writer t nodes) → (rv.node ≡ j) ⊎ (rv.node ≢ j)
          → Voter (acting_at c w).writer (state w rv.node) rv.node → ⊥
      against rv (inl same) voter =
          let m : Member j nodes = subst (λ z. Member z nodes) same rv.member in
          let r = majority.within rv.node rv.member in
          let at_it : (state w rv.node).promised ≡ (node_after rv.node (entries w.trace)).promised = ap (λ (s : NodeState). s.promised) (state_at n w rv.node h.agree r.0 r.1) in
          let low : (acting_at c w).writer.epoch ≤ (state w rv.node).promised = omega (arith, at_it, rv.promised) in
          low_proposal (state w j) (acting_at c w).writer.epoch (k.up j m) (subst (λ z. (acting_at c w).writer.epoch ≤ (state w z).promised) same low) (k.heeded m)
      against rv (inr off) (duties.waits waits_at) = true≢false (sym
          (waits_any 1 (with_answer (acting_at c w).writer j (call_heard f j q w)).slots rv.node
          (answer_there (acting_at c w).writer j rv.node (call_heard f j q w) Waiting k.low off waits_at)) ∙ e)
      against rv (inr off) (duties.told x told_at kind numbers part) = from x told_at kind
        where
          from : (z : Reply) → At 1 (acting_at c w).writer.slots rv.node (Told (Answer z)) → fits_round round.Propose z ≡ true → ⊥
          from (reply.NewEpoch o) a b = rv.no_vote (voted n h.tale (entries w.trace) (runs_follow n w h) c (acting_at c w).writer t rv.node o p a b)
          from reply.Ok a b = true≢false (sym b)
          from (reply.State x_it) a b = true≢false (sym b)
          from (reply.Prepared x_it y_it z_it) a b = true≢false (sym b)
          from (reply.Edits x_it) a b = true≢false (sym b)
          from (reply.Segments x_it) a b = true≢false (sym b)
          from (reply.Refused x_it) a b = true≢false (sym b)

      clash : IsMadeBy n h.tale (entries w.trace) c y.node y.request → (hd : HeadView) → head_of y.request ≡ Some hd → hd.epoch ≡ (acting_at c w).writer.epoch → ⊥
      clash m hd is same =
          let rv : Rival n h.tale (entries w.trace) (runs_follow n w h) c (acting_at c w).writer t nodes =
          rival n h.tale (entries w.trace) (runs_follow n w h) c (acting_at c w).writer t nodes m.0 m.1 c y.node y.request hd p majority m.2 is
          same in
          against rv (cases_eq rv.node j) (voters rv.node rv.member)

  -- the best answer that it fetches from is as long as any other final one
  agreed : (nodes_of : (i : ℕ) → Member i nodes → (1 ≤ i) × (i ≤ n)) (past : List Entry) (told_next : (i : ℕ) → Member i nodes → state (call_reached f c j q w) i ≡ node_after i past)
      → Earlier (entries w.trace) past → (story : Story) → Follows n story past
      → (node m end : ℕ) (bodies : List (List ℕ)) → (acting_at c w).writer.phase ≡ phase.InRound (round.Fetch node m end bodies) → (g : Fetching (acting_at c w).writer node m end bodies)
      → Agreed n nodes majority (state (call_reached f c j q w)) ((acting_at c w).calls ++ record { node = j; request = q } ∷ []) m g.info
  agreed nodes_of past told_next later story follows node m end bodies is g i k s found final info_final =
      let t : Tracked n h.tale (entries w.trace) c (acting_at c w).writer = its_takeover n c nodes majority w h (round.Fetch node m end bodies) is (λ z. off z) in
      let tells : TellsSegment m 1 (acting_at c w).writer.slots (record { node = node; info = g.info }) = best_told m 1 (acting_at c w).writer.slots (record { node = node; info = g.info }) g.best in
      let r = segment_slot m tells.slot g.info tells.tells in
      let start : g.info.start ≡ m = (fits_info m r.0 r.1 g.info r.3).0 in
      as_long n story (entries w.trace) past node i g.info s follows later (best_held n h.tale (entries w.trace) (runs_follow n w h) c (acting_at c w).writer t node m end bodies is g)
      (subst (λ z. find_segment z (node_after i past).segments ≡ Some s) (sym start) (subst (λ (z : NodeState). find_segment m z.segments ≡ Some s) (told_next i k) found)) final info_final
    where
      off : round.Fetch node m end bodies ≡ round.State → ⊥
      off z = cc z

  -- ## The call is heard
  pub own_call : (up : (i : ℕ) → Member i nodes → (state w i).up ≡ true) → (Member j nodes → IsAnswered (seen.Heard (call_heard f j q w)))
      → IsLow (seen.Heard (call_heard f j q w)) → ((i : ℕ) → Member i nodes → Sane (state (call_reached f c j q w) i))
      → (past : List Entry) → ((i : ℕ) → Member i nodes → state (call_reached f c j q w) i ≡ node_after i past) → Earlier (entries w.trace) past → (story : Story) → Follows n story past
      → Course nodes (state w) (acting_at c w)
      → Course nodes (state (call_reached f c j q w)) (record {
        writer = (writer_heard (acting_at c w).writer j (call_heard f j q w)).writer;
        calls = (acting_at c w).calls ++ record { node = j; request = q } ∷ [];
      })
  unfolding writer_heard
  own_call up answer low sane_after past told_next later story follows course = by course
    where
      v : WriterView
      v = (acting_at c w).writer

      at_phase : (r : Round) → (acting_at c w).writer.phase ≡ phase.InRound r → (z : Request) → q ≡ z
          → Course nodes (state (call_reached f c j q w)) (record {
            writer = (heard_in r (acting_at c w).writer j (call_heard f j q w)).writer;
            calls = (acting_at c w).calls ++ record { node = j; request = z } ∷ [];
          })
          → Course nodes (state (call_reached f c j q w)) (record {
            writer =
                (heard_at (acting_at c w).writer.phase (acting_at c w).writer j (call_heard f j q w)).writer;
            calls = (acting_at c w).calls ++ record { node = j; request = q } ∷ [];
          })
      at_phase r is z same course_z =
          subst (λ (p : Phase). Course nodes (state (call_reached f c j q w))
          (record {
            writer = (heard_at p (acting_at c w).writer j (call_heard f j q w)).writer;
            calls = (acting_at c w).calls ++ record { node = j; request = q } ∷ [];
          })) (sym is)
          (subst (λ y. Course nodes (state (call_reached f c j q w))
          (record {
            writer = (heard_in r (acting_at c w).writer j (call_heard f j q w)).writer;
            calls = (acting_at c w).calls ++ record { node = j; request = y } ∷ [];
          })) (sym same) course_z)

      whole_way : (r : Round) → (acting_at c w).writer.phase ≡ phase.InRound r → IsWhole r → (acting_at c w).writer.aim ≡ aim.Takeover
          → 0 < (acting_at c w).writer.serial → Facts nodes r (acting_at c w).writer
          → ((i : ℕ) → Member i nodes → duties.Part r (acting_at c w).writer (state w i) (acting_at c w).calls i)
          → Course nodes (state (call_reached f c j q w)) (record {
            writer = (heard_in r (acting_at c w).writer j (call_heard f j q w)).writer;
            calls = (acting_at c w).calls ++ record { node = j; request = request_in (acting_at c w).writer r } ∷ [];
          })
      whole_way r is whole aim_is pos facts parts =
          on (hears_way n nodes majority (state w) (state (call_reached f c j q w)) (acting_at c w).calls (acting_at c w).writer j
          (call_heard f j q w) r is whole aim_is pos facts (the_call up answer sane_after (request_in (acting_at c w).writer r) (request_is r is))
          (set_size (Told (call_heard f j q w)) (j - 1)) (at_waits r whole is) parts)

      fetch_way : (m end : ℕ) (bodies : List (List ℕ)) → (acting_at c w).writer.phase ≡ phase.InRound (round.Fetch j m end bodies)
          → (acting_at c w).writer.aim ≡ aim.Takeover → Facts nodes (round.Fetch j m end bodies) (acting_at c w).writer
          → ((i : ℕ) → Member i nodes → duties.Part (round.Fetch j m end bodies) (acting_at c w).writer (state w i) (acting_at c w).calls i)
          → Course nodes (state (call_reached f c j q w)) (record {
            writer =
                (heard_in (round.Fetch j m end bodies) (acting_at c w).writer j (call_heard f j q w)).writer;
            calls = (acting_at c w).calls ++ record { node = j; request = request_in (acting_at c w).writer (round.Fetch j m end bodies) } ∷ [];
          })
      fetch_way m end bodies is aim_is facts parts =
          on (hears_piece n nodes majority (state w) (state (call_reached f c j q w)) (acting_at c w).calls (acting_at c w).writer j (call_heard f j q w) m end bodies facts.1
          (the_call up answer sane_after (request_in (acting_at c w).writer (round.Fetch j m end bodies)) (request_is (round.Fetch j m end bodies) is)) aim_is facts.0
          (λ z. set_size (Told (failure_of z)) (j - 1)) (agreed majority.within past told_next later story follows j m end bodies is facts.1) facts.2 parts)

      fetch_goes : (node m end : ℕ) (bodies : List (List ℕ)) → (acting_at c w).writer.phase ≡ phase.InRound (round.Fetch node m end bodies)
          → (acting_at c w).writer.aim ≡ aim.Takeover → Facts nodes (round.Fetch node m end bodies) (acting_at c w).writer
          → ((i : ℕ) → Member i nodes → duties.Part (round.Fetch node m end bodies) (acting_at c w).writer (state w i) (acting_at c w).calls i)
          → Course nodes (state (call_reached f c j q w)) (record {
            writer =
                (heard_at (acting_at c w).writer.phase (acting_at c w).writer j (call_heard f j q w)).writer;
            calls = (acting_at c w).calls ++ record { node = j; request = q } ∷ [];
          })
      fetch_goes node m end bodies is aim_is facts parts =
          let here : node ≡ j = some_same (node_is (round.Fetch node m end bodies) is) in
          let is_j : (acting_at c w).writer.phase ≡ phase.InRound (round.Fetch j m end bodies) = is ∙ ap (λ z. phase.InRound (round.Fetch z m end bodies)) here in
          at_phase (round.Fetch j m end bodies) is_j (request_in (acting_at c w).writer (round.Fetch j m end bodies)) (request_is (round.Fetch j m end bodies) is_j)
          (fetch_way m end bodies is_j aim_is (subst (λ z. Facts nodes (round.Fetch z m end bodies) (acting_at c w).writer) here facts)
          (λ i k. subst (λ z. duties.Part (round.Fetch z m end bodies) (acting_at c w).writer (state w i) (acting_at c w).calls i) here (parts i k)))

      by : Course nodes (state w) (acting_at c w) → Course nodes (state (call_reached f c j q w))
          (record {
            writer = (heard_at (acting_at c w).writer.phase (acting_at c w).writer j (call_heard f j q w)).writer;
            calls = (acting_at c w).calls ++ record { node = j; request = q } ∷ [];
          })
      by (asks is aim_is left lows tellers) =
          at_phase round.State is State (request_is round.State is)
          (hears_promise n nodes majority (state w) (state (call_reached f c j q w)) (acting_at c w).calls (acting_at c w).writer j
          (call_heard f j q w) is aim_is left (the_call up answer sane_after State (request_is round.State is))
          (set_size (Told (call_heard f j q w)) (j - 1)) (first_waits (acting_at c w).writer j
          (whole_first round.Propose (acting_at c w).writer.slots j tt (node_is round.State is))) (heard_low (call_heard f j q w) low) lows
          tellers)
      by (proposes is aim_is zero_serial left votes) =
          at_phase round.Propose is (NewEpoch (acting_at c w).writer.epoch) (request_is round.Propose is)
          (hears_vote n nodes majority (state w) (state (call_reached f c j q w)) (acting_at c w).calls (acting_at c w).writer j (call_heard f j q w)
          is aim_is zero_serial left (the_call up answer sane_after (NewEpoch (acting_at c w).writer.epoch) (request_is round.Propose is))
          (set_size (Told (call_heard f j q w)) (j - 1)) (at_waits round.Propose tt is)
          (λ voters e i m x y. olds is (the_call up answer sane_after (NewEpoch (acting_at c w).writer.epoch) (request_is round.Propose is))
          (at_waits round.Propose tt is) voters e i (state (call_reached f c j q w) i).serial (acting_at c w).calls (h.all c).calls) votes)
      by (on (writes is)) = absurd (off (sym its_call.phase ∙ is))
        where
          off : phase.InRound its_call.round ≡ phase.Writing → ⊥
          off z = cc z
      by (on (goes r is aim_is pos facts parts)) = elim (whole_or nodes r (acting_at c w).writer facts) [
        | inl whole ↦ at_phase r is (request_in (acting_at c w).writer r) (request_is r is) (whole_way r is whole aim_is pos facts parts)
        | inr x ↦ fetch_goes x.0 x.1 x.2 x.3 (is ∙ ap (λ z. phase.InRound z) x.4) aim_is (subst (λ z. Facts nodes z (acting_at c w).writer) x.4 facts)
            (λ i k. subst (λ z. duties.Part z (acting_at c w).writer (state w i) (acting_at c w).calls i) x.4 (parts i k))
      ]
