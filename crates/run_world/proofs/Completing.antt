-- A takeover that a majority of nodes serves is taken, event by event.
use Rattle.std.proofs.Common.{◌≡◌, ◌≢◌, ℕ, ◌+◌, ◌<◌, ◌≤◌, ◌⊎◌, inl, inr, List, [], ◌∷◌, ◌++◌, Bool, true, false, length, refl, sym, ap, ◌∙◌, subst}
use Rattle.std.proofs.Common.{arith, Option, Some, None, get_or, get_or-set_same, get_or-set_other, map}
use Rattle.std.proofs.lemmas.List.{length-map}
use Rattle.std.proofs.lemmas.Bool.{cases_eq, cases_lt}
use Rattle.std.proofs.Math.ListN.{get_or-eq_default}
use Rattle.journal_core.specs.Limits.{head_of}
use Rattle.journal_core.specs.declared.node_state.NodeState.{NodeState}
use Rattle.journal_core.specs.declared.request.Request.{Request}
use Rattle.journal_core.specs.declared.request.Request.TheVariants as request
use Rattle.writer_core.specs.declared.round.Round.{Round}
use Rattle.writer_core.specs.declared.round.Round.TheVariants as round
use Rattle.writer_core.specs.declared.phase.Phase.TheVariants as phase
use Rattle.writer_core.specs.declared.task.Task.{Task}
use Rattle.writer_core.specs.declared.task.Begun.{Begun}
use Rattle.writer_core.specs.declared.task.Begun.TheVariants as begun
use Rattle.writer_core.specs.Views.{WriterView}
use Rattle.writer_core.specs.Writer.{next_call, is_under_way, writer_begun, writer_heard, writer_stopped}
use Rattle.writer_core.proofs.WholeRounds.{calling_in}
use Rattle.run_safety.specs.declared.event.Fate.{Fate}
use Rattle.run_safety.specs.declared.event.Event.{Event}
use Rattle.run_safety.specs.declared.event.Event.TheVariants.{Begin, Call, Late, Kill, Restart, Arm, GiveUp, Checkpoint}
use Rattle.run_world.specs.declared.seen.Seen.TheVariants as seen
use Rattle.journal_history.specs.declared.stop.Stop.{Stop}
use Rattle.journal_history.specs.declared.node_ask.NodeAsk.{NodeAsk}
use Rattle.journal_history.specs.declared.node_ask.NodeAsk.TheVariants as ask
use Rattle.journal_history.specs.Cell.{Cell, cell_takes, take_kill, started_again, take_arming}
use Rattle.run_world.specs.Complete.{IsAnswered, IsLow, IsServed, AreServed, HasBegun}
use Rattle.run_safety.specs.Majority.{Member, IsMajority}
use Rattle.run_safety.specs.Run.{Follows}
use Rattle.run_safety.specs.Actings.{Acting, fresh_acting, was_made}
use Rattle.run_world.specs.World.{World, new_world, cell_at, acting_at, node_asked, with_acting, with_writer, with_call, task_begun, task_begins}
use Rattle.run_world.specs.World.{call_heard, call_reached, called_by, is_reading, is_call, copied_when, take_operation, world_step, world_after}
use Rattle.run_world.specs.World.{IsEvent, AreEvents}
use Rattle.run_safety.proofs.Slots.{true≢false}
use Rattle.run_world.proofs.Enough.{all_wait, none_in}
use Rattle.run_safety.proofs.CallLeft.{HasEpoch}
use Rattle.run_world.proofs.Passing.{goes, writes, wait_low}
use Rattle.run_world.proofs.WorldNodes.{entries}
use Rattle.run_world.proofs.WorldEntries.{state_at}
use Rattle.run_safety.proofs.WorldActs.{IsMadeBy, own_get, call_own}
use Rattle.run_world.proofs.WorldRuns.{Runs, runs_follow, step_runs, steps_run, new_runs, Reached, reached, reading_no_epoch, call_is, asked_same}
use Rattle.run_world.proofs.NodeFacts.{state, sane, Changed, asked_here, asked_other, request_changed, promise_kept, call_changed, call_other, call_promise}
use Rattle.run_world.proofs.Serves.{Sane}
use Rattle.run_world.proofs.Course.{Course, asks, proposes, on, silent, Outside, left, asked, down, no_epoch, made_by, none, reads, keeps}
use Rattle.run_world.proofs.OwnCall.{left_earlier, own_call}

-- ## One actor is put back
put_here : (c : ℕ) (x : Acting) (w v : World) → c < length v.actors → acting_at c (with_acting c x v) ≡ x
unfolding with_acting
put_here c x w v l = get_or-set_same v.actors c x (fresh_acting v.nodes) l

put_other : (c d : ℕ) (x : Acting) (v : World) → c ≢ d → acting_at c (with_acting d x v) ≡ acting_at c v
unfolding with_acting
put_other c d x v off = get_or-set_other v.actors d c x (fresh_acting v.nodes) off

put_cells : (c : ℕ) (x : Acting) (v : World) (i : ℕ) → state (with_acting c x v) i ≡ state v i
unfolding with_acting
put_cells c x v i = refl

put_trace : (c : ℕ) (x : Acting) (v : World) → entries (with_acting c x v).trace ≡ entries v.trace
unfolding with_acting
put_trace c x v = refl

module _ (n c : ℕ) (nodes : List ℕ) (majority : IsMajority n nodes) (w : World) (h : Runs n w) where
  abbrev Goes : World → Type 0
  Goes v = Course nodes (state v) (acting_at c v)

  -- an actor that is in a round is one of the actors
  in_range : (r : Round) → (acting_at c w).writer.phase ≡ phase.InRound r → c < length w.actors
  in_range r is = elim (cases_lt c (length w.actors)) [
    | inl l ↦ l
    | inr ge ↦ absurd (off (sym (ap (λ (x : Acting). x.writer.phase) (get_or-eq_default w.actors (fresh_acting w.nodes) ge)) ∙ is))
  ]
    where
      off : phase.Idle ≡ phase.InRound r → ⊥
      off e = cc e

  -- ## What leaves the actor as it was
  keeps_on : (v : World) → acting_at c v ≡ acting_at c w → ((i : ℕ) → Member i nodes → (state w i).up ≡ true) → ((i : ℕ) → Member i nodes → (state w i).promised ≤ (state v i).promised)
      → ((i : ℕ) → Member i nodes → Outside n h.tale (entries w.trace) c i (acting_at c w).calls (state w i) (state v i)) → Goes w → Goes v
  keeps_on v same up le o course = keeps n c nodes majority w h (state v) (acting_at c v) (ap (λ (x : Acting). x.writer) same) (none (ap (λ (x : Acting). x.calls) same)) up le o course

  -- no node was asked
  quiet : (v : World) → acting_at c v ≡ acting_at c w → ((i : ℕ) → state v i ≡ state w i) → ((i : ℕ) → Member i nodes → (state w i).up ≡ true) → Goes w → Goes v
  quiet v same states up course =
      keeps_on v same up (λ i m. let e : (state v i).promised ≡ (state w i).promised = ap (λ (s : NodeState). s.promised) (states i) in omega (arith, e)) (λ i m. left (states i)) course

  off_or : (i j : ℕ) → (i ≡ j) ⊎ (i ≢ j)
  off_or i j = cases_eq i j

  -- ## A late copy
  late_goes : (d j : ℕ) (q : Request) (stop : Option ℕ) → 1 ≤ j → j ≤ n → was_made j q (acting_at d w).calls ≡ true
      → ((i : ℕ) → Member i nodes → (state w i).up ≡ true) → Goes w → Goes (node_asked j d false stop (ask.Act true q) w)
  late_goes d j q stop low high made up course =
      keeps_on (node_asked j d false stop (ask.Act true q) w) same up
      (λ i m. promise_kept n j d i false stop (ask.Act true q) w h.agree.size low high (majority.within i m).0 (off_or i j)) (λ i m. by i m (off_or i j)) course
    where
      actors : (node_asked j d false stop (ask.Act true q) w).actors ≡ w.actors
      actors = (asked_same j d false stop (ask.Act true q) w).1

      same : acting_at c (node_asked j d false stop (ask.Act true q) w) ≡ acting_at c w
      same = ap (λ l. get_or l c (fresh_acting (node_asked j d false stop (ask.Act true q) w).nodes)) actors
          ∙ ap (λ m. get_or w.actors c (fresh_acting m)) (asked_same j d false stop (ask.Act true q) w).0

      by : (i : ℕ) → Member i nodes → (i ≡ j) ⊎ (i ≢ j) → Outside n h.tale (entries w.trace) c i (acting_at c w).calls (state w i) (state (node_asked j d false stop (ask.Act true q) w) i)
      by i m (inr off) = left ((request_changed n j d i false stop true q w h.agree.size low high (majority.within i m).0).0 off)
      by i m (inl is) =
          asked q (made_by d (λ some. subst (λ z. IsMadeBy n h.tale (entries w.trace) d z q) (sym is) (own_get n h.tale (entries w.trace) d j q (acting_at d w).calls (h.all d).calls made some))
          (λ e. subst (λ z. was_made z q (acting_at c w).calls ≡ true) (sym is) (subst (λ z. was_made j q (acting_at z w).calls ≡ true) e made)))
          ((request_changed n j d i false stop true q w h.agree.size low high (majority.within i m).0).1 is)

  -- ## A call of another actor, or one that reads
  call_outside : (d j : ℕ) (q : Request) (f : Fate) → 1 ≤ j → j ≤ n → ((HasEpoch q → ⊥) ⊎ ((d ≢ c) × (HasEpoch q → IsMadeBy n h.tale (entries w.trace) d j q))) → (i : ℕ) → Member i nodes
      → Outside n h.tale (entries w.trace) c i (acting_at c w).calls (state w i) (state (call_reached f d j q w) i)
  call_outside d j q f low high whose i m = by (off_or i j) whose
    where
      by : (i ≡ j) ⊎ (i ≢ j) → ((HasEpoch q → ⊥) ⊎ ((d ≢ c) × (HasEpoch q → IsMadeBy n h.tale (entries w.trace) d j q)))
          → Outside n h.tale (entries w.trace) c i (acting_at c w).calls (state w i) (state (call_reached f d j q w) i)
      by (inr off) x = left (call_other w d j i q f low (majority.within i m).0 off)
      by (inl is) x = asked q (elim x [
        | inl no_it ↦ no_epoch no_it
        | inr y ↦ made_by d (λ some. subst (λ z. IsMadeBy n h.tale (entries w.trace) d z q) (sym is) (y.1 some)) (λ e. absurd (y.0 e))
      ]) (subst (λ z. Changed (state w z) q (state (call_reached f d j q w) z)) (sym is) (call_changed n w d j q f h.agree.size low high))

  call_promises : (d j : ℕ) (q : Request) (f : Fate) → 1 ≤ j → j ≤ n → (i : ℕ) → Member i nodes → (state w i).promised ≤ (state (call_reached f d j q w) i).promised
  call_promises d j q f low high i m = call_promise n w d j i q f h.agree.size low high (majority.within i m).0 (off_or i j)

  -- the actors after it
  reached_acting : (d j : ℕ) (q : Request) (f : Fate) → 1 ≤ j → j ≤ n → (e : ℕ) → acting_at e (call_reached f d j q w) ≡ acting_at e w
  reached_acting d j q f low high e =
      let k : Reached n w d j q f = reached n w d j q f h.agree low high in
      ap (λ l. get_or l e (fresh_acting (call_reached f d j q w).nodes)) k.actors ∙ ap (λ m. get_or w.actors e (fresh_acting m)) k.nodes

  other_call : (d j : ℕ) (q : Request) (f : Fate) (x : Acting) → 1 ≤ j → j ≤ n → c ≢ d
      → ((HasEpoch q → ⊥) ⊎ ((d ≢ c) × (HasEpoch q → IsMadeBy n h.tale (entries w.trace) d j q))) → ((i : ℕ) → Member i nodes → (state w i).up ≡ true)
      → Goes w → Goes (with_acting d x (call_reached f d j q w))
  other_call d j q f x low high off whose up course =
      keeps_on (with_acting d x (call_reached f d j q w)) (put_other c d x (call_reached f d j q w) off ∙ reached_acting d j q f low high c) up
      (λ i m. subst (λ (s : NodeState). (state w i).promised ≤ s.promised) (sym (put_cells d x (call_reached f d j q w) i)) (call_promises d j q f low high i m))
      (λ i m. subst (λ (s : NodeState). Outside n h.tale (entries w.trace) c i (acting_at c w).calls (state w i) s)
      (sym (put_cells d x (call_reached f d j q w) i)) (call_outside d j q f low high whose i m)) course

  -- ## A reading call of its own
  own_read : (j : ℕ) (q : Request) (f : Fate) → 1 ≤ j → j ≤ n → (HasEpoch q → ⊥) → head_of q ≡ None → ((i : ℕ) → Member i nodes → (state w i).up ≡ true) → Goes w
      → Course nodes (state (call_reached f c j q w)) (with_call j q (acting_at c w))
  own_read j q f low high no_it headless up course =
      keeps n c nodes majority w h (state (call_reached f c j q w)) (with_call j q (acting_at c w)) refl
      (reads (record { node = j; request = q }) headless refl) up (call_promises c j q f low high) (call_outside c j q f low high (inl no_it))
      course

  -- ## An operation
  operated_goes : (j : ℕ) (q : NodeAsk) → 1 ≤ j → j ≤ n → ((i : ℕ) → Member i nodes → (state w i).up ≡ true)
      → ((k : Cell) → k.state.up ≡ true → ((cell_takes k q).cell.state ≡ k.state) ⊎ ((cell_takes k q).cell.state.up ≡ false)) → Goes w
      → Goes (take_operation j q w).world
  operated_goes j q low high up did course =
      keeps_on (node_asked j w.operator false None q w) same up (λ i m.
      promise_kept n j w.operator i false None q w h.agree.size low high (majority.within i m).0 (off_or i j)) (λ i m. by i m (off_or i j)) course
    where
      same : acting_at c (node_asked j w.operator false None q w) ≡ acting_at c w
      same = ap (λ l. get_or l c (fresh_acting (node_asked j w.operator false None q w).nodes)) (asked_same j w.operator false None q w).1
          ∙ ap (λ m. get_or w.actors c (fresh_acting m)) (asked_same j w.operator false None q w).0

      by : (i : ℕ) → Member i nodes → (i ≡ j) ⊎ (i ≢ j) → Outside n h.tale (entries w.trace) c i (acting_at c w).calls (state w i) (state (node_asked j w.operator false None q w) i)
      by i m (inr off) = left (ap (λ (k : Cell). k.state) (asked_other j w.operator i false None q w low (majority.within i m).0 off))
      by i m (inl is) =
          subst (λ z. Outside n h.tale (entries w.trace) c z (acting_at c w).calls (state w z) (state (node_asked j w.operator false None q w) z)) (sym is)
          (subst (λ (k : Cell). Outside n h.tale (entries w.trace) c j (acting_at c w).calls (state w j) k.state) (sym (asked_here n j w.operator false None q w h.agree.size low high))
          (elim (did (cell_at j w) (subst (λ z. (state w z).up ≡ true) is (up i m))) [ inl e ↦ left e | inr e ↦ down e ]))

  kill_did : (k : Cell) → k.state.up ≡ true → ((cell_takes k ask.Kill).cell.state ≡ k.state) ⊎ ((cell_takes k ask.Kill).cell.state.up ≡ false)
  unfolding cell_takes
  kill_did k up = by k.state.up
    where
      by : (b : Bool) → ((take_kill b k).cell.state ≡ k.state) ⊎ ((take_kill b k).cell.state.up ≡ false)
      by true = inr refl
      by false = inl refl

  restart_did : (k : Cell) → k.state.up ≡ true → ((cell_takes k ask.Restart).cell.state ≡ k.state) ⊎ ((cell_takes k ask.Restart).cell.state.up ≡ false)
  unfolding cell_takes
  restart_did k up = subst (λ b. ((started_again b k).cell.state ≡ k.state) ⊎ ((started_again b k).cell.state.up ≡ false)) (sym up) (inl refl)

  arm_did : (calls : ℕ) (stop : Stop) (k : Cell) → k.state.up ≡ true → ((cell_takes k (ask.Arm calls stop)).cell.state ≡ k.state) ⊎ ((cell_takes k (ask.Arm calls stop)).cell.state.up ≡ false)
  unfolding cell_takes
  arm_did calls stop k up = by k.state.up
    where
      by : (b : Bool) → ((take_arming b k (record { calls = calls; stop = stop })).cell.state ≡ k.state) ⊎ ((take_arming b k (record { calls = calls; stop = stop })).cell.state.up ≡ false)
      by true = inl refl
      by false = inl refl

  -- ## The actor's own calls
  put_goes : (x : Acting) (v : World) → c < length v.actors → Course nodes (state v) x → Course nodes (state (with_acting c x v)) (acting_at c (with_acting c x v))
  unfolding with_acting
  put_goes x v l course = subst (λ (y : Acting). Course nodes (state v) y) (sym (get_or-set_same v.actors c x (fresh_acting v.nodes) l)) course

  not_idle : (acting_at c w).writer.phase ≢ phase.Idle → c < length w.actors
  not_idle off = elim (cases_lt c (length w.actors)) [
    | inl l ↦ l
    | inr ge ↦ absurd (off (ap (λ (x : Acting). x.writer.phase) (get_or-eq_default w.actors (fresh_acting w.nodes) ge)))
  ]

  is_actor : Goes w → c < length w.actors
  is_actor (asks p a l low t) = in_range round.State p
  is_actor (proposes p a s l t) = in_range round.Propose p
  is_actor (on (goes r p a pos f parts)) = in_range r p
  is_actor (on (writes p)) = not_idle (λ e. off (sym e ∙ p))
    where
      off : phase.Idle ≡ phase.Writing → ⊥
      off e = cc e

  reached_size : (j : ℕ) (q : Request) (f : Fate) → 1 ≤ j → j ≤ n → c < length w.actors → c < length (call_reached f c j q w).actors
  reached_size j q f low high l = subst (λ xs. c < length xs) (sym (reached n w c j q f h.agree low high).actors) l

  read_goes : (j : ℕ) (q : Request) (f : Fate) → 1 ≤ j → j ≤ n → (HasEpoch q → ⊥) → head_of q ≡ None
      → ((i : ℕ) → Member i nodes → (state w i).up ≡ true) → Goes w → Goes (with_acting c (with_call j q (acting_at c w)) (call_reached f c j q w))
  read_goes j q f low high no_it headless up course =
      put_goes (with_call j q (acting_at c w)) (call_reached f c j q w) (reached_size j q f low high (is_actor course)) (own_read j q f low high no_it headless up course)

  abbrev HeardAfter : ℕ → Request → Fate → World
  HeardAfter j q f = with_acting c (with_writer (writer_heard (acting_at c w).writer j (call_heard f j q w)).writer (with_call j q (acting_at c w))) (call_reached f c j q w)

  own_goes : (j : ℕ) (q : Request) (f : Fate) → 1 ≤ j → j ≤ n → next_call (acting_at c w).writer ≡ Some (j, q)
      → ((i : ℕ) → Member i nodes → (state w i).up ≡ true) → (Member j nodes → IsAnswered (seen.Heard (call_heard f j q w)))
      → IsLow (seen.Heard (call_heard f j q w)) → Runs n (HeardAfter j q f) → Goes w → Goes (HeardAfter j q f)
  own_goes j q f low high next up answer is_low then course =
      put_goes (with_writer (writer_heard (acting_at c w).writer j (call_heard f j q w)).writer (with_call j q (acting_at c w)))
      (call_reached f c j q w) (reached_size j q f low high (is_actor course))
      (own_call n c nodes majority w h j q f next up answer is_low
      (λ i m. subst Sane (put_cells c (with_writer (writer_heard (acting_at c w).writer j (call_heard f j q w)).writer
      (with_call j q (acting_at c w))) (call_reached f c j q w) i)
      (sane n (HeardAfter j q f) i then (majority.within i m).0 (majority.within i m).1))
      (entries (call_reached f c j q w).trace) (λ i m. state_at n (call_reached f c j q w) i k.agree (majority.within i m).0 (majority.within i m).1)
      (left_earlier n (entries w.trace) c j q (call_heard f j q w) (entries (call_reached f c j q w).trace) k.left) then.tale.story
      (subst (λ l. Follows n then.tale.story l) (put_trace c (with_writer (writer_heard (acting_at c w).writer j (call_heard f j q w)).writer
      (with_call j q (acting_at c w))) (call_reached f c j q w)) (runs_follow n (HeardAfter j q f) then)) course)
    where
      k : Reached n w c j q f
      k = reached n w c j q f h.agree low high

  headless : (q : Request) → is_reading q ≡ true → head_of q ≡ None
  headless request.State e = true≢false (sym e)
  headless (request.NewEpoch epoch) e = refl
  headless (request.Start head start) e = true≢false (sym e)
  headless (request.Journal head start batch) e = true≢false (sym e)
  headless (request.Finalize head start end) e = true≢false (sym e)
  headless (request.Prepare head start) e = true≢false (sym e)
  headless (request.Fetch head start from) e = true≢false (sym e)
  headless (request.Accept head batch) e = true≢false (sym e)
  headless (request.Purge head min) e = true≢false (sym e)
  headless (request.Read from) e = refl
  headless request.Manifest e = refl

  made_now : (d j : ℕ) (q : Request) → next_call (acting_at d w).writer ≡ Some (j, q) → HasEpoch q → IsMadeBy n h.tale (entries w.trace) d j q
  made_now d j q next some = call_own n h.tale (entries w.trace) d (acting_at d w).writer j q (calling_in (acting_at d w).writer j q next) (h.all d).status some

  call_goes : (d j : ℕ) (q : Request) (f : Fate) (b1 b2 : Bool) → is_reading q ≡ b1 → is_call j q (next_call (acting_at d w).writer) ≡ b2 → 1 ≤ j
      → j ≤ n → ((i : ℕ) → Member i nodes → (state w i).up ≡ true)
      → (d ≡ c → Member j nodes → b1 ≡ false → IsAnswered (called_by b1 b2 f d j q w).seen) → (d ≡ c → IsLow (called_by b1 b2 f d j q w).seen)
      → Runs n (called_by b1 b2 f d j q w).world → Goes w → Goes (called_by b1 b2 f d j q w).world
  call_goes d j q f true b2 reads_it is low high up answer is_low then course = elim (cases_eq d c) [
    | inl same ↦ subst (λ z. Goes (with_acting z (with_call j q (acting_at z w)) (call_reached f z j q w))) (sym same)
        (read_goes j q f low high (reading_no_epoch q reads_it) (headless q reads_it) up course)
    | inr off ↦ other_call d j q f (with_call j q (acting_at d w)) low high (λ e. off (sym e)) (inl (reading_no_epoch q reads_it)) up course
  ]
  call_goes d j q f false true reads_it is low high up answer is_low then course = by (cases_eq d c)
    where
      next : next_call (acting_at d w).writer ≡ Some (j, q)
      next = call_is j q (next_call (acting_at d w).writer) is

      at_c : d ≡ c → Goes (with_acting d (with_writer (writer_heard (acting_at d w).writer j (call_heard f j q w)).writer (with_call j q (acting_at d w))) (call_reached f d j q w))
      at_c same =
          subst (λ z. Goes (with_acting z (with_writer (writer_heard (acting_at z w).writer j (call_heard f j q w)).writer (with_call j q (acting_at z w))) (call_reached f z j q w))) (sym same)
          (own_goes j q f low high (subst (λ z. next_call (acting_at z w).writer ≡ Some (j, q)) same next) up (λ m. answer same m refl) (is_low same)
          (subst (λ z. Runs n (with_acting z (with_writer (writer_heard (acting_at z w).writer j (call_heard f j q w)).writer
          (with_call j q (acting_at z w))) (call_reached f z j q w))) same then) course)

      by : (d ≡ c) ⊎ (d ≢ c) → Goes (with_acting d (with_writer (writer_heard (acting_at d w).writer j (call_heard f j q w)).writer (with_call j q (acting_at d w))) (call_reached f d j q w))
      by (inl same) = at_c same
      by (inr off) = other_call d j q f (with_writer (writer_heard (acting_at d w).writer j (call_heard f j q w)).writer
          (with_call j q (acting_at d w))) low high (λ e. off (sym e)) (inr (off, λ some. made_now d j q next some)) up course
  call_goes d j q f false false reads_it is low high up answer is_low then course = course

  -- ## Tasks of other actors
  put_quiet : (d : ℕ) (x : Acting) → d ≢ c → ((i : ℕ) → Member i nodes → (state w i).up ≡ true) → Goes w → Goes (with_acting d x w)
  put_quiet d x off up course = quiet (with_acting d x w) (put_other c d x w (λ e. off (sym e))) (put_cells d x w) up course

  begun_goes : (d : ℕ) (b : Begun) (v : WriterView) → d ≢ c → ((i : ℕ) → Member i nodes → (state w i).up ≡ true) → Goes w → Goes (task_begun b d v w).world
  begun_goes d begun.Going v off up course = put_quiet d (with_writer v (acting_at d w)) off up course
  begun_goes d begun.NotActive v off up course = course
  begun_goes d (begun.TooLong number) v off up course = course

  task_goes : (d : ℕ) (t : Task) (b : Bool) → d ≢ c → ((i : ℕ) → Member i nodes → (state w i).up ≡ true) → Goes w → Goes (task_begins b d t w).world
  task_goes d t true off up course = course
  task_goes d t false off up course = begun_goes d (writer_begun (acting_at d w).writer t).begun (writer_begun (acting_at d w).writer t).writer off up course

  copy_goes : (d j : ℕ) (q : Request) (stop : Option ℕ) (b : Bool) → was_made j q (acting_at d w).calls ≡ b → 1 ≤ j → j ≤ n
      → ((i : ℕ) → Member i nodes → (state w i).up ≡ true) → Goes w → Goes (copied_when b d j q stop w).world
  copy_goes d j q stop true made low high up course = late_goes d j q stop low high made up course
  copy_goes d j q stop false made low high up course = course

  -- ## An event
  pub event_goes : (actors : ℕ) (e : Event) → IsEvent n actors e → IsServed c nodes w e → Runs n (world_step w e).world → Goes w → Goes (world_step w e).world
  unfolding world_step
  event_goes actors (Begin d t) is s then course = task_goes d t (is_under_way (acting_at d w).writer.phase) s.runs s.up course
  event_goes actors (Call d j q f) is s then course =
      call_goes d j q f (is_reading q) (is_call j q (next_call (acting_at d w).writer)) refl refl is.1.0 is.1.1 s.up
      (λ same m reads_it. s.answered j q f (ap (λ z. Call z j q f) same) m reads_it) (λ same. s.low j q f (ap (λ z. Call z j q f) same)) then course
  event_goes actors (Late d j q stop) is s then course = copy_goes d j q stop (was_made j q (acting_at d w).calls) refl is.1.0 is.1.1 s.up course
  event_goes actors (Kill j) is s then course = operated_goes j ask.Kill is.0 is.1 s.up kill_did course
  event_goes actors (Restart j) is s then course = operated_goes j ask.Restart is.0 is.1 s.up restart_did course
  event_goes actors (Arm j calls stop) is s then course = operated_goes j (ask.Arm calls stop) is.0.0 is.0.1 s.up (arm_did calls stop) course
  event_goes actors (GiveUp d) is s then course = put_quiet d (with_writer (writer_stopped (acting_at d w).writer) (acting_at d w)) s.runs s.up course
  event_goes actors (Checkpoint d) is s then course = course

-- ## All events
events_go : (n c : ℕ) (nodes : List ℕ) → IsMajority n nodes → (actors : ℕ) (w : World) (es : List Event) → Runs n w → AreEvents n actors es
    → AreServed c nodes w es → Course nodes (state w) (acting_at c w)
    → Course nodes (state (world_after w es)) (acting_at c (world_after w es))
unfolding world_after AreServed
events_go n c nodes majority actors w [] h are s course = course
events_go n c nodes majority actors w (e ∷ es) h are s course =
    let then : Runs n (world_step w e).world = step_runs n actors w e are.0 h in
    events_go n c nodes majority actors (world_step w e).world es then are.1 s.1 (event_goes n c nodes majority w h actors e are.0 s.0 then course)

-- what has begun
begins_course : (n c : ℕ) (nodes : List ℕ) → IsMajority n nodes → (w : World) → Runs n w → HasBegun (acting_at c w).writer → Course nodes (state w) (acting_at c w)
unfolding writer_begun
begins_course n c nodes majority w h b = subst (λ (v : WriterView). Course nodes (state w) (record { writer = v; calls = (acting_at c w).calls })) (sym b.1)
    (asks refl refl (λ i m. none_in 1 b.0.left i (at i m).0 (at i m).1) (wait_low (map (λ l. false) b.0.left)) (λ i m. silent (all_wait 1 (map (λ l. false) b.0.left) i (at i m).0 (below i m))))
  where
    size : length (map (λ (l : Bool). false) b.0.left) ≡ n
    size = ap (λ (v : WriterView). length v.left) (sym b.1) ∙ (h.all c).sized.left

    at : (i : ℕ) → Member i nodes → (1 ≤ i) × (i < 1 + length b.0.left)
    at i m = let r = majority.within i m in let e : length (map (λ (l : Bool). false) b.0.left) ≡ length b.0.left = length-map b.0.left (λ (l : Bool). false) in (r.0, omega (arith, r.1, size, e))

    below : (i : ℕ) → Member i nodes → i < 1 + length (map (λ (l : Bool). false) b.0.left)
    below i m = let r = majority.within i m in omega (arith, r.1, size)

after_append : (w : World) (xs ys : List Event) → world_after w (xs ++ ys) ≡ world_after (world_after w xs) ys
unfolding world_after
after_append w [] ys = refl
after_append w (x ∷ xs) ys = after_append (world_step w x).world xs ys

events_apart : (n actors : ℕ) (xs ys : List Event) → AreEvents n actors (xs ++ ys) → AreEvents n actors xs × AreEvents n actors ys
events_apart n actors [] ys a = (tt, a)
events_apart n actors (x ∷ xs) ys a = let r = events_apart n actors xs ys a.1 in ((a.0, r.0), r.1)

its_end : (nodes : List ℕ) (s : ℕ → NodeState) (x : Acting) → Course nodes s x → (is_under_way x.writer.phase ≡ true) ⊎ (x.writer.phase ≡ phase.Writing)
its_end nodes s x (asks p a l low t) = inl (ap is_under_way p)
its_end nodes s x (proposes p a z l t) = inl (ap is_under_way p)
its_end nodes s x (on (goes r p a pos f parts)) = inl (ap is_under_way p)
its_end nodes s x (on (writes p)) = inr p

pub complete : (n actors c : ℕ) (nodes : List ℕ) (earlier events : List Event) → AreEvents n actors (earlier ++ events) → IsMajority n nodes
    → HasBegun (acting_at c (world_after (new_world n actors) earlier)).writer
    → AreServed c nodes (world_after (new_world n actors) earlier) events
    → (is_under_way (acting_at c (world_after (new_world n actors) (earlier ++ events))).writer.phase ≡ true)
    ⊎ ((acting_at c (world_after (new_world n actors) (earlier ++ events))).writer.phase ≡ phase.Writing)
complete n actors c nodes earlier events are majority begun served =
    let a = events_apart n actors earlier events are in
    let w : World = world_after (new_world n actors) earlier in
    let h : Runs n (world_after (new_world n actors) earlier) = steps_run n actors (new_world n actors) earlier a.0 (new_runs n actors) in
    subst (λ (v : World). (is_under_way (acting_at c v).writer.phase ≡ true) ⊎ ((acting_at c v).writer.phase ≡ phase.Writing)) (sym (after_append (new_world n actors) earlier events))
    (its_end nodes (state (world_after (world_after (new_world n actors) earlier) events)) (acting_at c (world_after (world_after (new_world n actors) earlier) events))
    (events_go n c nodes majority actors (world_after (new_world n actors) earlier) events h a.1 served (begins_course n c nodes majority (world_after (new_world n actors) earlier) h begun)))
