-- World steps are a run: what holds of a world, event by event.
use Rattle.std.proofs.Common.{◌≡◌, ℕ, ◌<◌, ◌≤◌, ◌==◌, ◌⊎◌, inl, inr, List, [], ◌∷◌, Bool, true, false, length, refl, sym, ap, ◌∙◌, subst, arith}
use Rattle.std.proofs.Common.{Option, Some, None, get_or, set, length-set, get_or-set_same, get_or-set_other}
use Rattle.std.proofs.lemmas.Bool.{and_parts, eqb-true, cases_eq, cases_lt}
use Rattle.std.proofs.lemmas.List.{length-replicate}
use Rattle.std.proofs.Math.ListN.{get_or-eq_default}
use Rattle.journal_core.specs.declared.request.Request.{Request}
use Rattle.journal_core.specs.declared.request.Request.TheVariants as request
use Rattle.writer_core.specs.declared.task.Task.{Task}
use Rattle.writer_core.specs.declared.task.Begun.{Begun}
use Rattle.writer_core.specs.declared.task.Begun.TheVariants as begun
use Rattle.writer_core.specs.Writer.{next_call, is_under_way, writer_begun, writer_heard, writer_stopped, HasBody}
use Rattle.writer_core.specs.Whole.{Takeover}
use Rattle.run_safety.specs.declared.event.Fate.{Fate}
use Rattle.run_safety.specs.declared.event.Fate.TheVariants as fate
use Rattle.run_safety.specs.declared.event.Event.{Event}
use Rattle.run_safety.specs.declared.event.Event.TheVariants.{Begin, Call, Late, Kill, Restart, Arm, GiveUp, Checkpoint}
use Rattle.journal_history.specs.declared.node_ask.NodeAsk.{NodeAsk}
use Rattle.journal_history.specs.declared.node_ask.NodeAsk.TheVariants as ask
use Rattle.journal_history.specs.Cell.{Cell, fresh_cell}
use Rattle.journal_history.specs.Entries.{Entry, Earlier, node_after}
use Rattle.run_safety.specs.Run.{Follows, IsRun}
use Rattle.journal_history.specs.Moving.{epoch_of, moving_of}
use Rattle.run_safety.specs.Actings.{Acting, fresh_acting, was_made}
use Rattle.run_world.specs.World.{World, new_world, acting_at, node_asked, with_acting, with_writer, with_call, task_begun, task_begins, call_heard}
use Rattle.run_world.specs.World.{call_reached, called_by, is_reading, is_call, copied_when, take_operation, world_step, world_after, IsEvent}
use Rattle.run_world.specs.World.{AreEvents}
use Rattle.journal_history.specs.Same.{same_request}
use Rattle.run_safety.proofs.Slots.{true≢false, get_replicate}
use Rattle.journal_history.proofs.SameLaws.{request_same}
use Rattle.run_safety.proofs.Tales.{Tale, place_below}
use Rattle.run_safety.proofs.Fair.{IsTold, Sounds, follows_of}
use Rattle.run_safety.proofs.TaleSteps.{put, put_here, put_there}
use Rattle.run_safety.proofs.CallLeft.{HasEpoch, CallLeft, nothing}
use Rattle.run_safety.proofs.TaskBegins.{its_begin}
use Rattle.run_world.proofs.WorldNodes.{entries, Agree, asked_next}
use Rattle.run_world.proofs.WorldEntries.{delivered, reply_lost, copied_late, sounds_asked, IsOperation, operates}
use Rattle.run_safety.proofs.WorldActs.{own_get, fresh_is, All, begins_all, gives_up_all, call_all, Stays, stays_all, copy_stays, operation_stays, read_all, IsActing}

-- ## What holds of a world
abbrev pub acts_of : World → ℕ → Acting
acts_of w d = get_or w.actors d (fresh_acting w.nodes)

pub record Runs (n : ℕ) (w : World) : Type 0 where
  pub nodes : w.nodes ≡ n
  pub agree : Agree n w.cells (entries w.trace)
  pub tale : Tale
  pub told : IsTold n tale (entries w.trace)
  pub sounds : Sounds n (entries w.trace)
  pub all : All n (entries w.trace) (acts_of w) tale

pub runs_follow : (n : ℕ) (w : World) → (h : Runs n w) → Follows n h.tale.story (entries w.trace)
runs_follow n w h = follows_of n h.tale.story (entries w.trace) h.told.fair h.sounds

-- one actor is put back
pub set_all : (n m c : ℕ) (actors : List Acting) (x : Acting) (past : List Entry) (b : Tale) → m ≡ n → All n past (put (λ d. get_or actors d (fresh_acting m)) c x) b
    → All n past (λ d. get_or (set actors c x) d (fresh_acting m)) b
set_all n m c actors x past b same h d = at (cases_eq d c)
  where
    mine : IsActing n b past c x
    mine = subst (λ (y : Acting). IsActing n b past c y) (put_here (λ d. get_or actors d (fresh_acting m)) c x) (h c)

    here : (c < length actors) ⊎ (length actors ≤ c) → IsActing n b past c (get_or (set actors c x) c (fresh_acting m))
    here (inl l) = subst (λ (y : Acting). IsActing n b past c y) (sym (get_or-set_same actors c x (fresh_acting m) l)) mine
    here (inr l) =
        let size : length (set actors c x) ≡ length actors = length-set actors c x in
        let e : get_or (set actors c x) c (fresh_acting m) ≡ fresh_acting m = get_or-eq_default (set actors c x) (fresh_acting m) (omega (arith, size, l)) in
        subst (λ (y : Acting). IsActing n b past c y) (sym (e ∙ ap fresh_acting same)) (fresh_is n b past c)

    at : (d ≡ c) ⊎ (d ≡ c → ⊥) → IsActing n b past d (get_or (set actors c x) d (fresh_acting m))
    at (inl e) = subst (λ (j : ℕ). IsActing n b past j (get_or (set actors c x) j (fresh_acting m))) (sym e) (here (cases_lt c (length actors)))
    at (inr off) =
        subst (λ (y : Acting). IsActing n b past d y) (put_there (λ d. get_or actors d (fresh_acting m)) c x d off ∙ sym (get_or-set_other actors c d x (fresh_acting m) off)) (h d)

-- the world with one actor changed, over the same or more entries
abbrev Went : ℕ → World → ℕ → Acting → World → Type 0
Went n w c x v = (b : Tale) × IsTold n b (entries v.trace) × All n (entries v.trace) (put (acts_of w) c x) b

changed_runs : (n : ℕ) (w v : World) (c : ℕ) (x : Acting) → v.nodes ≡ w.nodes → v.actors ≡ w.actors → w.nodes ≡ n → Agree n v.cells (entries v.trace) → Sounds n (entries v.trace) → Went n w c x v
    → Runs n (with_acting c x v)
unfolding with_acting
changed_runs n w v c x nodes actors is agree sounds g = record {
  nodes = nodes ∙ is;
  agree = agree;
  tale = g.0;
  told = g.1;
  sounds = sounds;
  all = set_all n v.nodes c v.actors x (entries v.trace) g.0 (nodes ∙ is)
      (subst (λ (l : List Acting). All n (entries v.trace) (put (λ d. get_or l d (fresh_acting v.nodes)) c x) g.0) (sym actors)
      (subst (λ (m : ℕ). All n (entries v.trace) (put (λ d. get_or w.actors d (fresh_acting m)) c x) g.0) (sym nodes) g.2));
}

-- ## A task
begins_runs : (n : ℕ) (w : World) (c : ℕ) (t : Task) → HasBody t → Runs n w → Runs n (with_acting c (with_writer (its_begin t (acting_at c w).writer) (acting_at c w)) w)
begins_runs n w c t body h =
    let g = begins_all n h.tale (entries w.trace) c (acts_of w) t body h.told h.all in
    changed_runs n w w c (with_writer (its_begin t (acting_at c w).writer) (acting_at c w)) refl refl h.nodes h.agree h.sounds (g.0, g.1, g.3)

begun_runs : (n : ℕ) (w : World) (c : ℕ) (t : Task) (b : Begun) → HasBody t → Runs n w → Runs n (task_begun b c (writer_begun (acting_at c w).writer t).writer w).world
begun_runs n w c t begun.Going body h = begins_runs n w c t body h
begun_runs n w c t begun.NotActive body h = h
begun_runs n w c t (begun.TooLong number) body h = h

task_runs : (n : ℕ) (w : World) (c : ℕ) (t : Task) (b : Bool) → HasBody t → Runs n w → Runs n (task_begins b c t w).world
task_runs n w c t true body h = h
task_runs n w c t false body h = begun_runs n w c t (writer_begun (acting_at c w).writer t).begun body h

gives_up_runs : (n : ℕ) (w : World) (c : ℕ) → Runs n w → Runs n (with_acting c (with_writer (writer_stopped (acting_at c w).writer) (acting_at c w)) w)
gives_up_runs n w c h =
    let g = gives_up_all n h.tale (entries w.trace) c (acts_of w) h.told h.all in
    changed_runs n w w c (with_writer (writer_stopped (acting_at c w).writer) (acting_at c w)) refl refl h.nodes h.agree h.sounds (g.0, g.1, g.3)

-- ## What reached a node
pub asked_same : (node caller : ℕ) (muted : Bool) (stop : Option ℕ) (q : NodeAsk) (w : World)
    → ((node_asked node caller muted stop q w).nodes ≡ w.nodes) × ((node_asked node caller muted stop q w).actors ≡ w.actors)
unfolding node_asked
asked_same node caller muted stop q w = (refl, refl)

-- a call, by its fate
pub record Reached (n : ℕ) (w : World) (c node : ℕ) (r : Request) (f : Fate) : Type 0 where
  pub nodes : (call_reached f c node r w).nodes ≡ w.nodes
  pub actors : (call_reached f c node r w).actors ≡ w.actors
  pub agree : Agree n (call_reached f c node r w).cells (entries (call_reached f c node r w).trace)
  pub left : CallLeft n (entries w.trace) c node r (call_heard f node r w) (entries (call_reached f c node r w).trace)

pub reached : (n : ℕ) (w : World) (c node : ℕ) (r : Request) (f : Fate) → Agree n w.cells (entries w.trace) → 1 ≤ node → node ≤ n → Reached n w c node r f
unfolding call_reached
reached n w c node r fate.Heard h low high =
    let g = delivered n node c None r w h low high in
    let s = asked_same node c false None (ask.Act false r) w in
    record { nodes = s.0; actors = s.1; agree = g.1; left = g.0 }
reached n w c node r fate.Muted h low high =
    let g = reply_lost n node c None r w h low high in
    let s = asked_same node c true None (ask.Act false r) w in
    record { nodes = s.0; actors = s.1; agree = g.1; left = g.0 }
reached n w c node r fate.Dropped h low high = record { nodes = refl; actors = refl; agree = h; left = nothing refl (λ some. refl) }
reached n w c node r (fate.Stopped keep) h low high =
    let g = delivered n node c (Some keep) r w h low high in
    let s = asked_same node c false (Some keep) (ask.Act false r) w in
    record { nodes = s.0; actors = s.1; agree = g.1; left = g.0 }

reached_sounds : (n : ℕ) (w : World) (c node : ℕ) (r : Request) (f : Fate) → Agree n w.cells (entries w.trace) → 1 ≤ node → node ≤ n → Sounds n (entries w.trace)
    → Sounds n (entries (call_reached f c node r w).trace)
unfolding call_reached
reached_sounds n w c node r fate.Heard h low high s = sounds_asked n node c false None (ask.Act false r) w h low high s
reached_sounds n w c node r fate.Muted h low high s = sounds_asked n node c true None (ask.Act false r) w h low high s
reached_sounds n w c node r fate.Dropped h low high s = s
reached_sounds n w c node r (fate.Stopped keep) h low high s = sounds_asked n node c false (Some keep) (ask.Act false r) w h low high s

-- ## A call
pub reading_no_epoch : (r : Request) → is_reading r ≡ true → HasEpoch r → ⊥
unfolding epoch_of
reading_no_epoch request.State e some = true≢false (sym e)
reading_no_epoch (request.NewEpoch epoch) e some = true≢false (sym e)
reading_no_epoch (request.Start head start) e some = true≢false (sym e)
reading_no_epoch (request.Journal head start batch) e some = true≢false (sym e)
reading_no_epoch (request.Finalize head start end) e some = true≢false (sym e)
reading_no_epoch (request.Prepare head start) e some = true≢false (sym e)
reading_no_epoch (request.Fetch head start from) e some = true≢false (sym e)
reading_no_epoch (request.Accept head batch) e some = true≢false (sym e)
reading_no_epoch (request.Purge head min) e some = true≢false (sym e)
reading_no_epoch (request.Read from) e some = true≢false (sym some)
reading_no_epoch request.Manifest e some = true≢false (sym some)

pub call_is : (node : ℕ) (r : Request) (o : Option (ℕ × Request)) → is_call node r o ≡ true → o ≡ Some (node, r)
call_is node r None e = absurd (true≢false (sym e))
call_is node r (Some c) e =
    let p = and_parts (c.0 == node) (same_request c.1 r) e in
    ap (λ (i : ℕ). Some (i, c.1)) (eqb-true c.0 node p.0) ∙ ap (λ (q : Request). Some (node, q)) (request_same c.1 r p.1)

called_runs : (n : ℕ) (w : World) (c node : ℕ) (r : Request) (f : Fate) (b d : Bool) → is_reading r ≡ b → is_call node r (next_call (acting_at c w).writer) ≡ d → 1 ≤ node → node ≤ n → Runs n w
    → Runs n (called_by b d f c node r w).world
called_runs n w c node r f true d reads is low high h =
    let k : Reached n w c node r f = reached n w c node r f h.agree low high in
    let g = read_all n h.tale (entries w.trace) (entries (call_reached f c node r w).trace) c (acts_of w) node r (call_heard f node r w) (reading_no_epoch r reads) h.told k.left h.all in
    changed_runs n w (call_reached f c node r w) c (with_call node r (acting_at c w)) k.nodes k.actors h.nodes k.agree (reached_sounds n w c node r f h.agree low high h.sounds) (g.0, g.1, g.3)
called_runs n w c node r f false true reads is low high h =
    let k : Reached n w c node r f = reached n w c node r f h.agree low high in
    let g = call_all n h.tale (entries w.trace) (entries (call_reached f c node r w).trace) c (acts_of w) node r (call_heard f node r w)
    (call_is node r (next_call (acting_at c w).writer) is) k.left h.told h.all in
    changed_runs n w (call_reached f c node r w) c (with_writer (writer_heard (acting_at c w).writer node (call_heard f node r w)).writer
    (with_call node r (acting_at c w))) k.nodes k.actors h.nodes k.agree (reached_sounds n w c node r f h.agree low high h.sounds) (g.0, g.1, g.3)
called_runs n w c node r f false false reads is low high h = h

-- ## What leaves all actors as they were
stayed_runs : (n : ℕ) (w : World) (node caller : ℕ) (muted : Bool) (stop : Option ℕ) (q : NodeAsk) (h : Runs n w)
    → Agree n (node_asked node caller muted stop q w).cells (asked_next node caller muted stop q w)
    → Sounds n (asked_next node caller muted stop q w) → Stays n caller h.tale (entries w.trace) (asked_next node caller muted stop q w) → Runs n (node_asked node caller muted stop q w)
stayed_runs n w node caller muted stop q h agree sounds s =
    let same = asked_same node caller muted stop q w in
    let g = stays_all n caller h.tale (entries w.trace) (asked_next node caller muted stop q w) (acts_of w) s h.all in
    record {
      nodes = same.0 ∙ h.nodes;
      agree = agree;
      tale = g.0;
      told = g.1;
      sounds = sounds;
      all = subst (λ (l : List Acting). All n (asked_next node caller muted stop q w) (λ d. get_or l d (fresh_acting (node_asked node caller muted stop q w).nodes)) g.0) (sym same.1)
          (subst (λ (m : ℕ). All n (asked_next node caller muted stop q w) (λ d. get_or w.actors d (fresh_acting m)) g.0) (sym same.0) g.3);
    }

copied_runs : (n : ℕ) (w : World) (c node : ℕ) (r : Request) (stop : Option ℕ) (b : Bool) → was_made node r (acting_at c w).calls ≡ b → 1 ≤ node
    → node ≤ n → Runs n w → Runs n (copied_when b c node r stop w).world
copied_runs n w c node r stop false is low high h = h
copied_runs n w c node r stop true is low high h =
    let g = copied_late n node c stop r w h.agree low high in
    stayed_runs n w node c false stop (ask.Act true r) h g.1 (sounds_asked n node c false stop (ask.Act true r) w h.agree low high h.sounds)
    (copy_stays n h.tale (entries w.trace) (asked_next node c false stop (ask.Act true r) w) c node r h.told
    (λ some. own_get n h.tale (entries w.trace) c node r (acting_at c w).calls (h.all c).calls is some) g.0)

operated_runs : (n : ℕ) (w : World) (node : ℕ) (q : NodeAsk) → IsOperation q → 1 ≤ node → node ≤ n → Runs n w → Runs n (take_operation node q w).world
operated_runs n w node q o low high h =
    let g = operates n node w.operator q w o h.agree low high in
    stayed_runs n w node w.operator false None q h g.1 (sounds_asked n node w.operator false None q w h.agree low high h.sounds)
    (operation_stays n w.operator h.tale (entries w.trace) (asked_next node w.operator false None q w) node h.told g.0)

-- ## An event
pub step_runs : (n actors : ℕ) (w : World) (e : Event) → IsEvent n actors e → Runs n w → Runs n (world_step w e).world
unfolding world_step
step_runs n actors w (Begin c t) is h = task_runs n w c t (is_under_way (acting_at c w).writer.phase) is.1 h
step_runs n actors w (Call c node r f) is h = called_runs n w c node r f (is_reading r) (is_call node r (next_call (acting_at c w).writer)) refl refl is.1.0 is.1.1 h
step_runs n actors w (Late c node r stop) is h = copied_runs n w c node r stop (was_made node r (acting_at c w).calls) refl is.1.0 is.1.1 h
step_runs n actors w (Kill node) is h = operated_runs n w node ask.Kill tt is.0 is.1 h
step_runs n actors w (Restart node) is h = operated_runs n w node ask.Restart tt is.0 is.1 h
step_runs n actors w (Arm node calls stop) is h = operated_runs n w node (ask.Arm calls stop) tt is.0.0 is.0.1 h
step_runs n actors w (GiveUp c) is h = gives_up_runs n w c h
step_runs n actors w (Checkpoint c) is h = h

pub steps_run : (n actors : ℕ) (w : World) (es : List Event) → AreEvents n actors es → Runs n w → Runs n (world_after w es)
unfolding world_after
steps_run n actors w [] are h = h
steps_run n actors w (e ∷ es) are h = steps_run n actors (world_step w e).world es are.1 (step_runs n actors w e are.0 h)

-- ## Before the first event
no_takeover : Takeover
no_takeover = record { caller = 0; epoch = 0; tasks = []; heard = λ s i. None }

first_tale : Tale
first_tale = record { story = record { takeover = λ k. no_takeover; whose = λ m. 0; round = λ m. 0 }; count = 0; top = λ k. 0 }

first_told : (n : ℕ) → IsTold n first_tale []
first_told n = record { fair = tt; labels = λ old e p. absurd (none old e p) }
  where
    none : (old : List Entry) (e : Entry) → Earlier (e ∷ old) [] → ⊥
    none old e p = omega (arith, place_below e p)

pub new_runs : (n actors : ℕ) → Runs n (new_world n actors)
unfolding new_world moving_of node_after
new_runs n actors = record {
  nodes = refl;
  agree = record { size = length-replicate n fresh_cell; states = λ i l. ap (λ (c : Cell). c.state) (get_replicate n i fresh_cell) };
  tale = first_tale;
  told = first_told n;
  sounds = tt;
  all = λ d. subst (λ (x : Acting). IsActing n first_tale [] d x) (sym (get_replicate actors d (fresh_acting n))) (fresh_is n first_tale [] d);
}

pub world_is_run : (n actors : ℕ) (es : List Event) → AreEvents n actors es → IsRun n (moving_of (world_after (new_world n actors) es).trace)
world_is_run n actors es are = let h : Runs n (world_after (new_world n actors) es) =
    steps_run n actors (new_world n actors) es are (new_runs n actors) in (h.tale.story, runs_follow n (world_after (new_world n actors) es) h)
