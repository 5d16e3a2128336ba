-- What the world's code does is one step of the world.
use Rattle.std.proofs.Common.{◌≡◌, ◌≢◌, ℕ, ◌-◌, ◌<◌, ◌≤◌, List, [], ◌∷◌, ◌++◌, Bool, true, false, length, map, refl, sym, ap, ◌∙◌, Option, Some, None, set, get_or, arith}
use Rattle.std.proofs.lemmas.Bool.{eqb-true, eqb-false, and_parts}
use Rattle.std.specs.Prelude.{option_map, filter, ◌==◌, if◌then◌else◌}
use Rattle.std.proofs.Math.ListN.{get_or-map as mapped_at}
pub use Rattle.std.proofs.lemmas.List.{replicate_more as one_more_alike}
use Rattle.std.proofs.lemmas.List.{get_or_read, length-set, get_or-set_other, map-set, append-nil, set-get_or}
use Rattle.journal_history.specs.declared.node_ask.NodeAsk.{NodeAsk}
use Rattle.journal_history.specs.declared.node_ask.NodeAnswer.{NodeAnswer}
use Rattle.journal_history.specs.Cell.{Taken, cell_takes, arm_at_once, heard_of}
use Rattle.journal_history.specs.Moving.{Placed}
use Rattle.journal_history.specs.NodeCells.{CellView, new_cell}
use Rattle.journal_core.specs.declared.request.Request.{Request}
use Rattle.journal_core.specs.declared.heard.Heard.{Heard}
use Rattle.journal_core.specs.declared.heard.Heard.TheVariants.{Silent}
use Rattle.writer_core.specs.declared.task.Task.{Task}
use Rattle.writer_core.specs.declared.task.Task.TheVariants as task
use Rattle.writer_core.specs.declared.task.Begun.{Begun}
use Rattle.writer_core.specs.declared.task.Begun.TheVariants as begun
use Rattle.writer_core.specs.Views.{WriterView}
use Rattle.writer_core.specs.Writer.{Began, writer_begun, writer_heard, writer_stopped, is_writing, if_writing, log_begins, log_limit, is_under_way}
use Rattle.run_safety.specs.declared.event.Fate.{Fate}
use Rattle.run_safety.specs.declared.event.Fate.TheVariants as fate
use Rattle.run_world.specs.declared.seen.Seen.{Seen}
use Rattle.run_world.specs.declared.seen.Seen.TheVariants as seen
use Rattle.journal_history.specs.declared.node_ask.NodeAsk.TheVariants.{Act}
use Rattle.journal_history.specs.Same.{same_request}
use Rattle.run_world.specs.World.{World, cell_at, acting_at, taken_at, node_asked, history_in, take_operation, seen_of, call_heard, call_reached}
use Rattle.run_world.specs.World.{with_acting, with_writer, with_call, called_by, copied_when, is_call, task_begun, task_begins, answer_done}
use Rattle.run_world.specs.World.{not_next, IsWithin}
use Rattle.run_safety.specs.Actings.{Acting, fresh_acting}
use Rattle.run_world.specs.WorldViews.{WorldView, bare, view_at, CellsGo, IsStepped, IsAsked, IsDelivered, HasReached, begun_seen, acting_begun}

-- ## A node that was asked
cell_is : (v : WorldView) (node : ℕ) → cell_at node (bare v) ≡ (view_at node v.cells).cell
cell_is v node = mapped_at (λ c. c.cell) v.cells (node - 1) new_cell

taken_is : (v : WorldView) (cells : List CellView) (node caller : ℕ) (stop : Option ℕ) (ask : NodeAsk) (answer : NodeAnswer) → IsAsked v.cells node caller stop ask answer cells
    → taken_at node stop ask (bare v) ≡ record { answer = answer; cell = (view_at node cells).cell }
taken_is v cells node caller stop ask answer h = ap (λ c. cell_takes (arm_at_once stop c) ask) (cell_is v node) ∙ h.taken.taken

pub asked_answer : (v : WorldView) (cells : List CellView) (node caller : ℕ) (stop : Option ℕ) (ask : NodeAsk) (answer : NodeAnswer) → IsAsked v.cells node caller stop ask answer cells
    → answer ≡ (taken_at node stop ask (bare v)).answer
asked_answer v cells node caller stop ask answer h = sym (ap (λ t. t.answer) (taken_is v cells node caller stop ask answer h))

-- a history with one more line, or none
one_more : (b : Bool) (p : Placed) (node at : ℕ) (old new : List CellView) → 1 ≤ node → 1 ≤ at → at ≤ length old → (at == node) ≡ b
    → new ≡ set old (at - 1) (view_at at new) → (view_at at new).history ≡ (view_at at old).history ++ p.line ∷ []
    → (view_at node new).history ≡ (view_at node old).history ++ map (λ (x : Placed). x.line) (if b then p ∷ [] else [])
one_more true p node at old new l m n e is grown = let same : at ≡ node = eqb-true at node e in rw (sym same) grown
one_more false p node at old new l m n e is grown =
    let other : node - 1 ≢ at - 1 = λ q. eqb-false at node e (omega arith) in
    ap (λ (c : CellView). c.history) (ap (λ cells. get_or cells (node - 1) new_cell) is
    ∙ get_or-set_other old (at - 1) (node - 1) (view_at at new) new_cell other) ∙ sym (append-nil (view_at node old).history)

pub asked_goes : (v : WorldView) (cells : List CellView) (node caller : ℕ) (muted : Bool) (stop : Option ℕ) (ask : NodeAsk) (answer : NodeAnswer)
    → IsWithin (length v.cells) node → IsAsked v.cells node caller stop ask answer cells → CellsGo v.cells (node_asked node caller muted stop ask (bare v)) cells
unfolding node_asked history_in
asked_goes v cells node caller muted stop ask answer within h =
    let t = taken_is v cells node caller stop ask answer h in
    let p : Placed = record { node = node; line = record { caller = caller; ask = ask; answer = (taken_at node stop ask (bare v)).answer }; muted = muted } in
    record {
      same = ap length h.others ∙ length-set v.cells (node - 1) (view_at node cells);
      cells = ap (λ cs. map (λ (c : CellView). c.cell) cs) h.others ∙ map-set (λ (c : CellView). c.cell) v.cells (node - 1) (view_at node cells)
          ∙ ap (λ (x : Taken). set (map (λ (c : CellView). c.cell) v.cells) (node - 1) x.cell) (sym t);
      histories = λ at m. one_more (node == at) p at node v.cells cells m.0 within.0 within.1 refl h.others
          (h.taken.listed ∙ ap (λ a. (view_at node v.cells).history ++ record { caller = caller; ask = ask; answer = a } ∷ []) (asked_answer v cells node caller stop ask answer h));
    }

asked_actors : (old new : WorldView) (node caller : ℕ) (muted : Bool) (stop : Option ℕ) (ask : NodeAsk) → new ≡ record old { cells = new.cells }
    → new.actors ≡ (node_asked node caller muted stop ask (bare old)).actors
unfolding node_asked
asked_actors old new node caller muted stop ask same = ap (λ (v : WorldView). v.actors) same

pub operated_steps : (old new : WorldView) (node : ℕ) (ask : NodeAsk) (answer : NodeAnswer) → IsWithin (length old.cells) node → IsAsked old.cells node old.operator None ask answer new.cells
    → new ≡ record old { cells = new.cells } → IsStepped old (take_operation node ask (bare old)) (seen_of answer) new
operated_steps old new node ask answer within h same = record {
  seen = ap seen_of (asked_answer old new.cells node old.operator None ask answer h);
  cells = asked_goes old new.cells node old.operator false None ask answer within h;
  actors = asked_actors old new node old.operator false None ask same;
  operator = ap (λ (v : WorldView). v.operator) same;
}

pub delivered : (old new : WorldView) (actor node : ℕ) (stop : Option ℕ) (r : Request) (answer : NodeAnswer) → IsWithin (length old.cells) node
    → IsAsked old.cells node actor stop (Act false r) answer new.cells
    → IsDelivered old actor node stop r (heard_of answer) new
delivered old new actor node stop r answer within h =
    record { told = ap heard_of (asked_answer old new.cells node actor stop (Act false r) answer h); cells = λ muted. asked_goes old new.cells node actor muted stop (Act false r) answer within h }

pub copied_steps : (old new : WorldView) (actor node : ℕ) (stop : Option ℕ) (r : Request) (answer : NodeAnswer) → IsWithin (length old.cells) node
    → IsAsked old.cells node actor stop (Act true r) answer new.cells
    → new ≡ record old { cells = new.cells } → IsStepped old (copied_when true actor node r stop (bare old)) seen.Done new
copied_steps old new actor node stop r answer within h same = record {
  seen = refl;
  cells = asked_goes old new.cells node actor false stop (Act true r) answer within h;
  actors = asked_actors old new node actor false stop (Act true r) same;
  operator = ap (λ (v : WorldView). v.operator) same;
}

-- ## Nodes that nothing reaches
unchanged_goes : (v : WorldView) (w : World) → map (λ (c : CellView). c.cell) v.cells ≡ w.cells → w.trace ≡ [] → CellsGo v.cells w v.cells
unfolding history_in
unchanged_goes v w e t = record {
  same = refl;
  cells = e;
  histories = λ node m. sym (append-nil (view_at node v.cells).history)
      ∙ ap (λ trace. (view_at node v.cells).history ++ map (λ (x : Placed). x.line) (filter (λ (x : Placed). x.node == node) trace)) (sym t);
}

pub nothing_steps : (v : WorldView) → IsStepped v (not_next (bare v)) seen.NotNext v
nothing_steps v = record { seen = refl; cells = unchanged_goes v (bare v) refl refl; actors = refl; operator = refl }

pub checkpoint_steps : (v : WorldView) → IsStepped v (answer_done (bare v)) seen.Done v
checkpoint_steps v = record { seen = refl; cells = unchanged_goes v (bare v) refl refl; actors = refl; operator = refl }

-- ## A call
pub reached_heard : (old new : WorldView) (actor node : ℕ) (r : Request) (heard : Heard) → IsDelivered old actor node None r heard new → HasReached old fate.Heard actor node r heard new
unfolding call_reached
reached_heard old new actor node r heard h = record { told = h.told; cells = h.cells false }

pub reached_muted : (old new : WorldView) (actor node : ℕ) (r : Request) (heard : Heard) → IsDelivered old actor node None r heard new → HasReached old fate.Muted actor node r Silent new
unfolding call_reached
reached_muted old new actor node r heard h = record { told = refl; cells = h.cells true }

pub reached_dropped : (v : WorldView) (actor node : ℕ) (r : Request) → HasReached v fate.Dropped actor node r Silent v
unfolding call_reached
reached_dropped v actor node r = record { told = refl; cells = unchanged_goes v (bare v) refl refl }

pub reached_stopped : (old new : WorldView) (actor node keep : ℕ) (r : Request) (heard : Heard) → IsDelivered old actor node (Some keep) r heard new
    → HasReached old (fate.Stopped keep) actor node r heard new
unfolding call_reached
reached_stopped old new actor node keep r heard h = record { told = h.told; cells = h.cells false }

pub is_call_names : (node : ℕ) (r : Request) (c : Option (ℕ × Request)) → is_call node r c ≡ true → option_map (λ (call : ℕ × Request). call.0) c ≡ Some node
is_call_names node r None e = absurd (cc e)
is_call_names node r (Some c) e = ap (λ n. Some n) (eqb-true c.0 node (and_parts (c.0 == node) (same_request c.1 r) e).0)

reached_actors : (f : Fate) (actor node : ℕ) (r : Request) (w : World) → (call_reached f actor node r w).actors ≡ w.actors
unfolding call_reached node_asked
reached_actors fate.Heard actor node r w = refl
reached_actors fate.Muted actor node r w = refl
reached_actors fate.Dropped actor node r w = refl
reached_actors (fate.Stopped keep) actor node r w = refl

acted_goes : (cells new : List CellView) (actor : ℕ) (x : Acting) (w : World) → CellsGo cells w new → CellsGo cells (with_acting actor x w) new
unfolding with_acting history_in
acted_goes cells new actor x w h = record { same = h.same; cells = h.cells; histories = h.histories }

acted_actors : (actor : ℕ) (x : Acting) (w : World) → (with_acting actor x w).actors ≡ set w.actors actor x
unfolding with_acting
acted_actors actor x w = refl

called_steps : (old mid new : WorldView) (actor node : ℕ) (f : Fate) (r : Request) (heard : Heard) (y : Acting) → HasReached old f actor node r heard mid → mid ≡ record old { cells = mid.cells }
    → new ≡ record mid { actors = set mid.actors actor y } → IsStepped old
    (record { seen = seen.Heard (call_heard f node r (bare old)); world = with_acting actor y (call_reached f actor node r (bare old)) })
    (seen.Heard heard) new
called_steps old mid new actor node f r heard y h m n = record {
  seen = ap (λ x. seen.Heard x) h.told;
  cells = let e : new.cells ≡ mid.cells = ap (λ (v : WorldView). v.cells) n in rw e (acted_goes old.cells mid.cells actor y (call_reached f actor node r (bare old)) h.cells);
  actors = ap (λ (v : WorldView). v.actors) n ∙ ap (λ (v : WorldView). set v.actors actor y) m
      ∙ ap (λ xs. set xs actor y) (sym (reached_actors f actor node r (bare old)))
      ∙ sym (acted_actors actor y (call_reached f actor node r (bare old)));
  operator = ap (λ (v : WorldView). v.operator) n ∙ ap (λ (v : WorldView). v.operator) m;
}

pub read_steps : (old mid new : WorldView) (actor node : ℕ) (f : Fate) (r : Request) (heard : Heard) (x y : Acting) → HasReached old f actor node r heard mid → mid ≡ record old { cells = mid.cells }
    → actor < length mid.actors → x ≡ get_or mid.actors actor x → y ≡ with_call node r x → new ≡ record mid { actors = set mid.actors actor y }
    → IsStepped old (called_by true false f actor node r (bare old)) (seen.Heard heard) new
read_steps old mid new actor node f r heard x y h m l is did n =
    let e : x ≡ acting_at actor (bare old) = get_or_read mid.actors actor x l is (fresh_acting (length old.cells))
    ∙ ap (λ (v : WorldView). get_or v.actors actor (fresh_acting (length old.cells))) m in
    called_steps old mid new actor node f r heard (with_call node r (acting_at actor (bare old))) h m (n ∙ ap (λ z. record mid { actors = set mid.actors actor z }) (did ∙ ap (with_call node r) e))

abbrev pub heard_by : ℕ → Request → Heard → Acting → Acting
heard_by node r heard x = with_writer (writer_heard x.writer node heard).writer (with_call node r x)

pub next_steps : (old mid new : WorldView) (actor node : ℕ) (f : Fate) (r : Request) (heard : Heard) (x y : Acting) → HasReached old f actor node r heard mid → mid ≡ record old { cells = mid.cells }
    → actor < length mid.actors → x ≡ get_or mid.actors actor x → y ≡ with_writer (writer_heard x.writer node heard).writer (with_call node r x) → new ≡ record mid { actors = set mid.actors actor y }
    → IsStepped old (called_by false true f actor node r (bare old)) (seen.Heard heard) new
next_steps old mid new actor node f r heard x y h m l is did n =
    let e : x ≡ acting_at actor (bare old) = get_or_read mid.actors actor x l is (fresh_acting (length old.cells))
    ∙ ap (λ (v : WorldView). get_or v.actors actor (fresh_acting (length old.cells))) m in
    called_steps old mid new actor node f r heard (heard_by node r (call_heard f node r (bare old)) (acting_at actor (bare old))) h m
    (n ∙ ap (λ z. record mid { actors = set mid.actors actor z }) (did ∙ ap (heard_by node r heard) e ∙ ap (λ q. heard_by node r q (acting_at actor (bare old))) h.told))

-- ## Writers
acting_steps : (old new : WorldView) (actor : ℕ) (y : Acting) → new ≡ record old { actors = set old.actors actor y } → IsStepped old (answer_done (with_acting actor y (bare old))) seen.Done new
unfolding with_acting
acting_steps old new actor y e = record {
  seen = refl;
  cells = let q : new.cells ≡ old.cells = ap (λ (v : WorldView). v.cells) e in rw q (acted_goes old.cells old.cells actor y (bare old) (unchanged_goes old (bare old) refl refl));
  actors = ap (λ (v : WorldView). v.actors) e;
  operator = ap (λ (v : WorldView). v.operator) e;
}

pub give_up_steps : (old new : WorldView) (actor : ℕ) (x y : Acting) → actor < length old.actors → x ≡ get_or old.actors actor x → y ≡ with_writer (writer_stopped x.writer) x
    → new ≡ record old { actors = set old.actors actor y }
    → IsStepped old (answer_done (with_acting actor (with_writer (writer_stopped (acting_at actor (bare old)).writer) (acting_at actor (bare old))) (bare old))) seen.Done new
give_up_steps old new actor x y l is did n =
    let e : x ≡ acting_at actor (bare old) = get_or_read old.actors actor x l is (fresh_acting (length old.cells)) in
    acting_steps old new actor (with_writer (writer_stopped (acting_at actor (bare old)).writer) (acting_at actor (bare old)))
    (n ∙ ap (λ z. record old { actors = set old.actors actor z }) (did ∙ ap (λ (a : Acting). with_writer (writer_stopped a.writer) a) e))

-- a writer that refuses a task is as before
data Goes : WriterView → Began → Type 0 where
  going : (w : WriterView) (b : Began) → b.begun ≡ begun.Going → Goes w b
  stays : (w : WriterView) (b : Began) → b.writer ≡ w → Goes w b

when_writing : (b : Bool) (x : Began) (w : WriterView) → Goes w x → Goes w (if_writing b x w)
when_writing true x w g = g
when_writing false x w g = stays w _ refl

log_goes : (o : Option ℕ) (bodies : List (List ℕ)) (w : WriterView) → Goes w (log_begins o bodies w)
log_goes None bodies w = going w _ refl
log_goes (Some n) bodies w = stays w _ refl

begins_goes : (w : WriterView) (t : Task) → Goes w (writer_begun w t)
unfolding writer_begun
begins_goes w task.Takeover = going w _ refl
begins_goes w (task.Log bodies) = when_writing (is_writing w.phase) _ w (log_goes (log_limit w bodies) bodies w)
begins_goes w task.Roll = when_writing (is_writing w.phase) _ w (going w _ refl)
begins_goes w task.Close = when_writing (is_writing w.phase) _ w (going w _ refl)
begins_goes w (task.Purge min) = when_writing (is_writing w.phase) _ w (going w _ refl)

unchanged_steps : (old new : WorldView) (actor : ℕ) (x : Acting) → actor < length old.actors → x ≡ get_or old.actors actor x
    → new ≡ record old { actors = set old.actors actor x } → IsStepped old (not_next (bare old)) seen.NotNext new
unchanged_steps old new actor x l is n =
    let e : new ≡ old = n ∙ ap (λ z. record old { actors = set old.actors actor z }) is ∙ ap (λ xs. record old { actors = xs }) (set-get_or old.actors actor x) in
    rw e (nothing_steps old)

begun_steps : (old new : WorldView) (actor : ℕ) (x : Acting) (b : Begun) (v : WriterView) → acting_at actor (bare old) ≡ x → actor < length old.actors → x ≡ get_or old.actors actor x
    → ((b ≡ begun.Going → ⊥) → v ≡ x.writer) → new ≡ record old { actors = set old.actors actor (with_writer v x) } → IsStepped old (task_begun b actor v (bare old)) (begun_seen false b) new
begun_steps old new actor x begun.Going v e l is same n = acting_steps old new actor (with_writer v (acting_at actor (bare old)))
    (n ∙ ap (λ a. record old { actors = set old.actors actor (with_writer v a) }) (sym e))
begun_steps old new actor x begun.NotActive v e l is same n = unchanged_steps old new actor x l is
    (n ∙ ap (λ w. record old { actors = set old.actors actor (with_writer w x) }) (same (λ q. absurd (cc q))))
begun_steps old new actor x (begun.TooLong k) v e l is same n = unchanged_steps old new actor x l is
    (n ∙ ap (λ w. record old { actors = set old.actors actor (with_writer w x) }) (same (λ q. absurd (cc q))))

stays_same : (w : WriterView) (b : Began) → Goes w b → (b.begun ≡ begun.Going → ⊥) → b.writer ≡ w
stays_same w b (going _ _ e) n = absurd (n e)
stays_same w b (stays _ _ e) n = e

begins_by : (u : Bool) (old new : WorldView) (actor : ℕ) (task : Task) (x : Acting) → acting_at actor (bare old) ≡ x → actor < length old.actors → x ≡ get_or old.actors actor x
    → new ≡ record old { actors = set old.actors actor (acting_begun u (writer_begun x.writer task) x) }
    → IsStepped old (task_begins u actor task (bare old)) (begun_seen u (writer_begun x.writer task).begun) new
begins_by true old new actor task x e l is n = unchanged_steps old new actor x l is n
begins_by false old new actor task x e l is n =
    let b : Began = writer_begun x.writer task in
    let t = begun_steps old new actor x b.begun b.writer e l is (stays_same x.writer b (begins_goes x.writer task)) n in
    rw e t

pub begin_steps : (old new : WorldView) (actor : ℕ) (task : Task) (x y : Acting) (s : Seen) → actor < length old.actors → x ≡ get_or old.actors actor x
    → s ≡ begun_seen (is_under_way x.writer.phase) (writer_begun x.writer task).begun → y ≡ acting_begun (is_under_way x.writer.phase) (writer_begun x.writer task) x
    → new ≡ record old { actors = set old.actors actor y } → IsStepped old (task_begins (is_under_way (acting_at actor (bare old)).writer.phase) actor task (bare old)) s new
begin_steps old new actor task x y s l is told did n =
    let e : acting_at actor (bare old) ≡ x = sym (get_or_read old.actors actor x l is (fresh_acting (length old.cells))) in
    let t = begins_by (is_under_way x.writer.phase) old new actor task x e l is (n ∙ ap (λ z. record old { actors = set old.actors actor z }) did) in
    rw e (rw told t)
