-- An actor that is led to its end has said, action by action, as many results as are due.
use Rattle.std.proofs.Common.{◌≡◌, ℕ, suc, ◌+◌, ◌≤◌, List, [], ◌∷◌, ◌++◌, Bool, true, false, cond, refl, sym, ap, ◌∙◌, subst, arith, length, drop, ◌⊎◌, inl, inr}
use Rattle.std.specs.Prelude.{Option, Some, None, ◌≢◌, ◌||◌}
use Rattle.std.proofs.lemmas.List.{length-map}
use Rattle.journal_core.specs.declared.request.Request.{Request}
use Rattle.writer_core.specs.declared.phase.Phase.{Phase}
use Rattle.writer_core.specs.declared.phase.Phase.TheVariants as phase
use Rattle.writer_core.specs.declared.phase.Aim.{Aim}
use Rattle.writer_core.specs.declared.phase.Aim.TheVariants as aim
use Rattle.writer_core.specs.declared.cause.Cause.{Cause}
use Rattle.writer_core.specs.declared.task.Task.{Task}
use Rattle.writer_core.specs.declared.task.Task.TheVariants as task
use Rattle.writer_core.specs.declared.task.Begun.{Begun}
use Rattle.writer_core.specs.declared.task.Begun.TheVariants as begun
use Rattle.writer_core.specs.declared.turn.Turn.{Turn}
use Rattle.writer_core.specs.declared.turn.Turn.TheVariants as turn
use Rattle.writer_core.specs.declared.turn.Outcome.{Outcome as TaskOutcome}
use Rattle.writer_core.specs.declared.turn.Outcome.TheVariants as outcome
use Rattle.writer_core.specs.Turns.{aim_of, IsOf, IsInRound}
use Rattle.writer_core.specs.Views.{WriterView}
use Rattle.writer_core.specs.Rounds.{Judgment}
use Rattle.writer_core.specs.Writer.{writer_begun, next_call, writer_heard}
use Rattle.journal_history.specs.declared.record.Record.{Record}
use Rattle.journal_history.specs.declared.record.Record.TheVariants.{Call, Late, Operator, Outcome}
use Rattle.journal_history.specs.declared.record.Told.{Told}
use Rattle.mesh.specs.Makers.{heard_of}
use Rattle.play_model.specs.Lines.{Action, Does, DoDrop, DoMute, DoLate, Submits, Trims, DoTail, Saves, Reloads}
use Rattle.play_names.specs.Results.{for_each, acked_from, acknowledged_results, outcome_results, results_of, inactive_results, too_long_results, late_none}
use Rattle.play_model.specs.Actor.{Actor, Rests, fresh_actor, wants, is_wanting, is_broken, task_begun, make_copy, take_action, while_wanting, settle}
use Rattle.play_model.specs.Actor.{turn_with, turn_taken, moved_on, settle_again, goes_on, Fits, IsLed, actor_after}
use Rattle.play_model.specs.Told.{results_in}
use Rattle.play_model.specs.EditResults.{results_due, AreResultsOf, AreResults, IsRaw, AreRaw}
use Rattle.play_model.proofs.Led.{todo_wants, waiting, either_wants, moved_keeps}
use Rattle.play_model.proofs.Holds.{RawActor, raw_with, raw_heard, raw_taken, raw_moved, raw_whole, raw_settled, raw_goes}
use Rattle.play_model.proofs.Sound.{or_false}
use Rattle.play_model.proofs.Wanting.{Calling, Resting, Saying, resting, rests_is, fits_calling, fits_saying, no_operation, raw_call, raw_rest}
use Rattle.play_model.proofs.WriterTurns.{IsBetween, Course, TurnOf, Turned, Begins, begun_turn, heard_turn, new_course, call_some, call_none}

-- ## As many results as are due
pub each_length : (t : Task) (text : List ℕ) → length (for_each t text) ≡ results_due t
unfolding for_each
each_length task.Takeover text = refl
each_length (task.Log bodies) text = length-map bodies _
each_length task.Roll text = refl
each_length task.Close text = refl
each_length (task.Purge min) text = refl

acked_length : (txid : ℕ) (bodies : List (List ℕ)) → length (acked_from txid bodies) ≡ length bodies
unfolding acked_from
acked_length txid [] = refl
acked_length txid (b ∷ bodies) = ap suc (acked_length (txid + 1) bodies)

done_length : (t : Task) (o : TaskOutcome) → IsOf (aim_of t) o → length (outcome_results t o) ≡ results_due t
unfolding outcome_results acknowledged_results
done_length task.Takeover (outcome.Takeover epoch first) h = refl
done_length task.Takeover (outcome.Log first last) h = absurd h
done_length task.Takeover (outcome.Roll start) h = absurd h
done_length task.Takeover (outcome.Close last) h = absurd h
done_length task.Takeover outcome.Purge h = absurd h
done_length (task.Log bodies) (outcome.Log first last) h = acked_length first bodies
done_length (task.Log bodies) (outcome.Takeover epoch first) h = absurd h
done_length (task.Log bodies) (outcome.Roll start) h = absurd h
done_length (task.Log bodies) (outcome.Close last) h = absurd h
done_length (task.Log bodies) outcome.Purge h = absurd h
done_length task.Roll (outcome.Roll start) h = refl
done_length task.Roll (outcome.Takeover epoch first) h = absurd h
done_length task.Roll (outcome.Log first last) h = absurd h
done_length task.Roll (outcome.Close last) h = absurd h
done_length task.Roll outcome.Purge h = absurd h
done_length task.Close (outcome.Close last) h = refl
done_length task.Close (outcome.Takeover epoch first) h = absurd h
done_length task.Close (outcome.Log first last) h = absurd h
done_length task.Close (outcome.Roll start) h = absurd h
done_length task.Close outcome.Purge h = absurd h
done_length (task.Purge min) outcome.Purge h = refl
done_length (task.Purge min) (outcome.Takeover epoch first) h = absurd h
done_length (task.Purge min) (outcome.Log first last) h = absurd h
done_length (task.Purge min) (outcome.Roll start) h = absurd h
done_length (task.Purge min) (outcome.Close last) h = absurd h

limit_due : (t : Task) → aim_of t ≡ aim.Takeover → 1 ≡ results_due t
limit_due task.Takeover e = refl
limit_due (task.Log bodies) e = absurd (cc e)
limit_due task.Roll e = absurd (cc e)
limit_due task.Close e = absurd (cc e)
limit_due (task.Purge min) e = absurd (cc e)

-- ## An actor's task under way
abbrev IsDoing : Aim → Phase → List (List ℕ) → Option Task → Type 0
IsDoing a p says None = IsBetween p
IsDoing a p says (Some t) = (aim_of t ≡ a) × IsInRound p × (says ≡ [])

record Live (a : Actor) : Type 0 where
  kind : Aim
  course : Course kind a.writer
  doing : IsDoing kind a.writer.phase a.says a.doing

-- what is still due: the results to be said, those of the task under way, and those of the actions
-- to come
abbrev IsDue : Option Task → List (List ℕ) → Type 0
IsDue None texts = texts ≡ []
IsDue (Some t) texts = length texts ≡ results_due t

record Owes (says : List (List ℕ)) (doing : Option Task) (todo : List Action) (texts : List (List ℕ)) : Type 0 where
  due : List (List ℕ)
  rest : List (List ℕ)
  all : texts ≡ says ++ (due ++ rest)
  is_due : IsDue doing due
  are_results : AreResults todo rest

-- ## An action that is taken
doing_none : (a : Actor) → Live a → next_call a.writer ≡ None → a.doing ≡ None
doing_none a l e = by a.doing refl l.doing
  where
    by : (o : Option Task) → a.doing ≡ o → IsDoing l.kind a.writer.phase a.says o → a.doing ≡ None
    by None f h = f
    by (Some t) f h = absurd (cc (e, call_some l.kind a.writer l.course h.1))

between : (a : Actor) (l : Live a) → a.doing ≡ None → IsBetween a.writer.phase
between a l e = subst (λ (o : Option Task). IsDoing l.kind a.writer.phase a.says o) e l.doing

begun_by : (t : Task) (a : Actor) (w : WriterView) (b : Begun) → Live a → a.doing ≡ None → a.says ≡ []
    → ((b ≡ begun.Going) × Course (aim_of t) w × IsInRound w.phase) ⊎ ((b ≢ begun.Going) × (w ≡ a.writer)) → Live (task_begun t w a b)
unfolding task_begun
begun_by t a w begun.Going l none quiet (inl h) = record { kind = aim_of t; course = h.1; doing = (refl, h.2, quiet) }
begun_by t a w begun.Going l none quiet (inr h) = absurd (h.0 refl)
begun_by t a w begun.NotActive l none quiet h = record {
  kind = l.kind;
  course = l.course;
  doing = subst (λ (o : Option Task). IsDoing l.kind a.writer.phase (inactive_results t) o) (sym none) (between a l none);
}
begun_by t a w (begun.TooLong n) l none quiet h = record {
  kind = l.kind;
  course = l.course;
  doing = subst (λ (o : Option Task). IsDoing l.kind a.writer.phase (too_long_results t n) o) (sym none) (between a l none);
}

copied_live : (k n : ℕ) (o : Option Request) (a : Actor) → Live a → a.doing ≡ None → Live (make_copy k n o a)
unfolding make_copy
copied_live k n None a l none = record { kind = l.kind; course = l.course; doing = subst (λ (o : Option Task). IsDoing l.kind a.writer.phase (late_none ∷ []) o) (sym none) (between a l none) }
copied_live k n (Some q) a l none = record { kind = l.kind; course = l.course; doing = l.doing }

taken_live : (d : Action) (a : Actor) → IsRaw d → a.holds ≡ None → Resting a → Live a → Live (take_action d a)
unfolding take_action Begins
taken_live (Does t) a raw e r l =
    begun_by t a (writer_begun a.writer t).writer (writer_begun a.writer t).begun l (doing_none a l (raw_rest a e r)) r.says (begun_turn t a.writer l.course.other)
taken_live (DoDrop k n) a raw e r l = record { kind = l.kind; course = l.course; doing = l.doing }
taken_live (DoMute k n) a raw e r l = record { kind = l.kind; course = l.course; doing = l.doing }
taken_live (DoLate k n) a raw e r l = copied_live k n _ a l (doing_none a l (raw_rest a e r))
taken_live (Submits es) a raw e r l = absurd raw
taken_live (Trims extra) a raw e r l = absurd raw
taken_live DoTail a raw e r l = absurd raw
taken_live Saves a raw e r l = absurd raw
taken_live Reloads a raw e r l = absurd raw

-- what it now owes is what the action's results are
owes_task : (t : Task) (a : Actor) (w : WriterView) (b : Begun) (ds : List Action) (texts : List (List ℕ)) → a.doing ≡ None → a.says ≡ []
    → Owes (task_begun t w a b).says (task_begun t w a b).doing ds texts
    → Owes [] None (Does t ∷ ds) texts
unfolding task_begun AreResults inactive_results too_long_results
owes_task t a w begun.Going ds texts none quiet h = record {
  due = [];
  rest = texts;
  all = refl;
  is_due = refl;
  are_results = (h.due, h.rest, h.all ∙ ap (λ (x : List (List ℕ)). x ++ (h.due ++ h.rest)) quiet, h.is_due, h.are_results);
}
owes_task t a w begun.NotActive ds texts none quiet h =
    let empty : h.due ≡ [] = subst (λ (o : Option Task). IsDue o h.due) none h.is_due in
    record {
      due = [];
      rest = texts;
      all = refl;
      is_due = refl;
      are_results = (inactive_results t, h.rest, h.all ∙ ap (λ (x : List (List ℕ)). inactive_results t ++ (x ++ h.rest)) empty, each_length t _, h.are_results);
    }
owes_task t a w (begun.TooLong n) ds texts none quiet h =
    let empty : h.due ≡ [] = subst (λ (o : Option Task). IsDue o h.due) none h.is_due in
    record {
      due = [];
      rest = texts;
      all = refl;
      is_due = refl;
      are_results = (too_long_results t n, h.rest, h.all ∙ ap (λ (x : List (List ℕ)). too_long_results t n ++ (x ++ h.rest)) empty, each_length t _, h.are_results);
    }

owes_same : (a : Actor) (d : Action) (ds : List Action) (texts : List (List ℕ)) → AreResultsOf d [] → a.doing ≡ None → a.says ≡ [] → Owes a.says a.doing ds texts → Owes [] None (d ∷ ds) texts
unfolding AreResults
owes_same a d ds texts is none quiet h =
    let empty : h.due ≡ [] = subst (λ (o : Option Task). IsDue o h.due) none h.is_due in
    record {
      due = [];
      rest = texts;
      all = refl;
      is_due = refl;
      are_results = ([], h.rest, h.all ∙ (ap (λ (x : List (List ℕ)). x ++ (h.due ++ h.rest)) quiet ∙ ap (λ (x : List (List ℕ)). x ++ h.rest) empty), is, h.are_results);
    }

owes_copy : (k n : ℕ) (o : Option Request) (a : Actor) (ds : List Action) (texts : List (List ℕ)) → a.doing ≡ None → a.says ≡ []
    → Owes (make_copy k n o a).says (make_copy k n o a).doing ds texts → Owes [] None (DoLate k n ∷ ds) texts
unfolding make_copy AreResults
owes_copy k n (Some q) a ds texts none quiet h = owes_same a (DoLate k n) ds texts (omega arith) none quiet h
owes_copy k n None a ds texts none quiet h =
    let empty : h.due ≡ [] = subst (λ (o : Option Task). IsDue o h.due) none h.is_due in
    record {
      due = [];
      rest = texts;
      all = refl;
      is_due = refl;
      are_results = (late_none ∷ [], h.rest, h.all ∙ ap (λ (x : List (List ℕ)). late_none ∷ (x ++ h.rest)) empty, omega arith, h.are_results);
    }

owes_action : (d : Action) (ds : List Action) (a : Actor) (texts : List (List ℕ)) → IsRaw d → Resting a → a.doing ≡ None
    → Owes (take_action d a).says (take_action d a).doing ds texts → Owes [] None (d ∷ ds) texts
unfolding take_action
owes_action (Does t) ds a texts raw r none h = owes_task t a (writer_begun a.writer t).writer (writer_begun a.writer t).begun ds texts none r.says h
owes_action (DoDrop k n) ds a texts raw r none h = owes_same a (DoDrop k n) ds texts refl none r.says h
owes_action (DoMute k n) ds a texts raw r none h = owes_same a (DoMute k n) ds texts refl none r.says h
owes_action (DoLate k n) ds a texts raw r none h = owes_copy k n _ a ds texts none r.says h
owes_action (Submits es) ds a texts raw r none h = absurd raw
owes_action (Trims extra) ds a texts raw r none h = absurd raw
owes_action DoTail ds a texts raw r none h = absurd raw
owes_action Saves ds a texts raw r none h = absurd raw
owes_action Reloads ds a texts raw r none h = absurd raw

along : (s t : List (List ℕ)) (d e : Option Task) (ds : List Action) (texts : List (List ℕ)) → s ≡ t → d ≡ e → Owes s d ds texts → Owes t e ds texts
along s t d e ds texts x y h = subst (λ (z : Option Task). Owes t z ds texts) y (subst (λ (z : List (List ℕ)). Owes z d ds texts) x h)

-- ## Actions that are taken
rested : (a : Actor) → (is_wanting (wants a) || is_broken a) ≡ false → Resting a
rested a is = resting a (or_false (is_wanting (wants a)) (is_broken a) is)

settled_by : (b : Bool) (d : Action) (ds : List Action) (a : Actor) → (is_wanting (wants a) || is_broken a) ≡ b → IsRaw d → a.holds ≡ None → Live a
    → (Live (take_action d a) → Live (settle ds (take_action d a))) → Live (cond b (record a { todo = while_wanting (is_wanting (wants a)) (d ∷ ds) }) (settle ds (take_action d a)))
settled_by true d ds a is raw e l go = record { kind = l.kind; course = l.course; doing = l.doing }
settled_by false d ds a is raw e l go = go (taken_live d a raw e (rested a is) l)

settled_live : (ds : List Action) (a : Actor) → AreRaw ds → a.holds ≡ None → Live a → Live (settle ds a)
unfolding settle
settled_live [] a raw e l = record { kind = l.kind; course = l.course; doing = l.doing }
settled_live (d ∷ ds) a raw e l = settled_by (is_wanting (wants a) || is_broken a) d ds a refl raw.0 e l (settled_live ds (take_action d a) raw.1 (raw_taken d a raw.0 ∙ e))

raw_wanting : (a : Actor) → (is_wanting (wants a) || is_broken a) ≡ true → a.holds ≡ None → is_wanting (wants a) ≡ true
raw_wanting a is e = either_wants (is_wanting (wants a)) (is_broken a) is (raw_whole a e)

-- what it still owes
abbrev OwesAll : Actor → List (List ℕ) → Type 0
OwesAll b texts = Owes b.says b.doing b.todo texts

owes_by : (b : Bool) (d : Action) (ds : List Action) (a : Actor) (texts : List (List ℕ)) → (is_wanting (wants a) || is_broken a) ≡ b → IsRaw d → a.holds ≡ None → Live a
    → (Live (take_action d a) → Owes (settle ds (take_action d a)).says (settle ds (take_action d a)).doing (settle ds (take_action d a)).todo texts
    → Owes (take_action d a).says (take_action d a).doing ds texts)
    → OwesAll (cond b (record a { todo = while_wanting (is_wanting (wants a)) (d ∷ ds) }) (settle ds (take_action d a))) texts
    → Owes a.says a.doing (d ∷ ds) texts
owes_by true d ds a texts is raw e l go h = subst (λ (ts : List Action). Owes a.says a.doing ts texts) (waiting a (d ∷ ds) (raw_wanting a is e)) h
owes_by false d ds a texts is raw e l go h =
    let r : Resting a = rested a is in
    let none : a.doing ≡ None = doing_none a l (raw_rest a e r) in
    along [] a.says None a.doing (d ∷ ds) texts (sym r.says) (sym none) (owes_action d ds a texts raw r none (go (taken_live d a raw e r l) h))

settled_owes : (ds : List Action) (a : Actor) (texts : List (List ℕ)) → AreRaw ds → a.holds ≡ None → Live a
    → Owes (settle ds a).says (settle ds a).doing (settle ds a).todo texts → Owes a.says a.doing ds texts
unfolding settle
settled_owes [] a texts raw e l h = h
settled_owes (d ∷ ds) a texts raw e l h =
    owes_by (is_wanting (wants a) || is_broken a) d ds a texts refl raw.0 e l (settled_owes ds (take_action d a) texts raw.1 (raw_taken d a raw.0 ∙ e)) h

-- one that wants nothing has nothing to do
abbrev IsDone : Actor → Type 0
IsDone b = is_wanting (wants b) ≡ false → b.todo ≡ []

done_by : (b : Bool) (d : Action) (ds : List Action) (a : Actor) → (is_wanting (wants a) || is_broken a) ≡ b → a.holds ≡ None
    → IsDone (settle ds (take_action d a)) → IsDone (cond b (record a { todo = while_wanting (is_wanting (wants a)) (d ∷ ds) }) (settle ds (take_action d a)))
done_by true d ds a is n go e = absurd (cc (raw_wanting a is n, ap is_wanting (sym (todo_wants a (while_wanting (is_wanting (wants a)) (d ∷ ds)))) ∙ e))
done_by false d ds a is n go e = go e

settled_done : (ds : List Action) (a : Actor) → AreRaw ds → a.holds ≡ None → is_wanting (wants (settle ds a)) ≡ false → (settle ds a).todo ≡ []
unfolding settle
settled_done [] a raw n e = refl
settled_done (d ∷ ds) a raw n e = done_by (is_wanting (wants a) || is_broken a) d ds a refl n (settled_done ds (take_action d a) raw.1 (raw_taken d a raw.0 ∙ n)) e

-- ## A line of the record
turn_live : (a : Actor) (t : Task) (k : Aim) (x : Turn) → a.holds ≡ None → aim_of t ≡ k → a.says ≡ [] → a.doing ≡ Some t → Course k a.writer
    → TurnOf k a.writer.phase x → Live (turn_taken x (Some t) a)
unfolding turn_taken turn_with
turn_live a t k turn.Going n e quiet is c h = record { kind = k; course = c; doing = subst (λ (o : Option Task). IsDoing k a.writer.phase a.says o) (sym is) (e, h, quiet) }
turn_live a t k (turn.Done o) n e quiet is c h = subst Live (sym (raw_with a.holds (turn.Done o) t (record a { doing = None }) n)) (record { kind = k; course = c; doing = h.1 })
turn_live a t k turn.Aborted n e quiet is c h = subst Live (sym (raw_with a.holds turn.Aborted t (record a { doing = None }) n)) (record { kind = k; course = c; doing = h })
turn_live a t k (turn.EpochLimit m) n e quiet is c h = subst Live (sym (raw_with a.holds (turn.EpochLimit m) t (record a { doing = None }) n)) (record { kind = k; course = c; doing = h.1 })

results_length : (t : Task) (k : Aim) (p : Phase) (x : Turn) (causes : List Cause) → aim_of t ≡ k → TurnOf k p x → x ≢ turn.Going → length (results_of t x causes) ≡ results_due t
unfolding results_of
results_length t k p turn.Going causes e h off = absurd (off refl)
results_length t k p (turn.Done o) causes e h off = done_length t o (subst (λ (z : Aim). IsOf z o) (sym e) h.0)
results_length t k p turn.Aborted causes e h off = each_length t _
results_length t k p (turn.EpochLimit n) causes e h off = limit_due t (e ∙ h.0)

-- a task that ended: its results are said next
ended_owes : (a : Actor) (t : Task) (texts says : List (List ℕ)) → length says ≡ results_due t → a.says ≡ [] → a.doing ≡ Some t → Owes says None a.todo texts → Owes a.says a.doing a.todo texts
ended_owes a t texts says long quiet is h =
    let empty : h.due ≡ [] = h.is_due in
    record {
      due = says;
      rest = h.rest;
      all = h.all ∙ (ap (λ (x : List (List ℕ)). says ++ (x ++ h.rest)) empty ∙ ap (λ (x : List (List ℕ)). x ++ (says ++ h.rest)) (sym quiet));
      is_due = subst (λ (o : Option Task). IsDue o says) (sym is) long;
      are_results = h.are_results;
    }

-- without names
raw_owes : (a : Actor) (t : Task) (x : Turn) (todo : List Action) (texts : List (List ℕ)) → a.holds ≡ None
    → Owes (turn_with a.holds x t a).says (turn_with a.holds x t a).doing todo texts → Owes (turn_with None x t a).says (turn_with None x t a).doing todo texts
raw_owes a t x todo texts n h = subst (λ (b : Actor). Owes b.says b.doing todo texts) (raw_with a.holds x t a n) h

turn_owes : (a : Actor) (t : Task) (k : Aim) (x : Turn) (texts : List (List ℕ)) → a.holds ≡ None → aim_of t ≡ k → a.says ≡ [] → a.doing ≡ Some t → TurnOf k a.writer.phase x
    → Owes (turn_taken x (Some t) a).says (turn_taken x (Some t) a).doing a.todo texts → Owes a.says a.doing a.todo texts
unfolding turn_taken turn_with
turn_owes a t k turn.Going texts n e quiet is h o = o
turn_owes a t k (turn.Done z) texts n e quiet is h o =
    ended_owes a t texts (results_of t (turn.Done z) a.writer.causes) (results_length t k a.writer.phase (turn.Done z) a.writer.causes e h (λ (f : turn.Done z ≡ turn.Going). cc f)) quiet is
    (raw_owes (record a { doing = None }) t (turn.Done z) a.todo texts n o)
turn_owes a t k turn.Aborted texts n e quiet is h o =
    ended_owes a t texts (results_of t turn.Aborted a.writer.causes) (results_length t k a.writer.phase turn.Aborted a.writer.causes e h (λ (f : turn.Aborted ≡ turn.Going). cc f)) quiet is
    (raw_owes (record a { doing = None }) t turn.Aborted a.todo texts n o)
turn_owes a t k (turn.EpochLimit m) texts n e quiet is h o =
    ended_owes a t texts (results_of t (turn.EpochLimit m) a.writer.causes)
    (results_length t k a.writer.phase (turn.EpochLimit m) a.writer.causes e h (λ (f : turn.EpochLimit m ≡ turn.Going). cc f)) quiet is
    (raw_owes (record a { doing = None }) t (turn.EpochLimit m) a.todo texts n o)

task_of : (o : Option Task) → (k : Aim) (p : Phase) (says : List (List ℕ)) → IsDoing k p says o → IsInRound p → (t : Task) × (o ≡ Some t)
task_of None k p says h i = absurd (apart p h i)
  where
    apart : (p : Phase) → IsBetween p → IsInRound p → ⊥
    apart (phase.InRound r) b i = b
    apart phase.Idle b i = i
    apart phase.Writing b i = i
    apart phase.Stopped b i = i
task_of (Some t) k p says h i = (t, refl)

round_or_not : (p : Phase) → IsInRound p ⊎ IsBetween p
round_or_not (phase.InRound r) = inl tt
round_or_not phase.Idle = inr tt
round_or_not phase.Writing = inr tt
round_or_not phase.Stopped = inr tt

in_round : (w : WriterView) (c : ℕ × Request) → next_call w ≡ Some c → IsInRound w.phase
in_round w c e = by (round_or_not w.phase)
  where
    by : IsInRound w.phase ⊎ IsBetween w.phase → IsInRound w.phase
    by (inl i) = i
    by (inr b) = absurd (cc (e, call_none w b))

-- where a call was told, the task goes on or ends
record Calls (a : Actor) (j : Judgment) : Type 0 where
  task : Task
  kind : Aim
  doing : a.doing ≡ Some task
  aims : aim_of task ≡ kind
  quiet : a.says ≡ []
  turned : Turned kind j

calls : (a : Actor) (k : ℕ) (q : Request) (t : Told) → a.holds ≡ None → Live a → Calling k q a → Calls a (writer_heard a.writer k (heard_of t))
calls a k q t n l c =
    let i : IsInRound a.writer.phase = in_round a.writer (k, q) (raw_call a k q n c) in
    let x : (t : Task) × (a.doing ≡ Some t) = task_of a.doing l.kind a.writer.phase a.says l.doing i in
    let d : IsDoing l.kind a.writer.phase a.says (Some x.0) = subst (λ (o : Option Task). IsDoing l.kind a.writer.phase a.says o) x.1 l.doing in
    record { task = x.0; kind = l.kind; doing = x.1; aims = d.0; quiet = c.says; turned = heard_turn l.kind a.writer k (heard_of t) l.course i }

-- the actor, told of the call
told : Actor → List Record → Judgment → Actor
told a past j = record a { past = past; writer = j.writer }

moved_call : (a : Actor) (k : ℕ) (q : Request) (t : Told) (task : Task) → a.holds ≡ None → a.doing ≡ Some task
    → moved_on (Call k q t) (record a { past = a.past ++ Call k q t ∷ [] }) ≡ turn_taken (writer_heard a.writer k (heard_of t)).turn (Some task)
    (told a (a.past ++ Call k q t ∷ []) (writer_heard a.writer k (heard_of t)))
unfolding moved_on told
moved_call a k q t task n e =
    let j : Judgment = writer_heard a.writer k (heard_of t) in
    raw_heard a.holds k (heard_of t) (record a { past = a.past ++ Call k q t ∷ [] }) n
    ∙ ap (λ (o : Option Task). turn_taken j.turn o (record a { past = a.past ++ Call k q t ∷ []; writer = j.writer })) e

call_live : (a : Actor) (k : ℕ) (q : Request) (t : Told) → a.holds ≡ None → Live a → Calling k q a → Live (moved_on (Call k q t) (record a { past = a.past ++ Call k q t ∷ [] }))
unfolding told
call_live a k q t n l c =
    let j : Judgment = writer_heard a.writer k (heard_of t) in
    let x : Calls a j = calls a k q t n l c in
    subst Live (sym (moved_call a k q t x.task n x.doing)) (turn_live (told a (a.past ++ Call k q t ∷ []) j) x.task x.kind j.turn n x.aims x.quiet x.doing x.turned.course x.turned.turn)

call_owes : (a : Actor) (k : ℕ) (q : Request) (t : Told) (texts : List (List ℕ)) → a.holds ≡ None → Live a → Calling k q a
    → Owes (moved_on (Call k q t) (record a { past = a.past ++ Call k q t ∷ [] })).says
    (moved_on (Call k q t) (record a { past = a.past ++ Call k q t ∷ [] })).doing a.todo texts → Owes a.says a.doing a.todo texts
unfolding told
call_owes a k q t texts n l c h =
    let j : Judgment = writer_heard a.writer k (heard_of t) in
    let x : Calls a j = calls a k q t n l c in
    turn_owes (told a (a.past ++ Call k q t ∷ []) j) x.task x.kind j.turn texts n x.aims x.quiet x.doing x.turned.turn
    (subst (λ (b : Actor). Owes b.says b.doing a.todo texts) (moved_call a k q t x.task n x.doing) h)

said_live : (a : Actor) (x : List ℕ) (past : List Record) → Live a → Saying x a → Live (record a { past = past; says = drop 1 a.says })
said_live a x past l s = record { kind = l.kind; course = l.course; doing = by a.doing l.doing }
  where
    by : (o : Option Task) → IsDoing l.kind a.writer.phase a.says o → IsDoing l.kind a.writer.phase (drop 1 a.says) o
    by None h = h
    by (Some t) h = (h.0, h.1, ap (drop 1) h.2)

said_owes : (a : Actor) (x : List ℕ) (texts : List (List ℕ)) → Saying x a → Owes (drop 1 a.says) a.doing a.todo texts → Owes a.says a.doing a.todo (x ∷ texts)
said_owes a x texts s h =
    let rest : drop 1 a.says ≡ s.rest = ap (drop 1) s.says in
    record {
      due = h.due;
      rest = h.rest;
      all = ap (λ (l : List (List ℕ)). x ∷ l) (h.all ∙ ap (λ (l : List (List ℕ)). l ++ (h.due ++ h.rest)) rest) ∙ ap (λ (l : List (List ℕ)). l ++ (h.due ++ h.rest)) (sym s.says);
      is_due = h.is_due;
      are_results = h.are_results;
    }

-- ## Along a record
moved_live : (a : Actor) (r : Record) → a.holds ≡ None → Live a → Fits (wants a) r → Live (moved_on r (record a { past = a.past ++ r ∷ [] }))
moved_live a (Call k q t) n l f = call_live a k q t n l (fits_calling a k q t f)
moved_live a (Late k q) n l f = unfold moved_on in record { kind = l.kind; course = l.course; doing = l.doing }
moved_live a (Operator k ask d) n l f = absurd (no_operation (wants a) k ask d f)
moved_live a (Outcome x) n l f = unfold moved_on in said_live a x (a.past ++ Outcome x ∷ []) l (fits_saying a x f)

-- what is still to do once a line was heard
raw_todo : (a : Actor) (r : Record) → RawActor a → AreRaw (moved_on r (record a { past = a.past ++ r ∷ [] })).todo
raw_todo a r raw = subst AreRaw (sym (moved_keeps r (record a { past = a.past ++ r ∷ [] })).0) raw.actions

goes_live : (a : Actor) (r : Record) → RawActor a → Live a → Fits (wants a) r → Live (goes_on a r)
unfolding goes_on settle_again
goes_live a r raw l f =
    let b : Actor = moved_on r (record a { past = a.past ++ r ∷ [] }) in
    settled_live b.todo b (raw_todo a r raw) (raw_moved r (record a { past = a.past ++ r ∷ [] }) raw.holds) (moved_live a r raw.holds l f)

moved_owes : (a : Actor) (r : Record) (rs : List Record) → a.holds ≡ None → Live a → Fits (wants a) r
    → Owes (moved_on r (record a { past = a.past ++ r ∷ [] })).says (moved_on r (record a { past = a.past ++ r ∷ [] })).doing a.todo (results_in rs) → Owes a.says a.doing a.todo (results_in (r ∷ rs))
unfolding results_in
moved_owes a (Call k q t) rs n l f h = call_owes a k q t (results_in rs) n l (fits_calling a k q t f) h
moved_owes a (Late k q) rs n l f h = unfold moved_on in h
moved_owes a (Operator k ask d) rs n l f h = absurd (no_operation (wants a) k ask d f)
moved_owes a (Outcome x) rs n l f h = said_owes a x (results_in rs) (fits_saying a x f) (unfold moved_on in h)

goes_owes : (a : Actor) (r : Record) (rs : List Record) → RawActor a → Live a → Fits (wants a) r
    → Owes (goes_on a r).says (goes_on a r).doing (goes_on a r).todo (results_in rs) → Owes a.says a.doing a.todo (results_in (r ∷ rs))
unfolding goes_on settle_again
goes_owes a r rs raw l f h =
    let old : Actor = record a { past = a.past ++ r ∷ [] } in
    let b : Actor = moved_on r old in
    moved_owes a r rs raw.holds l f (subst (λ (ds : List Action). Owes b.says b.doing ds (results_in rs)) (moved_keeps r old).0
    (settled_owes b.todo b (results_in rs) (raw_todo a r raw) (raw_moved r old raw.holds) (moved_live a r raw.holds l f) h))

goes_done : (a : Actor) (r : Record) → RawActor a → is_wanting (wants (goes_on a r)) ≡ false → (goes_on a r).todo ≡ []
unfolding goes_on settle_again
goes_done a r raw e =
    let old : Actor = record a { past = a.past ++ r ∷ [] } in
    let b : Actor = moved_on r old in settled_done b.todo b (raw_todo a r raw) (raw_moved r old raw.holds) e

led_owes : (rs : List Record) (a : Actor) → RawActor a → Live a → (is_wanting (wants a) ≡ false → a.todo ≡ []) → IsLed a rs
    → wants (actor_after a rs) ≡ Rests → Owes a.says a.doing a.todo (results_in rs)
unfolding IsLed actor_after results_in AreResults
led_owes [] a raw l done h e =
    let off : is_wanting (wants a) ≡ false = rests_is (wants a) e in
    let r : Resting a = resting a off in
    record {
      due = [];
      rest = [];
      all = ap (λ (x : List (List ℕ)). x ++ []) (sym r.says);
      is_due = subst (λ (o : Option Task). IsDue o []) (sym (doing_none a l (raw_rest a raw.holds r))) refl;
      are_results = subst (λ (ds : List Action). AreResults ds []) (sym (done off)) refl;
    }
led_owes (r ∷ rs) a raw l done h e = goes_owes a r rs raw l h.0 (led_owes rs (goes_on a r) (raw_goes a r raw) (goes_live a r raw l h.0) (goes_done a r raw) h.1 e)

fresh_live : (n : ℕ) → 1 ≤ n → Live (fresh_actor false n)
unfolding fresh_actor
fresh_live n h = record { kind = aim.Takeover; course = new_course n h; doing = tt }

pub each_result : (n : ℕ) (ds : List Action) (rs : List Record) → 1 ≤ n → AreRaw ds → IsLed (settle ds (fresh_actor false n)) rs → wants (actor_after (settle ds (fresh_actor false n)) rs) ≡ Rests
    → AreResults ds (results_in rs)
unfolding fresh_actor
each_result n ds rs h raw led e =
    let new : Actor = fresh_actor false n in
    let o : Owes [] None ds (results_in rs) =
    settled_owes ds new (results_in rs) raw refl (fresh_live n h)
    (led_owes rs (settle ds new) (raw_settled ds new raw refl) (settled_live ds new raw refl (fresh_live n h)) (settled_done ds new raw refl) led e) in
    subst (AreResults ds) (sym (o.all ∙ ap (λ (x : List (List ℕ)). x ++ o.rest) o.is_due)) o.are_results
