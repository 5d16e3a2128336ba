-- An actor of a mesh along its record: what it reads and what it logs is the line's, so what it
-- holds is a replay of the line's first entries.
use Rattle.std.proofs.Common.{◌≡◌, ℕ, ◌-◌, List, [], ◌∷◌, ◌++◌, Bool, true, false, cond, refl, sym, subst, length}
use Rattle.std.specs.Prelude.{Option, Some, None, ◌||◌}
use Rattle.journal_core.specs.declared.request.Request.{Request}
use Rattle.edit_ops.specs.Records.{EditView}
use Rattle.writer_core.specs.declared.task.Task.{Task}
use Rattle.writer_core.specs.declared.task.Task.TheVariants as task
use Rattle.writer_core.specs.declared.task.Begun.{Begun}
use Rattle.writer_core.specs.declared.task.Begun.TheVariants as begun
use Rattle.writer_core.specs.declared.turn.Turn.{Turn}
use Rattle.writer_core.specs.declared.turn.Turn.TheVariants as turn
use Rattle.writer_core.specs.declared.turn.Outcome.{Outcome as TaskOutcome}
use Rattle.writer_core.specs.declared.turn.Outcome.TheVariants as outcome
use Rattle.writer_core.specs.Views.{WriterView}
use Rattle.writer_core.specs.Rounds.{Judgment}
use Rattle.writer_core.specs.Writer.{is_writing, writer_begun, next_call, writer_heard, writer_stopped}
use Rattle.journal_history.specs.declared.record.Record.{Record}
use Rattle.journal_history.specs.declared.record.Record.TheVariants.{Call, Late, Operator, Outcome}
use Rattle.journal_history.specs.declared.record.Told.{Told}
use Rattle.mesh.specs.Makers.{heard_of}
use Rattle.run_safety.specs.Sized.{Sized}
use Rattle.run_safety.proofs.WriterRange.{heard_sized, begun_sized, new_sized, call_within}
use Rattle.play_model.specs.Lines.{Action, Does, DoDrop, DoMute, DoLate, Submits, Trims, DoTail, Saves, Reloads}
use Rattle.play_names.specs.Holding.{Holding, Work, Free, Tails, Logs, Broken, min_to_keep, enters}
use Rattle.play_names.specs.Tails.{TailEnd, Caught, Reached, PurgedFrom, BehindBy, TailStep, GoesOn, Ends, Breaks, pass_begun, tail_hears}
use Rattle.play_names.specs.Submissions.{Submission, submit_edits, nothing_submitted}
use Rattle.play_model.specs.Actor.{Actor, fresh_actor, Want, call_wanted, work_read, read_first, copy_first, say_first, wants, is_wanting, is_broken, tail_ended}
use Rattle.play_model.specs.Actor.{tail_stepped, task_begun, make_copy, begin_sync, after_sync, logged_when, trim_at, unless_active, begin_save}
use Rattle.play_model.specs.Actor.{begin_reload, take_named_action, take_action, while_wanting, settle, logs_done, task_done, held_turn, turn_with}
use Rattle.play_model.specs.Actor.{turn_taken, after_judgment, heard_in_work, heard_by, moved_on, settle_again, goes_on, Fits}
use Rattle.play_laws.proofs.Oks.{Oks, heard_oks, Oks-more, begun_oks}

-- ## The writer of an actor: what its actions and tails make of it
pub record Closed (P : WriterView → Type 0) : Type 0 where
  pub begun : (w : WriterView) (t : Task) → P w → P (writer_begun w t).writer
  pub stop : (w : WriterView) → P w → P (writer_stopped w)

module _ (P : WriterView → Type 0) (closed : Closed P) where
  ended_writer : (until : Option ℕ) (end : TailEnd) (h : Holding) (a : Actor) → P a.writer → P (tail_ended until end h a).writer
  unfolding tail_ended
  ended_writer None end h a p = p
  ended_writer (Some last) Reached h a p = p
  ended_writer (Some last) Caught h a p = closed.stop a.writer p
  ended_writer (Some last) (PurgedFrom first) h a p = closed.stop a.writer p
  ended_writer (Some last) (BehindBy causes) h a p = closed.stop a.writer p

  pub tail_writer : (until : Option ℕ) (x : TailStep) (a : Actor) → P a.writer → P (tail_stepped until x a).writer
  unfolding tail_stepped
  tail_writer until (GoesOn h) a p = p
  tail_writer until (Ends end h) a p = ended_writer until end h a p
  tail_writer until (Breaks h) a p = p

  begun_writer : (t : Task) (b : Begun) (a : Actor) → P a.writer → P (task_begun t (writer_begun a.writer t).writer a b).writer
  unfolding task_begun
  begun_writer t begun.Going a p = closed.begun a.writer t p
  begun_writer t begun.NotActive a p = p
  begun_writer t (begun.TooLong number) a p = p

  sync_writer : (b : Begun) (x : Submission) (h : Holding) (a : Actor) → P a.writer → P (begin_sync b (writer_begun a.writer (task.Log x.bodies)).writer x h a).writer
  sync_writer begun.Going x h a p = closed.begun a.writer (task.Log x.bodies) p
  sync_writer begun.NotActive x h a p = p
  sync_writer (begun.TooLong number) x h a p = p

  synced_writer : (bodies : List (List ℕ)) (x : Submission) (h : Holding) (a : Actor) → P a.writer → P (after_sync bodies x h a).writer
  synced_writer [] x h a p = p
  synced_writer (b ∷ bs) x h a p = sync_writer (writer_begun a.writer (task.Log x.bodies)).begun x h a p

  logged_writer : (b : Bool) (es : List EditView) (h : Holding) (a : Actor) → P a.writer → P (logged_when b es h a).writer
  unfolding logged_when
  logged_writer true es h a p = synced_writer (submit_edits a.writer es (nothing_submitted h.space)).bodies (submit_edits a.writer es (nothing_submitted h.space)) h a p
  logged_writer false es h a p = p

  trim_writer : (b : Bool) (min : Option ℕ) (a : Actor) → P a.writer → P (trim_at b min a).writer
  unfolding trim_at
  trim_writer false min a p = p
  trim_writer true None a p = p
  trim_writer true (Some min) a p = closed.begun a.writer (task.Purge min) p

  unless_writer : (b : Bool) (x a : Actor) → P x.writer → P a.writer → P (unless_active b x a).writer
  unless_writer true x a q p = p
  unless_writer false x a q p = q

  held_writer : (d : Action) (o : Option Holding) (a : Actor) → P a.writer → P (take_named_action d o a).writer
  unfolding take_named_action
  held_writer (Submits es) (Some h) a p = logged_writer (is_writing a.writer.phase) es h a p
  held_writer (Trims extra) (Some h) a p = trim_writer (is_writing a.writer.phase) (min_to_keep extra h.images) a p
  held_writer DoTail (Some h) a p = unless_writer (is_writing a.writer.phase) (tail_stepped None (pass_begun None h) a) a (tail_writer None (pass_begun None h) a p) p
  held_writer Saves (Some h) a p = unless_writer (is_writing a.writer.phase) (begin_save h a) a p p
  held_writer Reloads (Some h) a p = unless_writer (is_writing a.writer.phase) (begin_reload h a) a p p
  held_writer d o a p = p

  copied_writer : (node call : ℕ) (o : Option Request) (a : Actor) → P a.writer → P (make_copy node call o a).writer
  unfolding make_copy
  copied_writer node call None a p = p
  copied_writer node call (Some r) a p = p

  action_writer : (d : Action) (a : Actor) → P a.writer → P (take_action d a).writer
  unfolding take_action
  action_writer (Does t) a p = begun_writer t (writer_begun a.writer t).begun a p
  action_writer (DoDrop node call) a p = p
  action_writer (DoMute node call) a p = p
  action_writer (DoLate node call) a p = copied_writer node call _ a p
  action_writer (Submits es) a p = held_writer (Submits es) a.holds a p
  action_writer (Trims extra) a p = held_writer (Trims extra) a.holds a p
  action_writer DoTail a p = held_writer DoTail a.holds a p
  action_writer Saves a p = held_writer Saves a.holds a p
  action_writer Reloads a p = held_writer Reloads a.holds a p

  settled_writer : (ds : List Action) (a : Actor) → P a.writer → P (settle ds a).writer
  unfolding settle
  settled_writer [] a p = p
  settled_writer (d ∷ ds) a p = by (is_wanting (wants a) || is_broken a) (settled_writer ds (take_action d a) (action_writer d a p))
    where
      by : (b : Bool) → P (settle ds (take_action d a)).writer → P (cond b (record a { todo = while_wanting (is_wanting (wants a)) (d ∷ ds) }) (settle ds (take_action d a))).writer
      by true q = p
      by false q = q

  -- ## Ends of tasks
  logs_writer : (x : Work) (first last : ℕ) (h : Holding) (a : Actor) → P a.writer → P (logs_done x first last h a).writer
  unfolding logs_done
  logs_writer (Logs ahead dues) first last h a p = p
  logs_writer _ first last h a p = p

  done_writer : (o : TaskOutcome) (t : Task) (h : Holding) (a : Actor) → P a.writer → P (task_done o t h a).writer
  unfolding task_done
  done_writer (outcome.Takeover epoch first) t h a p = tail_writer (Some (first - 1)) (pass_begun (Some (first - 1)) (enters (first - 1) h)) a p
  done_writer (outcome.Log first last) t h a p = logs_writer h.work first last h a p
  done_writer (outcome.Roll start) t h a p = p
  done_writer (outcome.Close last) t h a p = p
  done_writer outcome.Purge (task.Purge min) h a p = p
  done_writer outcome.Purge t h a p = p

  turned_writer : (tn : Turn) (t : Task) (h : Holding) (a : Actor) → P a.writer → P (held_turn tn t h a).writer
  unfolding held_turn
  turned_writer turn.Going t h a p = p
  turned_writer (turn.Done o) t h a p = done_writer o t h a p
  turned_writer turn.Aborted t h a p = p
  turned_writer (turn.EpochLimit told) t h a p = p

  with_writer : (o : Option Holding) (tn : Turn) (t : Task) (a : Actor) → P a.writer → P (turn_with o tn t a).writer
  unfolding turn_with
  with_writer None tn t a p = p
  with_writer (Some h) tn t a p = turned_writer tn t h a p

  taken_writer : (tn : Turn) (d : Option Task) (a : Actor) → P a.writer → P (turn_taken tn d a).writer
  unfolding turn_taken
  taken_writer turn.Going d a p = p
  taken_writer (turn.Done o) None a p = p
  taken_writer turn.Aborted None a p = p
  taken_writer (turn.EpochLimit told) None a p = p
  taken_writer (turn.Done o) (Some t) a p = with_writer a.holds (turn.Done o) t (record a { doing = None }) p
  taken_writer turn.Aborted (Some t) a p = with_writer a.holds turn.Aborted t (record a { doing = None }) p
  taken_writer (turn.EpochLimit told) (Some t) a p = with_writer a.holds (turn.EpochLimit told) t (record a { doing = None }) p

  pub judged_writer : (j : Judgment) (a : Actor) → P j.writer → P (after_judgment j a).writer
  judged_writer j a p = taken_writer j.turn a.doing (record a { writer = j.writer }) p

-- ## What a call answers to
-- it is what was wanted after results and copies
fits_read : (s : List (List ℕ)) (c : Option (ℕ × Request)) (w : Want) (k : ℕ) (q : Request) (t : Told) → Fits (say_first s (copy_first c w)) (Call k q t) → Fits w (Call k q t)
unfolding Fits say_first copy_first
fits_read [] None w k q t f = f
fits_read [] (Some c) w k q t f = absurd f
fits_read (x ∷ s) c w k q t f = absurd f

pub read_fits : (a : Actor) (k : ℕ) (q : Request) (t : Told) → Fits (wants a) (Call k q t) → Fits (read_first a.holds (call_wanted (next_call a.writer))) (Call k q t)
unfolding wants
read_fits a k q t f = fits_read a.says a.copies (read_first a.holds (call_wanted (next_call a.writer))) k q t f

pub fits_call : (o : Option (ℕ × Request)) (k : ℕ) (q : Request) (t : Told) → Fits (call_wanted o) (Call k q t) → o ≡ Some (k, q)
unfolding Fits call_wanted
fits_call None k q t f = absurd f
fits_call (Some c) k q t f = (λ i. Some (sym f.0 i, sym f.1 i))

-- ## The writer along the record
pub record Both (n : ℕ) (rs : List Record) (w : WriterView) : Type 0 where
  pub oks : Oks rs w
  pub sized : Sized n w

stopped_sized : (n : ℕ) (w : WriterView) → Sized n w → Sized n (writer_stopped w)
stopped_sized n w s = record { left = s.left; slots = s.slots; fetch = tt }

pub both_closed : (n : ℕ) (rs : List Record) → Closed (Both n rs)
both_closed n rs = record {
  begun = λ w t b. record { oks = begun_oks rs w t b.oks; sized = begun_sized n w t b.sized };
  stop = λ w b. record { oks = tt; sized = stopped_sized n w b.sized };
}

both_more : (n : ℕ) (rs more : List Record) (w : WriterView) → Both n rs w → Both n (rs ++ more) w
both_more n rs more w b = record { oks = Oks-more rs more w b.oks; sized = b.sized }

hears_judged : (n : ℕ) (rs : List Record) (a : Actor) (k : ℕ) (q : Request) (t : Told) → Both n rs a.writer → next_call a.writer ≡ Some (k, q)
    → Both n (rs ++ Call k q t ∷ []) (after_judgment (writer_heard a.writer k (heard_of t)) a).writer
hears_judged n rs a k q t b next =
    judged_writer (Both n (rs ++ Call k q t ∷ [])) (both_closed n (rs ++ Call k q t ∷ [])) (writer_heard a.writer k (heard_of t)) a
    (record { oks = heard_oks rs a.writer k q t next (call_within n a.writer k q b.sized next).0 b.oks; sized = heard_sized n a.writer k (heard_of t) b.sized })

hears_writer : (n : ℕ) (rs : List Record) (a : Actor) (k : ℕ) (q : Request) (t : Told) → Both n rs a.writer → (o : Option Holding) → Fits (read_first o (call_wanted (next_call a.writer))) (Call k q t)
    → Both n (rs ++ Call k q t ∷ []) (heard_by o k (heard_of t) a).writer
unfolding heard_by read_first
hears_writer n rs a k q t b None f = hears_judged n rs a k q t b (fits_call (next_call a.writer) k q t f)
hears_writer n rs a k q t b (Some h) f = by h.work f
  where
    by : (x : Work) → Fits (work_read x h.position (call_wanted (next_call a.writer))) (Call k q t) → Both n (rs ++ Call k q t ∷ []) (heard_in_work x h k (heard_of t) a).writer
    by Free f = hears_judged n rs a k q t b (fits_call (next_call a.writer) k q t f)
    by (Logs ahead dues) f = hears_judged n rs a k q t b (fits_call (next_call a.writer) k q t f)
    by Broken f = hears_judged n rs a k q t b (fits_call (next_call a.writer) k q t f)
    by (Tails until next heard) f =
        tail_writer (Both n (rs ++ Call k q t ∷ [])) (both_closed n (rs ++ Call k q t ∷ [])) until
        (tail_hears (length a.writer.left) until next heard (heard_of t) h) a (both_more n rs (Call k q t ∷ []) a.writer b)

moved_writer : (n : ℕ) (rs : List Record) (a : Actor) (r : Record) → Both n rs a.writer → Fits (wants a) r → Both n (rs ++ r ∷ []) (moved_on r a).writer
unfolding moved_on
moved_writer n rs a (Call k q t) b f = hears_writer n rs a k q t b a.holds (read_fits a k q t f)
moved_writer n rs a (Late k q) b f = both_more n rs (Late k q ∷ []) a.writer b
moved_writer n rs a (Operator k ask done) b f = both_more n rs (Operator k ask done ∷ []) a.writer b
moved_writer n rs a (Outcome text) b f = both_more n rs (Outcome text ∷ []) a.writer b

same_wants : (a : Actor) (rs : List Record) → wants (record a { past = rs }) ≡ wants a
unfolding wants
same_wants a rs = refl

pub goes_writer : (n : ℕ) (rs : List Record) (a : Actor) (r : Record) → Both n rs a.writer → Fits (wants a) r → Both n (rs ++ r ∷ []) (goes_on a r).writer
unfolding goes_on settle_again
goes_writer n rs a r b f =
    let x : Actor = record a { past = a.past ++ r ∷ [] } in
    settled_writer (Both n (rs ++ r ∷ [])) (both_closed n (rs ++ r ∷ [])) (moved_on r x).todo (moved_on r x)
    (moved_writer n rs x r b (subst (λ (w : Want). Fits w r) (sym (same_wants a (a.past ++ r ∷ []))) f))

pub fresh_both : (named : Bool) (n : ℕ) (ds : List Action) → Both n [] (settle ds (fresh_actor named n)).writer
unfolding fresh_actor
fresh_both named n ds = unfold fresh_actor in settled_writer (Both n []) (both_closed n []) ds (fresh_actor named n) (record { oks = tt; sized = new_sized n })
