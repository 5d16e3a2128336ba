-- What most steps of an actor leave as it is, and take no account of: the actions to come, the
-- record, the marks and the copies.
use Rattle.std.proofs.Common.{◌≡◌, ℕ, ◌-◌, List, [], ◌∷◌, length, Bool, true, false, refl, sym, ap, ◌∙◌}
use Rattle.std.specs.Prelude.{Option, Some, None}
use Rattle.journal_core.specs.declared.request.Request.{Request}
use Rattle.writer_core.specs.declared.task.Task.{Task}
use Rattle.writer_core.specs.declared.task.Task.TheVariants as task
use Rattle.writer_core.specs.declared.task.Begun.{Begun}
use Rattle.writer_core.specs.declared.task.Begun.TheVariants as begun
use Rattle.writer_core.specs.declared.turn.Turn.{Turn}
use Rattle.writer_core.specs.declared.turn.Turn.TheVariants as turn
use Rattle.writer_core.specs.declared.turn.Outcome.{Outcome as TaskOutcome}
use Rattle.writer_core.specs.declared.turn.Outcome.TheVariants as outcome
use Rattle.writer_core.specs.Views.{WriterView}
use Rattle.writer_core.specs.Rounds.{Judgment}
use Rattle.writer_core.specs.Writer.{is_writing, writer_begun, writer_heard}
use Rattle.journal_core.specs.declared.heard.Heard.{Heard}
use Rattle.edit_ops.specs.Records.{EditView}
use Rattle.journal_history.specs.declared.record.Record.{Record}
use Rattle.journal_history.specs.declared.mark.Mark.{Mark}
use Rattle.play_names.specs.Submissions.{Submission, submit_edits, nothing_submitted}
use Rattle.play_names.specs.Holding.{Holding, Work, Free, Tails, Logs, Broken, min_to_keep, enters}
use Rattle.play_names.specs.Tails.{TailEnd, Caught, Reached, PurgedFrom, BehindBy, TailStep, GoesOn, Ends, Breaks, pass_begun, tail_hears}
use Rattle.play_model.specs.Lines.{Action, Does, DoDrop, DoMute, DoLate, Submits, Trims, DoTail, Saves, Reloads}
use Rattle.play_model.specs.Actor.{Actor, tail_ended, tail_stepped, task_begun, begin_sync, after_sync, logged_when, trim_at, unless_active}
use Rattle.play_model.specs.Actor.{begin_save, begin_reload, take_named_action, logs_done, task_done, held_turn, turn_with, turn_taken}
use Rattle.play_model.specs.Actor.{after_judgment, heard_in_work, heard_by}

abbrev framed : List Action → List Record → List Mark → Option (ℕ × Request) → Actor → Actor
framed x p m c a = record a { todo = x; past = p; marks = m; copies = c }

abbrev pub IsFramed : (Actor → Actor) → Type 0
IsFramed f = (a : Actor) (x : List Action) (p : List Record) (m : List Mark) (c : Option (ℕ × Request)) → f (framed x p m c a) ≡ framed x p m c (f a)

pub framed_todo : (f : Actor → Actor) → IsFramed f → (a : Actor) (x : List Action) → f (record a { todo = x }) ≡ record (f a) { todo = x }
framed_todo f h a x = h a x a.past a.marks a.copies ∙ sym (ap (λ (b : Actor). record b { todo = x }) (h a a.todo a.past a.marks a.copies))

pub framed_keeps : (f : Actor → Actor) → IsFramed f → (a : Actor) → ((f a).todo ≡ a.todo) × ((f a).past ≡ a.past) × ((f a).marks ≡ a.marks) × ((f a).copies ≡ a.copies)
framed_keeps f h a =
    let e : f a ≡ framed a.todo a.past a.marks a.copies (f a) = h a a.todo a.past a.marks a.copies in
    (ap (λ (b : Actor). b.todo) e, ap (λ (b : Actor). b.past) e, ap (λ (b : Actor). b.marks) e, ap (λ (b : Actor). b.copies) e)

tail_ended_framed : (until : Option ℕ) (end : TailEnd) (h : Holding) → IsFramed (tail_ended until end h)
unfolding tail_ended
tail_ended_framed None end h a x p m c = refl
tail_ended_framed (Some last) Reached h a x p m c = refl
tail_ended_framed (Some last) Caught h a x p m c = refl
tail_ended_framed (Some last) (PurgedFrom first) h a x p m c = refl
tail_ended_framed (Some last) (BehindBy causes) h a x p m c = refl

pub tail_framed : (until : Option ℕ) (s : TailStep) → IsFramed (tail_stepped until s)
unfolding tail_stepped
tail_framed until (GoesOn h) a x p m c = refl
tail_framed until (Ends end h) a x p m c = tail_ended_framed until end h a x p m c
tail_framed until (Breaks h) a x p m c = refl

pub begun_framed : (t : Task) (w : WriterView) (b : Begun) → IsFramed (λ a. task_begun t w a b)
unfolding task_begun
begun_framed t w begun.Going a x p m c = refl
begun_framed t w begun.NotActive a x p m c = refl
begun_framed t w (begun.TooLong number) a x p m c = refl

sync_framed : (b : Begun) (w : WriterView) (s : Submission) (h : Holding) → IsFramed (begin_sync b w s h)
sync_framed begun.Going w s h a x p m c = refl
sync_framed begun.NotActive w s h a x p m c = refl
sync_framed (begun.TooLong number) w s h a x p m c = refl

synced_framed : (bodies : List (List ℕ)) (s : Submission) (h : Holding) → IsFramed (after_sync bodies s h)
synced_framed [] s h a x p m c = refl
synced_framed (b ∷ bs) s h a x p m c = sync_framed (writer_begun a.writer (task.Log s.bodies)).begun (writer_begun a.writer (task.Log s.bodies)).writer s h a x p m c

logged_framed : (b : Bool) (es : List EditView) (h : Holding) → IsFramed (logged_when b es h)
unfolding logged_when
logged_framed true es h a x p m c =
    synced_framed (submit_edits a.writer es (nothing_submitted h.space)).bodies (submit_edits a.writer es (nothing_submitted h.space)) h a x p m c
logged_framed false es h a x p m c = refl

trim_framed : (b : Bool) (min : Option ℕ) → IsFramed (trim_at b min)
unfolding trim_at
trim_framed false min a x p m c = refl
trim_framed true None a x p m c = refl
trim_framed true (Some min) a x p m c = refl

unless_framed : (b : Bool) (f : Actor → Actor) → IsFramed f → IsFramed (λ a. unless_active b (f a) a)
unless_framed true f g a x p m c = refl
unless_framed false f g a x p m c = g a x p m c

-- what an actor does by what it holds
pub held_framed : (d : Action) (o : Option Holding) → IsFramed (take_named_action d o)
unfolding take_named_action
held_framed (Does t) o a x p m c = refl
held_framed (DoDrop k n) o a x p m c = refl
held_framed (DoMute k n) o a x p m c = refl
held_framed (DoLate k n) o a x p m c = refl
held_framed (Submits es) None a x p m c = refl
held_framed (Submits es) (Some h) a x p m c = logged_framed (is_writing a.writer.phase) es h a x p m c
held_framed (Trims extra) None a x p m c = refl
held_framed (Trims extra) (Some h) a x p m c = trim_framed (is_writing a.writer.phase) (min_to_keep extra h.images) a x p m c
held_framed DoTail None a x p m c = refl
held_framed DoTail (Some h) a x p m c = unless_framed (is_writing a.writer.phase) (tail_stepped None (pass_begun None h)) (tail_framed None (pass_begun None h)) a x p m c
held_framed Saves None a x p m c = refl
held_framed Saves (Some h) a x p m c = unless_framed (is_writing a.writer.phase) (begin_save h) (λ b y q n d. refl) a x p m c
held_framed Reloads None a x p m c = refl
held_framed Reloads (Some h) a x p m c = unless_framed (is_writing a.writer.phase) (begin_reload h) (λ b y q n d. refl) a x p m c

logs_framed : (work : Work) (first last : ℕ) (h : Holding) → IsFramed (logs_done work first last h)
unfolding logs_done
logs_framed Free first last h a x p m c = refl
logs_framed (Tails until node told) first last h a x p m c = refl
logs_framed (Logs ahead dues) first last h a x p m c = refl
logs_framed Broken first last h a x p m c = refl

done_framed : (o : TaskOutcome) (t : Task) (h : Holding) → IsFramed (task_done o t h)
unfolding task_done
done_framed (outcome.Takeover epoch first) t h a x p m c = tail_framed (Some (first - 1)) (pass_begun (Some (first - 1)) (enters (first - 1) h)) a x p m c
done_framed (outcome.Log first last) t h a x p m c = logs_framed h.work first last h a x p m c
done_framed (outcome.Roll start) t h a x p m c = refl
done_framed (outcome.Close last) t h a x p m c = refl
done_framed outcome.Purge (task.Purge min) h a x p m c = refl
done_framed outcome.Purge task.Takeover h a x p m c = refl
done_framed outcome.Purge (task.Log bodies) h a x p m c = refl
done_framed outcome.Purge task.Roll h a x p m c = refl
done_framed outcome.Purge task.Close h a x p m c = refl

held_turn_framed : (t : Turn) (s : Task) (h : Holding) → IsFramed (held_turn t s h)
unfolding held_turn
held_turn_framed turn.Going s h a x p m c = refl
held_turn_framed (turn.Done o) s h a x p m c = done_framed o s h a x p m c
held_turn_framed turn.Aborted s h a x p m c = refl
held_turn_framed (turn.EpochLimit told) s h a x p m c = refl

with_framed : (o : Option Holding) (t : Turn) (s : Task) → IsFramed (turn_with o t s)
unfolding turn_with
with_framed None t s a x p m c = refl
with_framed (Some h) t s a x p m c = held_turn_framed t s h a x p m c

pub turn_framed : (t : Turn) (d : Option Task) → IsFramed (turn_taken t d)
unfolding turn_taken
turn_framed turn.Going d a x p m c = refl
turn_framed (turn.Done o) None a x p m c = refl
turn_framed (turn.Done o) (Some s) a x p m c = with_framed a.holds (turn.Done o) s (record a { doing = None }) x p m c
turn_framed turn.Aborted None a x p m c = refl
turn_framed turn.Aborted (Some s) a x p m c = with_framed a.holds turn.Aborted s (record a { doing = None }) x p m c
turn_framed (turn.EpochLimit n) None a x p m c = refl
turn_framed (turn.EpochLimit n) (Some s) a x p m c = with_framed a.holds (turn.EpochLimit n) s (record a { doing = None }) x p m c

judged_framed : (j : Judgment) → IsFramed (after_judgment j)
judged_framed j a x p m c = turn_framed j.turn a.doing (record a { writer = j.writer }) x p m c

work_framed : (work : Work) (h : Holding) (node : ℕ) (heard : Heard) → IsFramed (heard_in_work work h node heard)
work_framed Free h node heard a x p m c = judged_framed (writer_heard a.writer node heard) a x p m c
work_framed (Tails until next told) h node heard a x p m c = tail_framed until (tail_hears (length a.writer.left) until next told heard h) a x p m c
work_framed (Logs ahead dues) h node heard a x p m c = judged_framed (writer_heard a.writer node heard) a x p m c
work_framed Broken h node heard a x p m c = judged_framed (writer_heard a.writer node heard) a x p m c

-- what an actor makes of an answer
pub heard_framed : (o : Option Holding) (node : ℕ) (heard : Heard) → IsFramed (heard_by o node heard)
unfolding heard_by
heard_framed None node heard a x p m c = judged_framed (writer_heard a.writer node heard) a x p m c
heard_framed (Some h) node heard a x p m c = work_framed h.work h node heard a x p m c
