-- What a writer's phase says of its calls, and of a task that begins.
use Rattle.std.proofs.Common.{◌≡◌, ℕ, List, Bool, true, false, refl, Option, Some, None}
use Rattle.journal_core.specs.declared.request.Request.{Request}
use Rattle.writer_core.specs.declared.phase.Phase.{Phase}
use Rattle.writer_core.specs.declared.phase.Phase.TheVariants as phase
use Rattle.writer_core.specs.declared.task.Task.{Task}
use Rattle.writer_core.specs.declared.task.Task.TheVariants as task
use Rattle.writer_core.specs.declared.task.Begun.TheVariants as begun
use Rattle.writer_core.specs.declared.turn.Turn.{Turn}
use Rattle.writer_core.specs.declared.turn.Turn.TheVariants as turn
use Rattle.writer_core.specs.Views.{WriterView}
use Rattle.writer_core.specs.Writer.{next_call, call_in, is_under_way, writer_begun, if_writing, is_writing, begins, log_begins, log_limit}
use Rattle.play_model.specs.Ready.{is_going}

-- ## Calls and turns
-- a call is named only while a round is under way
some_under : (x : Phase) (w : WriterView) (node : ℕ) (r : Request) → call_in x w ≡ Some (node, r) → is_under_way x ≡ true
some_under (phase.InRound q) w node r e = refl
some_under phase.Idle w node r e = absurd (cc e)
some_under phase.Writing w node r e = absurd (cc e)
some_under phase.Stopped w node r e = absurd (cc e)

pub call_under : (w : WriterView) (node : ℕ) (r : Request) → next_call w ≡ Some (node, r) → is_under_way w.phase ≡ true
call_under w node r e = some_under w.phase w node r e

pub going_is : (u : Turn) → is_going u ≡ true → u ≡ turn.Going
going_is turn.Going e = refl
going_is (turn.Done o) e = absurd (cc e)
going_is turn.Aborted e = absurd (cc e)
going_is (turn.EpochLimit told) e = absurd (cc e)

-- ## A task that begins
-- a task that begins has a round under way
going_if : (b : Bool) (v w : WriterView) → is_under_way v.phase ≡ true → (if_writing b (begins v) w).begun ≡ begun.Going → is_under_way (if_writing b (begins v) w).writer.phase ≡ true
going_if true v w u e = u
going_if false v w u e = absurd (cc e)

going_log : (b : Bool) (o : Option ℕ) (bodies : List (List ℕ)) (w : WriterView) → (if_writing b (log_begins o bodies w) w).begun ≡ begun.Going
    → is_under_way (if_writing b (log_begins o bodies w) w).writer.phase ≡ true
going_log true None bodies w e = refl
going_log true (Some number) bodies w e = absurd (cc e)
going_log false o bodies w e = absurd (cc e)

pub begun_under : (w : WriterView) (t : Task) → (writer_begun w t).begun ≡ begun.Going → is_under_way (writer_begun w t).writer.phase ≡ true
unfolding writer_begun
begun_under w task.Takeover e = refl
begun_under w (task.Log bodies) e = going_log (is_writing w.phase) (log_limit w bodies) bodies w e
begun_under w task.Roll e = going_if (is_writing w.phase) _ w refl e
begun_under w task.Close e = going_if (is_writing w.phase) _ w refl e
begun_under w (task.Purge min) e = going_if (is_writing w.phase) _ w refl e
