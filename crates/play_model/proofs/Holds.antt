-- What an actor holds, step by step: none without names; with names a tail asks a node that is
-- there.
use Rattle.std.proofs.Common.{◌≡◌, ℕ, ◌+◌, ◌-◌, ◌<◌, ◌≤◌, List, [], ◌∷◌, ◌++◌, length, Bool, true, false, cond, refl, sym, ap, ◌∙◌, subst, arith}
use Rattle.std.specs.Prelude.{Option, Some, None, nat_lt, ◌||◌}
use Rattle.std.proofs.lemmas.Bool.Decides.{nat_tests}
use Rattle.journal_core.specs.declared.heard.Heard.{Heard}
use Rattle.journal_core.specs.declared.heard.Heard.TheVariants.{Answer, Silent}
use Rattle.journal_core.specs.declared.request.Request.{Request}
use Rattle.journal_core.specs.declared.reply.Reply.TheVariants as reply
use Rattle.edit_ops.specs.Records.{EditView}
use Rattle.writer_core.specs.declared.task.Task.{Task}
use Rattle.writer_core.specs.declared.task.Task.TheVariants as task
use Rattle.writer_core.specs.declared.task.Begun.{Begun}
use Rattle.writer_core.specs.declared.task.Begun.TheVariants as begun
use Rattle.writer_core.specs.declared.turn.Turn.{Turn}
use Rattle.writer_core.specs.declared.turn.Turn.TheVariants as turn
use Rattle.writer_core.specs.declared.turn.Outcome.{Outcome as TaskOutcome}
use Rattle.writer_core.specs.declared.turn.Outcome.TheVariants as outcome
use Rattle.writer_core.specs.Views.{WriterView}
use Rattle.writer_core.specs.Rounds.{Judgment}
use Rattle.writer_core.specs.Writer.{is_writing, writer_begun, writer_heard, writer_stopped}
use Rattle.ns_edits.specs.Replay.{Image, Applied, All, BadEntry, applied}
use Rattle.journal_history.specs.declared.record.Record.{Record}
use Rattle.journal_history.specs.declared.record.Record.TheVariants.{Call, Late, Operator, Outcome}
use Rattle.journal_history.specs.declared.record.Told.{Told}
use Rattle.run_safety.specs.Sized.{Sized}
use Rattle.run_safety.proofs.WriterRange.{heard_sized, begun_sized}
use Rattle.mesh.specs.Makers.{heard_of}
use Rattle.play_names.specs.Submissions.{Submission, submit_edits, nothing_submitted}
use Rattle.play_names.specs.Holding.{Holding, Work, Free, Tails, Logs, Broken, with_work, save_image, load_image, reload_image, min_to_keep, enters}
use Rattle.play_names.specs.Tails.{TailEnd, Caught, Reached, PurgedFrom, BehindBy, TailStep, GoesOn, Ends, Breaks, is_until, pass_begun, up_to, after_applied, pass_end, no_edits, tail_hears}
use Rattle.play_model.specs.Lines.{Action, Does, DoDrop, DoMute, DoLate, Submits, Trims, DoTail, Saves, Reloads}
use Rattle.play_model.specs.EditResults.{IsRaw, AreRaw}
use Rattle.play_model.specs.Actor.{Actor, is_wanting, is_broken, wants, tail_ended, tail_stepped, task_begun, make_copy, begin_sync, after_sync}
use Rattle.play_model.specs.Actor.{logged_when, trim_at, unless_active, begin_save, begin_reload, take_named_action, take_action, is_broken_holding}
use Rattle.play_model.specs.Actor.{while_wanting, settle, logs_done, task_done, held_turn, turn_with, turn_taken, after_judgment, heard_in_work}
use Rattle.play_model.specs.Actor.{heard_by, moved_on, settle_again, goes_on}
use Rattle.play_model.proofs.Led.{moved_keeps}

-- ## With names: a tail asks a node that is there
abbrev pub AsksNode : ℕ → Work → Type 0
AsksNode n Free = Unit {0}
AsksNode n (Tails until node told) = (1 ≤ node) × (node ≤ n)
AsksNode n (Logs ahead dues) = Unit {0}
AsksNode n Broken = Unit {0}

abbrev pub AsksIn : ℕ → Option Holding → Type 0
AsksIn n None = Unit {0}
AsksIn n (Some h) = AsksNode n h.work

-- ## Without names: nothing is held
abbrev pub HoldsWell : Bool → ℕ → Option Holding → Type 0
HoldsWell false n o = o ≡ None
HoldsWell true n o = (1 ≤ n) × AsksIn n o

abbrev StepAsks : ℕ → TailStep → Type 0
StepAsks n (GoesOn h) = AsksNode n h.work
StepAsks n (Ends end h) = AsksNode n h.work
StepAsks n (Breaks h) = AsksNode n h.work

pass_asks : (n : ℕ) (until : Option ℕ) (h : Holding) → 1 ≤ n → StepAsks n (pass_begun until h)
unfolding pass_begun
pass_asks n until h some = by (is_until until h.position)
  where
    by : (b : Bool) → StepAsks n (cond b (Ends Reached (with_work Free h)) (GoesOn (with_work (Tails until 1 []) h)))
    by true = tt
    by false = (omega arith, some)

applied_asks : (n : ℕ) (until : Option ℕ) (x : Applied) (h : Holding) → 1 ≤ n → StepAsks n (after_applied until x h)
applied_asks n until (All s t) h some = pass_asks n until (record h { space = s; position = t }) some
applied_asks n until (BadEntry s t) h some = tt

none_asks : (n m : ℕ) (until : Option ℕ) (node : ℕ) (told : List Heard) (h : Holding) → m ≡ n → 1 ≤ node → StepAsks n (no_edits m until node told h)
none_asks n m until node told h same from = by (nat_lt node m) refl
  where
    by : (b : Bool) → nat_lt node m ≡ b → StepAsks n (cond b (GoesOn (with_work (Tails until (node + 1) told) h)) (Ends (pass_end until told) (with_work Free h)))
    by true e = (omega arith, below)
      where
        below : node + 1 ≤ n
        below = let l : node < m = grind (arith, nat_tests) in omega (arith, l, same)
    by false e = tt

tail_asks : (n m : ℕ) (until : Option ℕ) (node : ℕ) (told : List Heard) (heard : Heard) (h : Holding) → m ≡ n → 1 ≤ n → 1 ≤ node → StepAsks n (tail_hears m until node told heard h)
unfolding tail_hears
tail_asks n m until node told (Answer (reply.Edits batch)) h same some from = applied_asks n until (applied h.position (up_to until h.position batch.bodies) h.space) h some
tail_asks n m until node told (Answer reply.Ok) h same some from = none_asks n m until node (told ++ Answer reply.Ok ∷ []) h same from
tail_asks n m until node told (Answer (reply.State p)) h same some from = none_asks n m until node (told ++ Answer (reply.State p) ∷ []) h same from
tail_asks n m until node told (Answer (reply.NewEpoch o)) h same some from = none_asks n m until node (told ++ Answer (reply.NewEpoch o) ∷ []) h same from
tail_asks n m until node told (Answer (reply.Prepared x y z)) h same some from = none_asks n m until node (told ++ Answer (reply.Prepared x y z) ∷ []) h same from
tail_asks n m until node told (Answer (reply.Segments ls)) h same some from = none_asks n m until node (told ++ Answer (reply.Segments ls) ∷ []) h same from
tail_asks n m until node told (Answer (reply.Refused f)) h same some from = none_asks n m until node (told ++ Answer (reply.Refused f) ∷ []) h same from
tail_asks n m until node told Silent h same some from = none_asks n m until node (told ++ Silent ∷ []) h same from

-- an actor whose writer is of that many nodes, and whose tail asks one of them
abbrev pub Well : ℕ → Actor → Type 0
Well n a = Sized n a.writer × AsksIn n a.holds

stopped_sized : (n : ℕ) (w : WriterView) → Sized n w → Sized n (writer_stopped w)
stopped_sized n w h = record { left = h.left; slots = h.slots; fetch = tt }

ended_well : (n : ℕ) (until : Option ℕ) (end : TailEnd) (h : Holding) (a : Actor) → Sized n a.writer → AsksNode n h.work → Well n (tail_ended until end h a)
unfolding tail_ended
ended_well n None end h a s w = (s, w)
ended_well n (Some last) Reached h a s w = (s, tt)
ended_well n (Some last) Caught h a s w = (stopped_sized n a.writer s, w)
ended_well n (Some last) (PurgedFrom first) h a s w = (stopped_sized n a.writer s, w)
ended_well n (Some last) (BehindBy causes) h a s w = (stopped_sized n a.writer s, w)

stepped_well : (n : ℕ) (until : Option ℕ) (x : TailStep) (a : Actor) → Sized n a.writer → StepAsks n x → Well n (tail_stepped until x a)
unfolding tail_stepped
stepped_well n until (GoesOn h) a s w = (s, w)
stepped_well n until (Ends end h) a s w = ended_well n until end h a s w
stepped_well n until (Breaks h) a s w = (s, w)

-- ## An action
begun_well : (n : ℕ) (t : Task) (v : WriterView) (b : Begun) (a : Actor) → Sized n v → Well n a → Well n (task_begun t v a b)
unfolding task_begun
begun_well n t v begun.Going a s w = (s, w.1)
begun_well n t v begun.NotActive a s w = w
begun_well n t v (begun.TooLong number) a s w = w

copied_well : (n k i : ℕ) (o : Option Request) (a : Actor) → Well n a → Well n (make_copy k i o a)
unfolding make_copy
copied_well n k i None a w = w
copied_well n k i (Some q) a w = w

sync_well : (n : ℕ) (b : Begun) (v : WriterView) (x : Submission) (h : Holding) (a : Actor) → Sized n v → Well n a → Well n (begin_sync b v x h a)
sync_well n begun.Going v x h a s w = (s, tt)
sync_well n begun.NotActive v x h a s w = w
sync_well n (begun.TooLong number) v x h a s w = w

synced_well : (n : ℕ) (bodies : List (List ℕ)) (x : Submission) (h : Holding) (a : Actor) → Well n a → Well n (after_sync bodies x h a)
synced_well n [] x h a w = w
synced_well n (b ∷ bs) x h a w =
    sync_well n (writer_begun a.writer (task.Log x.bodies)).begun (writer_begun a.writer (task.Log x.bodies)).writer x h a (begun_sized n a.writer (task.Log x.bodies) w.0) w

logged_well : (n : ℕ) (b : Bool) (es : List EditView) (h : Holding) (a : Actor) → Well n a → Well n (logged_when b es h a)
unfolding logged_when
logged_well n true es h a w = synced_well n (submit_edits a.writer es (nothing_submitted h.space)).bodies (submit_edits a.writer es (nothing_submitted h.space)) h a w
logged_well n false es h a w = w

trim_well : (n : ℕ) (b : Bool) (min : Option ℕ) (a : Actor) → Well n a → Well n (trim_at b min a)
unfolding trim_at
trim_well n false min a w = w
trim_well n true None a w = w
trim_well n true (Some min) a w = (begun_sized n a.writer (task.Purge min) w.0, w.1)

unless_well : (n : ℕ) (b : Bool) (c a : Actor) → Well n c → Well n a → Well n (unless_active b c a)
unless_well n true c a v w = w
unless_well n false c a v w = v

loaded_asks : (n : ℕ) (images : List Image) (h : Holding) → AsksNode n h.work → AsksNode n (load_image images h).work
loaded_asks n [] h w = w
loaded_asks n (i ∷ is) h w = w

reloaded_asks : (n : ℕ) (h : Holding) → AsksNode n (reload_image h).work
unfolding reload_image
reloaded_asks n h = loaded_asks n h.images (record h { work = Free }) tt

saved_asks : (n : ℕ) (h : Holding) → AsksNode n h.work → AsksNode n (save_image h).work
unfolding save_image
saved_asks n h w = w

held_well : (n : ℕ) (d : Action) (o : Option Holding) (a : Actor) → 1 ≤ n → AsksIn n o → Well n a → Well n (take_named_action d o a)
unfolding take_named_action
held_well n (Does t) o a some q w = w
held_well n (DoDrop k i) o a some q w = w
held_well n (DoMute k i) o a some q w = w
held_well n (DoLate k i) o a some q w = w
held_well n (Submits es) None a some q w = w
held_well n (Submits es) (Some h) a some q w = logged_well n (is_writing a.writer.phase) es h a w
held_well n (Trims extra) None a some q w = w
held_well n (Trims extra) (Some h) a some q w = trim_well n (is_writing a.writer.phase) (min_to_keep extra h.images) a w
held_well n DoTail None a some q w = w
held_well n DoTail (Some h) a some q w =
    unless_well n (is_writing a.writer.phase) (tail_stepped None (pass_begun None h) a) a (stepped_well n None (pass_begun None h) a w.0 (pass_asks n None h some)) w
held_well n Saves None a some q w = w
held_well n Saves (Some h) a some q w = unless_well n (is_writing a.writer.phase) (begin_save h a) a (w.0, saved_asks n h q) w
held_well n Reloads None a some q w = w
held_well n Reloads (Some h) a some q w = unless_well n (is_writing a.writer.phase) (begin_reload h a) a (w.0, reloaded_asks n h) w

pub taken_well : (n : ℕ) (d : Action) (a : Actor) → 1 ≤ n → Well n a → Well n (take_action d a)
unfolding take_action
taken_well n (Does t) a some w = begun_well n t (writer_begun a.writer t).writer (writer_begun a.writer t).begun a (begun_sized n a.writer t w.0) w
taken_well n (DoDrop k i) a some w = w
taken_well n (DoMute k i) a some w = w
taken_well n (DoLate k i) a some w = copied_well n k i _ a w
taken_well n (Submits es) a some w = held_well n (Submits es) a.holds a some w.1 w
taken_well n (Trims extra) a some w = held_well n (Trims extra) a.holds a some w.1 w
taken_well n DoTail a some w = held_well n DoTail a.holds a some w.1 w
taken_well n Saves a some w = held_well n Saves a.holds a some w.1 w
taken_well n Reloads a some w = held_well n Reloads a.holds a some w.1 w

-- ## A line of its record
logs_well : (n : ℕ) (work : Work) (first last : ℕ) (h : Holding) (a : Actor) → Well n a → Well n (logs_done work first last h a)
unfolding logs_done
logs_well n Free first last h a w = w
logs_well n (Tails until node told) first last h a w = w
logs_well n (Logs ahead dues) first last h a w = (w.0, tt)
logs_well n Broken first last h a w = w

done_well : (n : ℕ) (o : TaskOutcome) (t : Task) (h : Holding) (a : Actor) → 1 ≤ n → Well n a → Well n (task_done o t h a)
unfolding task_done
done_well n (outcome.Takeover epoch first) t h a some w =
    stepped_well n (Some (first - 1)) (pass_begun (Some (first - 1)) (enters (first - 1) h)) a w.0 (pass_asks n (Some (first - 1)) (enters (first - 1) h) some)
done_well n (outcome.Log first last) t h a some w = logs_well n h.work first last h a w
done_well n (outcome.Roll start) t h a some w = (w.0, tt)
done_well n (outcome.Close last) t h a some w = (w.0, tt)
done_well n outcome.Purge (task.Purge min) h a some w = w
done_well n outcome.Purge task.Takeover h a some w = w
done_well n outcome.Purge (task.Log bodies) h a some w = w
done_well n outcome.Purge task.Roll h a some w = w
done_well n outcome.Purge task.Close h a some w = w

held_turn_well : (n : ℕ) (t : Turn) (s : Task) (h : Holding) (a : Actor) → 1 ≤ n → Well n a → Well n (held_turn t s h a)
unfolding held_turn
held_turn_well n turn.Going s h a some w = w
held_turn_well n (turn.Done o) s h a some w = done_well n o s h a some w
held_turn_well n turn.Aborted s h a some w = (w.0, reloaded_asks n h)
held_turn_well n (turn.EpochLimit told) s h a some w = w

with_well : (n : ℕ) (o : Option Holding) (t : Turn) (s : Task) (a : Actor) → 1 ≤ n → Well n a → Well n (turn_with o t s a)
unfolding turn_with
with_well n None t s a some w = w
with_well n (Some h) t s a some w = held_turn_well n t s h a some w

turn_well : (n : ℕ) (t : Turn) (d : Option Task) (a : Actor) → 1 ≤ n → Well n a → Well n (turn_taken t d a)
unfolding turn_taken
turn_well n turn.Going d a some w = w
turn_well n (turn.Done o) None a some w = w
turn_well n (turn.Done o) (Some s) a some w = with_well n a.holds (turn.Done o) s (record a { doing = None }) some w
turn_well n turn.Aborted None a some w = w
turn_well n turn.Aborted (Some s) a some w = with_well n a.holds turn.Aborted s (record a { doing = None }) some w
turn_well n (turn.EpochLimit k) None a some w = w
turn_well n (turn.EpochLimit k) (Some s) a some w = with_well n a.holds (turn.EpochLimit k) s (record a { doing = None }) some w

judged_well : (n : ℕ) (node : ℕ) (heard : Heard) (a : Actor) → 1 ≤ n → Well n a → Well n (after_judgment (writer_heard a.writer node heard) a)
judged_well n node heard a some w =
    let j : Judgment = writer_heard a.writer node heard in
    turn_well n j.turn a.doing (record a { writer = j.writer }) some (heard_sized n a.writer node heard w.0, w.1)

work_well : (n : ℕ) (work : Work) (h : Holding) (node : ℕ) (heard : Heard) (a : Actor) → 1 ≤ n → AsksNode n work → Well n a → Well n (heard_in_work work h node heard a)
work_well n Free h node heard a some q w = judged_well n node heard a some w
work_well n (Tails until next told) h node heard a some q w =
    stepped_well n until (tail_hears (length a.writer.left) until next told heard h) a w.0 (tail_asks n (length a.writer.left) until next told heard h w.0.left some q.0)
work_well n (Logs ahead dues) h node heard a some q w = judged_well n node heard a some w
work_well n Broken h node heard a some q w = judged_well n node heard a some w

heard_well : (n : ℕ) (o : Option Holding) (node : ℕ) (heard : Heard) (a : Actor) → 1 ≤ n → AsksIn n o → Well n a → Well n (heard_by o node heard a)
unfolding heard_by
heard_well n None node heard a some q w = judged_well n node heard a some w
heard_well n (Some h) node heard a some q w = work_well n h.work h node heard a some q w

pub moved_well : (n : ℕ) (r : Record) (a : Actor) → 1 ≤ n → Well n a → Well n (moved_on r a)
unfolding moved_on
moved_well n (Call k q t) a some w = heard_well n a.holds k (heard_of t) a some w.1 w
moved_well n (Late k q) a some w = w
moved_well n (Operator k ask d) a some w = w
moved_well n (Outcome x) a some w = w

-- ## Without names
pub begun_holds : (t : Task) (v : WriterView) (b : Begun) (a : Actor) → (task_begun t v a b).holds ≡ a.holds
unfolding task_begun
begun_holds t v begun.Going a = refl
begun_holds t v begun.NotActive a = refl
begun_holds t v (begun.TooLong number) a = refl

copied_holds : (k i : ℕ) (o : Option Request) (a : Actor) → (make_copy k i o a).holds ≡ a.holds
unfolding make_copy
copied_holds k i None a = refl
copied_holds k i (Some q) a = refl

pub raw_taken : (d : Action) (a : Actor) → IsRaw d → (take_action d a).holds ≡ a.holds
unfolding take_action
raw_taken (Does t) a r = begun_holds t (writer_begun a.writer t).writer (writer_begun a.writer t).begun a
raw_taken (DoDrop k i) a r = refl
raw_taken (DoMute k i) a r = refl
raw_taken (DoLate k i) a r = copied_holds k i _ a
raw_taken (Submits es) a r = absurd r
raw_taken (Trims extra) a r = absurd r
raw_taken DoTail a r = absurd r
raw_taken Saves a r = absurd r
raw_taken Reloads a r = absurd r

-- the writer judges each answer, and a task that ended says its results
pub raw_with : (o : Option Holding) (t : Turn) (s : Task) (a : Actor) → o ≡ None → turn_with o t s a ≡ turn_with None t s a
raw_with o t s a e = ap (λ (x : Option Holding). turn_with x t s a) e

pub raw_heard : (o : Option Holding) (node : ℕ) (heard : Heard) (a : Actor) → o ≡ None → heard_by o node heard a ≡ after_judgment (writer_heard a.writer node heard) a
unfolding heard_by
raw_heard o node heard a e = ap (λ (x : Option Holding). heard_by x node heard a) e

with_same : (o : Option Holding) (t : Turn) (s : Task) (a : Actor) → o ≡ None → ((turn_with o t s a).holds ≡ a.holds) × ((turn_with o t s a).writer ≡ a.writer)
unfolding turn_with
with_same o t s a e = (ap (λ (b : Actor). b.holds) (raw_with o t s a e), ap (λ (b : Actor). b.writer) (raw_with o t s a e))

pub turn_same : (t : Turn) (d : Option Task) (a : Actor) → a.holds ≡ None → ((turn_taken t d a).holds ≡ a.holds) × ((turn_taken t d a).writer ≡ a.writer)
unfolding turn_taken
turn_same turn.Going d a e = (refl, refl)
turn_same (turn.Done o) None a e = (refl, refl)
turn_same (turn.Done o) (Some s) a e = with_same a.holds (turn.Done o) s (record a { doing = None }) e
turn_same turn.Aborted None a e = (refl, refl)
turn_same turn.Aborted (Some s) a e = with_same a.holds turn.Aborted s (record a { doing = None }) e
turn_same (turn.EpochLimit k) None a e = (refl, refl)
turn_same (turn.EpochLimit k) (Some s) a e = with_same a.holds (turn.EpochLimit k) s (record a { doing = None }) e

pub raw_writer : (k : ℕ) (q : Request) (t : Told) (a : Actor) → a.holds ≡ None → (moved_on (Call k q t) a).writer ≡ (writer_heard a.writer k (heard_of t)).writer
unfolding moved_on
raw_writer k q t a e =
    let j : Judgment = writer_heard a.writer k (heard_of t) in
    ap (λ (b : Actor). b.writer) (raw_heard a.holds k (heard_of t) a e) ∙ (turn_same j.turn a.doing (record a { writer = j.writer }) e).1

pub raw_moved : (r : Record) (a : Actor) → a.holds ≡ None → (moved_on r a).holds ≡ None
unfolding moved_on
raw_moved (Call k q t) a e =
    let j : Judgment = writer_heard a.writer k (heard_of t) in
    ap (λ (b : Actor). b.holds) (raw_heard a.holds k (heard_of t) a e) ∙ (turn_same j.turn a.doing (record a { writer = j.writer }) e).0 ∙ e
raw_moved (Late k q) a e = e
raw_moved (Operator k ask d) a e = e
raw_moved (Outcome x) a e = e

-- it met no bad entry
pub raw_whole : (a : Actor) → a.holds ≡ None → is_broken a ≡ false
unfolding is_broken
raw_whole a e = ap is_broken_holding e

-- an actor of a script without names
pub record RawActor (a : Actor) : Type 0 where
  pub holds : a.holds ≡ None
  pub actions : AreRaw a.todo

raw_waiting : (w : Bool) (ds : List Action) → AreRaw ds → AreRaw (while_wanting w ds)
raw_waiting true ds r = r
raw_waiting false ds r = tt

settled_raw_by : (b w : Bool) (d : Action) (ds : List Action) (a : Actor) → AreRaw (d ∷ ds) → a.holds ≡ None → RawActor (settle ds (take_action d a))
    → RawActor (cond b (record a { todo = while_wanting w (d ∷ ds) }) (settle ds (take_action d a)))
settled_raw_by true w d ds a r e h = record { holds = e; actions = raw_waiting w (d ∷ ds) r }
settled_raw_by false w d ds a r e h = h

pub raw_settled : (ds : List Action) (a : Actor) → AreRaw ds → a.holds ≡ None → RawActor (settle ds a)
unfolding settle
raw_settled [] a r e = record { holds = e; actions = tt }
raw_settled (d ∷ ds) a r e = settled_raw_by (is_wanting (wants a) || is_broken a) (is_wanting (wants a)) d ds a r e (raw_settled ds (take_action d a) r.1 (raw_taken d a r.0 ∙ e))

pub raw_goes : (a : Actor) (r : Record) → RawActor a → RawActor (goes_on a r)
unfolding goes_on settle_again
raw_goes a r h =
    let b : Actor = record a { past = a.past ++ r ∷ [] } in
    raw_settled (moved_on r b).todo (moved_on r b) (subst AreRaw (sym (moved_keeps r b).0) h.actions) (raw_moved r b h.holds)
