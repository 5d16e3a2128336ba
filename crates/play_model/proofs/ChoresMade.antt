-- An actor that is led along its record, with names or without, makes its calls as a maker of
-- chores does: of its tasks, and of its tails.
use Rattle.std.proofs.Common.{◌≡◌, ℕ, zero, suc, ◌+◌, ◌-◌, ◌≤◌, List, [], ◌∷◌, ◌++◌, length, take, Bool, true, false, cond, refl, sym, ap, ◌∙◌, subst, arith, ◌⊎◌, inl, inr}
use Rattle.std.specs.Prelude.{Option, Some, None, ◌≢◌, is_some, nat_lt, ◌||◌}
use Rattle.std.proofs.lemmas.Bool.Decides.{eqb_tells, nat_tests}
use Rattle.std.proofs.lemmas.Bool.{cond-false}
use Rattle.journal_core.specs.Views.{BatchView}
use Rattle.journal_core.specs.declared.heard.Heard.{Heard}
use Rattle.journal_core.specs.declared.heard.Heard.TheVariants.{Answer, Silent}
use Rattle.journal_core.specs.declared.request.Request.{Request}
use Rattle.journal_core.specs.declared.request.Request.TheVariants.{Read}
use Rattle.journal_core.specs.declared.reply.Reply.TheVariants as reply
use Rattle.edit_ops.specs.Records.{EditView}
use Rattle.writer_core.specs.declared.phase.Phase.{Phase}
use Rattle.writer_core.specs.declared.phase.Phase.TheVariants as phase
use Rattle.writer_core.specs.declared.task.Task.{Task}
use Rattle.writer_core.specs.declared.task.Task.TheVariants as task
use Rattle.writer_core.specs.declared.task.Begun.{Begun}
use Rattle.writer_core.specs.declared.task.Begun.TheVariants as begun
use Rattle.writer_core.specs.declared.turn.Turn.{Turn}
use Rattle.writer_core.specs.declared.turn.Turn.TheVariants as turn
use Rattle.writer_core.specs.declared.turn.Outcome.{Outcome as TaskOutcome}
use Rattle.writer_core.specs.declared.turn.Outcome.TheVariants as outcome
use Rattle.writer_core.specs.Views.{WriterView}
use Rattle.writer_core.specs.declared.phase.Aim.TheVariants as aim
use Rattle.writer_core.specs.declared.round.Round.TheVariants as round
use Rattle.writer_core.specs.Rounds.{Judgment}
use Rattle.writer_core.specs.Writer.{HasBody, new_writer, is_under_way, is_writing, call_in, writer_begun, next_call, writer_heard, writer_stopped}
use Rattle.ns_tree.specs.Space.{Space}
use Rattle.ns_edits.specs.Replay.{Applied, All, BadEntry, entered, applied_next, applied}
use Rattle.journal_history.specs.declared.record.Record.{Record}
use Rattle.journal_history.specs.declared.record.Record.TheVariants.{Call, Late, Operator, Outcome}
use Rattle.journal_history.specs.declared.record.Told.{Told}
use Rattle.journal_history.specs.declared.record.Told.TheVariants as told
use Rattle.mesh.specs.Makers.{Chore, Writes, Tails as ReadsOn, Reading, Maker, heard_of, maker_of, next_node, read_heard, maker_hears, HaveBodies, IsMade, IsOfChores}
use Rattle.play_names.specs.Submissions.{Submission, submit_edits, nothing_submitted}
use Rattle.play_names.specs.Holding.{Holding, Work, Free, Tails, Logs, Broken, empty_holding, with_work, save_image, load_image, reload_image, min_to_keep, enters}
use Rattle.play_names.specs.Tails.{TailEnd, Caught, Reached, PurgedFrom, BehindBy, TailStep, GoesOn, Ends, pass_begun, up_to, after_applied, pass_end, no_edits, tail_hears}
use Rattle.play_model.specs.Lines.{Action, Does, DoDrop, DoMute, DoLate, Submits, Trims, DoTail, Saves, Reloads, IsTask, IsAction, AreActions}
use Rattle.play_model.specs.Actor.{Actor, WantsCall, fresh_actor, call_wanted, work_read, read_first, is_wanting, is_broken, wants, tail_ended}
use Rattle.play_model.specs.Actor.{tail_stepped, task_begun, make_copy, begin_sync, after_sync, logged_when, trim_at, unless_active, begin_save}
use Rattle.play_model.specs.Actor.{begin_reload, take_named_action, take_action, while_wanting, settle, logs_done, task_done, held_turn, turn_with}
use Rattle.play_model.specs.Actor.{turn_taken, after_judgment, heard_in_work, heard_by, moved_on, settle_again, goes_on, Fits, IsLed}
use Rattle.play_model.specs.Ready.{is_going}
use Rattle.play_model.proofs.Led.{moved_keeps}
use Rattle.play_model.proofs.Wanting.{Resting, sending, resting, fits_calling, no_operation, call_by, rests_by}
use Rattle.play_model.proofs.Makes.{busy_by}
use Rattle.play_model.proofs.WriterTurn.{call_under}
use Rattle.play_model.proofs.TurnsTell.{turn_tells}
use Rattle.writer_calls.proofs.TaskBegins.{purge_begins}
use Rattle.play_model.proofs.Sound.{or_false, waiting_actions}
use Rattle.play_names.proofs.HoldingLaws.{loaded_work}

-- ## The maker's writer: the actor's, or what it was before it gave up
abbrev Alike : WriterView → WriterView → Type 0
Alike w v = (v ≡ w) ⊎ ((v ≡ writer_stopped w) × (next_call w ≡ None))

alike_busy : (w v : WriterView) (c : ℕ × Request) → Alike w v → next_call v ≡ Some c → v ≡ w
alike_busy w v c (inl e) f = e
alike_busy w v c (inr e) f =
    let none : next_call v ≡ None = ap (λ (x : WriterView). next_call x) e.0 in absurd (cc (none, f))

alike_none : (w v : WriterView) → Alike w v → next_call v ≡ None → next_call w ≡ None
alike_none w v (inl e) f = ap (λ (x : WriterView). next_call x) (sym e) ∙ f
alike_none w v (inr e) f = e.1

alike_left : (w v : WriterView) → Alike w v → length v.left ≡ length w.left
alike_left w v (inl e) = ap (λ (x : WriterView). length x.left) e
alike_left w v (inr e) = ap (λ (x : WriterView). length x.left) e.0

alike_stopped : (w v : WriterView) → Alike w v → next_call v ≡ None → Alike w (writer_stopped v)
alike_stopped w v a f = inr (by a, alike_none w v a f)
  where
    by : Alike w v → writer_stopped v ≡ writer_stopped w
    by (inl e) = ap writer_stopped e
    by (inr e) = ap writer_stopped e.0

-- a task begins from either in the same way
stopped_begins : (w : WriterView) (t : Task) → (writer_begun (writer_stopped w) t).begun ≡ begun.Going → (writer_begun w t).writer ≡ (writer_begun (writer_stopped w) t).writer
unfolding writer_begun
stopped_begins w task.Takeover e = refl
stopped_begins w (task.Log bodies) e = absurd (cc e)
stopped_begins w task.Roll e = absurd (cc e)
stopped_begins w task.Close e = absurd (cc e)
stopped_begins w (task.Purge min) e = absurd (cc e)

alike_begins : (w v : WriterView) (t : Task) → Alike w v → (writer_begun v t).begun ≡ begun.Going → (writer_begun w t).writer ≡ (writer_begun v t).writer
alike_begins w v t (inl e) f = ap (λ (x : WriterView). (writer_begun x t).writer) (sym e)
alike_begins w v t (inr e) f =
    stopped_begins w t (ap (λ (x : WriterView). (writer_begun x t).begun) (sym e.0) ∙ f) ∙ ap (λ (x : WriterView). (writer_begun x t).writer) (sym e.0)

-- ## The tail under way
abbrev work_reading : Work → ℕ → ℕ → Option Reading
work_reading Free p more = None
work_reading (Tails until node heard) p more = Some (record { position = p; node = node; more = more })
work_reading (Logs ahead dues) p more = None
work_reading Broken p more = None

abbrev reading_of : Option Holding → ℕ → Option Reading
reading_of None more = None
reading_of (Some h) more = work_reading h.work h.position more

abbrev IsQuiet : Option Holding → Type 0
IsQuiet o = (more : ℕ) → reading_of o more ≡ None

-- no call of the writer is to be made, and the tail isn't past its end
abbrev Below : Option ℕ → ℕ → Type 0
Below None p = Unit {0}
Below (Some last) p = p ≤ last

abbrev WorkCalm : Work → ℕ → WriterView → Type 0
WorkCalm Free p w = Unit {0}
WorkCalm (Tails until node heard) p w = (next_call w ≡ None) × Below until p
WorkCalm (Logs ahead dues) p w = Unit {0}
WorkCalm Broken p w = Unit {0}

abbrev Calm : Option Holding → WriterView → Type 0
Calm None w = Unit {0}
Calm (Some h) w = WorkCalm h.work h.position w

work_calm : (x : Work) (p : ℕ) (w : WriterView) → ((more : ℕ) → work_reading x p more ≡ None) → WorkCalm x p w
work_calm Free p w q = tt
work_calm (Tails until node heard) p w q = absurd (cc (q 0))
work_calm (Logs ahead dues) p w q = tt
work_calm Broken p w q = tt

quiet_calm : (o : Option Holding) (w : WriterView) → IsQuiet o → Calm o w
quiet_calm None w q = tt
quiet_calm (Some h) w q = work_calm h.work h.position w q

-- ## A maker in the actor's place
abbrev maker_at : Option Reading → List Chore → WriterView → Maker
maker_at None cs w = maker_of cs w
maker_at (Some r) cs w = record { chores = cs; writer = w; reading = Some r }

abbrev CanMake : Option Holding → WriterView → List Record → Type 0
CanMake o w rs = (cs : List Chore) × (more : ℕ) × HaveBodies cs × IsMade (maker_at (reading_of o more) cs w) rs

abbrev Can : Actor → List Record → Type 0
Can a rs = (w : WriterView) → Alike w a.writer → CanMake a.holds w rs

-- between chores
abbrev CanBegin : WriterView → List Record → Type 0
CanBegin w rs = (cs : List Chore) × HaveBodies cs × IsMade (maker_of cs w) rs

-- what a step leaves, and the way back from there
record Step (rs : List Record) (a b : Actor) : Type 0 where
  back : Can b rs → Can a rs
  calm : Calm b.holds b.writer

at_quiet : (o : Option Holding) (w : WriterView) (rs : List Record) → IsQuiet o → CanMake o w rs → CanBegin w rs
at_quiet o w rs q c = (c.0, c.2, subst (λ (r : Option Reading). IsMade (maker_at r c.0 w) rs) (q c.1) c.3)

from_quiet : (o : Option Holding) (w : WriterView) (rs : List Record) → IsQuiet o → CanBegin w rs → CanMake o w rs
from_quiet o w rs q c = (c.0, 0, c.1, subst (λ (r : Option Reading). IsMade (maker_at r c.0 w) rs) (sym (q 0)) c.2)

quiet_step : (rs : List Record) (a b : Actor) → b.writer ≡ a.writer → IsQuiet a.holds → IsQuiet b.holds → Step rs a b
quiet_step rs a b e q r = record {
  back = λ can w al. from_quiet a.holds w rs q (at_quiet b.holds w rs r (can w (subst (Alike w) (sym e) al)));
  calm = quiet_calm b.holds b.writer r;
}

-- a task begins
writes_first : (t : Task) (cs : List Chore) (w : WriterView) → next_call w ≡ None → maker_of (Writes t ∷ cs) w ≡ maker_of cs (writer_begun w t).writer
unfolding maker_of
writes_first t cs w none = cond-false (is_some (next_call w)) (record { chores = Writes t ∷ cs; writer = w; reading = None }) (maker_of cs (writer_begun w t).writer) (ap is_some none)

task_step : (rs : List Record) (a b : Actor) (t : Task) → HasBody t → next_call a.writer ≡ None → (writer_begun a.writer t).begun ≡ begun.Going → b.writer ≡ (writer_begun a.writer t).writer
    → IsQuiet a.holds → IsQuiet b.holds → Step rs a b
unfolding HaveBodies
task_step rs a b t body none going e q r = record { back = back; calm = quiet_calm b.holds b.writer r }
  where
    back : Can b rs → Can a rs
    back can w al =
        let v : WriterView = (writer_begun a.writer t).writer in
        let c : CanBegin v rs = at_quiet b.holds v rs r (can v (inl e)) in
        let free : next_call w ≡ None = alike_none w a.writer al none in
        let same : maker_of (Writes t ∷ c.0) w ≡ maker_of c.0 v = writes_first t c.0 w free ∙ ap (maker_of c.0) (alike_begins w a.writer t al going) in
        from_quiet a.holds w rs q (Writes t ∷ c.0, (body, c.1), subst (λ (m : Maker). IsMade m rs) (sym same) c.2)

-- a tail begins
reads_first : (p more : ℕ) (cs : List Chore) (w : WriterView) → next_call w ≡ None
    → maker_of (ReadsOn p more ∷ cs) w ≡ record { chores = cs; writer = w; reading = Some (record { position = p; node = 1; more = more }) }
unfolding maker_of
reads_first p more cs w none =
    cond-false (is_some (next_call w)) (record { chores = ReadsOn p more ∷ cs; writer = w; reading = None })
    (record { chores = cs; writer = w; reading = Some (record { position = p; node = 1; more = more }) }) (ap is_some none)

begins_reading : (rs : List Record) (until : Option ℕ) (h : Holding) (w : WriterView) → next_call w ≡ None → CanMake (Some (with_work (Tails until 1 []) h)) w rs → CanBegin w rs
unfolding HaveBodies
begins_reading rs until h w none c = (ReadsOn h.position c.1 ∷ c.0, c.2, subst (λ (m : Maker). IsMade m rs) (sym (reads_first h.position c.1 c.0 w none)) c.3)

-- ## A pass of a tail begins, or its end is reached
abbrev NotAt : Option ℕ → ℕ → Type 0
NotAt None p = Unit {0}
NotAt (Some last) p = last ≢ p

abbrev PassIs : Option ℕ → Holding → Type 0
PassIs until h = (pass_begun until h ≡ Ends Reached (with_work Free h)) ⊎ ((pass_begun until h ≡ GoesOn (with_work (Tails until 1 []) h)) × NotAt until h.position)

abbrev either_pass : Option ℕ → Holding → Bool → TailStep
either_pass until h b = cond b (Ends Reached (with_work Free h)) (GoesOn (with_work (Tails until 1 []) h))

pass_is : (until : Option ℕ) (h : Holding) → PassIs until h
unfolding pass_begun
pass_is None h = inr (refl, tt)
pass_is (Some last) h =
    elim (eqb_tells last h.position) [
      | inl e ↦ inl (ap (either_pass (Some last) h) e.0)
      | inr e ↦ inr (ap (either_pass (Some last) h) e.0, e.1)
    ]

ended_quiet : (until : Option ℕ) (end : TailEnd) (h : Holding) (a : Actor) → h.work ≡ Free → IsQuiet (tail_ended until end h a).holds
unfolding tail_ended
ended_quiet None end h a e = λ more. ap (λ (x : Work). work_reading x h.position more) e
ended_quiet (Some last) Reached h a e = λ more. refl
ended_quiet (Some last) Caught h a e = λ more. ap (λ (x : Work). work_reading x h.position more) e
ended_quiet (Some last) (PurgedFrom first) h a e = λ more. ap (λ (x : Work). work_reading x h.position more) e
ended_quiet (Some last) (BehindBy causes) h a e = λ more. ap (λ (x : Work). work_reading x h.position more) e

reached_writer : (until : Option ℕ) (h : Holding) (a : Actor) → (tail_ended until Reached h a).writer ≡ a.writer
unfolding tail_ended
reached_writer None h a = refl
reached_writer (Some last) h a = refl

ended_alike : (until : Option ℕ) (end : TailEnd) (h : Holding) (a : Actor) (w : WriterView) → Alike w a.writer → next_call a.writer ≡ None → Alike w (tail_ended until end h a).writer
unfolding tail_ended
ended_alike None end h a w al none = al
ended_alike (Some last) Reached h a w al none = al
ended_alike (Some last) Caught h a w al none = alike_stopped w a.writer al none
ended_alike (Some last) (PurgedFrom first) h a w al none = alike_stopped w a.writer al none
ended_alike (Some last) (BehindBy causes) h a w al none = alike_stopped w a.writer al none

-- a tail that begins, of an actor between calls
record Begins (rs : List Record) (v : WriterView) (b : Actor) : Type 0 where
  back : Can b rs → CanBegin v rs
  calm : Calm b.holds b.writer

begins_quiet : (rs : List Record) (v : WriterView) (b : Actor) → b.writer ≡ v → IsQuiet b.holds → Begins rs v b
begins_quiet rs v b e q = record { back = λ can. at_quiet b.holds v rs q (can v (inl e)); calm = quiet_calm b.holds b.writer q }

pass_begins : (rs : List Record) (until : Option ℕ) (h : Holding) (a : Actor) → Below until h.position → next_call a.writer ≡ None → Begins rs a.writer (tail_stepped until (pass_begun until h) a)
unfolding tail_stepped
pass_begins rs until h a below none = by (pass_is until h)
  where
    going : Begins rs a.writer (tail_stepped until (GoesOn (with_work (Tails until 1 []) h)) a)
    going = record { back = λ can. begins_reading rs until h a.writer none (can a.writer (inl refl)); calm = (none, below) }

    ending : Begins rs a.writer (tail_stepped until (Ends Reached (with_work Free h)) a)
    ending = begins_quiet rs a.writer (tail_ended until Reached (with_work Free h) a) (reached_writer until (with_work Free h) a) (ended_quiet until Reached (with_work Free h) a refl)

    by : PassIs until h → Begins rs a.writer (tail_stepped until (pass_begun until h) a)
    by (inl e) = subst (λ (x : TailStep). Begins rs a.writer (tail_stepped until x a)) (sym e) ending
    by (inr e) = subst (λ (x : TailStep). Begins rs a.writer (tail_stepped until x a)) (sym e.0) going

-- ## Actions
-- an actor that wants nothing
record Idle (a : Actor) : Type 0 where
  quiet : IsQuiet a.holds
  none : next_call a.writer ≡ None

work_idle : (x : Work) (p : ℕ) (w : WriterView) → is_wanting (work_read x p (call_wanted (next_call w))) ≡ false → ((more : ℕ) → work_reading x p more ≡ None) × (next_call w ≡ None)
unfolding is_wanting
work_idle Free p w e = (λ more. refl, rests_by (next_call w) e)
work_idle (Tails until node heard) p w e = absurd (cc e)
work_idle (Logs ahead dues) p w e = (λ more. refl, rests_by (next_call w) e)
work_idle Broken p w e = (λ more. refl, rests_by (next_call w) e)

holds_idle : (o : Option Holding) (w : WriterView) → is_wanting (read_first o (call_wanted (next_call w))) ≡ false → IsQuiet o × (next_call w ≡ None)
unfolding read_first
holds_idle None w e = (λ more. refl, rests_by (next_call w) e)
holds_idle (Some h) w e = work_idle h.work h.position w e

idle_of : (a : Actor) → (is_wanting (wants a) || is_broken a) ≡ false → Idle a
idle_of a e =
    let r : Resting a = resting a (or_false (is_wanting (wants a)) (is_broken a) e) in
    let i : IsQuiet a.holds × (next_call a.writer ≡ None) = holds_idle a.holds a.writer r.want in
    record { quiet = i.0; none = i.1 }

does_step : (rs : List Record) (t : Task) (a : Actor) (b : Begun) → Idle a → HasBody t → (writer_begun a.writer t).begun ≡ b → Step rs a (task_begun t (writer_begun a.writer t).writer a b)
unfolding task_begun
does_step rs t a begun.Going i body e = task_step rs a (record a { writer = (writer_begun a.writer t).writer; doing = Some t }) t body i.none e refl i.quiet i.quiet
does_step rs t a begun.NotActive i body e = quiet_step rs a _ refl i.quiet i.quiet
does_step rs t a (begun.TooLong number) i body e = quiet_step rs a _ refl i.quiet i.quiet

copy_step : (rs : List Record) (k n : ℕ) (o : Option Request) (a : Actor) → Idle a → Step rs a (make_copy k n o a)
unfolding make_copy
copy_step rs k n None a i = quiet_step rs a _ refl i.quiet i.quiet
copy_step rs k n (Some q) a i = quiet_step rs a _ refl i.quiet i.quiet

sync_step : (rs : List Record) (b : Begun) (x : Submission) (h : Holding) (a : Actor) → Idle a → HasBody (task.Log x.bodies) → (writer_begun a.writer (task.Log x.bodies)).begun ≡ b
    → Step rs a (begin_sync b (writer_begun a.writer (task.Log x.bodies)).writer x h a)
sync_step rs begun.Going x h a i body e =
    task_step rs a (record a {
      writer = (writer_begun a.writer (task.Log x.bodies)).writer;
      doing = Some (task.Log x.bodies);
      holds = Some (with_work (Logs x.ahead x.dues) h);
    }) (task.Log x.bodies) body i.none e refl i.quiet
    (λ more. refl)
sync_step rs begun.NotActive x h a i body e = quiet_step rs a _ refl i.quiet i.quiet
sync_step rs (begun.TooLong number) x h a i body e = quiet_step rs a _ refl i.quiet i.quiet

some_bodies : (bodies all : List (List ℕ)) (b : List ℕ) (bs : List (List ℕ)) → bodies ≡ all → all ≡ b ∷ bs → bodies ≢ []
some_bodies bodies all b bs e f g = cc (e, f, g)

synced_step : (rs : List Record) (bodies : List (List ℕ)) (x : Submission) (h : Holding) (a : Actor) → Idle a → x.bodies ≡ bodies → Step rs a (after_sync bodies x h a)
synced_step rs [] x h a i e = quiet_step rs a _ refl i.quiet i.quiet
synced_step rs (b ∷ bs) x h a i e = sync_step rs (writer_begun a.writer (task.Log x.bodies)).begun x h a i (some_bodies x.bodies (b ∷ bs) b bs e refl) refl

logged_step : (rs : List Record) (b : Bool) (es : List EditView) (h : Holding) (a : Actor) → Idle a → Step rs a (logged_when b es h a)
unfolding logged_when
logged_step rs true es h a i = synced_step rs (submit_edits a.writer es (nothing_submitted h.space)).bodies (submit_edits a.writer es (nothing_submitted h.space)) h a i refl
logged_step rs false es h a i = quiet_step rs a _ refl i.quiet i.quiet

trim_step : (rs : List Record) (b : Bool) (min : Option ℕ) (a : Actor) → Idle a → is_writing a.writer.phase ≡ b → Step rs a (trim_at b min a)
unfolding trim_at
trim_step rs false min a i e = quiet_step rs a _ refl i.quiet i.quiet
trim_step rs true None a i e = quiet_step rs a _ refl i.quiet i.quiet
trim_step rs true (Some min) a i e = task_step rs a (record a {
  writer = (writer_begun a.writer (task.Purge min)).writer;
  doing = Some (task.Purge min);
}) (task.Purge min) tt i.none (purge_begins a.writer min e) refl i.quiet i.quiet

unless_step : (rs : List Record) (b : Bool) (c a : Actor) → Idle a → Step rs a c → Step rs a (unless_active b c a)
unless_step rs true c a i s = quiet_step rs a _ refl i.quiet i.quiet
unless_step rs false c a i s = s

-- a tail without an end
tail_step : (rs : List Record) (h : Holding) (a : Actor) → Idle a → Step rs a (tail_stepped None (pass_begun None h) a)
unfolding tail_stepped pass_begun
tail_step rs h a i = record {
  back = λ can w al. from_quiet a.holds w rs i.quiet (begins_reading rs None h w (alike_none w a.writer al i.none) (can w al));
  calm = (i.none, tt);
}

reloaded_quiet : (h : Holding) → IsQuiet (Some (reload_image h))
unfolding reload_image
reloaded_quiet h = λ more. ap (λ (x : Work). work_reading x (load_image h.images (record h { work = Free })).position more) (loaded_work h.images (record h { work = Free }))

saved_quiet : (h : Holding) → IsQuiet (Some h) → IsQuiet (Some (save_image h))
unfolding save_image
saved_quiet h q = q

held_step : (rs : List Record) (d : Action) (o : Option Holding) (a : Actor) → a.holds ≡ o → Idle a → Step rs a (take_named_action d o a)
unfolding take_named_action
held_step rs (Does t) o a e i = quiet_step rs a _ refl i.quiet i.quiet
held_step rs (DoDrop k n) o a e i = quiet_step rs a _ refl i.quiet i.quiet
held_step rs (DoMute k n) o a e i = quiet_step rs a _ refl i.quiet i.quiet
held_step rs (DoLate k n) o a e i = quiet_step rs a _ refl i.quiet i.quiet
held_step rs (Submits es) None a e i = quiet_step rs a _ refl i.quiet i.quiet
held_step rs (Submits es) (Some h) a e i = logged_step rs (is_writing a.writer.phase) es h a i
held_step rs (Trims extra) None a e i = quiet_step rs a _ refl i.quiet i.quiet
held_step rs (Trims extra) (Some h) a e i = trim_step rs (is_writing a.writer.phase) (min_to_keep extra h.images) a i refl
held_step rs DoTail None a e i = quiet_step rs a _ refl i.quiet i.quiet
held_step rs DoTail (Some h) a e i = unless_step rs (is_writing a.writer.phase) (tail_stepped None (pass_begun None h) a) a i (tail_step rs h a i)
held_step rs Saves None a e i = quiet_step rs a _ refl i.quiet i.quiet
held_step rs Saves (Some h) a e i = unless_step rs (is_writing a.writer.phase) (begin_save h a) a i
    (quiet_step rs a (begin_save h a) refl i.quiet (saved_quiet h (subst (λ (x : Option Holding). IsQuiet x) e i.quiet)))
held_step rs Reloads None a e i = quiet_step rs a _ refl i.quiet i.quiet
held_step rs Reloads (Some h) a e i = unless_step rs (is_writing a.writer.phase) (begin_reload h a) a i (quiet_step rs a (begin_reload h a) refl i.quiet (reloaded_quiet h))

task_body : (named : Bool) (t : Task) → IsTask named t → HasBody t
task_body false t h = h
task_body true task.Takeover h = tt
task_body true task.Roll h = tt
task_body true task.Close h = tt
task_body true (task.Log bodies) h = absurd h
task_body true (task.Purge min) h = tt

action_step : (named : Bool) (rs : List Record) (d : Action) (a : Actor) → IsAction named d → Idle a → Step rs a (take_action d a)
unfolding take_action
action_step named rs (Does t) a d i = does_step rs t a (writer_begun a.writer t).begun i (task_body named t d) refl
action_step named rs (DoDrop k n) a d i = quiet_step rs a _ refl i.quiet i.quiet
action_step named rs (DoMute k n) a d i = quiet_step rs a _ refl i.quiet i.quiet
action_step named rs (DoLate k n) a d i = copy_step rs k n _ a i
action_step named rs (Submits es) a d i = held_step rs (Submits es) a.holds a refl i
action_step named rs (Trims extra) a d i = held_step rs (Trims extra) a.holds a refl i
action_step named rs DoTail a d i = held_step rs DoTail a.holds a refl i
action_step named rs Saves a d i = held_step rs Saves a.holds a refl i
action_step named rs Reloads a d i = held_step rs Reloads a.holds a refl i

-- all actions that are taken
record Settled (rs : List Record) (named : Bool) (a b : Actor) : Type 0 where
  back : Can b rs → Can a rs
  calm : Calm b.holds b.writer
  actions : AreActions named b.todo

settled_step : (named : Bool) (rs : List Record) (ds : List Action) (a : Actor) → AreActions named ds → Calm a.holds a.writer → Settled rs named a (settle ds a)
unfolding settle AreActions
settled_step named rs [] a d c = record { back = λ can. can; calm = c; actions = tt }
settled_step named rs (d ∷ ds) a e c = by (is_wanting (wants a) || is_broken a) refl (settled_step named rs ds (take_action d a) e.1)
  where
    by : (b : Bool) → (is_wanting (wants a) || is_broken a) ≡ b → (Calm (take_action d a).holds (take_action d a).writer → Settled rs named (take_action d a) (settle ds (take_action d a)))
        → Settled rs named a (cond b (record a { todo = while_wanting (is_wanting (wants a)) (d ∷ ds) }) (settle ds (take_action d a)))
    by true is go = record { back = λ can. can; calm = c; actions = waiting_actions named (is_wanting (wants a)) (d ∷ ds) e }
    by false is go =
        let s : Step rs a (take_action d a) = action_step named rs d a e.0 (idle_of a is) in
        let more : Settled rs named (take_action d a) (settle ds (take_action d a)) = go s.calm in
        record { back = λ can. s.back (more.back can); calm = more.calm; actions = more.actions }

-- ## An answer to a read
all_position : (p : ℕ) (bodies : List (List ℕ)) (s z : Space) (t : ℕ) → applied p bodies s ≡ All z t → t ≡ p + length bodies
unfolding applied
all_position p [] s z t e = let same : p ≡ t = cc e in omega (arith, same)
all_position p (b ∷ bodies) s z t e = by (λ y. all_position (p + 1) bodies y z t) (entered (p + 1) b s) e
  where
    by : ((y : Space) → applied (p + 1) bodies y ≡ All z t → t ≡ p + 1 + length bodies) → (o : Option Space) → applied_next o p s (applied (p + 1) bodies) ≡ All z t → t ≡ p + length (b ∷ bodies)
    by go None f = absurd (cc f)
    by go (Some y) f = omega (arith, go y f)

taken_more : (n k m : ℕ) → n ≤ k → (n ≡ k) ⊎ (n ≡ m) → (suc n ≤ suc k) × ((suc n ≡ suc k) ⊎ (suc n ≡ suc m))
taken_more n k m l (inl e) = (omega (arith, l), inl (ap suc e))
taken_more n k m l (inr e) = (omega (arith, l), inr (ap suc e))

taken : (k : ℕ) (xs : List (List ℕ)) → (length (take k xs) ≤ k) × ((length (take k xs) ≡ k) ⊎ (length (take k xs) ≡ length xs))
taken zero [] = (omega arith, inr refl)
taken zero (x ∷ xs) = (omega arith, inl refl)
taken (suc k) [] = (omega arith, inr refl)
taken (suc k) (x ∷ xs) = let t = taken k xs in taken_more (length (take k xs)) k (length xs) t.0 t.1

abbrev ReadTo : Option ℕ → ℕ → List (List ℕ) → ℕ → Type 0
ReadTo until p bodies t = Below until t × (NotAt until t → t ≡ p + length bodies)

read_some : (last p t n m : ℕ) → p ≤ last → t ≡ p + n → n ≤ last - p → (n ≡ last - p) ⊎ (n ≡ m) → (t ≤ last) × (last ≢ t → t ≡ p + m)
read_some last p t n m below f l (inl k) = (omega (arith, l, f, below), λ off. let same : last ≡ t = omega (arith, k, f, below) in absurd (off same))
read_some last p t n m below f l (inr k) = (omega (arith, l, f, below), λ off. omega (arith, k, f))

read_to : (until : Option ℕ) (p : ℕ) (bodies : List (List ℕ)) (s z : Space) (t : ℕ) → Below until p → applied p (up_to until p bodies) s ≡ All z t → ReadTo until p bodies t
read_to None p bodies s z t below e = (tt, λ off. all_position p bodies s z t e)
read_to (Some last) p bodies s z t below e =
    let n = taken (last - p) bodies in
    read_some last p t (length (take (last - p) bodies)) (length bodies) below (all_position p (take (last - p) bodies) s z t e) n.0 n.1

abbrev reading_at : ℕ → ℕ → ℕ → Reading
reading_at p node more = record { position = p; node = node; more = more }

abbrev at_node : List Chore → WriterView → ℕ → ℕ → ℕ → Maker
at_node cs w p node more = record { chores = cs; writer = w; reading = Some (reading_at p node more) }

-- what a maker makes of the answer, in the place of an actor that it leaves so
record Reads (rs : List Record) (p node : ℕ) (t : Told) (a b : Actor) : Type 0 where
  back : Can b rs → (w : WriterView) → Alike w a.writer → (cs : List Chore) × (more : ℕ) × HaveBodies cs × IsMade (read_heard (reading_at p node more) t (at_node cs w p node more)) rs
  calm : Calm b.holds b.writer

-- no edits
record ReadsNone (rs : List Record) (p node : ℕ) (a b : Actor) : Type 0 where
  back : Can b rs → (w : WriterView) → Alike w a.writer → (cs : List Chore) × (more : ℕ) × HaveBodies cs × IsMade (next_node (reading_at p node more) (at_node cs w p node more)) rs
  calm : Calm b.holds b.writer

-- the tail is over
edits_over : (rs : List Record) (p node : ℕ) (batch : BatchView) (a b : Actor) → b.writer ≡ a.writer → IsQuiet b.holds → Reads rs p node (told.Reply (reply.Edits batch)) a b
edits_over rs p node batch a b e q = record {
  back = λ can w al. let c : CanBegin w rs = at_quiet b.holds w rs q (can w (subst (Alike w) (sym e) al)) in (c.0, 0, c.1, c.2);
  calm = quiet_calm b.holds b.writer q;
}

-- another pass
edits_more : (rs : List Record) (node : ℕ) (until : Option ℕ) (batch : BatchView) (h z : Holding) (a : Actor) → next_call a.writer ≡ None
    → Below until z.position → z.position ≡ h.position + length batch.bodies
    → Reads rs h.position node (told.Reply (reply.Edits batch)) a (record a { holds = Some (with_work (Tails until 1 []) z) })
edits_more rs node until batch h z a none below e = record {
  back = λ can w al.
      let c : CanMake (Some (with_work (Tails until 1 []) z)) w rs = can w al in
      (c.0, suc c.1, c.2, subst (λ (p : ℕ). IsMade (at_node c.0 w p 1 c.1) rs) e c.3);
  calm = (none, below);
}

edits_all : (rs : List Record) (node : ℕ) (until : Option ℕ) (batch : BatchView) (h z : Holding) (a : Actor) → next_call a.writer ≡ None → PassIs until z → Below until z.position
    → (NotAt until z.position → z.position ≡ h.position + length batch.bodies) → Reads rs h.position node (told.Reply (reply.Edits batch)) a (tail_stepped until (pass_begun until z) a)
unfolding tail_stepped
edits_all rs node until batch h z a none (inl f) below to =
    subst (λ (y : TailStep). Reads rs h.position node (told.Reply (reply.Edits batch)) a (tail_stepped until y a)) (sym f)
    (edits_over rs h.position node batch a (tail_ended until Reached (with_work Free z) a) (reached_writer until (with_work Free z) a) (ended_quiet until Reached (with_work Free z) a refl))
edits_all rs node until batch h z a none (inr f) below to =
    subst (λ (y : TailStep). Reads rs h.position node (told.Reply (reply.Edits batch)) a (tail_stepped until y a)) (sym f.0) (edits_more rs node until batch h z a none below (to f.1))

edits_by : (rs : List Record) (node : ℕ) (until : Option ℕ) (batch : BatchView) (h : Holding) (a : Actor) (x : Applied) → next_call a.writer ≡ None → Below until h.position
    → applied h.position (up_to until h.position batch.bodies) h.space ≡ x → Reads rs h.position node (told.Reply (reply.Edits batch)) a (tail_stepped until (after_applied until x h) a)
unfolding tail_stepped
edits_by rs node until batch h a (BadEntry s txid) none below e = edits_over rs h.position node batch a _ refl (λ more. refl)
edits_by rs node until batch h a (All s t) none below e =
    let k : ReadTo until h.position batch.bodies t = read_to until h.position batch.bodies h.space s t below e in
    let z : Holding = record h { space = s; position = t } in
    edits_all rs node until batch h z a none (pass_is until z) k.0 k.1

node_more : (cs : List Chore) (w : WriterView) (p node more n : ℕ) (b : Bool) → n ≡ length w.left → nat_lt node n ≡ b
    → next_node (reading_at p node more) (at_node cs w p node more) ≡ cond b (at_node cs w p (node + 1) more) (maker_of cs w)
node_more cs w p node more n b e f = ap (λ (x : Bool). cond x (at_node cs w p (node + 1) more) (maker_of cs w)) (ap (nat_lt node) (sym e) ∙ f)

none_by : (rs : List Record) (until : Option ℕ) (node : ℕ) (heard : List Heard) (h : Holding) (a : Actor) (b : Bool) → next_call a.writer ≡ None
    → Below until h.position → nat_lt node (length a.writer.left) ≡ b
    → ReadsNone rs h.position node a (tail_stepped until (cond b (GoesOn (with_work (Tails until (node + 1) heard) h)) (Ends (pass_end until heard) (with_work Free h))) a)
unfolding tail_stepped
none_by rs until node heard h a true none below e = record {
  back = λ can w al.
      let c : CanMake (Some (with_work (Tails until (node + 1) heard) h)) w rs = can w al in
      (c.0, c.1, c.2, subst (λ (m : Maker). IsMade m rs) (sym (node_more c.0 w h.position node c.1 (length a.writer.left) true (alike_left w a.writer al) e)) c.3);
  calm = (none, below);
}
none_by rs until node heard h a false none below e = record {
  back = λ can w al.
      let q : IsQuiet (tail_ended until (pass_end until heard) (with_work Free h) a).holds = ended_quiet until (pass_end until heard) (with_work Free h) a refl in
      let c : CanBegin w rs = at_quiet (tail_ended until (pass_end until heard) (with_work Free h) a).holds w rs q (can w (ended_alike until (pass_end until heard) (with_work Free h) a w al none)) in
      (c.0, 0, c.1, subst (λ (m : Maker). IsMade m rs) (sym (node_more c.0 w h.position node 0 (length a.writer.left) false (alike_left w a.writer al) e)) c.2);
  calm = quiet_calm (tail_ended until (pass_end until heard) (with_work Free h) a).holds
      (tail_ended until (pass_end until heard) (with_work Free h) a).writer (ended_quiet until (pass_end until heard) (with_work Free h) a refl);
}

none_step : (rs : List Record) (until : Option ℕ) (node : ℕ) (heard : List Heard) (h : Holding) (a : Actor) → next_call a.writer ≡ None → Below until h.position
    → ReadsNone rs h.position node a (tail_stepped until (no_edits (length a.writer.left) until node heard h) a)
none_step rs until node heard h a none below = none_by rs until node heard h a (nat_lt node (length a.writer.left)) none below refl

read_step : (rs : List Record) (until : Option ℕ) (node : ℕ) (heard : List Heard) (t : Told) (h : Holding) (a : Actor) → next_call a.writer ≡ None → Below until h.position
    → Reads rs h.position node t a (tail_stepped until (tail_hears (length a.writer.left) until node heard (heard_of t) h) a)
unfolding tail_hears
read_step rs until node heard (told.Reply (reply.Edits batch)) h a none below = edits_by rs node until batch h a (applied h.position (up_to until h.position batch.bodies) h.space) none below refl
read_step rs until node heard (told.Reply reply.Ok) h a none below = let x = none_step rs until node (heard ++ Answer reply.Ok ∷ []) h a none below in record { back = x.back; calm = x.calm }
read_step rs until node heard (told.Reply (reply.State p)) h a none below = let x =
    none_step rs until node (heard ++ Answer (reply.State p) ∷ []) h a none below in record { back = x.back; calm = x.calm }
read_step rs until node heard (told.Reply (reply.NewEpoch o)) h a none below = let x =
    none_step rs until node (heard ++ Answer (reply.NewEpoch o) ∷ []) h a none below in record { back = x.back; calm = x.calm }
read_step rs until node heard (told.Reply (reply.Prepared x y z)) h a none below = let s =
    none_step rs until node (heard ++ Answer (reply.Prepared x y z) ∷ []) h a none below in record { back = s.back; calm = s.calm }
read_step rs until node heard (told.Reply (reply.Segments ls)) h a none below = let x =
    none_step rs until node (heard ++ Answer (reply.Segments ls) ∷ []) h a none below in record { back = x.back; calm = x.calm }
read_step rs until node heard (told.Reply (reply.Refused f)) h a none below = let x =
    none_step rs until node (heard ++ Answer (reply.Refused f) ∷ []) h a none below in record { back = x.back; calm = x.calm }
read_step rs until node heard told.Dropped h a none below = let x = none_step rs until node (heard ++ Silent ∷ []) h a none below in record { back = x.back; calm = x.calm }
read_step rs until node heard told.Muted h a none below = let x = none_step rs until node (heard ++ Silent ∷ []) h a none below in record { back = x.back; calm = x.calm }
read_step rs until node heard told.Silent h a none below = let x = none_step rs until node (heard ++ Silent ∷ []) h a none below in record { back = x.back; calm = x.calm }

-- ## The end of a task
entered_below : (last : ℕ) (h : Holding) → (enters last h).position ≤ last
entered_below last h = by (nat_lt last h.position) refl
  where
    by : (b : Bool) → nat_lt last h.position ≡ b → (cond b (empty_holding h) h).position ≤ last
    by true e = omega arith
    by false e = grind (arith, nat_tests)

logs_begins : (rs : List Record) (work : Work) (first last : ℕ) (h : Holding) (a : Actor) → IsQuiet a.holds → Begins rs a.writer (logs_done work first last h a)
unfolding logs_done
logs_begins rs Free first last h a q = begins_quiet rs a.writer a refl q
logs_begins rs (Tails until node heard) first last h a q = begins_quiet rs a.writer a refl q
logs_begins rs (Logs ahead dues) first last h a q = begins_quiet rs a.writer _ refl (λ more. refl)
logs_begins rs Broken first last h a q = begins_quiet rs a.writer a refl q

done_begins : (rs : List Record) (o : TaskOutcome) (t : Task) (h : Holding) (a : Actor) → IsQuiet a.holds → next_call a.writer ≡ None → Begins rs a.writer (task_done o t h a)
unfolding task_done
done_begins rs (outcome.Takeover epoch first) t h a q none = pass_begins rs (Some (first - 1)) (enters (first - 1) h) a (entered_below (first - 1) h) none
done_begins rs (outcome.Log first last) t h a q none = logs_begins rs h.work first last h a q
done_begins rs (outcome.Roll start) t h a q none = begins_quiet rs a.writer _ refl (λ more. refl)
done_begins rs (outcome.Close last) t h a q none = begins_quiet rs a.writer _ refl (λ more. refl)
done_begins rs outcome.Purge (task.Purge min) h a q none = begins_quiet rs a.writer _ refl q
done_begins rs outcome.Purge task.Takeover h a q none = begins_quiet rs a.writer a refl q
done_begins rs outcome.Purge (task.Log bodies) h a q none = begins_quiet rs a.writer a refl q
done_begins rs outcome.Purge task.Roll h a q none = begins_quiet rs a.writer a refl q
done_begins rs outcome.Purge task.Close h a q none = begins_quiet rs a.writer a refl q

abbrev FreeAfter : Turn → WriterView → Type 0
FreeAfter x w = is_going x ≡ false → next_call w ≡ None

held_begins : (rs : List Record) (x : Turn) (s : Task) (h : Holding) (a : Actor) → IsQuiet a.holds → FreeAfter x a.writer → Begins rs a.writer (held_turn x s h a)
unfolding held_turn
held_begins rs turn.Going s h a q free = begins_quiet rs a.writer a refl q
held_begins rs (turn.Done o) s h a q free = done_begins rs o s h a q (free refl)
held_begins rs turn.Aborted s h a q free = begins_quiet rs a.writer _ refl (reloaded_quiet h)
held_begins rs (turn.EpochLimit n) s h a q free = begins_quiet rs a.writer _ refl q

with_begins : (rs : List Record) (o : Option Holding) (x : Turn) (s : Task) (a : Actor) → IsQuiet a.holds → FreeAfter x a.writer → Begins rs a.writer (turn_with o x s a)
unfolding turn_with
with_begins rs None x s a q free = begins_quiet rs a.writer _ refl q
with_begins rs (Some h) x s a q free = held_begins rs x s h a q free

turn_begins : (rs : List Record) (x : Turn) (d : Option Task) (a : Actor) → IsQuiet a.holds → FreeAfter x a.writer → Begins rs a.writer (turn_taken x d a)
unfolding turn_taken
turn_begins rs turn.Going d a q free = begins_quiet rs a.writer a refl q
turn_begins rs (turn.Done o) None a q free = begins_quiet rs a.writer a refl q
turn_begins rs (turn.Done o) (Some s) a q free = with_begins rs a.holds (turn.Done o) s (record a { doing = None }) q free
turn_begins rs turn.Aborted None a q free = begins_quiet rs a.writer a refl q
turn_begins rs turn.Aborted (Some s) a q free = with_begins rs a.holds turn.Aborted s (record a { doing = None }) q free
turn_begins rs (turn.EpochLimit n) None a q free = begins_quiet rs a.writer a refl q
turn_begins rs (turn.EpochLimit n) (Some s) a q free = with_begins rs a.holds (turn.EpochLimit n) s (record a { doing = None }) q free

-- ## A line of its record
record LineMade (rs : List Record) (r : Record) (a b : Actor) : Type 0 where
  back : Can b rs → Can a (r ∷ rs)
  calm : Calm b.holds b.writer

phase_free : (x : Phase) (w : WriterView) → is_under_way x ≡ false → call_in x w ≡ None
phase_free (phase.InRound r) w e = absurd (cc e)
phase_free phase.Idle w e = refl
phase_free phase.Writing w e = refl
phase_free phase.Stopped w e = refl

free_after : (w : WriterView) (k : ℕ) (q : Request) (t : Told) → next_call w ≡ Some (k, q) → FreeAfter (writer_heard w k (heard_of t)).turn (writer_heard w k (heard_of t)).writer
free_after w k q t e f =
    phase_free (writer_heard w k (heard_of t)).writer.phase (writer_heard w k (heard_of t)).writer (turn_tells w k (heard_of t) (call_under w k q e) ∙ f)

-- the maker's writer makes the call and hears the answer
call_made : (rs : List Record) (a : Actor) (w : WriterView) (k : ℕ) (q : Request) (t : Told) → Alike w a.writer → IsQuiet a.holds → next_call a.writer ≡ Some (k, q)
    → CanBegin (writer_heard a.writer k (heard_of t)).writer rs → CanMake a.holds w (Call k q t ∷ rs)
unfolding IsMade maker_hears
call_made rs a w k q t al quiet e c =
    let same : a.writer ≡ w = alike_busy w a.writer (k, q) al e in
    let call : next_call w ≡ Some (k, q) = ap (λ (v : WriterView). next_call v) (sym same) ∙ e in
    let made : IsMade (maker_of c.0 (writer_heard w k (heard_of t)).writer) rs = subst (λ (v : WriterView). IsMade (maker_of c.0 (writer_heard v k (heard_of t)).writer) rs) same c.2 in
    from_quiet a.holds w (Call k q t ∷ rs) quiet (c.0, c.1, subst (λ (m : Maker). IsMade m (Call k q t ∷ rs)) (sym (busy_by c.0 w (k, q) call)) (call, made))

judged_line : (rs : List Record) (a : Actor) (k : ℕ) (q : Request) (t : Told) → IsQuiet a.holds → next_call a.writer ≡ Some (k, q)
    → LineMade rs (Call k q t) a (after_judgment (writer_heard a.writer k (heard_of t)) (record a { past = a.past ++ Call k q t ∷ [] }))
judged_line rs a k q t quiet e =
    let j : Judgment = writer_heard a.writer k (heard_of t) in
    let x : Begins rs j.writer (turn_taken j.turn a.doing (record a { past = a.past ++ Call k q t ∷ []; writer = j.writer })) =
    turn_begins rs j.turn a.doing (record a { past = a.past ++ Call k q t ∷ []; writer = j.writer }) quiet (free_after a.writer k q t e) in
    record { back = λ can w al. call_made rs a w k q t al quiet e (x.back can); calm = x.calm }

asked_so : (n k : ℕ) (r q : Request) → WantsCall n r ≡ WantsCall k q → sending n r ≡ sending k q
asked_so n k r q e =
    let first : n ≡ k = cc e in
    let second : r ≡ q = cc e in
    ap (λ (i : ℕ). sending i r) first ∙ ap (λ (x : Request). sending k x) second

read_made : (rs : List Record) (a : Actor) (k : ℕ) (q : Request) (t : Told) (h : Holding) (node : ℕ) (w : WriterView) → ((more : ℕ) → reading_of a.holds more ≡ Some (reading_at h.position node more))
    → sending node (Read (h.position + 1)) ≡ sending k q → (cs : List Chore) × (more : ℕ) × HaveBodies cs
    × IsMade (read_heard (reading_at h.position node more) t (at_node cs w h.position node more)) rs
    → CanMake a.holds w (Call k q t ∷ rs)
unfolding IsMade maker_hears
read_made rs a k q t h node w reading asked c =
    (c.0, c.1, c.2, subst (λ (r : Option Reading). IsMade (maker_at r c.0 w) (Call k q t ∷ rs)) (sym (reading c.1)) (asked, c.3))

read_line : (rs : List Record) (a : Actor) (k : ℕ) (q : Request) (t : Told) (h : Holding) (until : Option ℕ) (node : ℕ) (heard : List Heard) → a.holds ≡ Some h → h.work ≡ Tails until node heard
    → WorkCalm (Tails until node heard) h.position a.writer → WantsCall node (Read (h.position + 1)) ≡ WantsCall k q
    → LineMade rs (Call k q t) a (tail_stepped until (tail_hears (length a.writer.left) until node heard (heard_of t) h) (record a { past = a.past ++ Call k q t ∷ [] }))
read_line rs a k q t h until node heard holds work calm want =
    let b : Actor = record a { past = a.past ++ Call k q t ∷ [] } in
    let x : Reads rs h.position node t b (tail_stepped until (tail_hears (length a.writer.left) until node heard (heard_of t) h) b) = read_step rs until node heard t h b calm.0 calm.1 in
    let reading : (more : ℕ) → reading_of a.holds more ≡ Some (reading_at h.position node more) =
    λ more. ap (λ (o : Option Holding). reading_of o more) holds ∙ ap (λ (y : Work). work_reading y h.position more) work in
    record { back = λ can w al. read_made rs a k q t h node w reading (asked_so node k (Read (h.position + 1)) q want) (x.back can w al); calm = x.calm }

work_line : (rs : List Record) (a : Actor) (k : ℕ) (q : Request) (t : Told) (h : Holding) (x : Work) → a.holds ≡ Some h → h.work ≡ x → WorkCalm x h.position a.writer
    → work_read x h.position (call_wanted (next_call a.writer)) ≡ WantsCall k q → LineMade rs (Call k q t) a (heard_in_work x h k (heard_of t) (record a { past = a.past ++ Call k q t ∷ [] }))
work_line rs a k q t h (Tails until node heard) holds work calm want = read_line rs a k q t h until node heard holds work calm want
work_line rs a k q t h Free holds work calm want = judged_line rs a k q t
    (λ more. ap (λ (o : Option Holding). reading_of o more) holds ∙ ap (λ (y : Work). work_reading y h.position more) work)
    (call_by (next_call a.writer) k q want)
work_line rs a k q t h (Logs ahead dues) holds work calm want = judged_line rs a k q t
    (λ more. ap (λ (o : Option Holding). reading_of o more) holds ∙ ap (λ (y : Work). work_reading y h.position more) work)
    (call_by (next_call a.writer) k q want)
work_line rs a k q t h Broken holds work calm want = judged_line rs a k q t
    (λ more. ap (λ (o : Option Holding). reading_of o more) holds ∙ ap (λ (y : Work). work_reading y h.position more) work)
    (call_by (next_call a.writer) k q want)

call_line : (rs : List Record) (a : Actor) (k : ℕ) (q : Request) (t : Told) (o : Option Holding) → a.holds ≡ o → Calm o a.writer → read_first o (call_wanted (next_call a.writer)) ≡ WantsCall k q
    → LineMade rs (Call k q t) a (heard_by o k (heard_of t) (record a { past = a.past ++ Call k q t ∷ [] }))
unfolding heard_by read_first
call_line rs a k q t None holds calm want = judged_line rs a k q t (λ more. ap (λ (o : Option Holding). reading_of o more) holds) (call_by (next_call a.writer) k q want)
call_line rs a k q t (Some h) holds calm want = work_line rs a k q t h h.work holds refl calm want

moved_line : (rs : List Record) (r : Record) (a : Actor) → Calm a.holds a.writer → Fits (wants a) r → LineMade rs r a (moved_on r (record a { past = a.past ++ r ∷ [] }))
unfolding moved_on IsMade
moved_line rs (Call k q t) a calm f = call_line rs a k q t a.holds refl calm (fits_calling a k q t f).want
moved_line rs (Late k q) a calm f = record { back = λ can. can; calm = calm }
moved_line rs (Operator k ask d) a calm f = absurd (no_operation (wants a) k ask d f)
moved_line rs (Outcome x) a calm f = record { back = λ can. can; calm = calm }

-- ## Along a record
none_made : (r : Option Reading) (w : WriterView) → IsMade (maker_at r [] w) []
unfolding IsMade
none_made None w = tt
none_made (Some r) w = tt

led_can : (named : Bool) (rs : List Record) (a : Actor) → AreActions named a.todo → Calm a.holds a.writer → IsLed a rs → Can a rs
unfolding IsLed HaveBodies goes_on settle_again
led_can named [] a d calm h = λ w al. ([], 0, tt, none_made (reading_of a.holds 0) w)
led_can named (r ∷ rs) a d calm h =
    let old : Actor = record a { past = a.past ++ r ∷ [] } in
    let b : Actor = moved_on r old in
    let l : LineMade rs r a b = moved_line rs r a calm h.0 in
    let s : Settled rs named b (settle b.todo b) = settled_step named rs b.todo b (subst (AreActions named) (sym (moved_keeps r old).0) d) l.calm in
    l.back (s.back (led_can named rs (settle b.todo b) s.actions s.calm h.1))

fresh_quiet : (named : Bool) (n : ℕ) → IsQuiet (fresh_actor named n).holds
unfolding fresh_actor
fresh_quiet true n = λ more. refl
fresh_quiet false n = λ more. refl

fresh_writer : (named : Bool) (n : ℕ) → (fresh_actor named n).writer ≡ new_writer n
unfolding fresh_actor
fresh_writer named n = refl

quiet_made : (named : Bool) (n : ℕ) (ds : List Action) (rs : List Record) (a : Actor) → a.writer ≡ new_writer n → IsQuiet a.holds → AreActions named ds
    → IsLed (settle ds a) rs → IsOfChores n rs
quiet_made named n ds rs a w q d h =
    let s : Settled rs named a (settle ds a) = settled_step named rs ds a d (quiet_calm a.holds a.writer q) in
    let can : Can a rs = s.back (led_can named rs (settle ds a) s.actions s.calm h) in
    at_quiet a.holds (new_writer n) rs q (can (new_writer n) (inl w))

-- the calls of an actor are those of some chores
pub chores_made : (named : Bool) (n : ℕ) (ds : List Action) (rs : List Record) → AreActions named ds → IsLed (settle ds (fresh_actor named n)) rs → IsOfChores n rs
chores_made named n ds rs d h = quiet_made named n ds rs (fresh_actor named n) (fresh_writer named n) (fresh_quiet named n) d h

held_quiet : (o : Option Holding) (x : Holding) → o ≡ Some x → x.work ≡ Free → IsQuiet o
held_quiet o x e f = λ more. ap (λ (p : Option Holding). reading_of p more) e ∙ ap (λ (y : Work). work_reading y x.position more) f

-- also where it begins with a namespace, as that of an image
pub held_made : (n : ℕ) (ds : List Action) (rs : List Record) (a : Actor) (x : Holding) → a.writer ≡ new_writer n → a.holds ≡ Some x → x.work ≡ Free → AreActions true ds
    → IsLed (settle ds a) rs → IsOfChores n rs
held_made n ds rs a x w e f d h = quiet_made true n ds rs a w (held_quiet a.holds x e f) d h
