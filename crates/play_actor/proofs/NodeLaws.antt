-- An actor with names that takes an action: how it begins, and how it comes to rest.
use Rattle.std.proofs.Common.{◌≡◌, ℕ, List, [], ◌∷◌, false, Option, Some, None, refl, sym, ap, ◌∙◌, subst}
use Rattle.std.specs.Prelude.{Result, Ok, Err, IfOk, OnOk}
use Rattle.journal_core.specs.declared.peer_call.PeerCall.{PeerCall}
use Rattle.journal_history.specs.declared.mark.Mark.{Mark}
use Rattle.journal_history.specs.declared.record.Record.{Record}
use Rattle.run_safety.proofs.WriterRange.{begun_sized}
use Rattle.ns_edits.specs.Replay.{Image}
use Rattle.writer_core.specs.declared.phase.Phase.{Phase}
use Rattle.writer_core.specs.declared.phase.Phase.TheVariants as phase
use Rattle.writer_core.specs.declared.task.Task.{Task}
use Rattle.writer_core.specs.declared.task.Begun.TheVariants as begun
use Rattle.writer_core.specs.declared.turn.Turn.{Turn}
use Rattle.writer_core.specs.declared.turn.Outcome.{Outcome}
use Rattle.writer_core.specs.declared.turn.Outcome.TheVariants as outcome
use Rattle.writer_core.specs.Views.{WriterView}
use Rattle.writer_core.specs.Turns.{phase_after}
use Rattle.writer_core.specs.Writer.{call_in, next_call, writer_begun}
use Rattle.writer_core.proofs.LiveLaws.{begun_live}
use Rattle.writer_calls.specs.Tasks.{Ends}
use Rattle.play_names.specs.Holding.{Holding, Free, reload_image}
use Rattle.play_standby.specs.Standbys.{StandbyView, held}
use Rattle.play_calls.specs.Logs.{LogView, calls_in}
use Rattle.play_calls.specs.Made.{MakesCalls}
use Rattle.play_model.specs.Lines.{Action, Does}
use Rattle.play_model.specs.Actor.{Actor, hand_action, take_action, is_broken_work, turn_taken}
use Rattle.play_model.specs.KeptActor.{KeptActor, as_actor, resting}
use Rattle.play_model.specs.Ready.{IsReady}
use Rattle.play_model.specs.Actions.{kept_of, LedTo, IsNoTail, GoesFar, is_idle_work, IsIdleHolding, IsIdleActor, TakesAction}
use Rattle.play_model.proofs.Framed.{IsFramed, framed_keeps}
use Rattle.play_model.proofs.WriterTurn.{begun_under}
use Rattle.play_model.proofs.LedLaws.{led_same, led_on}
use Rattle.play_model.proofs.KeptActor.{idle_no_tail, handed_rest, handed_going}
use Rattle.play_actor.specs.Nodes.{NameView, kept_node}
use Rattle.play_actor.specs.Rounds.{IsSaidOf}
use Rattle.play_actor.proofs.Along.{went_by}

-- ## A task that is over
-- a task that is over leaves no call
pub done_rests : (o : Outcome) (v : WriterView) → v.phase ≡ phase_after o → next_call v ≡ None
done_rests (outcome.Takeover epoch first) v e = ap (λ (p : Phase). call_in p v) e
done_rests (outcome.Log first last) v e = ap (λ (p : Phase). call_in p v) e
done_rests (outcome.Roll start) v e = ap (λ (p : Phase). call_in p v) e
done_rests (outcome.Close last) v e = ap (λ (p : Phase). call_in p v) e
done_rests outcome.Purge v e = ap (λ (p : Phase). call_in p v) e

pub stopped_rests : (v : WriterView) → v.phase ≡ phase.Stopped → next_call v ≡ None
stopped_rests v e = ap (λ (p : Phase). call_in p v) e

-- what was said after calls that weren't made was said at once
pub said_same : (old mid new : LogView) (texts : List (List ℕ)) → mid.past ≡ old.past → mid.marks ≡ old.marks → IsSaidOf mid new texts → IsSaidOf old new texts
said_same old mid new texts past marks said w o =
    let same : kept_of w o mid ≡ kept_of w o old =
    ap (λ (p : List Record). record { name = []; writer = w; holds = o; past = p; marks = mid.marks }) past
    ∙ ap (λ (m : List Mark). record { name = []; writer = w; holds = o; past = old.past; marks = m }) marks in
    subst (λ (k : KeptActor). LedTo (as_actor None texts k) (resting (kept_of w o new))) same (said w o)

-- how far a task goes that ends with this turn, whatever is held meanwhile
pub ends_far : (n : ℕ) (w v : WriterView) (old mid : LogView) (before after : List PeerCall) (t : Task) (u : Turn) (p : Phase) (o : Option Holding) → IsReady n w
    → before ≡ calls_in old.past → after ≡ calls_in mid.past → MakesCalls old mid → Ends t w before v after u p → GoesFar n (kept_of (writer_begun w t).writer o old) (kept_of v o mid) u
ends_far n w v old mid before after t u p o ready first last made e =
    went_by (writer_begun w t).writer v old mid before after u made first last e.calls n o
    (record { live = begun_live w t ready.live; sized = begun_sized n w t ready.sized }) (begun_under w t e.begun)

-- ## What is held
pub free_whole : (h : Holding) → h.work ≡ Free → is_broken_work h.work ≡ false
free_whole h e = ap is_broken_work e

pub free_idle : (h : Holding) → h.work ≡ Free → IsIdleHolding (Some h)
free_idle h e = ap is_idle_work e

-- an image is loaded whatever was held
pub reloaded_any : (images : List Image) (s s' : StandbyView) → reload_image (held images s) ≡ reload_image (held images s')
unfolding reload_image
reloaded_any [] s s' = refl
reloaded_any (i ∷ is) s s' = refl

-- ## How an action begins
pub todo_so : (f : Actor → Actor) → IsFramed f → (a : Actor) → a.todo ≡ [] → record (f a) { todo = [] } ≡ f a
todo_so f h a e =
    let t : (f a).todo ≡ [] = (framed_keeps f h a).0 ∙ e in
    ap (λ (x : List Action). record (f a) { todo = x }) (sym t)

pub free_rest : (n : ℕ) (w : WriterView) (h : Holding) (log : LogView) (d : Action) → IsIdleActor n (kept_of w (Some h) log) → h.work ≡ Free
    → hand_action d (resting (kept_of w (Some h) log)) ≡ record (take_action d (resting (kept_of w (Some h) log))) { todo = [] }
free_rest n w h log d idle free = handed_rest (kept_of w (Some h) log) d (idle_no_tail (Some h) idle.holds) idle.rests (free_whole h free)

pub does_begins : (n : ℕ) (w : WriterView) (h : Holding) (log : LogView) (t : Task) → IsIdleActor n (kept_of w (Some h) log) → h.work ≡ Free → (writer_begun w t).begun ≡ begun.Going
    → hand_action (Does t) (resting (kept_of w (Some h) log)) ≡ as_actor (Some t) [] (kept_of (writer_begun w t).writer (Some h) log)
does_begins n w h log t idle free e = handed_going (kept_of w (Some h) log) t (idle_no_tail (Some h) idle.holds) idle.rests (free_whole h free) e

-- ## How it ends
-- its results are said
pub said_takes : (n : ℕ) (d : Action) (w v : WriterView) (o o' : Option Holding) (old mid new : LogView) (texts : List (List ℕ)) → IsIdleActor n (kept_of w o old)
    → LedTo (hand_action d (resting (kept_of w o old))) (as_actor None texts (kept_of v o' mid)) → IsReady n v → next_call v ≡ None → IsIdleHolding o' → IsSaidOf mid new texts
    → TakesAction n d (kept_of w o old) (kept_of v o' new)
said_takes n d w v o o' old mid new texts idle led ready over holds said = record {
  idle = record { some = idle.some; ready = ready; rests = over; holds = holds };
  leads = led_on _ (as_actor None texts (kept_of v o' mid)) _ led (said v o');
}

-- the writer is as it was
pub still_takes : (n : ℕ) (d : Action) (w : WriterView) (o o' : Option Holding) (old new : LogView) (texts : List (List ℕ)) → IsIdleActor n (kept_of w o old)
    → hand_action d (resting (kept_of w o old)) ≡ as_actor None texts (kept_of w o' old) → IsIdleHolding o' → IsSaidOf old new texts
    → TakesAction n d (kept_of w o old) (kept_of w o' new)
still_takes n d w o o' old new texts idle e holds said = said_takes n d w w o o' old old new texts idle (led_same _ _ e) idle.ready idle.rests holds said

-- a task of its writer was done or aborted, with this held meanwhile
pub task_takes : (n : ℕ) (d : Action) (w v : WriterView) (o ow o' : Option Holding) (old mid new : LogView) (before after : List PeerCall) (t : Task) (u : Turn) (p : Phase)
    (texts : List (List ℕ)) → IsIdleActor n (kept_of w o old) → before ≡ calls_in old.past → after ≡ calls_in mid.past → MakesCalls old mid → Ends t w before v after u p → next_call v ≡ None
    → IsNoTail ow → hand_action d (resting (kept_of w o old)) ≡ as_actor (Some t) [] (kept_of (writer_begun w t).writer ow old)
    → turn_taken u (Some t) (as_actor (Some t) [] (kept_of v ow mid)) ≡ as_actor None texts (kept_of v o' mid) → IsIdleHolding o' → IsSaidOf mid new texts
    → TakesAction n d (kept_of w o old) (kept_of v o' new)
task_takes n d w v o ow o' old mid new before after t u p texts idle first last made ends over tail begins shown holds said =
    let far : GoesFar n (kept_of (writer_begun w t).writer ow old) (kept_of v ow mid) u = ends_far n w v old mid before after t u p ow idle.ready first last made ends in
    said_takes n d w v o o' old mid new texts idle
    (led_on _ (as_actor (Some t) [] (kept_of (writer_begun w t).writer ow old)) _ (led_same _ _ begins) (led_on _ _ _ (far.leads t tail) (led_same _ _ shown)))
    far.ready over holds said

-- as a name node
pub node_takes : (n : ℕ) (d : Action) (k : KeptActor) (node : NameView) (v : WriterView) (h' : Holding) (new : LogView) → node.writer ≡ v → node.holding ≡ h'
    → TakesAction n d k (kept_of v (Some h') new) → TakesAction n d k (kept_node node new)
node_takes n d k node v h' new e f takes =
    subst (λ (x : WriterView). TakesAction n d k (kept_of x (Some node.holding) new)) (sym e) (subst (λ (x : Holding). TakesAction n d k (kept_of v (Some x) new)) (sym f) takes)

-- ## For the code
pub if_ok_all : {A E R : Type 0} {P Q Z : A → Type 0} (r : Result A E) → ((a : A) → P a → Q a → R → Z a) → IfOk r P → IfOk r Q → OnOk r R → IfOk r Z
if_ok_all (Ok a) f p q h = f a p q h
if_ok_all (Err e) f p q h = tt
