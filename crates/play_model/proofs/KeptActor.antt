-- An actor's steps: it is handed a task, hears an answer, says a result, rests.
use Rattle.std.proofs.Common.{◌≡◌, ℕ, List, [], ◌∷◌, ◌++◌, Bool, true, false, refl, sym, ap, ◌∙◌, subst, Option, Some, None, cond}
use Rattle.std.specs.Prelude.{◌||◌}
use Rattle.journal_core.specs.declared.request.Request.{Request}
use Rattle.journal_core.specs.declared.heard.Heard.{Heard}
use Rattle.writer_core.specs.declared.task.Task.{Task}
use Rattle.writer_core.specs.declared.task.Begun.{Begun}
use Rattle.writer_core.specs.declared.task.Begun.TheVariants as begun
use Rattle.writer_core.specs.declared.turn.Turn.{Turn}
use Rattle.writer_core.specs.declared.turn.Turn.TheVariants as turn
use Rattle.writer_core.specs.Views.{WriterView}
use Rattle.writer_core.specs.Writer.{Began, writer_begun, writer_heard, next_call}
use Rattle.journal_history.specs.declared.record.Record.TheVariants.{Call, Late, Outcome}
use Rattle.journal_history.specs.declared.record.Told.{Told}
use Rattle.journal_history.specs.declared.mark.MarkKind.TheVariants as kind
use Rattle.mesh.specs.Marks.{mark}
use Rattle.mesh.specs.Makers.{heard_of}
use Rattle.play_names.specs.Holding.{Holding, Work, Free, Tails, Logs, Broken}
use Rattle.play_calls.specs.Logs.{LogView}
use Rattle.play_model.specs.Lines.{Action, Does, DoDrop, DoMute, DoLate}
use Rattle.play_names.specs.Results.{results_of, inactive_results, too_long_results, late_none}
use Rattle.play_model.specs.Actor.{Actor, Want, WantsCall, WantsCopy, Says, Rests, wants, say_first, copy_first, read_first, work_read, call_wanted}
use Rattle.play_model.specs.Actor.{is_wanting, is_broken_work, is_broken_holding, is_broken, while_wanting, turn_with, after_judgment, heard_in_work}
use Rattle.play_model.specs.Actor.{heard_by, goes_on, hand_action, settle, settle_again, take_action, task_begun, moved_on, turn_taken, make_copy}
use Rattle.play_model.specs.KeptActor.{KeptActor, as_actor, resting, hears, say_texts, loses, copies, earlier_call, doing_after}
use Rattle.play_model.specs.Went.{refused_results}
use Rattle.play_model.specs.Actions.{kept_of, is_tail, IsNoTail, is_idle_work, IsIdleHolding, IsUnbroken}
use Rattle.play_model.proofs.Framed.{framed_keeps, turn_framed}

-- ## While no tail is under way
no_read_in : (x : Work) (position : ℕ) (w : Want) → is_tail x ≡ false → work_read x position w ≡ w
no_read_in Free position w n = refl
no_read_in (Tails until node told) position w n = absurd (cc n)
no_read_in (Logs ahead dues) position w n = refl
no_read_in Broken position w n = refl

no_read : (o : Option Holding) (w : Want) → IsNoTail o → read_first o w ≡ w
unfolding read_first
no_read None w n = refl
no_read (Some h) w n = no_read_in h.work h.position w n

idle_work : (x : Work) → is_idle_work x ≡ true → is_tail x ≡ false
idle_work Free e = refl
idle_work (Tails until node told) e = absurd (cc e)
idle_work (Logs ahead dues) e = refl
idle_work Broken e = refl

pub idle_no_tail : (o : Option Holding) → IsIdleHolding o → IsNoTail o
idle_no_tail None h = tt
idle_no_tail (Some h) e = idle_work h.work e

-- ## What it wants
wants_by : (a : KeptActor) (doing : Option Task) → IsNoTail a.holds → wants (as_actor doing [] a) ≡ call_wanted (next_call a.writer)
unfolding wants say_first copy_first
wants_by a doing n = no_read a.holds (call_wanted (next_call a.writer)) n

pub rests : (a : KeptActor) (doing : Option Task) → IsNoTail a.holds → next_call a.writer ≡ None → wants (as_actor doing [] a) ≡ Rests
unfolding call_wanted
rests a doing n e = wants_by a doing n ∙ ap call_wanted e

pub wants_call : (a : KeptActor) (doing : Option Task) (node : ℕ) (r : Request) → IsNoTail a.holds → next_call a.writer ≡ Some (node, r) → wants (as_actor doing [] a) ≡ WantsCall node r
unfolding call_wanted
wants_call a doing node r n e = wants_by a doing n ∙ ap call_wanted e

pub wants_said : (a : KeptActor) (doing : Option Task) (text : List ℕ) (texts : List (List ℕ)) → wants (as_actor doing (text ∷ texts) a) ≡ Says text
unfolding wants say_first
wants_said a doing text texts = refl

-- ## A line of its record
pub settled_so : (a : Actor) → a.todo ≡ [] → settle_again a ≡ a
unfolding settle_again settle
settled_so a e = ap (λ (ds : List Action). settle ds a) e ∙ ap (λ (ds : List Action). record a { todo = ds }) (sym e)

hears_in : (x : Work) (h : Holding) (node : ℕ) (heard : Heard) (a : Actor) → h.work ≡ x → is_tail x ≡ false → heard_by (Some h) node heard a ≡ after_judgment (writer_heard a.writer node heard) a
unfolding heard_by
hears_in Free h node heard a e n = ap (λ (x : Work). heard_in_work x h node heard a) e
hears_in (Tails until next told) h node heard a e n = absurd (cc n)
hears_in (Logs ahead dues) h node heard a e n = ap (λ (x : Work). heard_in_work x h node heard a) e
hears_in Broken h node heard a e n = ap (λ (x : Work). heard_in_work x h node heard a) e

hears_so : (o : Option Holding) (node : ℕ) (heard : Heard) (a : Actor) → IsNoTail o → heard_by o node heard a ≡ after_judgment (writer_heard a.writer node heard) a
unfolding heard_by
hears_so None node heard a n = refl
hears_so (Some h) node heard a n = hears_in h.work h node heard a refl n

-- what came of a call is heard
pub goes_call : (t : Task) (a : KeptActor) (node : ℕ) (r : Request) (x : Told) → IsNoTail a.holds
    → goes_on (as_actor (Some t) [] a) (Call node r x) ≡ turn_taken (writer_heard a.writer node (heard_of x)).turn (Some t) (as_actor (Some t) [] (hears a node r x))
unfolding goes_on moved_on
goes_call t a node r x n =
    let u : Turn = (writer_heard a.writer node (heard_of x)).turn in
    let b : Actor = as_actor (Some t) [] (hears a node r x) in
    ap settle_again (hears_so a.holds node (heard_of x) (record (as_actor (Some t) [] a) { past = a.past ++ Call node r x ∷ [] }) n)
    ∙ settled_so (turn_taken u (Some t) b) (framed_keeps (turn_taken u (Some t)) (turn_framed u (Some t)) b).0

-- an actor without names
pub raw_turn : (t : Task) (w : WriterView) (log : LogView) (u : Turn)
    → turn_taken u (Some t) (as_actor (Some t) [] (kept_of w None log)) ≡ as_actor (doing_after t u) (results_of t u w.causes) (kept_of w None log)
unfolding turn_taken turn_with results_of
raw_turn t w log turn.Going = refl
raw_turn t w log (turn.Done o) = refl
raw_turn t w log turn.Aborted = refl
raw_turn t w log (turn.EpochLimit told) = refl

-- a result is said
pub goes_said : (a : KeptActor) (text : List ℕ) (texts : List (List ℕ)) → goes_on (as_actor None (text ∷ texts) a) (Outcome text) ≡ as_actor None texts (say_texts a (text ∷ []))
unfolding goes_on moved_on settle_again settle
goes_said a text texts = refl

-- ## Actions
unbroken_by : (a : KeptActor) (d : Action) (w : Want) → wants (resting a) ≡ w → is_wanting w ≡ false → IsUnbroken a.holds
    → hand_action d (resting a) ≡ record (take_action d (resting a)) { todo = [] }
unfolding hand_action settle is_broken
unbroken_by a d w e f u =
    let b : is_wanting (wants (resting a)) ≡ false = ap is_wanting e ∙ f in
    ap (λ (x : Bool). cond (x || is_broken (resting a)) (record (resting a) { todo = while_wanting (is_wanting (wants (resting a))) (d ∷ []) }) (record (take_action d (resting a)) { todo = [] })) b
    ∙ ap (λ (x : Bool). cond (false || x) (record (resting a) { todo = while_wanting (is_wanting (wants (resting a))) (d ∷ []) }) (record (take_action d (resting a)) { todo = [] })) u

pub handed_rest : (a : KeptActor) (d : Action) → IsNoTail a.holds → next_call a.writer ≡ None → IsUnbroken a.holds → hand_action d (resting a) ≡ record (take_action d (resting a)) { todo = [] }
unfolding is_wanting
handed_rest a d n e u = unbroken_by a d Rests (rests a None n e) refl u

broken_by : (a : KeptActor) (d : Action) (w : Want) → wants (resting a) ≡ w → is_wanting w ≡ false → is_broken (resting a) ≡ true → hand_action d (resting a) ≡ resting a
unfolding hand_action settle
broken_by a d w e f u =
    let b : is_wanting (wants (resting a)) ≡ false = ap is_wanting e ∙ f in
    ap (λ (x : Bool). cond (x || is_broken (resting a)) (record (resting a) { todo = while_wanting x (d ∷ []) }) (record (take_action d (resting a)) { todo = [] })) b
    ∙ ap (λ (x : Bool). cond (false || x) (record (resting a) { todo = [] }) (record (take_action d (resting a)) { todo = [] })) u

-- an actor that met a bad entry does nothing more
pub handed_broken : (a : KeptActor) (h : Holding) (d : Action) → a.holds ≡ Some h → h.work ≡ Broken → next_call a.writer ≡ None → hand_action d (resting a) ≡ resting a
unfolding is_broken is_wanting
handed_broken a h d o e none =
    let n : IsNoTail a.holds = subst (λ (x : Option Holding). IsNoTail x) (sym o) (ap is_tail e) in
    let b : is_broken (resting a) ≡ true = ap is_broken_holding o ∙ ap is_broken_work e in
    broken_by a d Rests (rests a None n none) refl b

-- a task is handed over, and begins or is refused
begun_as : (t : Task) (a : Actor) (x : Began) (b : Begun) (texts : List (List ℕ)) → x.begun ≡ b → refused_results t b ≡ Some texts → task_begun t x.writer a x.begun ≡ record a { says = texts }
unfolding task_begun
begun_as t a x begun.Going texts e h = absurd (cc h)
begun_as t a x begun.NotActive texts e h = let are : inactive_results t ≡ texts = cc h in ap (task_begun t x.writer a) e ∙ ap (λ (o : List (List ℕ)). record a { says = o }) are
begun_as t a x (begun.TooLong number) texts e h = let are : too_long_results t number ≡ texts = cc h in ap (task_begun t x.writer a) e ∙ ap (λ (o : List (List ℕ)). record a { says = o }) are

pub handed_refused : (a : KeptActor) (t : Task) (texts : List (List ℕ)) → IsNoTail a.holds → next_call a.writer ≡ None → IsUnbroken a.holds
    → refused_results t (writer_begun a.writer t).begun ≡ Some texts
    → hand_action (Does t) (resting a) ≡ as_actor None texts a
unfolding take_action
handed_refused a t texts n e u h =
    handed_rest a (Does t) n e u ∙ ap (λ (x : Actor). record x { todo = [] }) (begun_as t (resting a) (writer_begun a.writer t) (writer_begun a.writer t).begun texts refl h)

pub handed_going : (a : KeptActor) (t : Task) → IsNoTail a.holds → next_call a.writer ≡ None → IsUnbroken a.holds → (writer_begun a.writer t).begun ≡ begun.Going
    → hand_action (Does t) (resting a) ≡ as_actor (Some t) [] (record a { writer = (writer_begun a.writer t).writer })
unfolding take_action task_begun
handed_going a t n e u b = handed_rest a (Does t) n e u ∙ ap (λ (x : Begun). record (task_begun t (writer_begun a.writer t).writer (resting a) x) { todo = [] }) b

-- ## Losses and copies
pub handed_drop : (a : KeptActor) (node call : ℕ) → IsNoTail a.holds → next_call a.writer ≡ None → IsUnbroken a.holds
    → hand_action (DoDrop node call) (resting a) ≡ resting (loses a node call kind.Dropped)
unfolding take_action
handed_drop a node call n e u = handed_rest a (DoDrop node call) n e u

pub handed_mute : (a : KeptActor) (node call : ℕ) → IsNoTail a.holds → next_call a.writer ≡ None → IsUnbroken a.holds
    → hand_action (DoMute node call) (resting a) ≡ resting (loses a node call kind.Muted)
unfolding take_action
handed_mute a node call n e u = handed_rest a (DoMute node call) n e u

-- the actor that still has a copy to send
abbrev pub copying : KeptActor → ℕ → ℕ → Request → Actor
copying a node call r = record (resting a) { copies = Some (node, r); marks = a.marks ++ mark node call kind.Late ∷ [] }

pub handed_none : (a : KeptActor) (node call : ℕ) → IsNoTail a.holds → next_call a.writer ≡ None → IsUnbroken a.holds → earlier_call a node call ≡ None
    → hand_action (DoLate node call) (resting a) ≡ as_actor None (late_none ∷ []) a
unfolding take_action make_copy
handed_none a node call t e u n = handed_rest a (DoLate node call) t e u ∙ ap (λ o. record (make_copy node call o (resting a)) { todo = [] }) n

pub handed_late : (a : KeptActor) (node call : ℕ) (r : Request) → IsNoTail a.holds → next_call a.writer ≡ None → IsUnbroken a.holds → earlier_call a node call ≡ Some r
    → hand_action (DoLate node call) (resting a) ≡ copying a node call r
unfolding take_action make_copy
handed_late a node call r t e u n = handed_rest a (DoLate node call) t e u ∙ ap (λ o. record (make_copy node call o (resting a)) { todo = [] }) n

pub wants_copy : (a : KeptActor) (node call : ℕ) (r : Request) → wants (copying a node call r) ≡ WantsCopy node r
unfolding wants say_first copy_first
wants_copy a node call r = refl

pub goes_copy : (a : KeptActor) (node call : ℕ) (r : Request) → goes_on (copying a node call r) (Late node r) ≡ resting (copies a node call r)
unfolding goes_on moved_on settle_again settle
goes_copy a node call r = refl
