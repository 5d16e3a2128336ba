-- An actor: a machine that is led along its own record. What it wants next is fixed by its lines
-- and by what it has heard. With names it holds a namespace beside its writer.
use Rattle.std.specs.Prelude.{◌≡◌, ℕ, ◌+◌, ◌-◌, ◌||◌, List, [], ◌∷◌, ◌++◌, length, drop, map, Bool, true, false, Option, Some, None, slice_get, if◌then◌else◌, codes}
use Rattle.journal_core.specs.declared.request.Request.{Request}
use Rattle.journal_core.specs.declared.request.Request.TheVariants as request
use Rattle.journal_core.specs.declared.heard.Heard.{Heard}
use Rattle.edit_ops.specs.Records.{EditView}
use Rattle.writer_core.specs.declared.task.Task.{Task}
use Rattle.writer_core.specs.declared.task.Task.TheVariants as task
use Rattle.writer_core.specs.declared.task.Begun.{Begun}
use Rattle.writer_core.specs.declared.task.Begun.TheVariants as begun
use Rattle.writer_core.specs.declared.turn.Turn.{Turn}
use Rattle.writer_core.specs.declared.turn.Turn.TheVariants as turn
use Rattle.writer_core.specs.declared.turn.Outcome.{Outcome}
use Rattle.writer_core.specs.declared.turn.Outcome.TheVariants as outcome
use Rattle.writer_core.specs.declared.cause.Cause.{Cause}
use Rattle.writer_core.specs.Views.{WriterView}
use Rattle.writer_core.specs.Rounds.{Judgment}
use Rattle.writer_core.specs.Writer.{new_writer, is_writing, writer_begun, next_call, writer_heard, writer_stopped}
use Rattle.journal_history.specs.declared.record.Record.{Record}
use Rattle.journal_history.specs.declared.record.Record.TheVariants.{Call, Late, Operator, Outcome as Result}
use Rattle.journal_history.specs.declared.mark.Mark.{Mark}
use Rattle.journal_history.specs.declared.mark.MarkKind.TheVariants as kind
use Rattle.mesh.specs.Marks.{mark, calls_to, next_number}
use Rattle.mesh.specs.Makers.{heard_of}
use Rattle.play_model.specs.Lines.{Action, Does, DoDrop, DoMute, DoLate, Submits, Trims, DoTail, Saves, Reloads}
use Rattle.play_names.specs.Results.{word, took, cause_words, aborted_results, results_of, inactive_results, too_long_results, late_none, dues_logged, dues_aborted, abort_text}
use Rattle.ns_tree.specs.declared.end.LastSpace.{LastSpace}
use Rattle.ns_edits.specs.Replay.{Image}
use Rattle.play_names.specs.Submissions.{Submission, submit_edits, nothing_submitted}
use Rattle.play_names.specs.Holding.{Holding, new_holding, Work, Free, Tails, Logs, Broken, with_work, at_position, save_image, reload_image, min_to_keep}
pub use Rattle.play_names.specs.Holding.{enters}
use Rattle.play_names.specs.Tails.{TailEnd, Caught, Reached, PurgedFrom, BehindBy, TailStep, GoesOn, Ends, Breaks, pass_begun, tail_hears}

pub record Actor : Type 0 where
  -- its actions still to come, and the task under way
  pub todo : List Action
  pub doing : Option Task
  pub writer : WriterView
  -- what it holds, in a script with names
  pub holds : Option Holding
  -- the results still to be said, and the late copy still to be sent
  pub says : List (List ℕ)
  pub copies : Option (ℕ × Request)
  -- its record so far, and the marks that its actions have set
  pub past : List Record
  pub marks : List Mark

abbrev pub holding_if : Bool → Option Holding
holding_if true = Some new_holding
holding_if false = None

-- of that many nodes; with names or without
unfoldable pub fresh_actor : Bool → ℕ → Actor
fresh_actor named nodes =
    record { todo = []; doing = None; writer = new_writer nodes; holds = holding_if named; says = []; copies = None; past = []; marks = [] }

-- ## What comes next: a result that is due, then a late copy, then a read of a tail, then the writer's next call
pub data Want : Type 0 where
  WantsCall : (node : ℕ) (request : Request) → Want
  WantsCopy : (node : ℕ) (request : Request) → Want
  Says : (text : List ℕ) → Want
  Rests : Want

unfoldable pub call_wanted : Option (ℕ × Request) → Want
call_wanted None = Rests
call_wanted (Some c) = WantsCall c.0 c.1

abbrev pub work_read : Work → ℕ → Want → Want
work_read Free position want = want
work_read (Tails until node told) position want = WantsCall node (request.Read (position + 1))
work_read (Logs ahead dues) position want = want
work_read Broken position want = want

unfoldable pub read_first : Option Holding → Want → Want
read_first None want = want
read_first (Some h) want = work_read h.work h.position want

unfoldable pub copy_first : Option (ℕ × Request) → Want → Want
copy_first None want = want
copy_first (Some c) want = WantsCopy c.0 c.1

unfoldable pub say_first : List (List ℕ) → Want → Want
say_first [] want = want
say_first (text ∷ texts) want = Says text

unfoldable pub wants : Actor → Want
wants a = say_first a.says (copy_first a.copies (read_first a.holds (call_wanted (next_call a.writer))))

unfoldable pub is_wanting : Want → Bool
is_wanting (WantsCall node request) = true
is_wanting (WantsCopy node request) = true
is_wanting (Says text) = true
is_wanting Rests = false

-- an actor that met a bad entry takes no further line
abbrev pub is_broken_work : Work → Bool
is_broken_work Free = false
is_broken_work (Tails until node told) = false
is_broken_work (Logs ahead dues) = false
is_broken_work Broken = true

abbrev pub is_broken_holding : Option Holding → Bool
is_broken_holding None = false
is_broken_holding (Some h) = is_broken_work h.work

unfoldable pub is_broken : Actor → Bool
is_broken a = is_broken_holding a.holds

-- what is left to do: all while something is wanted, and nothing where it stopped at a bad entry
abbrev pub while_wanting : Bool → List Action → List Action
while_wanting true ds = ds
while_wanting false ds = []

-- ## Tails
-- what a tail says at its end; the tail of a takeover has an end txid, and where it doesn't get
-- there the writer gives up
unfoldable pub tail_text : ℕ → TailEnd → List ℕ
tail_text position Caught = word (codes "tail") position
tail_text position Reached = word (codes "tail") position
tail_text position (PurgedFrom first) = word (codes "tail purged") first
tail_text position (BehindBy causes) = word (codes "tail behind") position ++ cause_words causes

unfoldable pub entry_text : ℕ → TailEnd → List ℕ
entry_text position Caught = word (codes "takeover behind") position
entry_text position Reached = word (codes "takeover behind") position
entry_text position (PurgedFrom first) = word (codes "takeover purged") first
entry_text position (BehindBy causes) = word (codes "takeover behind") position ++ cause_words causes

-- it is active: the record that begins the segment is logged
abbrev pub is_entered : Holding → Actor → Actor
is_entered h a = record a { holds = Some (at_position a.writer.start h); says = took a.writer.epoch a.writer.start ∷ [] }

abbrev pub not_entered : TailEnd → Holding → Actor → Actor
not_entered end h a = record a { holds = Some h; writer = writer_stopped a.writer; says = entry_text h.position end ∷ [] }

unfoldable pub tail_ended : Option ℕ → TailEnd → Holding → Actor → Actor
tail_ended None end h a = record a { holds = Some h; says = tail_text h.position end ∷ [] }
tail_ended (Some last) Reached h a = is_entered h a
tail_ended (Some last) Caught h a = not_entered Caught h a
tail_ended (Some last) (PurgedFrom first) h a = not_entered (PurgedFrom first) h a
tail_ended (Some last) (BehindBy causes) h a = not_entered (BehindBy causes) h a

unfoldable pub tail_stepped : Option ℕ → TailStep → Actor → Actor
tail_stepped until (GoesOn h) a = record a { holds = Some h }
tail_stepped until (Ends end h) a = tail_ended until end h a
tail_stepped until (Breaks h) a = record a { holds = Some h }

-- ## Its actions: each is taken once nothing is wanted
unfoldable pub task_begun : Task → WriterView → Actor → Begun → Actor
task_begun t w a begun.Going = record a { writer = w; doing = Some t }
task_begun t w a begun.NotActive = record a { says = inactive_results t }
task_begun t w a (begun.TooLong number) = record a { says = too_long_results t number }

abbrev pub note_mark : Mark → Actor → Actor
note_mark m a = record a { marks = a.marks ++ m ∷ [] }

unfoldable pub make_copy : ℕ → ℕ → Option Request → Actor → Actor
make_copy node call None a = record a { says = late_none ∷ [] }
make_copy node call (Some r) a = record (note_mark (mark node call kind.Late) a) { copies = Some (node, r) }

-- nothing to log: all results are known
abbrev pub begin_sync : Begun → WriterView → Submission → Holding → Actor → Actor
begin_sync begun.Going w x h a = record a { writer = w; doing = Some (task.Log x.bodies); holds = Some (with_work (Logs x.ahead x.dues) h) }
begin_sync begun.NotActive w x h a = record a { says = dues_aborted (codes "inactive") x.dues }
begin_sync (begun.TooLong number) w x h a = record a { says = dues_aborted (word (codes "toolong") number) x.dues }

abbrev pub after_sync : List (List ℕ) → Submission → Holding → Actor → Actor
after_sync [] x h a = record a { says = dues_logged 0 x.dues }
after_sync (b ∷ bs) x h a = begin_sync (writer_begun a.writer (task.Log x.bodies)).begun (writer_begun a.writer (task.Log x.bodies)).writer x h a

unfoldable pub logged_when : Bool → List EditView → Holding → Actor → Actor
logged_when true es h a =
    after_sync (submit_edits a.writer es (nothing_submitted h.space)).bodies (submit_edits a.writer es (nothing_submitted h.space)) h a
logged_when false es h a = record a { says = map (λ e. codes "inactive") es }

unfoldable pub trim_at : Bool → Option ℕ → Actor → Actor
trim_at false min a = record a { says = codes "trim inactive" ∷ [] }
trim_at true None a = record a { says = codes "trim noimage" ∷ [] }
trim_at true (Some min) a = record a { writer = (writer_begun a.writer (task.Purge min)).writer; doing = Some (task.Purge min) }

-- what only a standby does
abbrev pub unless_active : Bool → Actor → Actor → Actor
unless_active true b a = record a { says = codes "active" ∷ [] }
unless_active false b a = b

abbrev pub begin_save : Holding → Actor → Actor
begin_save h a = record a { holds = Some (save_image h); says = word (codes "checkpoint") h.position ∷ [] }

abbrev pub begin_reload : Holding → Actor → Actor
begin_reload h a = record a { holds = Some (reload_image h); says = word (codes "reload") (reload_image h).position ∷ [] }

-- an action of an actor that holds a namespace
unfoldable pub take_named_action : Action → Option Holding → Actor → Actor
take_named_action (Submits es) (Some h) a = logged_when (is_writing a.writer.phase) es h a
take_named_action (Trims extra) (Some h) a = trim_at (is_writing a.writer.phase) (min_to_keep extra h.images) a
take_named_action DoTail (Some h) a = unless_active (is_writing a.writer.phase) (tail_stepped None (pass_begun None h) a) a
take_named_action Saves (Some h) a = unless_active (is_writing a.writer.phase) (begin_save h a) a
take_named_action Reloads (Some h) a = unless_active (is_writing a.writer.phase) (begin_reload h a) a
take_named_action d o a = a

-- The calls that are lost are counted from the next one on, and the calls that are copied from the
-- first one on.
unfoldable pub take_action : Action → Actor → Actor
take_action (Does t) a = task_begun t (writer_begun a.writer t).writer a (writer_begun a.writer t).begun
take_action (DoDrop node call) a = note_mark (mark node (next_number node a.past + (call - 1)) kind.Dropped) a
take_action (DoMute node call) a = note_mark (mark node (next_number node a.past + (call - 1)) kind.Muted) a
take_action (DoLate node call) a = make_copy node call (slice_get (calls_to node a.past) (call - 1)) a
take_action (Submits es) a = take_named_action (Submits es) a.holds a
take_action (Trims extra) a = take_named_action (Trims extra) a.holds a
take_action DoTail a = take_named_action DoTail a.holds a
take_action Saves a = take_named_action Saves a.holds a
take_action Reloads a = take_named_action Reloads a.holds a

unfoldable pub settle : List Action → Actor → Actor
settle [] a = record a { todo = [] }
settle (d ∷ ds) a = if is_wanting (wants a) || is_broken a then record a { todo = while_wanting (is_wanting (wants a)) (d ∷ ds) } else settle ds (take_action d a)

-- one more action for an actor
unfoldable pub hand_action : Action → Actor → Actor
hand_action d a = settle (a.todo ++ d ∷ []) a

-- ## The end of a task
-- The tail of a takeover goes up to the txid before the first segment; an actor that has read more
-- begins empty.
unfoldable pub logs_done : Work → ℕ → ℕ → Holding → Actor → Actor
logs_done (Logs ahead dues) first last h a = record a { holds = Some (record h { space = ahead; position = last; work = Free }); says = dues_logged first dues }
logs_done _ first last h a = a

unfoldable pub task_done : Outcome → Task → Holding → Actor → Actor
task_done (outcome.Takeover epoch first) t h a = tail_stepped (Some (first - 1)) (pass_begun (Some (first - 1)) (enters (first - 1) h)) a
task_done (outcome.Log first last) t h a = logs_done h.work first last h a
task_done (outcome.Roll start) t h a = record a { holds = Some (at_position start h); says = word (codes "roll") start ∷ [] }
task_done (outcome.Close last) t h a = record a { holds = Some (at_position last h); says = word (codes "close") last ∷ [] }
task_done outcome.Purge (task.Purge min) h a = record a { says = word (codes "trim") min ∷ [] }
task_done outcome.Purge t h a = a

abbrev pub aborted_texts : Work → Task → List Cause → List (List ℕ)
aborted_texts (Logs ahead dues) t causes = dues_aborted (abort_text causes) dues
aborted_texts work (task.Purge min) causes = (codes "trim " ++ abort_text causes) ∷ []
aborted_texts work t causes = aborted_results t causes

-- after an aborted round it stands as after a reload
unfoldable pub held_turn : Turn → Task → Holding → Actor → Actor
held_turn turn.Going t h a = a
held_turn (turn.Done o) t h a = task_done o t h a
held_turn turn.Aborted t h a = record a { holds = Some (reload_image h); says = aborted_texts h.work t a.writer.causes }
held_turn (turn.EpochLimit told) t h a = record a { says = word (codes "takeover limit") told ∷ [] }

unfoldable pub turn_with : Option Holding → Turn → Task → Actor → Actor
turn_with None t task a = record a { says = results_of task t a.writer.causes }
turn_with (Some h) t task a = held_turn t task h a

-- ## A line of its record
unfoldable pub turn_taken : Turn → Option Task → Actor → Actor
turn_taken turn.Going doing a = a
turn_taken t None a = a
turn_taken t (Some task) a = turn_with a.holds t task (record a { doing = None })

abbrev pub after_judgment : Judgment → Actor → Actor
after_judgment j a = turn_taken j.turn a.doing (record a { writer = j.writer })

-- an answer is that of a read, where a tail is under way, and else the writer's
abbrev pub heard_in_work : Work → Holding → ℕ → Heard → Actor → Actor
heard_in_work (Tails until next told) h node heard a = tail_stepped until (tail_hears (length a.writer.left) until next told heard h) a
heard_in_work work h node heard a = after_judgment (writer_heard a.writer node heard) a

unfoldable pub heard_by : Option Holding → ℕ → Heard → Actor → Actor
heard_by None node heard a = after_judgment (writer_heard a.writer node heard) a
heard_by (Some h) node heard a = heard_in_work h.work h node heard a

unfoldable pub moved_on : Record → Actor → Actor
moved_on (Call node r t) a = heard_by a.holds node (heard_of t) a
moved_on (Late node r) a = record a { copies = None }
moved_on (Operator node ask done) a = a
moved_on (Result text) a = record a { says = drop 1 a.says }

unfoldable pub settle_again : Actor → Actor
settle_again a = settle a.todo a

unfoldable pub goes_on : Actor → Record → Actor
goes_on a r = settle_again (moved_on r (record a { past = a.past ++ r ∷ [] }))

-- ## A record that it is led along
-- the line is what was wanted; what a call is told is free
unfoldable pub Fits : Want → Record → Type 0
Fits (WantsCall node request) (Call k r t) = (k ≡ node) × (r ≡ request)
Fits (WantsCopy node request) (Late k r) = (k ≡ node) × (r ≡ request)
Fits (Says text) (Result x) = x ≡ text
Fits _ _ = ⊥

unfoldable pub IsLed : Actor → List Record → Type 0
IsLed a [] = Unit {0}
IsLed a (r ∷ rs) = Fits (wants a) r × IsLed (goes_on a r) rs

unfoldable pub actor_after : Actor → List Record → Actor
actor_after a [] = a
actor_after a (r ∷ rs) = actor_after (goes_on a r) rs

-- ## What is left of it
-- of an actor with names its position and rows
abbrev pub last_of : Option Holding → Option LastSpace
last_of None = None
last_of (Some h) = Some (record { position = h.position; rows = h.space.pairs })

-- and the images that it kept, the newest first
abbrev pub images_of : Option Holding → List Image
images_of None = []
images_of (Some h) = h.images
