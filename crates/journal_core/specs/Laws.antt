-- Laws of the node step, of stops, kills and restarts.
use Rattle.std.specs.Prelude.{ℕ, ◌≡◌, ◌≤◌, ◌<◌, ◌⊎◌, true, false, List, [], ◌∷◌, ◌++◌, length, Option, Some, None}
use Rattle.journal_core.specs.Views.{HeadView}
use Rattle.journal_core.specs.declared.segment.Segment.{Segment}
use Rattle.journal_core.specs.declared.node_state.NodeState.{NodeState}
use Rattle.journal_core.specs.declared.refusal.Refusal.{Refusal}
use Rattle.journal_core.specs.declared.reply.Reply.{Reply}
use Rattle.journal_core.specs.declared.reply.Reply.TheVariants.{Refused}
use Rattle.journal_core.specs.declared.request.Request.{Request}
use Rattle.journal_core.specs.declared.request.Request.TheVariants as request
use Rattle.journal_core.specs.Segments.{find_segment, has_edit, newest, AreRising}
use Rattle.journal_core.specs.Limits.{head_of}
use Rattle.journal_core.specs.Effects.{Effect, after_effect, after_effects}
use Rattle.journal_core.specs.Step.{node_step, refused_at_once, row_refused, row_effects, row_then, fronted, effects_of, fresh_state, stopped, crashed, restarted}

-- ## What happens to a node
pub data Event : Type 0 where
  -- it answers a request
  Asked : (request : Request) → Event
  -- it is stopped inside a request, after the first of its effects
  Stopped : (request : Request) (keep : ℕ) → Event
  Killed : Event
  Restarted : Event

abbrev pub after_event : NodeState → Event → NodeState
after_event s (Asked r) = (node_step s r).state
after_event s (Stopped r keep) = stopped s r keep
after_event s Killed = crashed s
after_event s Restarted = restarted s

-- one after another
unfoldable pub after_events : NodeState → List Event → NodeState
after_events s [] = s
after_events s (e ∷ es) = after_events (after_event s e) es

-- ## The parts of what happens
-- the front, one effect of a row that isn't refused, what follows its last effect, going down and
-- coming up
pub data Part (s t : NodeState) : Type 0 where
  front : (r : Request) → refused_at_once s r ≡ None → t ≡ fronted s r → Part s t
  one_effect : (old : NodeState) (r : Request) (before later : List Effect) (e : Effect) → refused_at_once old r ≡ None → row_refused (fronted old r) r ≡ None
      → row_effects (fronted old r) r ≡ before ++ e ∷ later → s ≡ after_effects (fronted old r) before → t ≡ after_effect s e → Part s t
  follow : (old : NodeState) (r : Request) → refused_at_once old r ≡ None → row_refused (fronted old r) r ≡ None
      → s ≡ after_effects (fronted old r) (row_effects (fronted old r) r) → t ≡ row_then s r → Part s t
  down : t ≡ crashed s → Part s t
  up : t ≡ restarted s → Part s t

-- one part after another
pub data Parts (s : NodeState) : NodeState → Type 0 where
  none : Parts s s
  more : {t u : NodeState} → Parts s t → Part t u → Parts s u

-- All that happens is done in parts: so what each part keeps, every step, stop, kill and restart
-- keeps.
abbrev pub EventsAreParts : Type 0
EventsAreParts = (s : NodeState) (es : List Event) → Parts s (after_events s es)

-- each part keeps it
abbrev pub IsKept : (NodeState → Type 0) → Type 0
IsKept P = (s t : NodeState) → Part s t → P s → P t

-- ## What holds of every node
-- each segment that is found has the property
abbrev pub EachFound : (Segment → Type 0) → List Segment → Type 0
EachFound Q segments = (m : ℕ) (g : Segment) → find_segment m segments ≡ Some g → Q g

-- its header epoch is at most the promise, and where it is final it holds an edit
pub record IsBelow (promised : ℕ) (g : Segment) : Type 0 where
  pub header : g.epoch ≤ promised
  pub final_edit : g.is_final ≡ true → has_edit g ≡ true

-- no epoch is above the promise, and the segments stand by rising start
pub record IsStored (s : NodeState) : Type 0 where
  pub writer : s.writer ≤ s.promised
  pub segments : EachFound (IsBelow s.promised) s.segments
  pub rising : AreRising s.segments

-- the open segment is there, in progress, and its header epoch is the promise
abbrev pub OpenIsLed : NodeState → Type 0
OpenIsLed s = (m : ℕ) → s.opened ≡ Some m → (g : Segment) × (find_segment m s.segments ≡ Some g) × (g.epoch ≡ s.promised) × (g.is_final ≡ false)

pub record IsSound (s : NodeState) : Type 0 where
  pub stored : IsStored s
  pub led : OpenIsLed s

-- so it is at first, and it stays so
pub record SoundStays : Type 0 where
  pub fresh : IsSound fresh_state
  pub stays : (s : NodeState) (e : Event) → IsSound s → IsSound (after_event s e)

abbrev pub OpenSegmentIsLed : Type 0
OpenSegmentIsLed = (es : List Event) → OpenIsLed (after_events fresh_state es)

-- ## Promises
abbrev pub PromiseNeverFalls : Type 0
PromiseNeverFalls = (s : NodeState) (e : Event) → s.promised ≤ (after_event s e).promised

-- the epoch under which a request comes, or which it proposes
abbrev pub epoch_in : Option HeadView → Option ℕ
epoch_in None = None
epoch_in (Some h) = Some h.epoch

abbrev pub epoch_of : Request → Option ℕ
epoch_of (request.NewEpoch epoch) = Some epoch
epoch_of r = epoch_in (head_of r)

abbrev pub IsRefused : Reply → Type 0
IsRefused (Refused refusal) = Unit {0}
IsRefused _ = ⊥

-- an answer that is no refusal leaves the promise at the request's epoch
abbrev pub AnsweredIsPromised : Type 0
AnsweredIsPromised = (s : NodeState) (r : Request) (epoch : ℕ) → epoch_of r ≡ Some epoch → (IsRefused (node_step s r).reply → ⊥) → (node_step s r).state.promised ≡ epoch

-- ## Segments
abbrev pub IsPurge : Request → Type 0
IsPurge (request.Purge head min) = Unit {0}
IsPurge _ = ⊥

abbrev pub ComesOfPurge : Event → Type 0
ComesOfPurge (Asked r) = IsPurge r
ComesOfPurge (Stopped r keep) = IsPurge r
ComesOfPurge _ = ⊥

-- a final segment stands as it is, or a purge removes it
abbrev pub FinalStays : Type 0
FinalStays = (s : NodeState) (e : Event) (m : ℕ) (g : Segment) → IsSound s → find_segment m s.segments ≡ Some g → g.is_final ≡ true
    → (find_segment m (after_event s e).segments ≡ Some g) ⊎ (ComesOfPurge e × (find_segment m (after_event s e).segments ≡ None))

abbrev pub HeaderNeverFalls : Type 0
HeaderNeverFalls = (s : NodeState) (e : Event) (m : ℕ) (g new : Segment) → IsSound s → find_segment m s.segments ≡ Some g → find_segment m (after_event s e).segments ≡ Some new
    → g.epoch ≤ new.epoch

-- an acceptance has an edit
abbrev pub HasEdit : Request → Type 0
HasEdit (request.Accept head batch) = 0 < length batch.bodies
HasEdit _ = Unit {0}

abbrev pub BringsEdit : Event → Type 0
BringsEdit (Asked r) = HasEdit r
BringsEdit (Stopped r keep) = HasEdit r
BringsEdit _ = Unit {0}

abbrev pub NewestNeverFalls : Type 0
NewestNeverFalls = (s : NodeState) (e : Event) (m : ℕ) → IsSound s → BringsEdit e → newest s.segments ≡ Some m → (k : ℕ) × (newest (after_event s e).segments ≡ Some k) × (m ≤ k)

-- ## Requests that change nothing, or only what the front changes
abbrev pub RefusedAtOnceIsIdle : Type 0
RefusedAtOnceIsIdle = (s : NodeState) (r : Request) (refusal : Refusal) → refused_at_once s r ≡ Some refusal
    → node_step s r ≡ record { state = s; reply = Refused refusal }

-- what is refused after the front leaves what the front did
abbrev pub RefusedAfterLeavesFront : Type 0
RefusedAfterLeavesFront = (s : NodeState) (r : Request) (refusal : Refusal) → refused_at_once s r ≡ None → row_refused (fronted s r) r ≡ Some refusal
    → node_step s r ≡ record { state = fronted s r; reply = Refused refusal }

abbrev pub IsQuestion : Request → Type 0
IsQuestion request.State = Unit {0}
IsQuestion (request.Read from) = Unit {0}
IsQuestion request.Manifest = Unit {0}
IsQuestion _ = ⊥

abbrev pub QuestionsAreIdle : Type 0
QuestionsAreIdle = (s : NodeState) (r : Request) → IsQuestion r → (node_step s r).state ≡ s

-- ## Stops
-- what is durable: the first four fields
abbrev pub SameDurable : NodeState → NodeState → Type 0
SameDurable s t = (s.promised ≡ t.promised) × (s.writer ≡ t.writer) × (s.committed ≡ t.committed) × (s.segments ≡ t.segments)

-- the step leaves, of what is durable, what its effects leave
abbrev pub StepIsItsEffects : Type 0
StepIsItsEffects = (s : NodeState) (r : Request) → SameDurable (node_step s r).state (after_effects s (effects_of s r))

abbrev pub StopAfterNothingIsKill : Type 0
StopAfterNothingIsKill = (s : NodeState) (r : Request) → stopped s r 0 ≡ crashed s

-- a stop after all effects is the step, and a node that goes down
abbrev pub StopAfterAllIsStep : Type 0
StopAfterAllIsStep = (s : NodeState) (r : Request) (keep : ℕ) → length (effects_of s r) ≤ keep → stopped s r keep ≡ crashed (node_step s r).state
