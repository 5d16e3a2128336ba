-- A caller's seats over pipes: what was written to each node and read of it is what the record
-- lists, and behind it at most one request that is under way.
use Rattle.std.specs.Prelude.{◌≡◌, ℕ, ◌+◌, ◌<◌, true, List, [], ◌∷◌, ◌++◌, length, replicate, slice_index_or, None}
use Rattle.journal_core.specs.declared.request.Request.{Request}
use Rattle.journal_core.specs.declared.heard.Heard.{Heard}
use Rattle.journal_core.specs.declared.heard.Heard.TheVariants.{Answer, Silent}
use Rattle.journal_history.specs.declared.record.Record.{Record}
use Rattle.journal_history.specs.declared.record.Record.TheVariants.{Call, Late, Operator, Outcome}
use Rattle.journal_history.specs.declared.record.Told.{Told}
use Rattle.journal_history.specs.declared.record.Told.TheVariants as told
use Rattle.play_calls.specs.Logs.{LogView, new_log}
use Rattle.pipe_seats.specs.Calls.{PipeView, unopened, IsCalledAt}
use Rattle.pipe_seats.specs.Seats.{SeatView, unopened_seat, IsAhead}

-- what contracts see of the seats: that at each node, and what was listed
pub record PipesView : Type 0 where
  pub seats : List SeatView
  pub log : LogView

-- of so many nodes, in this life of a caller who made no call
abbrev pub new_seats : ℕ → ℕ → PipesView
new_seats nodes life = record { seats = replicate nodes (unopened_seat life); log = new_log nodes true }

-- what a call did to the pipe of its node, by what was told of it
abbrev pub WentAs : Request → Told → PipeView → PipeView → Type 0
WentAs r (told.Reply reply) old new = IsCalledAt old new r (Answer reply)
WentAs r told.Silent old new = IsCalledAt old new r Silent
WentAs r told.Muted old new = (heard : Heard) × IsCalledAt old new r heard
WentAs r told.Dropped old new = new ≡ old

-- the line of the record reached this node, or would have but for a mark
abbrev pub IsOf : ℕ → Record → Type 0
IsOf node (Call k r t) = k ≡ node
IsOf node (Late k r) = k ≡ node
IsOf node (Operator k ask done) = ⊥
IsOf node (Outcome text) = ⊥

abbrev pub WentBy : Record → PipeView → PipeView → Type 0
WentBy (Call k r t) old new = WentAs r t old new
WentBy (Late k r) old new = (heard : Heard) × IsCalledAt old new r heard
WentBy (Operator k ask done) old new = new ≡ old
WentBy (Outcome text) old new = new ≡ old

-- what a line of the record did to the pipe of this node; a line of another node did nothing to it
pub record Did (node : ℕ) (line : Record) (old new : PipeView) : Type 0 where
  pub here : IsOf node line → WentBy line old new
  pub elsewhere : (IsOf node line → ⊥) → new ≡ old

-- what these lines did to it, one after the other
abbrev pub Goes : ℕ → List Record → PipeView → PipeView → Type 0
Goes node [] old new = new ≡ old
Goes node (line ∷ lines) old new = (between : PipeView) × Did node line old between × Goes node lines between new

-- What these lines did to the seat of this node: some pipe came of them, and over it went since
-- what is under way, and nothing else. Where a request was under way before, they begin with the
-- pipe as it was before that was sent. Where none is under way, before and after, this is `Goes` of
-- the pipes.
abbrev pub Holds : ℕ → List Record → SeatView → SeatView → Type 0
Holds node lines old new =
    (before : PipeView) → IsAhead old.under_way before old.pipe → (after : PipeView) × Goes node lines before after × IsAhead new.under_way after new.pipe

-- The second seats are the first ones some lines later: to each node's pipe came what these lines
-- say, and then what is under way, and nothing else.
pub record AreLater (old new : PipesView) : Type 0 where
  pub nodes : new.log.nodes ≡ old.log.nodes
  pub count : length new.seats ≡ length old.seats
  pub lines : List Record
  pub past : new.log.past ≡ old.log.past ++ lines
  pub seats : (i : ℕ) (d : SeatView) → i < length old.seats → Holds (i + 1) lines (slice_index_or old.seats i d) (slice_index_or new.seats i d)

-- No request is under way at any of these seats.
pub record AreResting (seats : List SeatView) : Type 0 where
  pub each : (i : ℕ) (d : SeatView) → i < length seats → (slice_index_or seats i d).under_way ≡ None

-- So in a life that ends like that to each node's pipe came what its record says, and nothing else.
abbrev pub LivesWent : Type 0
LivesWent =
    (nodes life : ℕ) (s : PipesView) → AreLater (new_seats nodes life) s → AreResting s.seats → (i : ℕ) (d : SeatView) → i < nodes
    → Goes (i + 1) s.log.past (unopened life) (slice_index_or s.seats i d).pipe
