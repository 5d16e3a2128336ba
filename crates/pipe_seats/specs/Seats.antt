-- The seat at a node: its pipe, and the request under way, which was sent over it ahead of its line
-- in the record.
use Rattle.std.specs.Prelude.{ℕ, ◌≡◌, Option, Some, None}
use Rattle.journal_core.specs.declared.request.Request.{Request}
use Rattle.journal_core.specs.declared.heard.Heard.{Heard}
use Rattle.pipe_seats.specs.Calls.{PipeView, unopened, IsReady, IsSent, IsHeardAt, IsCalledAt}

-- the pipe, and the request that was sent over it and of which nothing was heard yet
pub record SeatView : Type 0 where
  pub pipe : PipeView
  pub under_way : Option Request

-- before the pipe's first opening
abbrev pub unopened_seat : ℕ → SeatView
unopened_seat life = record { pipe = unopened life; under_way = None }

-- A request went over a pipe: one that isn't in use may first be opened again.
pub record IsSentAt (old new : PipeView) (r : Request) : Type 0 where
  pub ready : PipeView
  pub readied : IsReady old ready
  pub sent : IsSent ready new r

-- what went over the pipe since it was so: nothing, or the request under way
abbrev pub IsAhead : Option Request → PipeView → PipeView → Type 0
IsAhead None old now = now ≡ old
IsAhead (Some r) old now = IsSentAt old now r

-- A request was sent where none was under way; it is then.
pub record IsSentAhead (old new : SeatView) (r : Request) : Type 0 where
  pub idle : old.under_way ≡ None
  pub under_way : new.under_way ≡ Some r
  pub sent : IsSentAt old.pipe new.pipe r

-- The reply to the request under way was heard, or silence. None is under way then.
pub record IsHeardBack (old new : SeatView) (r : Request) (heard : Heard) : Type 0 where
  pub under_way : old.under_way ≡ Some r
  pub idle : new.under_way ≡ None
  pub heard_then : IsHeardAt old.pipe new.pipe r heard

-- A call whose request is sent now, or was under way: it is one of the pipe as it was before what
-- is under way was sent. None is under way then.
pub record IsCalledFrom (old new : SeatView) (r : Request) (heard : Heard) : Type 0 where
  pub idle : new.under_way ≡ None
  pub called : (before : PipeView) → IsAhead old.under_way before old.pipe → IsCalledAt before new.pipe r heard
