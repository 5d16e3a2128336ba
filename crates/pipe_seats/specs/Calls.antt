-- The pipe to a node: a call writes its request's line and reads its reply's.
use Rattle.std.specs.Prelude.{ℕ, ◌≡◌, ◌+◌, ◌⊎◌, Bool, true, false, List, [], ◌∷◌, ◌++◌, Option, Some, None}
use Rattle.std.specs.List.{AllByRecursion}
use Rattle.std.specs.Io.KnownBytes.{Appends, Consumes}
use Rattle.base_outside.specs.Whole.{TakesFront}
use Rattle.journal_core.specs.declared.request.Request.{Request}
use Rattle.journal_core.specs.declared.request.Request.TheVariants as request
use Rattle.journal_core.specs.declared.reply.Reply.{Reply}
use Rattle.journal_core.specs.declared.heard.Heard.{Heard}
use Rattle.journal_core.specs.declared.heard.Heard.TheVariants.{Answer, Silent}
use Rattle.journal_core.specs.Peers.{FitsHeard}
use Rattle.journal_text.specs.Texts.{request_text, reply_text}
use Rattle.journal_session.specs.Lines.{lines_text}
use Rattle.pipe_seats.specs.Tagged.{tagged}

-- ## The ends
-- what was written to the one end and what is still to be read of the other, where that is told
pub record EndsView : Type 0 where
  pub taken : Option (List ℕ)
  pub left : Option (List ℕ)

abbrev pub taken_in : Option EndsView → Option (List ℕ)
taken_in None = None
taken_in (Some ends) = ends.taken

abbrev pub left_in : Option EndsView → Option (List ℕ)
left_in None = None
left_in (Some ends) = ends.left

-- What was written to a pipe and what is still to be read of it, where that is told; whether it is
-- in use, which it isn't before its first opening and from a fault on; the life of its caller, and
-- how many calls of that life were written to the node, or begun to be; and the ends that came at
-- its openings, in their order, each as they were then.
pub record PipeView : Type 0 where
  pub taken : Option (List ℕ)
  pub left : Option (List ℕ)
  pub is_open : Bool
  pub life : ℕ
  pub calls : ℕ
  pub opened : List EndsView

-- ## Lines
-- each with its line feed
abbrev pub request_line : ℕ → ℕ → Request → List ℕ
request_line life call r = tagged life call (request_text r) ++ 10 ∷ []

abbrev pub reply_line : ℕ → ℕ → Reply → List ℕ
reply_line life call reply = tagged life call (reply_text reply) ++ 10 ∷ []

-- a line that answers another call than this one
pub record IsStale (life call : ℕ) (line : List ℕ) : Type 0 where
  pub of_life : ℕ
  pub of_call : ℕ
  pub text : List ℕ
  pub is : line ≡ tagged of_life of_call text
  pub other : (of_life ≡ life) × (of_call ≡ call) → ⊥

-- some lines were read that answer other calls
pub record PassesStale (life call : ℕ) (before after : Option (List ℕ)) : Type 0 where
  pub lines : List (List ℕ)
  pub stale : AllByRecursion (IsStale life call) lines
  pub given : Consumes before after (lines_text lines)

-- and then this line
pub record TakesAfterStale (life call : ℕ) (line : List ℕ) (before after : Option (List ℕ)) : Type 0 where
  pub between : Option (List ℕ)
  pub passed : PassesStale life call before between
  pub given : Consumes between after (line ++ 10 ∷ [])

-- the line is that of a reply to this call, which answers its request
pub record IsReplyLine (life call : ℕ) (r : Request) (reply : Reply) (line : List ℕ) : Type 0 where
  pub is : line ≡ tagged life call (reply_text reply)
  pub fits : FitsHeard r (Answer reply)

-- the reply to this call was read, after some that answer others
pub record IsReplyRead (life call : ℕ) (r : Request) (reply : Reply) (before after : Option (List ℕ)) : Type 0 where
  pub between : Option (List ℕ)
  pub passed : PassesStale life call before between
  pub given : Consumes between after (reply_line life call reply)
  pub fits : FitsHeard r (Answer reply)

-- ## Calls
-- before its first opening
abbrev pub unopened : ℕ → PipeView
unopened life = record { taken = None; left = None; is_open = false; life = life; calls = 0; opened = [] }

-- A request was written: all of its line where the pipe is in use after it, and else a front of it.
-- To a pipe that isn't in use nothing is written. A number whose line was begun isn't used again:
-- nothing was written, or the call was counted.
pub record IsSent (old new : PipeView) (r : Request) : Type 0 where
  pub closed : old.is_open ≡ false → new ≡ old
  pub was_open : new.is_open ≡ true → old.is_open ≡ true
  pub whole : new.is_open ≡ true → Appends old.taken new.taken (request_line old.life (old.calls + 1) r)
  pub counted : new.is_open ≡ true → new.calls ≡ old.calls + 1
  pub begun : ((new.taken ≡ old.taken) × (new.calls ≡ old.calls)) ⊎ (new.calls ≡ old.calls + 1)
  pub front : TakesFront old.taken new.taken (request_line old.life (old.calls + 1) r)
  pub left : new.left ≡ old.left
  pub life : new.life ≡ old.life
  pub opened : new.opened ≡ old.opened

-- the answer to the call that was written last was read whole, and the pipe is in use; of silence
-- nothing more is known
abbrev pub IsReadAs : PipeView → PipeView → Request → Heard → Type 0
IsReadAs old new r (Answer reply) =
    (old.is_open ≡ true) × (new.is_open ≡ true) × IsReplyRead old.life old.calls r reply old.left new.left
IsReadAs old new r Silent = new.is_open ≡ false

-- A reply was heard: its line was read, or nothing fit, and the pipe isn't in use any more.
pub record IsHeardAt (old new : PipeView) (r : Request) (heard : Heard) : Type 0 where
  pub read : IsReadAs old new r heard
  pub closed : old.is_open ≡ false → new ≡ old
  pub taken : new.taken ≡ old.taken
  pub life : new.life ≡ old.life
  pub calls : new.calls ≡ old.calls
  pub opened : new.opened ≡ old.opened

-- Its request was sent, and then its reply was heard.
pub record IsExchanged (old new : PipeView) (r : Request) (heard : Heard) : Type 0 where
  pub between : PipeView
  pub sent : IsSent old between r
  pub heard_then : IsHeardAt between new r heard

-- the pipe was opened again, for the calls to come: they go over the ends that came then, as they
-- were
pub record IsOpenedAgain (old new : PipeView) : Type 0 where
  pub is_open : new.is_open ≡ true
  pub life : new.life ≡ old.life
  pub calls : new.calls ≡ old.calls
  pub opened : new.opened ≡ old.opened ++ record { taken = new.taken; left = new.left } ∷ []

-- a node that came back may join with this request: at a takeover, a roll, or a tail
abbrev pub may_join : Request → Bool
may_join request.State = true
may_join (request.Start head start) = true
may_join (request.Read from) = true
may_join _ = false

-- it is as it was, or was opened again
abbrev pub IsReady : PipeView → PipeView → Type 0
IsReady old new = (new ≡ old) ⊎ IsOpenedAgain old new

-- A call: a pipe that isn't in use may first be opened again.
pub record IsCalledAt (old new : PipeView) (r : Request) (heard : Heard) : Type 0 where
  pub ready : PipeView
  pub readied : IsReady old ready
  pub exchanged : IsExchanged ready new r heard
