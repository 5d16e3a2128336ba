-- What contracts see of the caller's end of a pipe.
use Rattle.std.specs.Prelude.{◌≡◌, ◌≤◌, true, List, [], ◌∷◌, ◌++◌, length, drop, Option, Some, None}
use Rattle.atomic_table.specs.Seated.{TableId}
use Rattle.journal_core.specs.declared.request.Request.{Request}
use Rattle.crossbeam_queue.specs.Passes.{Pass, view}
use Rattle.play_pipes.specs.declared.queue.Log.{Log}
use Rattle.play_pipes.specs.declared.ask.Ask.{Ask}
use Rattle.play_pipes.specs.Calls.{Calls, Start, Answer, call_of, calls_of}
use Rattle.play_pipes.specs.Relay.{source_of}
use Rattle.play_pipes.specs.Answered.{AnsweredView, answers_of}
use Rattle.play_pipes.specs.Served.{asked}

-- what the line had listed at first, what it listed for this caller since, and what it is asked and
-- hasn't answered
pub record EndView : Type 0 where
  pub start : Start
  pub told : Calls
  pub waiting : List Request

-- one request more, and its answer
abbrev pub put_one : Request → EndView → EndView
put_one r e = record { start = e.start; told = e.told; waiting = r ∷ [] }

abbrev pub told_one : Request → Answer → EndView → EndView
told_one r a e = record { start = e.start; told = e.told ++ call_of r a; waiting = [] }

abbrev pub as_list : Option Request → List Request
as_list None = []
as_list (Some r) = r ∷ []

-- an end as its passes of the two queues know it
abbrev pub end_seen : Start → Log Ask → Log AnsweredView → EndView
end_seen start sends hears = record { start = start; told = calls_of (asked sends.sent) (answers_of hears.got); waiting = drop (length hears.got) (asked sends.sent) }

abbrev pub log_of : {T : Type 0} → Pass T (Log T) → Log T
log_of p = view p

-- the passes are those of a pipe's two queues, and so were those that the worker was given
pub record IsTied (asks answers : TableId) (sends : Pass Ask (Log Ask)) (hears : Pass AnsweredView (Log AnsweredView)) (takes gives : TableId) : Type 0 where
  pub sends_own : (sends.table_id ≡ asks) × (sends.me.1 ≡ [])
  pub hears_own : (hears.table_id ≡ answers) × (hears.me.1 ≡ [])
  pub takes_own : takes ≡ asks
  pub gives_own : gives ≡ answers
  pub pushes : (view sends).pushes ≡ true
  pub pops : (view hears).pops ≡ true
  pub source : (view hears).source ≡ source_of asks
  pub whole : length (asked (view sends).sent) ≡ length (view sends).sent
  pub behind : length (view hears).got ≤ length (view sends).sent

-- the second list is the first, and then more
abbrev pub Goes : Calls → Calls → Type 0
Goes before after = (more : Calls) × (after ≡ before ++ more)
