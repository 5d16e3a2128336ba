-- What a worker does.
use Rattle.std.specs.Prelude.{◌≡◌, suc, true, List, [], ◌∷◌, ◌++◌, length}
use Rattle.atomic_table.specs.Seated.{TableId}
use Rattle.journal_core.specs.declared.request.Request.{Request}
use Rattle.crossbeam_queue.specs.Passes.{Pass, view}
use Rattle.play_pipes.specs.declared.queue.Log.{Log}
use Rattle.play_pipes.specs.declared.ask.Ask.{Ask}
use Rattle.play_pipes.specs.declared.ask.Ask.TheVariants.{Call, Close}
use Rattle.play_pipes.specs.Calls.{Calls, Start, calls_of}
use Rattle.play_pipes.specs.Answered.{AnsweredView, answers_of}
use Rattle.play_pipes.specs.Relay.{source_of}

-- the requests among what was asked
abbrev pub asked : List Ask → List Request
asked [] = []
asked (Call r ∷ asks) = r ∷ asked asks
asked (Close ∷ asks) = asked asks

-- so far it answered each call that it was asked, and nothing else was asked
pub record Serving (asks : TableId) (before : Calls) (takes : Log Ask) (gives : Log AnsweredView) (after : Calls) : Type 0 where
  pub pops : takes.pops ≡ true
  pub pushes : gives.pushes ≡ true
  pub source : gives.source ≡ source_of asks
  pub even : length takes.got ≡ length gives.sent
  pub whole : length (asked takes.got) ≡ length takes.got
  pub calls : after ≡ before ++ calls_of (asked takes.got) (answers_of gives.sent)

-- it popped one more than it pushed, and called its line as it was asked and answered
pub record Served (before : Calls) (takes : Log Ask) (gives : Log AnsweredView) (after : Calls) : Type 0 where
  pub pops : takes.pops ≡ true
  pub pushes : gives.pushes ≡ true
  pub closed : length takes.got ≡ suc (length gives.sent)
  pub calls : after ≡ before ++ calls_of (asked takes.got) (answers_of gives.sent)

-- that, with its passes at the queues at which they were at first
pub record Keeps (before : Start) (takes : Pass Ask (Log Ask)) (gives : Pass AnsweredView (Log AnsweredView)) (takes' : Pass Ask (Log Ask)) (gives' : Pass AnsweredView (Log AnsweredView))
    (after : Start) : Type 0 where
  pub place : after.0 ≡ before.0
  pub takes_own : (takes'.table_id ≡ takes.table_id) × (takes'.me.1 ≡ [])
  pub gives_own : (gives'.table_id ≡ gives.table_id) × (gives'.me.1 ≡ [])
  pub served : Served before.1 (view takes') (view gives') after.1
