-- Worked meshes: takeovers that crossed, a log without a body, and a caller that tails; and records
-- whose late copies are too few, or come too early.
use Rattle.std.specs.Prelude.{ℕ, false, List, [], ◌∷◌, None}
use Rattle.journal_core.specs.Views.{HeadView, BatchView}
use Rattle.journal_core.specs.declared.request.Request.{Request}
use Rattle.journal_core.specs.declared.refusal.Refusal.TheVariants as refusal
use Rattle.journal_core.specs.declared.request.Request.TheVariants as request
use Rattle.journal_core.specs.declared.reply.Reply.{Reply}
use Rattle.journal_core.specs.declared.reply.Reply.TheVariants as reply
use Rattle.writer_core.specs.Rounds.{start_record}
use Rattle.journal_history.specs.declared.node_ask.NodeAsk.TheVariants.{Act}
use Rattle.journal_history.specs.declared.node_ask.NodeAnswer.TheVariants.{Replied}
use Rattle.journal_history.specs.declared.history_line.HistoryLine.{HistoryLine}
use Rattle.journal_history.specs.declared.record.Record.{Record}
use Rattle.journal_history.specs.declared.record.Record.TheVariants.{Call, Late}
use Rattle.journal_history.specs.declared.record.Told.TheVariants as told
use Rattle.journal_history.specs.declared.mark.Mark.{Mark}
use Rattle.journal_history.specs.declared.mark.MarkKind.TheVariants as kind
use Rattle.journal_history.specs.Entries.{Answer, Heard, Entry}
use Rattle.mesh.specs.declared.whole.Mesh.{Mesh}
use Rattle.mesh.specs.Marks.{mark}

-- a call that was answered, as its node lists it, as its caller does, and as an entry
abbrev pub listed : ℕ → Request → Reply → HistoryLine
listed caller r reply = record { caller = caller; ask = Act false r; answer = Replied reply }

abbrev pub called : ℕ → Request → Reply → Record
called node r reply = Call node r (told.Reply reply)

abbrev pub answered : ℕ → ℕ → Request → Reply → Entry
answered node caller r reply = record { node = node; move = Answer caller Heard r reply }

abbrev pub promised : Reply
promised = reply.NewEpoch None

-- ## Two takeovers
-- Each asks node 1 and then node 2 for their promises, and proposes an epoch. At node 1 the second
-- one came after the first had proposed there. At node 2 it came before the first had asked.
unfoldable pub crossed : Mesh
crossed =
    record {
      nodes = 2;
      histories =
          (listed 0 request.State (reply.State 0) ∷ listed 0 (request.NewEpoch 1) promised ∷ listed 1 request.State (reply.State 1) ∷ listed 1 (request.NewEpoch 2) promised ∷ [])
          ∷ (listed 1 request.State (reply.State 0) ∷ listed 0 request.State (reply.State 0) ∷ listed 0 (request.NewEpoch 1) promised ∷ listed 1 (request.NewEpoch 2) promised ∷ [])
          ∷ [];
      records =
          (called 1 request.State (reply.State 0) ∷ called 2 request.State (reply.State 0) ∷ called 1 (request.NewEpoch 1) promised ∷ called 2 (request.NewEpoch 1) promised ∷ [])
          ∷ (called 1 request.State (reply.State 1) ∷ called 2 request.State (reply.State 0) ∷ called 1 (request.NewEpoch 2) promised ∷ called 2 (request.NewEpoch 2) promised ∷ [])
          ∷ [] ∷ [];
      plan = [] ∷ [] ∷ [];
    }

-- its epoch order
unfoldable pub crossed_order : List Entry
crossed_order =
    answered 1 0 (request.NewEpoch 1) promised ∷ answered 2 0 (request.NewEpoch 1) promised ∷ answered 1 1 (request.NewEpoch 2) promised
    ∷ answered 2 1 (request.NewEpoch 2) promised ∷ []

-- ## One takeover at one node, and a log without a body
abbrev pub first_head : ℕ → ℕ → HeadView
first_head serial committed = record { epoch = 1; serial = serial; committed = committed }

abbrev pub batch_at : ℕ → List (List ℕ) → BatchView
batch_at first bodies = record { first = first; bodies = bodies }

unfoldable pub empty_log : Mesh
empty_log =
    record {
      nodes = 1;
      histories =
          (listed 0 request.State (reply.State 0) ∷ listed 0 (request.NewEpoch 1) promised ∷ listed 0 (request.Start (first_head 1 0) 1) reply.Ok
          ∷ listed 0 (request.Journal (first_head 2 0) 1 (batch_at 1 start_record)) reply.Ok ∷ listed 0 (request.Journal (first_head 3 1) 1 (batch_at 2 [])) reply.Ok ∷ [])
          ∷ [];
      records =
          (called 1 request.State (reply.State 0) ∷ called 1 (request.NewEpoch 1) promised ∷ called 1 (request.Start (first_head 1 0) 1) reply.Ok
          ∷ called 1 (request.Journal (first_head 2 0) 1 (batch_at 1 start_record)) reply.Ok ∷ called 1 (request.Journal (first_head 3 1) 1 (batch_at 2 [])) reply.Ok ∷ [])
          ∷ [] ∷ [];
      plan = [] ∷ [];
    }

unfoldable pub empty_order : List Entry
empty_order =
    answered 1 0 (request.NewEpoch 1) promised ∷ answered 1 0 (request.Start (first_head 1 0) 1) reply.Ok
    ∷ answered 1 0 (request.Journal (first_head 2 0) 1 (batch_at 1 start_record)) reply.Ok ∷ answered 1 0 (request.Journal (first_head 3 1) 1 (batch_at 2 [])) reply.Ok ∷ []

-- ## A takeover and a log at one node, which another caller tails
-- It reads the record that begins the segment, which the log told its node is committed, and then
-- that the edit is not.
abbrev pub logged : List (List ℕ)
logged = (42 ∷ []) ∷ []

unfoldable pub tailed : Mesh
tailed =
    record {
      nodes = 1;
      histories =
          (listed 0 request.State (reply.State 0) ∷ listed 0 (request.NewEpoch 1) promised ∷ listed 0 (request.Start (first_head 1 0) 1) reply.Ok
          ∷ listed 0 (request.Journal (first_head 2 0) 1 (batch_at 1 start_record)) reply.Ok ∷ listed 0 (request.Journal (first_head 3 1) 1 (batch_at 2 logged)) reply.Ok
          ∷ listed 1 (request.Read 1) (reply.Edits (batch_at 1 start_record)) ∷ listed 1 (request.Read 2) (reply.Refused (refusal.NotHere 1)) ∷ [])
          ∷ [];
      records =
          (called 1 request.State (reply.State 0) ∷ called 1 (request.NewEpoch 1) promised ∷ called 1 (request.Start (first_head 1 0) 1) reply.Ok
          ∷ called 1 (request.Journal (first_head 2 0) 1 (batch_at 1 start_record)) reply.Ok ∷ called 1 (request.Journal (first_head 3 1) 1 (batch_at 2 logged)) reply.Ok ∷ [])
          ∷ (called 1 (request.Read 1) (reply.Edits (batch_at 1 start_record)) ∷ called 1 (request.Read 2) (reply.Refused (refusal.NotHere 1)) ∷ [])
          ∷ [] ∷ [];
      plan = [] ∷ [] ∷ [];
    }

-- reads aren't in its epoch order
unfoldable pub tailed_order : List Entry
tailed_order =
    answered 1 0 (request.NewEpoch 1) promised ∷ answered 1 0 (request.Start (first_head 1 0) 1) reply.Ok
    ∷ answered 1 0 (request.Journal (first_head 2 0) 1 (batch_at 1 start_record)) reply.Ok ∷ answered 1 0 (request.Journal (first_head 3 1) 1 (batch_at 2 logged)) reply.Ok ∷ []

-- ## Late copies
-- the first two calls are to be copied; both ask the same
unfoldable pub two_marks : List Mark
two_marks = mark 1 1 kind.Late ∷ mark 1 2 kind.Late ∷ []

unfoldable pub copied_once : List Record
copied_once = Call 1 request.Manifest told.Silent ∷ Call 1 request.Manifest told.Silent ∷ Late 1 request.Manifest ∷ []

-- the second copy comes before the second call
unfoldable pub copied_early : List Record
copied_early = Call 1 request.Manifest told.Silent ∷ Late 1 request.Manifest ∷ Late 1 request.Manifest ∷ Call 1 request.Manifest told.Silent ∷ []
