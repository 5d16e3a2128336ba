-- A run of three nodes and two writers: an acknowledged edit, and one that a single node holds, are
-- recovered by a takeover, past a kill, a restart, a late copy and a stop inside a prepare; the new
-- writer goes on.
use Rattle.std.specs.Prelude.{ℕ, ◌++◌, false, List, [], ◌∷◌, map, None, Some}
use Rattle.journal_core.specs.Views.{HeadView, BatchView}
use Rattle.journal_core.specs.declared.request.Request.{Request}
use Rattle.journal_core.specs.declared.request.Request.TheVariants.{NewEpoch, Start, Journal, Finalize, Prepare, Fetch, Accept, Purge}
use Rattle.journal_core.specs.declared.refusal.Refusal.TheVariants.{SegmentHasEdits}
use Rattle.journal_core.specs.declared.reply.Reply.{Reply}
use Rattle.journal_core.specs.declared.reply.Reply.TheVariants as reply
use Rattle.writer_core.specs.declared.task.Task.TheVariants.{Log, Roll, Purge as TrimTo}
use Rattle.journal_history.specs.Entries.{Heard, Muted, Late, Answer, Stop, Kill, Restart, Entry}
use Rattle.run_safety.specs.Tables.{Told, TakeoverTable, Call, Tables}

abbrev pub head : ℕ → ℕ → ℕ → HeadView
head epoch serial committed = record { epoch = epoch; serial = serial; committed = committed }

-- the record that begins a segment, and three edits
abbrev pub begin : List ℕ
begin = 24 ∷ []

abbrev pub edit : List ℕ
edit = 7 ∷ []

abbrev pub unheard : List ℕ
unheard = 8 ∷ []

abbrev pub later : List ℕ
later = 9 ∷ []

abbrev pub one_edit : ℕ → List ℕ → BatchView
one_edit txid body = record { first = txid; bodies = body ∷ [] }

abbrev pub heard_at : ℕ → Request → Reply → ℕ → Entry
heard_at caller request answer node = record { node = node; move = Answer caller Heard request answer }

abbrev pub at_all : ℕ → Request → Reply → List Entry
at_all caller request answer = map (heard_at caller request answer) (1 ∷ 2 ∷ 3 ∷ [])

-- Writer 0 takes epoch 1, begins segment 1 at all nodes and logs an edit. Its log of the next one
-- reaches node 1 alone, and nobody hears.
abbrev pub first_writer : List Entry
first_writer =
    at_all 0 (NewEpoch 1) (reply.NewEpoch None)
    ++ at_all 0 (Start (head 1 1 0) 1) reply.Ok
    ++ at_all 0 (Journal (head 1 2 0) 1 (one_edit 1 begin)) reply.Ok
    ++ at_all 0 (Journal (head 1 3 1) 1 (one_edit 2 edit)) reply.Ok
    ++ record { node = 1; move = Answer 0 Muted (Journal (head 1 4 2) 1 (one_edit 3 unheard)) reply.Ok } ∷ []

-- Node 2 goes down and comes up again, and a copy of its first `start` comes late.
abbrev pub interlude : List Entry
interlude =
    record { node = 2; move = Kill }
    ∷ record { node = 2; move = Restart }
    ∷ record { node = 2; move = Answer 0 Late (Start (head 1 1 0) 1) (reply.Refused (SegmentHasEdits 2)) }
    ∷ []

-- what a node tells of segment 1
abbrev pub tells : ℕ → ℕ → Reply
tells known end = reply.Prepared 1 known (Some (record { start = 1; end = end; epoch = 1; is_final = false; accepted = false }))

abbrev pub recovered : BatchView
recovered = record { first = 1; bodies = begin ∷ edit ∷ unheard ∷ [] }

-- Writer 1 takes epoch 2 by nodes 1 and 2; node 3 is stopped inside its prepare and comes up again.
-- It recovers all three edits, begins segment 4 and logs an edit.
abbrev pub second_writer : List Entry
second_writer =
    heard_at 1 (NewEpoch 2) (reply.NewEpoch (Some 1)) 1
    ∷ heard_at 1 (NewEpoch 2) (reply.NewEpoch (Some 1)) 2
    ∷ heard_at 1 (Prepare (head 2 1 0) 1) (tells 2 3) 1
    ∷ heard_at 1 (Prepare (head 2 1 0) 1) (tells 0 2) 2
    ∷ record { node = 3; move = Stop 1 false (Prepare (head 2 1 0) 1) 1 }
    ∷ record { node = 3; move = Restart }
    ∷ heard_at 1 (Fetch (head 2 2 0) 1 1) (reply.Edits recovered) 1
    ∷ at_all 1 (Accept (head 2 3 0) recovered) reply.Ok
    ++ at_all 1 (Finalize (head 2 4 3) 1 3) reply.Ok
    ++ at_all 1 (Start (head 2 5 3) 4) reply.Ok
    ++ at_all 1 (Journal (head 2 6 3) 4 (one_edit 4 begin)) reply.Ok
    ++ at_all 1 (Journal (head 2 7 4) 4 (one_edit 5 later)) reply.Ok

abbrev pub recovered_edit : List Entry
recovered_edit = first_writer ++ interlude ++ second_writer

-- the log that epoch 2 recovered
abbrev pub recovered_log : List (List ℕ)
recovered_log = begin ∷ edit ∷ unheard ∷ []

-- the line of the run
abbrev pub its_line : List (List ℕ)
its_line = begin ∷ edit ∷ unheard ∷ begin ∷ later ∷ []

-- ## Whose calls they are
abbrev pub answers : ℕ → Reply → List ℕ → List Told
answers round answer nodes = map (λ node. record { round = round; node = node; reply = answer }) nodes

abbrev pub all : List ℕ
all = 1 ∷ 2 ∷ 3 ∷ []

abbrev pub first_takeover : TakeoverTable
first_takeover =
    record {
      caller = 0;
      epoch = 1;
      tasks = Log (edit ∷ []) ∷ Log (unheard ∷ []) ∷ [];
      answers = answers 0 (reply.NewEpoch None) all ++ answers 1 reply.Ok all ++ answers 2 reply.Ok all ++ answers 3 reply.Ok all;
    }

abbrev pub second_takeover : TakeoverTable
second_takeover =
    record {
      caller = 1;
      epoch = 2;
      tasks = Log (later ∷ []) ∷ [];
      answers =
          answers 0 (reply.NewEpoch (Some 1)) (1 ∷ 2 ∷ [])
          ++ answers 1 (tells 2 3) (1 ∷ [])
          ++ answers 1 (tells 0 2) (2 ∷ [])
          ++ answers 2 (reply.Edits recovered) (1 ∷ [])
          ++ answers 3 reply.Ok all
          ++ answers 4 reply.Ok all
          ++ answers 5 reply.Ok all
          ++ answers 6 reply.Ok all
          ++ answers 7 reply.Ok all;
    }

abbrev pub rounds : ℕ → List ℕ → List Call
rounds takeover numbers = map (λ round. record { takeover = takeover; round = round }) numbers

abbrev pub tables : Tables
tables =
    record {
      takeovers = first_takeover ∷ second_takeover ∷ [];
      calls =
          rounds 0 (0 ∷ 0 ∷ 0 ∷ 1 ∷ 1 ∷ 1 ∷ 2 ∷ 2 ∷ 2 ∷ 3 ∷ 3 ∷ 3 ∷ 4 ∷ [])
          ++ rounds 0 (0 ∷ 0 ∷ 1 ∷ [])
          ++ rounds 1 (0 ∷ 0 ∷ 1 ∷ 1 ∷ 1 ∷ 0 ∷ 2 ∷ 3 ∷ 3 ∷ 3 ∷ 4 ∷ 4 ∷ 4 ∷ 5 ∷ 5 ∷ 5 ∷ 6 ∷ 6 ∷ 6 ∷ 7 ∷ 7 ∷ 7 ∷ []);
    }

-- ## A purge
-- A writer of one node logs an edit in segment 1, rolls to segment 4, and purges from there what
-- ends below txid 4.
abbrev pub purged : List Entry
purged =
    heard_at 0 (NewEpoch 1) (reply.NewEpoch None) 1
    ∷ heard_at 0 (Start (head 1 1 0) 1) reply.Ok 1
    ∷ heard_at 0 (Journal (head 1 2 0) 1 (one_edit 1 begin)) reply.Ok 1
    ∷ heard_at 0 (Journal (head 1 3 1) 1 (one_edit 2 edit)) reply.Ok 1
    ∷ heard_at 0 (Journal (head 1 4 2) 1 (one_edit 3 (23 ∷ []))) reply.Ok 1
    ∷ heard_at 0 (Finalize (head 1 5 3) 1 3) reply.Ok 1
    ∷ heard_at 0 (Start (head 1 6 3) 4) reply.Ok 1
    ∷ heard_at 0 (Journal (head 1 7 3) 4 (one_edit 4 begin)) reply.Ok 1
    ∷ heard_at 0 (Purge (head 1 8 4) 4) reply.Ok 1
    ∷ []

abbrev pub purging_takeover : TakeoverTable
purging_takeover =
    record {
      caller = 0;
      epoch = 1;
      tasks = Log (edit ∷ []) ∷ Roll ∷ TrimTo 4 ∷ [];
      answers =
          answers 0 (reply.NewEpoch None) (1 ∷ [])
          ++ answers 1 reply.Ok (1 ∷ [])
          ++ answers 2 reply.Ok (1 ∷ [])
          ++ answers 3 reply.Ok (1 ∷ [])
          ++ answers 4 reply.Ok (1 ∷ [])
          ++ answers 5 reply.Ok (1 ∷ [])
          ++ answers 6 reply.Ok (1 ∷ [])
          ++ answers 7 reply.Ok (1 ∷ [])
          ++ answers 8 reply.Ok (1 ∷ []);
    }

abbrev pub purging_tables : Tables
purging_tables = record { takeovers = purging_takeover ∷ []; calls = rounds 0 (0 ∷ 1 ∷ 2 ∷ 3 ∷ 4 ∷ 5 ∷ 6 ∷ 7 ∷ 8 ∷ []) }

-- ## What isn't a run, and what isn't safe
-- a node that promises one epoch twice
abbrev pub promised_twice : List Entry
promised_twice = heard_at 0 (NewEpoch 1) (reply.NewEpoch None) 1 ∷ heard_at 1 (NewEpoch 1) (reply.NewEpoch None) 1 ∷ []

-- two nodes, each of which made another edit final at txid 1
abbrev pub final_alone : ℕ → List ℕ → List Entry
final_alone node body =
    heard_at node (Start (head node 1 0) 1) reply.Ok node
    ∷ heard_at node (Journal (head node 2 0) 1 (one_edit 1 body)) reply.Ok node
    ∷ heard_at node (Finalize (head node 3 1) 1 1) reply.Ok node
    ∷ []

abbrev pub split : List Entry
split = final_alone 1 begin ++ final_alone 2 edit
