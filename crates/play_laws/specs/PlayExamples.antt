-- Worked plays: scripts of several writers, with the results of each actor and with what some node
-- lists.
use Rattle.std.specs.Prelude.{ℕ, true, false, List, [], ◌∷◌, ◌++◌, drop, codes, Option, Some}
use Rattle.journal_core.specs.Views.{HeadView, BatchView}
use Rattle.journal_core.specs.declared.cut.Cut.TheVariants.{Old}
use Rattle.journal_core.specs.declared.segment_info.SegmentInfo.{SegmentInfo}
use Rattle.journal_core.specs.declared.request.Request.{Request}
use Rattle.journal_core.specs.declared.request.Request.TheVariants as request
use Rattle.journal_core.specs.declared.refusal.Refusal.{Refusal}
use Rattle.journal_core.specs.declared.refusal.Refusal.TheVariants as refusal
use Rattle.journal_core.specs.declared.reply.Reply.{Reply}
use Rattle.journal_core.specs.declared.reply.Reply.TheVariants as reply
use Rattle.writer_core.specs.declared.task.Task.TheVariants.{Takeover, Log, Roll, Close, Purge}
use Rattle.journal_history.specs.declared.stop.Stop.TheVariants.{Effects, DiskCalls}
use Rattle.journal_history.specs.declared.node_ask.NodeAsk.{NodeAsk}
use Rattle.journal_history.specs.declared.node_ask.NodeAsk.TheVariants.{Act, Kill, Restart, Arm}
use Rattle.journal_history.specs.declared.node_ask.NodeAnswer.TheVariants.{Replied, Stopped, Done}
use Rattle.journal_history.specs.declared.history_line.HistoryLine.{HistoryLine}
use Rattle.play_model.specs.Lines.{Line, Declares, Acts, Operates, Does, DoDrop, DoMute, DoLate}
use Rattle.play_model.specs.Told.{results_in}
use Rattle.play_model.specs.Plays.{Play, play_begins, play_steps, history_of, actor_at}

-- ## What a play gives
-- more steps than any of these plays has
unfoldable pub played : ℕ → List Line → Play
played nodes lines = play_steps 150 (play_begins false nodes lines)

-- the result lines of an actor
unfoldable pub results_at : Play → ℕ → List (List ℕ)
results_at p actor = results_in (actor_at p actor).past

-- what a node lists after its first lines
unfoldable pub listed : Play → ℕ → ℕ → List HistoryLine
listed p node skipped = drop skipped (history_of node p.trace)

-- ## Words to write them in
abbrev pub head : ℕ → ℕ → ℕ → HeadView
head epoch serial committed = record { epoch = epoch; serial = serial; committed = committed }

-- one edit, whose body is one byte, and two of them
abbrev pub edit : ℕ → List (List ℕ)
edit byte = (byte ∷ []) ∷ []

abbrev pub edits : ℕ → ℕ → List (List ℕ)
edits one other = (one ∷ []) ∷ (other ∷ []) ∷ []

abbrev pub batch : ℕ → List (List ℕ) → BatchView
batch first bodies = record { first = first; bodies = bodies }

-- a segment in progress that was not accepted
abbrev pub in_progress : ℕ → ℕ → ℕ → Option SegmentInfo
in_progress start end epoch = Some (record { start = start; end = end; epoch = epoch; is_final = false; accepted = false })

abbrev pub tells : ℕ → Request → Reply → HistoryLine
tells caller r reply = record { caller = caller; ask = Act false r; answer = Replied reply }

abbrev pub refuses : ℕ → Request → Refusal → HistoryLine
refuses caller r f = tells caller r (reply.Refused f)

abbrev pub stops : ℕ → Request → ℕ → HistoryLine
stops caller r keep = record { caller = caller; ask = Act false r; answer = Stopped keep }

abbrev pub does : ℕ → NodeAsk → HistoryLine
does operator ask = record { caller = operator; ask = ask; answer = Done }

-- ## One node; its only writer's call is dropped
unfoldable pub dropped_call : List Line
dropped_call = Declares (codes "a") ∷ Acts 0 (Does Takeover) ∷ Acts 0 (DoDrop 1 1) ∷ Acts 0 (Does (Log (edit 10))) ∷ []

-- ## Nine nodes, four of them down before the takeover, and a fifth after it
unfoldable pub killed_nodes : List Line
killed_nodes =
    Declares (codes "a") ∷ Operates 6 Kill ∷ Operates 7 Kill ∷ Operates 8 Kill ∷ Operates 9 Kill ∷ Acts 0 (Does Takeover) ∷ Operates 5 Kill
    ∷ Acts 0 (Does (Log (edits 10 11))) ∷ []

-- ## Two writers that propose one epoch
unfoldable pub competing_takeovers : List Line
competing_takeovers =
    Declares (codes "a") ∷ Declares (codes "b") ∷ Acts 0 (DoDrop 2 2) ∷ Acts 0 (DoDrop 3 2) ∷ Acts 0 (Does Takeover) ∷ Acts 1 (DoDrop 1 1)
    ∷ Acts 1 (Does Takeover) ∷ Acts 0 (Does Takeover) ∷ []

-- ## A writer that another one has fenced
unfoldable pub fenced_writer : List Line
fenced_writer = Declares (codes "a") ∷ Declares (codes "b") ∷ Acts 0 (Does Takeover) ∷ Acts 1 (Does Takeover) ∷ Acts 0 (Does (Log (edit 10))) ∷ []

unfoldable pub fencing_lines : List HistoryLine
fencing_lines =
    tells 1 (request.Prepare (head 2 1 0) 1) (reply.Prepared 1 0 (in_progress 1 1 1))
    ∷ tells 1 (request.Fetch (head 2 2 0) 1 1) (reply.Edits (batch 1 (edit 24)))
    ∷ tells 1 (request.Accept (head 2 3 0) (batch 1 (edit 24))) reply.Ok
    ∷ tells 1 (request.Finalize (head 2 4 1) 1 1) reply.Ok
    ∷ tells 1 (request.Start (head 2 5 1) 2) reply.Ok
    ∷ tells 1 (request.Journal (head 2 6 1) 2 (batch 2 (edit 24))) reply.Ok
    ∷ refuses 0 (request.Journal (head 1 3 1) 1 (batch 2 (edit 10))) (refusal.EpochRefused 2)
    ∷ []

-- ## An edit that one node holds is recovered: its writer heard no answer, and the other nodes never got it
unfoldable pub before_recovery : List Line
before_recovery =
    Declares (codes "a") ∷ Declares (codes "b") ∷ Acts 0 (Does Takeover) ∷ Acts 0 (DoMute 1 1) ∷ Acts 0 (DoDrop 2 1) ∷ Acts 0 (DoDrop 3 1)
    ∷ Acts 0 (Does (Log (edit 10))) ∷ []

unfoldable pub recovered_edit : List Line
recovered_edit = before_recovery ++ Acts 1 (Does Takeover) ∷ []

unfoldable pub recovering_lines : List HistoryLine
recovering_lines =
    tells 0 (request.Journal (head 1 3 1) 1 (batch 2 (edit 10))) reply.Ok
    ∷ tells 1 request.State (reply.State 1)
    ∷ tells 1 (request.NewEpoch 2) (reply.NewEpoch (Some 1))
    ∷ tells 1 (request.Prepare (head 2 1 0) 1) (reply.Prepared 1 1 (in_progress 1 2 1))
    ∷ tells 1 (request.Fetch (head 2 2 0) 1 1) (reply.Edits (batch 1 (edits 24 10)))
    ∷ tells 1 (request.Accept (head 2 3 0) (batch 1 (edits 24 10))) reply.Ok
    ∷ tells 1 (request.Finalize (head 2 4 2) 1 2) reply.Ok
    ∷ tells 1 (request.Start (head 2 5 2) 3) reply.Ok
    ∷ tells 1 (request.Journal (head 2 6 2) 3 (batch 3 (edit 24))) reply.Ok
    ∷ []

-- ## The fetch from that node is dropped: the edit is not acknowledged, and is lost
unfoldable pub lost_fetch : List Line
lost_fetch = before_recovery ++ Acts 1 (DoDrop 1 4) ∷ Acts 1 (Does Takeover) ∷ []

unfoldable pub second_fetch_lines : List HistoryLine
second_fetch_lines =
    tells 1 (request.Fetch (head 2 3 0) 1 1) (reply.Edits (batch 1 (edit 24)))
    ∷ tells 1 (request.Accept (head 2 4 0) (batch 1 (edit 24))) reply.Ok
    ∷ tells 1 (request.Finalize (head 2 5 1) 1 1) reply.Ok
    ∷ tells 1 (request.Start (head 2 6 1) 2) reply.Ok
    ∷ tells 1 (request.Journal (head 2 7 1) 2 (batch 2 (edit 24))) reply.Ok
    ∷ []

-- ## A copy that comes late: after a restart, to the node as it was, and of a call that was never made
unfoldable pub late_copies : List Line
late_copies =
    Declares (codes "a") ∷ Acts 0 (Does Takeover) ∷ Acts 0 (DoLate 1 3) ∷ Operates 1 Kill ∷ Operates 1 Restart ∷ Acts 0 (DoLate 1 3)
    ∷ Acts 0 (DoLate 1 9) ∷ []

abbrev pub late_start : Reply → HistoryLine
late_start reply = record { caller = 0; ask = Act true (request.Start (head 1 1 0) 1); answer = Replied reply }

unfoldable pub late_lines : List HistoryLine
late_lines =
    late_start (reply.Refused (refusal.OldSerial 2)) ∷ does 1 Kill ∷ does 1 Restart ∷ late_start (reply.Refused (refusal.SegmentHasEdits 1)) ∷ []

-- ## A roll, a purge, a close, and a takeover by the same writer
unfoldable pub rolled_and_purged : List Line
rolled_and_purged =
    Declares (codes "a") ∷ Acts 0 (Does Takeover) ∷ Acts 0 (Does Roll) ∷ Acts 0 (Does (Purge 100)) ∷ Acts 0 (Does Takeover) ∷ Acts 0 (Does Close)
    ∷ Acts 0 (Does Roll) ∷ Acts 0 (Does (Log (edits 10 11))) ∷ []

unfoldable pub purging_lines : List HistoryLine
purging_lines =
    tells 0 (request.Journal (head 1 3 1) 1 (batch 2 (edit 23))) reply.Ok
    ∷ tells 0 (request.Finalize (head 1 4 2) 1 2) reply.Ok
    ∷ tells 0 (request.Start (head 1 5 2) 3) reply.Ok
    ∷ tells 0 (request.Journal (head 1 6 2) 3 (batch 3 (edit 24))) reply.Ok
    ∷ tells 0 (request.Purge (head 1 7 3) 100) reply.Ok
    ∷ tells 0 request.State (reply.State 1)
    ∷ tells 0 (request.NewEpoch 2) (reply.NewEpoch (Some 3))
    ∷ tells 0 (request.Prepare (head 2 1 0) 3) (reply.Prepared 1 3 (in_progress 3 3 1))
    ∷ tells 0 (request.Fetch (head 2 2 0) 3 3) (reply.Edits (batch 3 (edit 24)))
    ∷ tells 0 (request.Accept (head 2 3 0) (batch 3 (edit 24))) reply.Ok
    ∷ tells 0 (request.Finalize (head 2 4 3) 3 3) reply.Ok
    ∷ tells 0 (request.Start (head 2 5 3) 4) reply.Ok
    ∷ tells 0 (request.Journal (head 2 6 3) 4 (batch 4 (edit 24))) reply.Ok
    ∷ tells 0 (request.Journal (head 2 7 4) 4 (batch 5 (edit 23))) reply.Ok
    ∷ tells 0 (request.Finalize (head 2 8 5) 4 5) reply.Ok
    ∷ []

-- ## A node that is stopped inside a prepare
unfoldable pub stopped_in_prepare : List Line
stopped_in_prepare =
    Declares (codes "a") ∷ Declares (codes "b") ∷ Acts 0 (DoDrop 2 4) ∷ Acts 0 (DoDrop 3 4) ∷ Acts 0 (Does Takeover) ∷ Operates 1 (Arm 3 (Effects 0))
    ∷ Acts 1 (Does Takeover) ∷ []

unfoldable pub stopping_lines : List HistoryLine
stopping_lines =
    tells 0 (request.Journal (head 1 2 0) 1 (batch 1 (edit 24))) reply.Ok
    ∷ does 2 (Arm 3 (Effects 0))
    ∷ tells 1 request.State (reply.State 1)
    ∷ tells 1 (request.NewEpoch 2) (reply.NewEpoch (Some 1))
    ∷ stops 1 (request.Prepare (head 2 1 0) 1) 0
    ∷ refuses 1 (request.Start (head 2 2 0) 1) refusal.Down
    ∷ []

-- ## A node that is cut off inside an acceptance, after so many disk calls
unfoldable pub cut_in_accept : ℕ → List Line
cut_in_accept calls =
    Declares (codes "a") ∷ Declares (codes "b") ∷ Acts 0 (Does Takeover) ∷ Operates 1 (Arm 5 (DiskCalls calls Old)) ∷ Acts 1 (Does Takeover)
    ∷ Operates 1 Restart ∷ Acts 0 (Does Takeover) ∷ []

-- what node 1 answers to that acceptance
unfoldable pub cut_lines : ℕ → List HistoryLine
cut_lines keep =
    stops 1 (request.Accept (head 2 3 0) (batch 1 (edit 24))) keep
    ∷ refuses 1 (request.Finalize (head 2 4 1) 1 1) refusal.Down
    ∷ refuses 1 (request.Start (head 2 5 1) 2) refusal.Down
    ∷ []
