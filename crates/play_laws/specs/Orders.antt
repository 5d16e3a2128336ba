-- The epoch order of two plays: where the lists of all nodes leave an order open, promises decide.
use Rattle.std.specs.Prelude.{ℕ, List, [], ◌∷◌, codes, None}
use Rattle.journal_core.specs.declared.request.Request.{Request}
use Rattle.journal_core.specs.declared.request.Request.TheVariants as request
use Rattle.journal_core.specs.declared.reply.Reply.{Reply}
use Rattle.journal_core.specs.declared.reply.Reply.TheVariants as reply
use Rattle.writer_core.specs.declared.task.Task.TheVariants.{Takeover}
use Rattle.journal_history.specs.declared.node_ask.NodeAsk.TheVariants.{Kill, Restart}
use Rattle.journal_history.specs.Entries as entry
use Rattle.journal_history.specs.Entries.{Entry, Move}
use Rattle.play_model.specs.Lines.{Line, Declares, Acts, Operates, Does, DoDrop, DoMute}
use Rattle.play_laws.specs.PlayExamples.{head, edit, batch}

-- A loses epoch 1 to B at node 1, which was killed and restarted in between; A's proposal reached
-- node 1, but its answer was lost.
unfoldable pub losing_proposal : List Line
losing_proposal =
    Declares (codes "a") ∷ Declares (codes "b") ∷ Operates 1 Kill ∷ Operates 1 Restart ∷ Acts 0 (DoDrop 2 2) ∷ Acts 0 (DoMute 1 2) ∷ Acts 0 (DoDrop 3 2)
    ∷ Acts 0 (Does Takeover) ∷ Acts 1 (DoDrop 1 1) ∷ Acts 1 (Does Takeover) ∷ Operates 2 Kill ∷ []

abbrev pub at : ℕ → Move → Entry
at node move = record { node = node; move = move }

abbrev pub says : ℕ → Request → Reply → Move
says caller r reply = entry.Answer caller entry.Heard r reply

-- in the order in which they came about: the kill of node 2 is last
unfoldable pub came_about : List Entry
came_about =
    at 1 entry.Kill ∷ at 1 entry.Restart ∷ at 1 (entry.Answer 0 entry.Muted (request.NewEpoch 1) (reply.NewEpoch None))
    ∷ at 2 (says 1 (request.NewEpoch 1) (reply.NewEpoch None)) ∷ at 3 (says 1 (request.NewEpoch 1) (reply.NewEpoch None))
    ∷ at 1 (says 1 (request.Start (head 1 1 0) 1) reply.Ok) ∷ at 2 (says 1 (request.Start (head 1 1 0) 1) reply.Ok) ∷ at 3 (says 1 (request.Start (head 1 1 0) 1) reply.Ok)
    ∷ at 1 (says 1 (request.Journal (head 1 2 0) 1 (batch 1 (edit 24))) reply.Ok) ∷ at 2 (says 1 (request.Journal (head 1 2 0) 1 (batch 1 (edit 24))) reply.Ok)
    ∷ at 3 (says 1 (request.Journal (head 1 2 0) 1 (batch 1 (edit 24))) reply.Ok) ∷ at 2 entry.Kill ∷ []

-- by promises: the kill stands after its node's last entry
unfoldable pub by_promise : List Entry
by_promise =
    at 1 entry.Kill ∷ at 1 entry.Restart ∷ at 1 (entry.Answer 0 entry.Muted (request.NewEpoch 1) (reply.NewEpoch None))
    ∷ at 2 (says 1 (request.NewEpoch 1) (reply.NewEpoch None)) ∷ at 3 (says 1 (request.NewEpoch 1) (reply.NewEpoch None))
    ∷ at 1 (says 1 (request.Start (head 1 1 0) 1) reply.Ok) ∷ at 2 (says 1 (request.Start (head 1 1 0) 1) reply.Ok) ∷ at 3 (says 1 (request.Start (head 1 1 0) 1) reply.Ok)
    ∷ at 1 (says 1 (request.Journal (head 1 2 0) 1 (batch 1 (edit 24))) reply.Ok) ∷ at 2 (says 1 (request.Journal (head 1 2 0) 1 (batch 1 (edit 24))) reply.Ok)
    ∷ at 2 entry.Kill ∷ at 3 (says 1 (request.Journal (head 1 2 0) 1 (batch 1 (edit 24))) reply.Ok) ∷ []
