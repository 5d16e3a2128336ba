-- Worked examples: writers over plain nodes, call by call.
use Rattle.std.specs.Prelude.{ℕ, zero, suc, ◌-◌, ◌≡◌, List, [], ◌∷◌, ◌++◌, Option, Some, None, true, false, replicate, reverse, slice_get, slice_set}
use Rattle.journal_core.specs.Views.{HeadView, BatchView}
use Rattle.journal_core.specs.declared.segment.Segment.{Segment}
use Rattle.journal_core.specs.declared.node_state.NodeState.{NodeState}
use Rattle.journal_core.specs.declared.request.Request.{Request}
use Rattle.journal_core.specs.declared.request.Request.TheVariants as request
use Rattle.journal_core.specs.declared.refusal.Refusal.TheVariants as refusal
use Rattle.journal_core.specs.declared.heard.Heard.TheVariants.{Answer, Silent}
use Rattle.journal_core.specs.Step.{Stepped, node_step, fresh_state, crashed}
use Rattle.writer_core.specs.declared.cause.Cause.TheVariants as cause
use Rattle.writer_core.specs.declared.phase.Phase.TheVariants as phase
use Rattle.writer_core.specs.declared.task.Task.{Task}
use Rattle.writer_core.specs.declared.task.Task.TheVariants as task
use Rattle.writer_core.specs.declared.task.Begun.{Begun}
use Rattle.writer_core.specs.declared.task.Begun.TheVariants as begun
use Rattle.writer_core.specs.declared.turn.Turn.{Turn}
use Rattle.writer_core.specs.declared.turn.Turn.TheVariants as turn
use Rattle.writer_core.specs.declared.turn.Outcome.TheVariants as outcome
use Rattle.writer_core.specs.Views.{WriterView}
use Rattle.writer_core.specs.Rounds.{Judgment}
use Rattle.writer_core.specs.Writer.{new_writer, writer_begun, next_call, writer_heard}

-- ## A cluster of nodes, and one writer's calls to them
-- what becomes of a call: it is answered, its answer is lost, or it isn't delivered
pub data Fate : Type 0 where
  Heard_ : Fate
  Muted : Fate
  Dropped : Fate

pub record Cluster : Type 0 where
  pub nodes : List NodeState
  pub writer : WriterView
  -- the calls of the last task, the last one first, and what came of the last answer
  pub calls : List (ℕ × Request)
  pub turn : Turn

abbrev pub after_call : Cluster → List NodeState → ℕ → Request → Judgment → Cluster
after_call c nodes node r judged = record { nodes = nodes; writer = judged.writer; calls = (node, r) ∷ c.calls; turn = judged.turn }

abbrev pub with_node : List NodeState → ℕ → NodeState → List NodeState
with_node nodes node s = slice_set nodes (node - 1) s

abbrev pub call_of : Fate → Cluster → ℕ → Request → Stepped → Cluster
call_of Heard_ c node r stepped = after_call c (with_node c.nodes node stepped.state) node r (writer_heard c.writer node (Answer stepped.reply))
call_of Muted c node r stepped = after_call c (with_node c.nodes node stepped.state) node r (writer_heard c.writer node Silent)
call_of Dropped c node r stepped = after_call c c.nodes node r (writer_heard c.writer node Silent)

abbrev pub call_at : Fate → Cluster → ℕ → Request → Option NodeState → Cluster
call_at fate c node r None = c
call_at fate c node r (Some s) = call_of fate c node r (node_step s r)

abbrev pub next_made : Fate → Cluster → Option (ℕ × Request) → Cluster
next_made fate c None = c
next_made fate c (Some (node, r)) = call_at fate c node r (slice_get c.nodes (node - 1))

abbrev pub first_fate : List Fate → Fate
first_fate [] = Heard_
first_fate (fate ∷ fates) = fate

abbrev pub later_fates : List Fate → List Fate
later_fates [] = []
later_fates (fate ∷ fates) = fates

-- so many calls, as long as there are some to make; those past the list of fates are answered
unfoldable pub calls_made : ℕ → List Fate → Cluster → Cluster
calls_made zero fates c = c
calls_made (suc more) fates c = calls_made more (later_fates fates) (next_made (first_fate fates) c (next_call c.writer))

-- a task, up to its end
abbrev pub task_done : Task → List Fate → Cluster → Cluster
task_done t fates c = calls_made 48 fates (record c { writer = (writer_begun c.writer t).writer; calls = [] })

abbrev pub fresh_cluster : ℕ → Cluster
fresh_cluster n = record { nodes = replicate n fresh_state; writer = new_writer n; calls = []; turn = turn.Going }

-- another writer at the same nodes
abbrev pub with_writer : WriterView → Cluster → Cluster
with_writer w c = record c { writer = w }

-- the node is killed
abbrev pub killed_of : List NodeState → ℕ → Option NodeState → List NodeState
killed_of nodes node None = nodes
killed_of nodes node (Some s) = with_node nodes node (crashed s)

abbrev pub killed : ℕ → Cluster → Cluster
killed node c = record c { nodes = killed_of c.nodes node (slice_get c.nodes (node - 1)) }

-- the requests of the last task in order
abbrev pub requests : Cluster → List (ℕ × Request)
requests c = reverse c.calls

-- ## The known requests
abbrev pub head : ℕ → ℕ → ℕ → HeadView
head epoch serial committed = record { epoch = epoch; serial = serial; committed = committed }

abbrev pub batch : ℕ → List (List ℕ) → BatchView
batch first bodies = record { first = first; bodies = bodies }

-- a request to each of three nodes
abbrev pub to_three : Request → List (ℕ × Request)
to_three r = (1, r) ∷ (2, r) ∷ (3, r) ∷ []

-- the bodies of the records that begin and end a segment, and two edits
abbrev pub starts : List ℕ
starts = 24 ∷ []

abbrev pub ends : List ℕ
ends = 23 ∷ []

abbrev pub edit_a : List ℕ
edit_a = 10 ∷ []

abbrev pub edit_b : List ℕ
edit_b = 11 ∷ []

-- ## A first takeover, and a log
abbrev pub first_takeover : Cluster
first_takeover = task_done task.Takeover [] (fresh_cluster 3)

abbrev pub FirstTakeover : Type 0
FirstTakeover =
    (first_takeover.turn ≡ turn.Done (outcome.Takeover 1 1))
    × (requests first_takeover
    ≡ to_three request.State ++ to_three (request.NewEpoch 1) ++ to_three (request.Start (head 1 1 0) 1)
    ++ to_three (request.Journal (head 1 2 0) 1 (batch 1 (starts ∷ []))))

abbrev pub three_logs : Cluster
three_logs = task_done (task.Log (edit_a ∷ [])) [] (task_done (task.Log (edit_b ∷ [])) [] (task_done (task.Log (edit_a ∷ [])) [] first_takeover))

abbrev pub logged_segment : Segment
logged_segment =
    record { start = 1; epoch = 1; bodies = starts ∷ edit_a ∷ edit_b ∷ edit_a ∷ []; is_final = false; accepted = false }

abbrev pub logged_node : NodeState
logged_node =
    record { promised = 1; writer = 1; committed = 0; known = 3; segments = logged_segment ∷ []; opened = Some 1; serial = 5; up = true }

abbrev pub ThreeLogs : Type 0
ThreeLogs =
    (three_logs.turn ≡ turn.Done (outcome.Log 4 4))
    × (three_logs.nodes ≡ replicate 3 logged_node)
    × (requests three_logs ≡ to_three (request.Journal (head 1 5 3) 1 (batch 4 (edit_a ∷ []))))

-- ## A second writer recovers an edit that one node holds
abbrev pub lost_log : Cluster
lost_log = task_done (task.Log (edit_a ∷ [])) (Muted ∷ Dropped ∷ Dropped ∷ []) first_takeover

abbrev pub LostMajority : Type 0
LostMajority =
    (lost_log.turn ≡ turn.Aborted)
    × (lost_log.writer.causes ≡ cause.Silent ∷ cause.Silent ∷ cause.Silent ∷ [])
    × (lost_log.writer.phase ≡ phase.Stopped)

abbrev pub recovery : Cluster
recovery = task_done task.Takeover [] (with_writer (new_writer 3) lost_log)

abbrev pub rounds_up_to_prepare : List (ℕ × Request)
rounds_up_to_prepare = to_three request.State ++ to_three (request.NewEpoch 2) ++ to_three (request.Prepare (head 2 1 0) 1)

abbrev pub Recovery : Type 0
Recovery =
    (recovery.turn ≡ turn.Done (outcome.Takeover 2 3))
    × (requests recovery
    ≡ rounds_up_to_prepare ++ (1, request.Fetch (head 2 2 0) 1 1) ∷ []
    ++ to_three (request.Accept (head 2 3 0) (batch 1 (starts ∷ edit_a ∷ [])))
    ++ to_three (request.Finalize (head 2 4 2) 1 2) ++ to_three (request.Start (head 2 5 2) 3)
    ++ to_three (request.Journal (head 2 6 2) 3 (batch 3 (starts ∷ []))))

-- ## A fetch that fails, and the next best node
abbrev pub nine_heard : List Fate
nine_heard = replicate 9 Heard_

abbrev pub second_best : Cluster
second_best = task_done task.Takeover (nine_heard ++ Dropped ∷ []) (with_writer (new_writer 3) lost_log)

abbrev pub SecondBest : Type 0
SecondBest =
    (second_best.turn ≡ turn.Done (outcome.Takeover 2 2))
    × (requests second_best
    ≡ rounds_up_to_prepare ++ (1, request.Fetch (head 2 2 0) 1 1) ∷ (2, request.Fetch (head 2 3 0) 1 1) ∷ []
    ++ to_three (request.Accept (head 2 4 0) (batch 1 (starts ∷ [])))
    ++ to_three (request.Finalize (head 2 5 1) 1 1) ++ to_three (request.Start (head 2 6 1) 2)
    ++ to_three (request.Journal (head 2 7 1) 2 (batch 2 (starts ∷ []))))

-- two fetches fail: the counted nodes are no majority
abbrev pub no_fetch : Cluster
no_fetch = task_done task.Takeover (nine_heard ++ Dropped ∷ Dropped ∷ []) (with_writer (new_writer 3) lost_log)

abbrev pub NoFetch : Type 0
NoFetch =
    (no_fetch.turn ≡ turn.Aborted) × (no_fetch.writer.causes ≡ cause.Silent ∷ cause.Silent ∷ cause.Ok ∷ [])

-- ## A node that goes down, and nodes that are left out
abbrev pub five_of_nine : Cluster
five_of_nine = task_done task.Takeover [] (killed 6 (killed 7 (killed 8 (killed 9 (fresh_cluster 9)))))

abbrev pub four_of_nine : Cluster
four_of_nine = task_done (task.Log (edit_a ∷ [])) [] (killed 5 five_of_nine)

abbrev pub FourOfNine : Type 0
FourOfNine =
    (five_of_nine.turn ≡ turn.Done (outcome.Takeover 1 1))
    × (four_of_nine.turn ≡ turn.Aborted)
    × (four_of_nine.writer.causes
    ≡ cause.Ok ∷ cause.Ok ∷ cause.Ok ∷ cause.Ok ∷ cause.Refused refusal.Down ∷ cause.OutOfSync ∷ cause.OutOfSync ∷ cause.OutOfSync
    ∷ cause.OutOfSync ∷ [])

-- ## An epoch that was proposed twice
abbrev pub unheard_proposal : Cluster
unheard_proposal = task_done task.Takeover (replicate 3 Heard_ ++ Heard_ ∷ Dropped ∷ Dropped ∷ []) (fresh_cluster 3)

abbrev pub proposed_twice : Cluster
proposed_twice = task_done task.Takeover (Dropped ∷ []) (with_writer (new_writer 3) unheard_proposal)

abbrev pub ProposedTwice : Type 0
ProposedTwice =
    (unheard_proposal.turn ≡ turn.Aborted)
    × (unheard_proposal.writer.causes ≡ cause.Ok ∷ cause.Silent ∷ cause.Silent ∷ [])
    × (proposed_twice.turn ≡ turn.Done (outcome.Takeover 1 1))
    × (slice_get (requests proposed_twice) 3 ≡ Some (1, request.NewEpoch 1))

-- ## A roll, a close and a purge
abbrev pub rolled : Cluster
rolled = task_done task.Roll [] first_takeover

abbrev pub purged : Cluster
purged = task_done (task.Purge 3) [] rolled

abbrev pub closed : Cluster
closed = task_done task.Close [] purged

abbrev pub RollPurgeClose : Type 0
RollPurgeClose =
    (rolled.turn ≡ turn.Done (outcome.Roll 3))
    × (requests rolled
    ≡ to_three (request.Journal (head 1 3 1) 1 (batch 2 (ends ∷ []))) ++ to_three (request.Finalize (head 1 4 2) 1 2)
    ++ to_three (request.Start (head 1 5 2) 3) ++ to_three (request.Journal (head 1 6 2) 3 (batch 3 (starts ∷ []))))
    × (purged.turn ≡ turn.Done outcome.Purge)
    × (requests purged ≡ to_three (request.Purge (head 1 7 3) 3))
    × (closed.turn ≡ turn.Done (outcome.Close 4))
    × (requests closed ≡ to_three (request.Journal (head 1 8 3) 3 (batch 4 (ends ∷ []))) ++ to_three (request.Finalize (head 1 9 4) 3 4))

-- ## The limits
abbrev pub at_the_top : Cluster
at_the_top = task_done task.Takeover [] (record (fresh_cluster 1) { nodes = (record fresh_state { promised = 4611686018427387904 }) ∷ [] })

abbrev pub EpochLimit : Type 0
EpochLimit =
    (at_the_top.turn ≡ turn.EpochLimit 4611686018427387904) × (at_the_top.writer.phase ≡ phase.Stopped)

-- whether a task begins after the takeover, and before it
abbrev pub begun_with : Task → Begun
begun_with t = (writer_begun first_takeover.writer t).begun

abbrev pub begun_idle : Task → Begun
begun_idle t = (writer_begun (new_writer 3) t).begun

abbrev pub TooLong : Type 0
TooLong =
    (begun_with (task.Log (replicate 4097 0 ∷ [])) ≡ begun.TooLong 4096)
    × (begun_with (task.Log (replicate 257 edit_a)) ≡ begun.TooLong 256)
    × (begun_with (task.Log (replicate 256 edit_a)) ≡ begun.Going)
    × (begun_idle (task.Log (edit_a ∷ [])) ≡ begun.NotActive)
    × (begun_idle task.Roll ≡ begun.NotActive)

-- an open segment of 16,382 edits takes one more, and the next but one is its end
abbrev pub full_segment : ℕ → WriterView
full_segment next = record first_takeover.writer { next = next }

abbrev pub FullSegment : Type 0
FullSegment =
    ((writer_begun (full_segment 16383) (task.Log (edit_a ∷ []))).begun ≡ begun.Going)
    × ((writer_begun (full_segment 16384) (task.Log (edit_a ∷ []))).begun ≡ begun.TooLong 16384)
    × ((writer_begun (full_segment 16383) (task.Log (edit_a ∷ edit_b ∷ []))).begun ≡ begun.TooLong 16384)
