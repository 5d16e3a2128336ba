-- Worked sessions of a node: requests, and the replies that it gives.
use Rattle.std.specs.Prelude.{ℕ, List, [], ◌∷◌, Some, None, true, false, replicate}
use Rattle.journal_core.specs.Views.{HeadView, BatchView}
use Rattle.journal_core.specs.declared.segment_line.SegmentLine.{SegmentLine}
use Rattle.journal_core.specs.declared.node_state.NodeState.{NodeState}
use Rattle.journal_core.specs.declared.request.Request.{Request}
use Rattle.journal_core.specs.declared.request.Request.TheVariants as request
use Rattle.journal_core.specs.declared.reply.Reply.{Reply}
use Rattle.journal_core.specs.declared.reply.Reply.TheVariants as reply
use Rattle.journal_core.specs.declared.refusal.Refusal.TheVariants as refusal
use Rattle.journal_core.specs.Step.{node_step}

-- the replies of a node, one request after another
abbrev pub replies_of : NodeState → List Request → List Reply
replies_of s [] = []
replies_of s (r ∷ rs) = let stepped = node_step s r in stepped.reply ∷ replies_of stepped.state rs

-- the state after them
abbrev pub state_after : NodeState → List Request → NodeState
state_after s [] = s
state_after s (r ∷ rs) = state_after (node_step s r).state rs

abbrev pub by : ℕ → ℕ → ℕ → HeadView
by epoch serial committed = record { epoch = epoch; serial = serial; committed = committed }

-- a batch of bodies of one byte
abbrev pub from : ℕ → List (List ℕ) → BatchView
from first bodies = record { first = first; bodies = bodies }

abbrev pub one : ℕ → List (List ℕ)
one byte = (byte ∷ []) ∷ []

abbrev pub two : ℕ → ℕ → List (List ℕ)
two byte other = (byte ∷ []) ∷ (other ∷ []) ∷ []

-- ## One writer takes an epoch, begins a segment and logs three edits
abbrev pub logging : List Request
logging =
    request.State
    ∷ request.NewEpoch 1
    ∷ request.Start (by 1 1 0) 1
    ∷ request.Journal (by 1 2 0) 1 (from 1 (one 24))
    ∷ request.Journal (by 1 3 1) 1 (from 2 (one 10))
    ∷ request.Journal (by 1 4 2) 1 (from 3 (two 11 12))
    ∷ request.State
    ∷ []

abbrev pub logged : List Reply
logged = reply.State 0 ∷ reply.NewEpoch None ∷ reply.Ok ∷ reply.Ok ∷ reply.Ok ∷ reply.Ok ∷ reply.State 1 ∷ []

-- ## The next writer recovers its segment
abbrev pub recovering : List Request
recovering =
    request.NewEpoch 2
    ∷ request.Prepare (by 2 1 0) 1
    ∷ request.Fetch (by 2 2 0) 1 1
    ∷ request.Fetch (by 2 3 0) 1 3
    ∷ request.Fetch (by 2 4 0) 1 5
    ∷ request.Fetch (by 2 5 0) 2 1
    ∷ request.Accept (by 2 6 0) (from 1 ((24 ∷ []) ∷ (10 ∷ []) ∷ (11 ∷ []) ∷ (12 ∷ []) ∷ []))
    ∷ request.Prepare (by 2 7 0) 1
    ∷ request.Finalize (by 2 8 4) 1 4
    ∷ request.Prepare (by 2 9 4) 1
    ∷ request.Start (by 2 10 4) 5
    ∷ request.Manifest
    ∷ []

abbrev pub recovered : List Reply
recovered =
    reply.NewEpoch (Some 1)
    ∷ reply.Prepared 1 2 (Some (record { start = 1; end = 4; epoch = 1; is_final = false; accepted = false }))
    ∷ reply.Edits (from 1 ((24 ∷ []) ∷ (10 ∷ []) ∷ (11 ∷ []) ∷ (12 ∷ []) ∷ []))
    ∷ reply.Edits (from 3 (two 11 12))
    ∷ reply.Refused (refusal.NotHere 4)
    ∷ reply.Refused refusal.NoSegment
    ∷ reply.Ok
    ∷ reply.Prepared 1 2 (Some (record { start = 1; end = 4; epoch = 2; is_final = false; accepted = true }))
    ∷ reply.Ok
    ∷ reply.Prepared 1 4 (Some (record { start = 1; end = 4; epoch = 2; is_final = true; accepted = false }))
    ∷ reply.Ok
    ∷ reply.Segments (record { start = 1; end = 4; is_final = true; epoch = 2 } ∷ [])
    ∷ []

-- ## A session of two writers that meets most refusals
abbrev pub session : List Request
session =
    request.State
    ∷ request.NewEpoch 1
    ∷ request.Start (by 1 1 0) 1
    ∷ request.Journal (by 1 2 0) 1 (from 1 (one 24))
    ∷ request.NewEpoch 2
    ∷ request.Finalize (by 2 1 1) 1 1
    ∷ request.Accept (by 2 2 1) (from 1 (one 24))
    ∷ request.Prepare (by 2 3 1) 1
    ∷ request.Finalize (by 2 4 1) 1 2
    ∷ request.Finalize (by 2 5 1) 1 1
    ∷ request.Finalize (by 2 6 1) 1 1
    ∷ request.Accept (by 2 7 1) (from 1 (two 24 10))
    ∷ request.Start (by 2 8 1) 1
    ∷ request.Journal (by 2 9 1) 2 (from 2 (one 24))
    ∷ request.Start (by 2 10 1) 2
    ∷ request.Journal (by 2 11 1) 1 (from 2 (one 10))
    ∷ request.Journal (by 2 12 1) 2 (from 3 (one 10))
    ∷ request.Journal (by 2 13 1) 2 (from 2 (one 24))
    ∷ request.Finalize (by 2 14 2) 9 9
    ∷ request.Read 2
    ∷ request.Read 3
    ∷ request.Journal (by 1 15 2) 2 (from 3 (one 11))
    ∷ request.Start (by 2 14 2) 3
    ∷ request.Start (by 2 15 2) 2
    ∷ request.Finalize (by 2 16 2) 2 2
    ∷ request.Journal (by 2 17 2) 2 (from 3 (one 11))
    ∷ request.Purge (by 2 18 2) 9
    ∷ request.Read 1
    ∷ request.Manifest
    ∷ []

abbrev pub session_replies : List Reply
session_replies =
    reply.State 0
    ∷ reply.NewEpoch None
    ∷ reply.Ok
    ∷ reply.Ok
    ∷ reply.NewEpoch (Some 1)
    ∷ reply.Refused (refusal.OtherEpoch 1)
    ∷ reply.Ok
    ∷ reply.Prepared 1 1 (Some (record { start = 1; end = 1; epoch = 2; is_final = false; accepted = true }))
    ∷ reply.Refused (refusal.LengthDiffers 1)
    ∷ reply.Ok
    ∷ reply.Ok
    ∷ reply.Refused (refusal.LengthDiffers 1)
    ∷ reply.Refused (refusal.SegmentFinal 1)
    ∷ reply.Refused (refusal.NotWriter 1)
    ∷ reply.Ok
    ∷ reply.Refused (refusal.WrongSegment 2)
    ∷ reply.Refused (refusal.WrongTxid 2)
    ∷ reply.Ok
    ∷ reply.Refused refusal.NoSegment
    ∷ reply.Edits (from 2 (one 24))
    ∷ reply.Refused (refusal.NotHere 2)
    ∷ reply.Refused (refusal.EpochRefused 2)
    ∷ reply.Refused (refusal.OldSerial 14)
    ∷ reply.Refused (refusal.SegmentHasEdits 2)
    ∷ reply.Ok
    ∷ reply.Refused refusal.NoOpenSegment
    ∷ reply.Ok
    ∷ reply.Refused (refusal.Purged 2)
    ∷ reply.Segments (record { start = 2; end = 2; is_final = true; epoch = 2 } ∷ [])
    ∷ []

-- ## A purge keeps what ends above the committed txid of its own head
abbrev pub purging : ℕ → List Request
purging committed =
    request.NewEpoch 1
    ∷ request.Start (by 1 1 0) 1
    ∷ request.Journal (by 1 2 0) 1 (from 1 (one 24))
    ∷ request.Finalize (by 1 3 1) 1 1
    ∷ request.Start (by 1 4 1) 2
    ∷ request.Journal (by 1 5 1) 2 (from 2 (one 24))
    ∷ request.Purge (by 1 6 committed) 9
    ∷ request.Manifest
    ∷ []

abbrev pub purged : List SegmentLine → List Reply
purged lines = reply.NewEpoch None ∷ reply.Ok ∷ reply.Ok ∷ reply.Ok ∷ reply.Ok ∷ reply.Ok ∷ reply.Ok ∷ reply.Segments lines ∷ []

abbrev pub final_line : SegmentLine
final_line = record { start = 1; end = 1; is_final = true; epoch = 1 }

abbrev pub open_line : SegmentLine
open_line = record { start = 2; end = 2; is_final = false; epoch = 1 }

-- ## Limits: 2 ^ 62 is the greatest number
abbrev pub passing : List Request
passing =
    request.NewEpoch 4611686018427387905
    ∷ request.NewEpoch 4611686018427387904
    ∷ request.Journal (by 4611686018427387904 1 0) 4611686018427387904 (from 4611686018427387904 (two 24 10))
    ∷ []

abbrev pub limited : List Reply
limited = reply.Refused (refusal.Limit 4611686018427387904) ∷ reply.NewEpoch None ∷ reply.Refused (refusal.Limit 4611686018427387904) ∷ []

-- a journal request of so many bodies of so many bytes
abbrev pub journal_of : ℕ → ℕ → ℕ → Request
journal_of first bodies bytes = request.Journal (by 1 1 0) 1 (from first (replicate bodies (replicate bytes 24)))
