-- Worked examples: nodes, what they tell, and what a mirror holds then.
use Rattle.std.specs.Prelude.{ℕ, true, false, List, [], ◌∷◌, Option, Some}
use Rattle.journal_core.specs.declared.heard.Heard.TheVariants.{Answer, Silent}
use Rattle.journal_core.specs.declared.node_state.NodeState.{NodeState}
use Rattle.journal_core.specs.declared.peer_call.PeerCall.{PeerCall}
use Rattle.journal_core.specs.declared.refusal.Refusal.TheVariants.{Down}
use Rattle.journal_core.specs.declared.reply.Reply.TheVariants as reply
use Rattle.journal_core.specs.declared.request.Request.{Request}
use Rattle.journal_core.specs.declared.request.Request.TheVariants as request
use Rattle.journal_core.specs.declared.segment_line.SegmentLine.{SegmentLine}
use Rattle.journal_core.specs.Examples.{by, from, one, state_after}
use Rattle.journal_core.specs.Step.{fresh_state, crashed}
use Rattle.writer_calls.specs.Fetching.{call_of}

-- a segment of the three edits `18`, `0a` and `17`, which is final
abbrev pub writing : List Request
writing =
    request.NewEpoch 1
    ∷ request.Start (by 1 1 0) 1
    ∷ request.Journal (by 1 2 0) 1 (from 1 (one 24))
    ∷ request.Journal (by 1 3 1) 1 (from 2 (one 10))
    ∷ request.Journal (by 1 4 2) 1 (from 3 (one 23))
    ∷ request.Finalize (by 1 5 3) 1 3
    ∷ []

abbrev pub written : NodeState
written = state_after fresh_state writing

-- and the next one, of two edits; the last one is open
abbrev pub writing_on : List Request
writing_on =
    request.Start (by 1 6 3) 4
    ∷ request.Journal (by 1 7 3) 4 (from 4 (one 24))
    ∷ request.Journal (by 1 8 4) 4 (from 5 (one 23))
    ∷ request.Finalize (by 1 9 5) 4 5
    ∷ request.Start (by 1 10 5) 6
    ∷ request.Journal (by 1 11 5) 6 (from 6 (one 24))
    ∷ []

abbrev pub written_on : NodeState
written_on = state_after written writing_on

-- three nodes, of which the first is down
abbrev pub one_down : List (Option NodeState)
one_down = Some (crashed fresh_state) ∷ Some written ∷ Some written ∷ []

-- the second has more than the first
abbrev pub one_behind : List (Option NodeState)
one_behind = Some written ∷ Some written_on ∷ []

abbrev pub all_fresh : List (Option NodeState)
all_fresh = Some fresh_state ∷ Some fresh_state ∷ Some fresh_state ∷ []

abbrev pub final_line : ℕ → ℕ → SegmentLine
final_line start end = record { start = start; end = end; is_final = true; epoch = 1 }

abbrev pub open_line : ℕ → ℕ → SegmentLine
open_line start end = record { start = start; end = end; is_final = false; epoch = 1 }

-- what a manifest may tell: two lines that count, one that is in progress, one from 0, and one whose
-- start is above its end
abbrev pub manifest : List SegmentLine
manifest = final_line 1 3 ∷ open_line 4 5 ∷ final_line 0 2 ∷ final_line 7 6 ∷ final_line 8 8 ∷ []

-- a node that tells them and gives the edits of the first, and one that is down
abbrev pub some_calls : List PeerCall
some_calls =
    call_of 1 request.Manifest (Answer (reply.Segments manifest))
    ∷ call_of 1 (request.Read 1) (Answer (reply.Edits (from 1 (one 24))))
    ∷ call_of 2 request.Manifest (Answer (reply.Refused Down))
    ∷ call_of 3 request.Manifest Silent
    ∷ []
