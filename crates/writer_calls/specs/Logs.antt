-- A log, and what agrees with it.
use Rattle.std.specs.Prelude.{◌≡◌, ℕ, List, Contains, Some, drop, length}
use Rattle.journal_core.specs.Views.{BatchView}
use Rattle.journal_core.specs.Segments.{find_segment, HasAt}
use Rattle.journal_core.specs.declared.heard.Heard.TheVariants.{Answer}
use Rattle.journal_core.specs.declared.peer_call.PeerCall.{PeerCall}
use Rattle.journal_core.specs.declared.reply.Reply.TheVariants as reply
use Rattle.journal_core.specs.declared.request.Request.{Request}
use Rattle.journal_core.specs.declared.segment.Segment.{Segment}
use Rattle.writer_calls.specs.Fetching.{call_of, HasBody}

-- Each body that is held is `L`'s at its txid. A log has the body of each txid from 1 on; `L` may
-- also be the line of a run.
abbrev pub MirroredBy : (ℕ → List ℕ → Type 0) → List Segment → Type 0
MirroredBy L segments = (start txid : ℕ) (g : Segment) (body : List ℕ) → find_segment start segments ≡ Some g → HasAt g txid body → L txid body

-- each body that an answer of these calls gave is `L`'s at its txid
abbrev pub AgreeWith : (ℕ → List ℕ → Type 0) → List PeerCall → Type 0
AgreeWith L calls =
    (node txid : ℕ) (r : Request) (batch : BatchView) (body : List ℕ) → Contains calls (call_of node r (Answer (reply.Edits batch)))
    → HasBody batch.first batch.bodies txid body → L txid body

abbrev pub Mirrored : List (List ℕ) → List Segment → Type 0
Mirrored log segments = MirroredBy (HasBody 1 log) segments

-- the calls that the second list has more
abbrev pub made_since : List PeerCall → List PeerCall → List PeerCall
made_since before after = drop (length before) after
