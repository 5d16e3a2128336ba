-- What is read of a segment's line from one node.
use Rattle.std.specs.Prelude.{◌≡◌, ℕ, ◌+◌, ◌≤◌, List, [], ◌++◌, length, All, Contains, Some, slice_get, Bool, true, false, Result, Ok, Err}
use Rattle.std.specs.declared.alloc.AllocError.{AllocError}
use Rattle.journal_core.specs.Views.{BatchView}
use Rattle.journal_core.specs.Limits.{max_number}
use Rattle.journal_core.specs.Laws.{IsQuestion}
use Rattle.journal_core.specs.declared.heard.Heard.{Heard}
use Rattle.journal_core.specs.declared.heard.Heard.TheVariants.{Answer}
use Rattle.journal_core.specs.declared.peer_call.PeerCall.{PeerCall}
use Rattle.journal_core.specs.declared.reply.Reply.TheVariants as reply
use Rattle.journal_core.specs.declared.request.Request.{Request}
use Rattle.journal_core.specs.declared.request.Request.TheVariants.{Read}
use Rattle.writer_core.specs.declared.cause.Cause.{Cause}
use Rattle.writer_core.specs.declared.cause.Cause.TheVariants as cause
use Rattle.writer_calls.specs.declared.fetching.Fetched.{Fetched}
use Rattle.writer_calls.specs.declared.fetching.Fetched.TheVariants.{Whole, Stopped}
use Rattle.writer_calls.specs.Told.{lines_told, nodes_told}

abbrev pub call_of : ℕ → Request → Heard → PeerCall
call_of node request heard = record { node = node; request = request; heard = heard }

-- the k-th body of a list that begins at a txid
abbrev pub HasBody : ℕ → List (List ℕ) → ℕ → List ℕ → Type 0
HasBody first bodies txid body = (k : ℕ) × (txid ≡ first + k) × (slice_get bodies k ≡ Some body)

-- ## What a read gave
-- by one of these calls the node gave this body at this txid
pub record IsGiven (node : ℕ) (calls : List PeerCall) (txid : ℕ) (body : List ℕ) : Type 0 where
  pub from : ℕ
  pub batch : BatchView
  pub call : Contains calls (call_of node (Read from) (Answer (reply.Edits batch)))
  pub has : HasBody batch.first batch.bodies txid body

-- and so each of these
abbrev pub AreGiven : ℕ → List PeerCall → ℕ → List (List ℕ) → Type 0
AreGiven node calls first bodies = (txid : ℕ) (body : List ℕ) → HasBody first bodies txid body → IsGiven node calls txid body

-- an answer that is no refusal, and gave no edits, counts as hearing nothing
abbrev pub read_cause : Heard → Cause
read_cause (Answer (reply.Refused refusal)) = cause.Refused refusal
read_cause _ = cause.Silent

abbrev pub gives_edits : Heard → Bool
gives_edits (Answer (reply.Edits batch)) = true
gives_edits _ = false

-- one of these calls read from that node, at a txid of the line; it gave no edits, for this cause
pub record IsStopped (node start end : ℕ) (calls : List PeerCall) (cause : Cause) : Type 0 where
  pub from : ℕ
  pub heard : Heard
  pub call : Contains calls (call_of node (Read from) heard)
  pub low : start ≤ from
  pub high : from ≤ end
  pub none : gives_edits heard ≡ false
  pub cause_is : cause ≡ read_cause heard

-- ## The reads of a line
-- questions alone, none of which asks for a manifest
pub record AreReads (calls : List PeerCall) : Type 0 where
  pub questions : All (λ c. IsQuestion c.request) calls
  pub no_lines : lines_told calls ≡ []
  pub no_nodes : nodes_told calls ≡ []

pub record MakesReads (before after : List PeerCall) : Type 0 where
  pub added : List PeerCall
  pub calls : after ≡ before ++ added
  pub reads : AreReads added

-- they gave these bodies, from the start on
pub record HasFetched (node start : ℕ) (before after : List PeerCall) (bodies : List (List ℕ)) : Type 0 where
  pub made : MakesReads before after
  pub given : AreGiven node made.added start bodies

pub record HasStopped (node start end : ℕ) (before after : List PeerCall) (cause : Cause) : Type 0 where
  pub made : MakesReads before after
  pub stopped : IsStopped node start end made.added cause

-- all bodies of the line
pub record HasWhole (node start end : ℕ) (before after : List PeerCall) (bodies : List (List ℕ)) : Type 0 where
  pub fetched : HasFetched node start before after bodies
  pub whole : start + length bodies ≡ end + 1
  pub within : end ≤ max_number

-- all of the line, or why not
abbrev pub IsFetched : ℕ → ℕ → ℕ → List PeerCall → List PeerCall → Result Fetched AllocError → Type 0
IsFetched node start end before after (Ok (Whole bodies)) = HasWhole node start end before after bodies
IsFetched node start end before after (Ok (Stopped cause)) = HasStopped node start end before after cause
IsFetched node start end before after (Err e) = MakesReads before after
