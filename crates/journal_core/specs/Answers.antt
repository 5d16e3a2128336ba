-- What a node may answer.
use Rattle.std.specs.Prelude.{ℕ, ◌≡◌, ◌≢◌, ◌≤◌, ◌+◌, ◌-◌, ◌^◌, ◌⊎◌, ◌<◌, ◌&&◌, Bool, true, false, nat_lt, if◌then◌else◌, min, List, length, take, drop, Option, Some, None}
use Rattle.journal_core.specs.Views.{BatchView, last_txid}
use Rattle.journal_core.specs.declared.node_state.NodeState.{NodeState}
use Rattle.journal_core.specs.declared.request.Request.{Request}
use Rattle.journal_core.specs.declared.request.Request.TheVariants.{State, NewEpoch, Start, Journal, Finalize, Prepare, Fetch, Accept, Purge, Read, Manifest}
use Rattle.journal_core.specs.declared.segment.Segment.{Segment}
use Rattle.journal_core.specs.declared.refusal.Refusal.{Refusal}
use Rattle.journal_core.specs.declared.refusal.Refusal.TheVariants.{DiskFault, OutOfMemory, BadFile}
use Rattle.journal_core.specs.declared.reply.Reply.{Reply}
use Rattle.journal_core.specs.declared.reply.Reply.TheVariants as reply
use Rattle.journal_core.specs.Segments.{find_segment, any_body, IsWithin}
use Rattle.journal_core.specs.Limits.{max_number}
use Rattle.journal_core.specs.Reads.{served, serving, piece_of}
use Rattle.journal_core.specs.Step.{Stepped, node_step, step_after_front, row_refused, fetch_refused, stopped}

-- the request after the front
abbrev pub row : NodeState → Request → Stepped
row s r = step_after_front s r (row_refused s r)

-- a stop inside the request may have left this state
abbrev pub IsStopOf : NodeState → Request → NodeState → Type 0
IsStopOf old request new = (keep : ℕ) × (new ≡ stopped old request keep)

-- The answer is the node step's. A fault of the disk leaves what a stop inside the request may
-- leave, and lack of memory that or the state as it was.
pub record IsAnswer (old : NodeState) (request : Request) (answer : Reply) (new : NodeState) : Type 0 where
  pub step : answer ≢ reply.Refused OutOfMemory → answer ≢ reply.Refused DiskFault → node_step old request ≡ record { state = new; reply = answer }
  pub memory : answer ≡ reply.Refused OutOfMemory → (new ≡ old) ⊎ IsStopOf old request new
  pub fault : answer ≡ reply.Refused DiskFault → IsStopOf old request new
  pub whole : answer ≢ reply.Refused BadFile

-- A node that tells its state answers as it may, and goes on telling it; of one that doesn't
-- nothing is said but that it still doesn't.
abbrev pub Answers : Option NodeState → Request → Reply → Option NodeState → Type 0
Answers None request answer None = Unit {0}
Answers (Some old) request answer (Some new) = IsAnswer old request answer new
Answers None request answer (Some new) = ⊥
Answers (Some old) request answer None = ⊥

-- a count has risen; at a number's end it stands
abbrev pub Rose : ℕ → ℕ → Type 0
Rose before now = min (before + 1) (2 ^ 64 - 1) ≤ now

-- edits begin at the asked txid and end at most at 2 ^ 62
pub record BeginsAt (from : ℕ) (batch : BatchView) : Type 0 where
  pub first : batch.first ≡ from
  pub last : last_txid batch ≤ max_number

abbrev pub IsDone : Reply → Type 0
IsDone reply.Ok = Unit {0}
IsDone (reply.Refused refusal) = Unit {0}
IsDone _ = ⊥

abbrev pub IsState : Reply → Type 0
IsState (reply.State promised) = Unit {0}
IsState (reply.Refused refusal) = Unit {0}
IsState _ = ⊥

abbrev pub IsNewEpoch : Reply → Type 0
IsNewEpoch (reply.NewEpoch newest) = Unit {0}
IsNewEpoch (reply.Refused refusal) = Unit {0}
IsNewEpoch _ = ⊥

abbrev pub IsPrepared : Reply → Type 0
IsPrepared (reply.Prepared writer committed segment) = Unit {0}
IsPrepared (reply.Refused refusal) = Unit {0}
IsPrepared _ = ⊥

abbrev pub AreEdits : ℕ → Reply → Type 0
AreEdits from (reply.Edits batch) = BeginsAt from batch
AreEdits from (reply.Refused refusal) = Unit {0}
AreEdits from _ = ⊥

abbrev pub AreSegments : Reply → Type 0
AreSegments (reply.Segments lines) = Unit {0}
AreSegments (reply.Refused refusal) = Unit {0}
AreSegments _ = ⊥

-- the answer's kind fits the request
abbrev pub FitsRequest : Request → Reply → Type 0
FitsRequest State r = IsState r
FitsRequest (NewEpoch epoch) r = IsNewEpoch r
FitsRequest (Start head start) r = IsDone r
FitsRequest (Journal head start batch) r = IsDone r
FitsRequest (Finalize head start end) r = IsDone r
FitsRequest (Prepare head start) r = IsPrepared r
FitsRequest (Fetch head start from) r = AreEdits from r
FitsRequest (Accept head batch) r = IsDone r
FitsRequest (Purge head min) r = IsDone r
FitsRequest (Read from) r = AreEdits from r
FitsRequest Manifest r = AreSegments r

-- the answer takes no memory, whatever the state
abbrev pub is_free : Request → Bool
is_free State = true
is_free (NewEpoch epoch) = true
is_free (Finalize head start end) = true
is_free (Purge head min) = true
is_free _ = false

-- the reply refuses
abbrev pub is_refusal : Reply → Bool
is_refusal (reply.Refused refusal) = true
is_refusal _ = false

-- the segment serves so many edits, this txid among them, and none with a greater start serves it
pub record Serves (s : NodeState) (from : ℕ) (g : Segment) (count : ℕ) : Type 0 where
  pub low : g.start ≤ from
  pub high : from < g.start + count
  pub within : IsWithin g
  pub prefix : served s g ≡ take count g.bodies
  pub long : count ≤ length g.bodies
  pub piece : serving s from s.segments ≡ Some (drop (from - g.start) (served s g))

-- the greatest txid below that the segment serves, or 0
abbrev pub last_of : NodeState → ℕ → Segment → ℕ
last_of s from g = if any_body (served s g) && nat_lt g.start from then min (from - 1) ((g.start + length (served s g)) - 1) else 0

-- the answer to a fetch
abbrev pub fetched : Option Refusal → ℕ → List (List ℕ) → Reply
fetched (Some refusal) from piece = reply.Refused refusal
fetched None from piece = reply.Edits (record { first = from; bodies = piece })

-- a refusal by the step's own tests
abbrev pub IsOwnRefusal : Refusal → Type 0
IsOwnRefusal DiskFault = ⊥
IsOwnRefusal OutOfMemory = ⊥
IsOwnRefusal BadFile = ⊥
IsOwnRefusal _ = Unit {0}

-- an answer of the step: no fault of the disk, no lack of memory, no bad file
abbrev pub IsOwn : Reply → Type 0
IsOwn (reply.Refused refusal) = IsOwnRefusal refusal
IsOwn _ = Unit {0}
