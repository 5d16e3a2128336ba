-- The trail of a node that clients share: what all of them asked it, in one order.
use Rattle.std.specs.Prelude.{ℕ, ◌≡◌, ◌+◌, ◌<◌, ◌≤◌, ◌==◌, ◌++◌, Bool, true, false, List, [], ◌∷◌}
use Rattle.atomic_table.specs.Seated.{TableId}
use Rattle.base_disk.specs.View.{View, IsSound}
use Rattle.journal_core.specs.declared.node_state.NodeState.{NodeState}
use Rattle.journal_core.specs.declared.request.Request.{Request}
use Rattle.journal_core.specs.declared.reply.Reply.{Reply}
use Rattle.journal_core.specs.Answers.{Answers}
use Rattle.disk_node.specs.Acted.{IsActed}
use Rattle.disk_node.specs.Node.{NodeParts, IsUp}
use Rattle.pipe_serve.specs.Crashes.{OutlastsCrashes}
use Rattle.pipe_serve.specs.declared.session_end.SessionEnd.{SessionEnd}
use Rattle.pipe_serve.specs.Serving.{state_told, IsSharedAnswer}
use Rattle.pipe_serve.specs.Sessions.{SourceUse, SinkUse, IsSession}

-- ## The trail
-- a request, and its answer
abbrev pub Call : Type 0
Call = Request × Reply

-- a call with its client, counted from 0
abbrev pub Line : Type 0
Line = ℕ × Call

abbrev pub keep_call : Bool → Call → List Call → List Call
keep_call true c calls = c ∷ calls
keep_call false c calls = calls

-- the calls of these, in their order
abbrev pub calls_in : List Line → List Call
calls_in [] = []
calls_in (line ∷ lines) = line.1 ∷ calls_in lines

-- a client's calls among these, in their order
abbrev pub calls_of : ℕ → List Line → List Call
calls_of client [] = []
calls_of client (line ∷ lines) = keep_call (line.0 == client) line.1 (calls_of client lines)

-- a node over a disk answered so
pub record IsAnswered {D : Type 0} (tells : D → Type 0) (is_told : D → Bool) (view : D → View) (old : NodeParts D) (call : Call) (new : NodeParts D) : Type 0 where
  pub acted : IsActed tells view old call.0 call.1 new
  pub step : Answers (state_told is_told view old) call.0 call.1 (state_told is_told view new)

-- these were answered one after the other, from the one node to the other
abbrev pub IsTrail : {D : Type 0} → (D → Type 0) → (D → Bool) → (D → View) → List Line → NodeParts D → NodeParts D → Type 0
IsTrail tells is_told view [] old new = new ≡ old
IsTrail {D} tells is_told view (line ∷ lines) old new = (mid : NodeParts D) × IsAnswered tells is_told view old line.1 mid × IsTrail tells is_told view lines mid new

-- from a node like this one
pub record IsLedBy {D : Type 0} (tells : D → Type 0) (is_told : D → Bool) (view : D → View) (first : NodeParts D → Type 0) (trail : List Line) (new : NodeParts D) : Type 0 where
  pub start : NodeParts D
  pub is_first : first start
  pub trail_is : IsTrail tells is_told view trail start new

-- ## A client
-- a client's seat at the gate of the node, as its sessions see it: which gate it is, the client,
-- its calls so far, and how many of their answers told a fault of the disk
pub record SeatView : Type 0 where
  pub table : TableId
  pub client : ℕ
  pub calls : List Call
  pub faults : ℕ

abbrev pub seat_in : TableId → ℕ → List Line → ℕ → SeatView
seat_in table client seen faults = record { table = table; client = client; calls = calls_of client seen; faults = faults }

-- In these `Fits` says what is known of an answer.

-- what is known of an answer that a session hears at a seat: the call is one more of the client's
pub record IsSeatAnswer (Fits : Request → Reply → Type 0) (old : SeatView) (r : Request) (a : Reply) (new : SeatView) : Type 0 where
  pub fits : Fits r a
  pub table : new.table ≡ old.table
  pub client : new.client ≡ old.client
  pub calls : new.calls ≡ old.calls ++ (r, a) ∷ []

-- what was read and written was at such ends, from their opening on
pub record IsAtEnds {S K : Type 0} (AreOf : S → K → Type 0) (read : S → S → SourceUse) (written : K → K → SinkUse) (source : SourceUse) (sink : SinkUse) : Type 0 where
  pub source_then : S
  pub source_now : S
  pub sink_then : K
  pub sink_now : K
  pub opened : AreOf source_then sink_then
  pub read_so : source ≡ read source_then source_now
  pub written_so : sink ≡ written sink_then sink_now

-- at those of the pipes of this client
abbrev pub at_pipes : {S K : Type 0} → (ℕ → S → K → Type 0) → (S → S → SourceUse) → (K → K → SinkUse) → ℕ → SourceUse → SinkUse → Type 0
at_pipes are_of read written client source sink = IsAtEnds (are_of client) read written source sink

-- In these `At` says where a session read and wrote.

-- one session of a client: how it ended, and what was read and written
pub record Session : Type 0 where
  pub end : SessionEnd
  pub source : SourceUse
  pub sink : SinkUse

-- these were a client's sessions, one after the other
abbrev pub AreSessions : (SeatView → Request → Reply → SeatView → Type 0) → (SourceUse → SinkUse → Type 0) → List Session → SeatView → SeatView → Type 0
AreSessions Asked At [] old new = new ≡ old
AreSessions Asked At (s ∷ sessions) old new = (mid : SeatView) × At s.source s.sink × IsSession Asked s.end old mid s.source s.sink × AreSessions Asked At sessions mid new

-- some sessions led from the one view of the seat to the other
pub record AreServed (Asked : SeatView → Request → Reply → SeatView → Type 0) (At : SourceUse → SinkUse → Type 0) (old new : SeatView) : Type 0 where
  pub sessions : List Session
  pub are : AreSessions Asked At sessions old new

-- A client's calls are those of its sessions, one after the other: each session's bytes were its
-- calls' lines in their order, and what it wrote their replies.
pub record IsClient (Fits : Request → Reply → Type 0) (At : SourceUse → SinkUse → Type 0) (calls : List Call) : Type 0 where
  pub old : SeatView
  pub new : SeatView
  pub fresh : old.calls ≡ []
  pub all : new.calls ≡ calls
  pub served : AreServed (IsSeatAnswer Fits) At old new

-- a seat was handed out to this client at this gate, and went through sessions alone
pub record IsAttended (Fits : Request → Reply → Type 0) (At : SourceUse → SinkUse → Type 0) (table : TableId) (client : ℕ) (its_table : TableId) (its_client : ℕ) (seen : List Line) : Type 0 where
  pub own : its_table ≡ table
  pub its : its_client ≡ client
  pub faults : ℕ
  pub served : AreServed (IsSeatAnswer Fits) At (seat_in table client [] 0) (seat_in its_table its_client seen faults)

-- ## All clients
-- One trail of all clients' requests led from the one node to the other: it has each client's
-- calls, which are those of its sessions, in their order, and no others. Of a node that is up, over
-- a disk that tells its bytes, a crash at any moment leaves files that stand for the state after
-- some of the trail's calls, stopped inside the next one, and no fewer than were answered by then.
pub record IsSharedOut {D : Type 0} (tells : D → Type 0) (is_told : D → Bool) (view : D → View) (was_steady : Type 0) (At : ℕ → SourceUse → SinkUse → Type 0) (old : NodeParts D) (clients : ℕ)
    (new : NodeParts D) : Type 0 where
  pub trail : List Line
  pub asked : IsTrail tells is_told view trail old new
  pub each : (client : ℕ) → client < clients → IsClient (IsSharedAnswer tells view was_steady) (At (client + 1)) (calls_of client trail)
  pub no_others : (client : ℕ) → clients ≤ client → calls_of client trail ≡ []
  pub crashes : tells old.disk → IsSound (view old.disk) → old.memory.up ≡ true → (s : NodeState) → IsUp (view old.disk) old.memory old.rows s
      → OutlastsCrashes view old.disk new.disk s (calls_in trail)

-- from a node like this one
pub record IsSharedFrom {D : Type 0} (tells : D → Type 0) (is_told : D → Bool) (view : D → View) (was_steady : Type 0) (At : ℕ → SourceUse → SinkUse → Type 0) (first : NodeParts D → Type 0)
    (clients : ℕ) (new : NodeParts D) : Type 0 where
  pub start : NodeParts D
  pub is_first : first start
  pub shared : IsSharedOut tells is_told view was_steady At start clients new
