-- How the serving of a node ends, what it writes, and what it leaves in the node's files.
use Rattle.std.specs.Prelude.{ℕ, ◌≡◌, ◌≢◌, ◌⊎◌, Bool, true, false, List, [], ◌∷◌, ◌++◌, take, Option, Some, None}
use Rattle.base_disk.specs.View.{AllLeave, LeavesOnly}
use Rattle.journal_core.specs.declared.node_state.NodeState.{NodeState}
use Rattle.journal_core.specs.Segments.{AreSound}
use Rattle.journal_core.specs.Step.{node_step, restarted}
use Rattle.journal_text.specs.Texts.{reply_text}
use Rattle.disk_segment.specs.RowsTell.{AreStarts}
use Rattle.disk_files.specs.Durable.{StandsAs, AreFilled}
use Rattle.disk_node.specs.Opening.{IsRefusedFile, IsCauseOf, Keeps, StandsAsBefore}
use Rattle.journal_session.specs.Lines.{longest_line, longest_input}
use Rattle.journal_session.specs.Session.{AreAnswered, Asks, AreWritten, IsSession}
use Rattle.journal_session.specs.declared.served.Served.{Served}
use Rattle.journal_session.specs.declared.served.Served.TheVariants as served
use Rattle.cli_commands.specs.declared.status.Status.{Status}
use Rattle.cli_commands.specs.declared.status.Status.TheVariants as status
use Rattle.cli_commands.specs.declared.command_fault.CommandFault.TheVariants as fault
use Rattle.cli_commands.specs.Uses.{SourceUse, SinkUse, DiskUse, AReadFailed, NoReadFailed, AWriteFailed, NoWriteFailed, HandsOn}
use Rattle.cli_commands.specs.Faults.{line_of}
use Rattle.cli_commands.specs.Told.{WritesLine}
use Rattle.cli_commands.specs.Crashes.{OutlastsCrashes}

-- ## The status and the line that are due
-- of a session that ended so
abbrev pub status_at : Served → Status
status_at served.Done = status.Ok
status_at (served.BadLine number rule) = status.BadScript
status_at served.LongLine = status.Limit
status_at served.LongInput = status.Limit
status_at served.ReadFault = status.ReadFault
status_at served.WriteFault = status.WriteFault
status_at served.DiskFault = status.DiskFault
status_at served.OutOfMemory = status.OutOfMemory

-- what is to stand after the replies
abbrev pub line_at : Served → List ℕ
line_at served.Done = []
line_at (served.BadLine number rule) = line_of (fault.BadScript number rule)
line_at served.LongLine = line_of (fault.Limit longest_line)
line_at served.LongInput = line_of (fault.Limit longest_input)
line_at served.ReadFault = line_of fault.ReadFault
line_at served.WriteFault = []
line_at served.DiskFault = line_of fault.DiskFault
line_at served.OutOfMemory = line_of fault.OutOfMemory

abbrev pub is_disk_fault : Status → Bool
is_disk_fault status.DiskFault = true
is_disk_fault _ = false

-- ## What was done
-- A session at the node that the files gave, where disk and source told their bytes: the state that
-- the files stood for, which the node was opened with, and the one after the session. Its segments
-- stand each once, by rising starts from 1 to 2^62, so the files fix it. The files after the session
-- stand for the state after it, and so do those that each crash would leave, unless a fault or lack
-- of memory ended it. A crash in the middle left no fewer of the lines than were answered by then.
pub record IsNodeSession {D : Type 0} (disk : DiskUse D) (outcome : Served) (told : List ℕ) (left before now : Option (List ℕ)) : Type 0 where
  pub state : NodeState
  pub stood : StandsAs (disk.view disk.before).seen state
  pub sound : AreSound state.segments
  pub starts : AreStarts state.segments
  pub filled : AreFilled state.segments
  pub new : NodeState
  pub lines : List (List ℕ)
  pub next : Option (List ℕ)
  pub session : IsSession lines next outcome told left (restarted state) new before now
  pub stands : StandsAs (disk.view disk.now).seen new
  pub lasting : outcome ≢ served.DiskFault → outcome ≢ served.OutOfMemory → AllLeave (disk.view disk.now) (λ c. StandsAs c new)
  pub crashes : OutlastsCrashes disk.view disk.before disk.now (restarted state) lines next

-- nothing, or some of the front of a node's reply to this line, where there is one
abbrev pub IsPartBehind : NodeState → Option (List ℕ) → List ℕ → Type 0
IsPartBehind s None part = part ≡ []
IsPartBehind s (Some line) part = (part ≡ []) ⊎ Asks line (λ r. (n : ℕ) × (part ≡ take n (reply_text (node_step s r).reply ++ 10 ∷ [])))

-- What a node of this state wrote: its replies to these lines in order, a line each, and, where a
-- write failed, a part of the one to the next line.
pub record AreReplied (s : NodeState) (lines : List (List ℕ)) (next : Option (List ℕ)) (outcome : Served) (before now : Option (List ℕ)) : Type 0 where
  pub text : List ℕ
  pub state : NodeState
  pub answered : AreAnswered s lines text state
  pub part : List ℕ
  pub behind : IsPartBehind state next part
  pub written : AreWritten outcome before now text part

-- the files stood for the state of a node, which they fix, and stand for one; what was written is
-- its replies to some lines, and a crash in the middle left no fewer of them than were answered by
-- then
pub record HoldsNode {D : Type 0} (disk : DiskUse D) (outcome : Served) (before now : Option (List ℕ)) : Type 0 where
  pub state : NodeState
  pub stood : StandsAs (disk.view disk.before).seen state
  pub sound : AreSound state.segments
  pub starts : AreStarts state.segments
  pub filled : AreFilled state.segments
  pub new : NodeState
  pub stands : StandsAs (disk.view disk.now).seen new
  pub lines : List (List ℕ)
  pub next : Option (List ℕ)
  pub replied : AreReplied (restarted state) lines next outcome before now
  pub crashes : OutlastsCrashes disk.view disk.before disk.now (restarted state) lines next

-- a session at a node, or, where the source doesn't tell its bytes, what its files hold and what
-- was written
abbrev pub IsNodeSessionOf : {D : Type 0} → DiskUse D → Served → Option (List ℕ) → Option (List ℕ) → Option (List ℕ) → Option (List ℕ) → Type 0
IsNodeSessionOf disk outcome (Some told) left before now = IsNodeSession disk outcome told left before now
IsNodeSessionOf disk outcome None left before now = HoldsNode disk outcome before now

-- A node was served: how that ended, which is the status; the replies, with which the sink stood
-- there; and the line after them.
pub record ServesNode {D : Type 0} (source : SourceUse) (sink : SinkUse) (disk : DiskUse D) (s : Status) : Type 0 where
  pub outcome : Served
  pub status_is : s ≡ status_at outcome
  pub replied : Option (List ℕ)
  pub session : disk.tells disk.before → IsNodeSessionOf disk outcome source.told source.left sink.before replied
  pub line : WritesLine (line_at outcome) (record sink { before = replied })
  -- a read fault comes exactly of a read that failed
  pub read_fault : s ≡ status.ReadFault → AReadFailed source
  pub no_read_fault : s ≢ status.ReadFault → NoReadFailed source
  -- a write fault comes only of a write that failed; with Ok none did, and all was handed on
  pub write_fault : s ≡ status.WriteFault → AWriteFailed sink
  pub no_write_fault : s ≡ status.Ok → NoWriteFailed sink
  pub handed : s ≡ status.Ok → HandsOn sink

-- why no node was opened, which is the status, and its line: a file isn't in its format, and it is
-- the first such file; the disk failed; or memory ran out
abbrev pub IsUnopened : {D : Type 0} → SinkUse → DiskUse D → Status → Type 0
IsUnopened sink disk status.BadBytes =
    (name : List ℕ) × (disk.tells disk.before → IsRefusedFile (disk.view disk.before).seen (disk.view disk.now).seen name) × WritesLine (line_of (fault.BadFile name)) sink
IsUnopened sink disk status.DiskFault = WritesLine (line_of fault.DiskFault) sink
IsUnopened sink disk status.OutOfMemory = WritesLine (line_of fault.OutOfMemory) sink
IsUnopened sink disk _ = ⊥

-- No node was opened: nothing was read, and the files stand for what they stood for. What a crash
-- at any moment of the call left stands for what one before it could have left.
pub record OpensNone {D : Type 0} (source : SourceUse) (sink : SinkUse) (disk : DiskUse D) (s : Status) : Type 0 where
  pub unread : source.left ≡ source.told
  pub no_read_fault : NoReadFailed source
  pub kept : disk.tells disk.before → Keeps (disk.view disk.before).seen (disk.view disk.now).seen
  pub moments : disk.tells disk.before → LeavesOnly (disk.view disk.before) (disk.view disk.now) (StandsAsBefore (disk.view disk.before))
  pub why : IsUnopened sink disk s

-- a node was served, or none was opened
pub data IsServedOrNot {D : Type 0} (source : SourceUse) (sink : SinkUse) (disk : DiskUse D) (s : Status) : Type 0 where
  opened : ServesNode source sink disk s → IsServedOrNot source sink disk s
  unopened : OpensNone source sink disk s → IsServedOrNot source sink disk s

-- How serving a node ended. A disk fault comes only of a disk that failed.
pub record Serves {D : Type 0} (source : SourceUse) (sink : SinkUse) (disk : DiskUse D) (s : Status) : Type 0 where
  pub served : IsServedOrNot source sink disk s
  pub cause : IsCauseOf (disk.faults disk.before) (disk.faults disk.now) (disk.steady disk.before) (disk.steady disk.now) (is_disk_fault s)
