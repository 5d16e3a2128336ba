-- What a name node in a cluster did.
use Rattle.std.specs.Prelude.{ℕ, ◌≡◌, ◌≢◌, ◌⊎◌, List, [], Option, Bool, true, false}
use Rattle.journal_session.specs.Lines.{longest_line}
use Rattle.mesh.specs.Makers.{IsOfChores}
use Rattle.play_model.specs.Actions.{ActorView}
use Rattle.pipe_seats.specs.Calls.{EndsView}
use Rattle.pipe_seats.specs.Opened.{CameAsTheirs}
use Rattle.pipe_seats.specs.Piped.{PipesView, AreLater, AreResting}
use Rattle.pipe_lead.specs.declared.lead_end.LeadEnd.{LeadEnd}
use Rattle.pipe_lead.specs.declared.lead_end.LeadEnd.TheVariants as lead_end
use Rattle.pipe_lead.specs.Leads.{Leads, IfLasts}
use Rattle.cli_commands.specs.declared.status.Status.{Status}
use Rattle.cli_commands.specs.declared.status.Status.TheVariants as status
use Rattle.cli_commands.specs.declared.command_fault.CommandFault.TheVariants as fault
use Rattle.cli_commands.specs.Faults.{line_of}
use Rattle.cli_commands.specs.Told.{WritesLine}
use Rattle.cli_commands.specs.Uses.{SourceUse, SinkUse, AReadFailed, NoReadFailed, AWriteFailed, NoWriteFailed, HandsOn}

-- where the folder's disk failed as an image was saved, or didn't
abbrev pub status_after : LeadEnd → Bool → Status
status_after lead_end.Done failed = status.Ok
status_after lead_end.LongLine failed = status.Limit
status_after lead_end.ReadFault failed = status.ReadFault
status_after lead_end.WriteFault failed = status.WriteFault
status_after lead_end.OutOfMemory true = status.DiskFault
status_after lead_end.OutOfMemory false = status.OutOfMemory

-- what is to stand after the results
abbrev pub line_after : LeadEnd → Bool → List ℕ
line_after lead_end.Done failed = []
line_after lead_end.LongLine failed = line_of (fault.Limit longest_line)
line_after lead_end.ReadFault failed = line_of fault.ReadFault
line_after lead_end.WriteFault failed = []
line_after lead_end.OutOfMemory true = line_of fault.DiskFault
line_after lead_end.OutOfMemory false = line_of fault.OutOfMemory

-- How it ended was told: its line was written, where it has one.
pub record TellsLeadEnd (end : LeadEnd) (failed : Bool) (s : Status) (sink : SinkUse) : Type 0 where
  pub status_is : s ≡ status_after end failed
  pub line : WritesLine (line_after end failed) sink
  pub no_line : (s ≡ status.Ok) ⊎ (s ≡ status.WriteFault) → NoWriteFailed sink
  pub idle : (s ≡ status.Ok) ⊎ (s ≡ status.WriteFault) → sink.kept_now ≡ sink.kept_before

-- A name node's life from how it begins, but where memory ran out or its folder's disk failed: the
-- record that an actor lists of the lines that were read, by what it heard; the calls of its tasks
-- and tails; what came to each node's pipe, of which none is owed a reply if none was at first; the
-- results; and why it ended. Then its end was told. `Came` says of ends that they were opened as a
-- node's: in any case all that came when a pipe was opened were its node's.
pub record LeadsCluster (Came : ℕ → EndsView → Type 0) (failed : Bool) (begun actor : ActorView) (was seats : PipesView) (source : SourceUse) (sink : SinkUse) (s : Status) : Type 0 where
  pub end : LeadEnd
  pub status_is : s ≡ status_after end failed
  pub told : Option (List ℕ)
  pub leads : IfLasts end (Leads was.log.nodes begun actor seats.log source.told source.left sink.before told end)
  pub made : IfLasts end (IsOfChores was.log.nodes seats.log.past)
  pub piped : IfLasts end (AreLater was seats)
  pub opened : CameAsTheirs Came seats.seats
  pub resting : IfLasts end (AreResting was.seats → AreResting seats.seats)
  pub line : WritesLine (line_after end failed) (record sink { before = told })
  pub read_fault : s ≡ status.ReadFault → AReadFailed source
  pub no_read_fault : s ≢ status.ReadFault → NoReadFailed source
  pub write_fault : s ≡ status.WriteFault → AWriteFailed sink
  pub no_write_fault : s ≡ status.Ok → NoWriteFailed sink
  pub handed : s ≡ status.Ok → HandsOn sink
