-- A fresh standby begins from the newest image of another's disk, and reads the log from there on:
-- what comes of it, and what is on its own disk then.
use Rattle.std.specs.Prelude.{◌≡◌, ◌⊎◌, ℕ, ◌≤◌, List, [], ◌∷◌, length, take, Option, Some, None, Result, Ok, Err, Contains}
use Rattle.base_disk.specs.Files.{Files}
use Rattle.base_disk.specs.View.{View}
use Rattle.base_disk.specs.Calls.{Rests, Happens}
use Rattle.base_disk.specs.declared.disk.DiskFail.{DiskFail}
use Rattle.base_disk.specs.declared.disk.DiskFail.TheVariants as fail
use Rattle.journal_core.specs.Views.{BatchView}
use Rattle.journal_core.specs.declared.heard.Heard.TheVariants.{Answer}
use Rattle.journal_core.specs.declared.peer_call.PeerCall.{PeerCall}
use Rattle.journal_core.specs.declared.reply.Reply.TheVariants as reply
use Rattle.journal_core.specs.declared.request.Request.TheVariants.{Read}
use Rattle.writer_calls.specs.Fetching.{call_of, HasBody}
use Rattle.ns_edits.specs.Replay.{Image, replay}
use Rattle.ns_store.specs.Answers.{IsNewest}
use Rattle.ns_store.specs.Images.{image_in, Counts}
use Rattle.ns_store.specs.Loads.{HasBytes, IsAnswer}
use Rattle.ns_store.specs.Names.{Itself, Checkpoint, Digest, FreshDigest}
use Rattle.ns_store.specs.Saves.{OnlyOf}
use Rattle.ns_store.specs.declared.loaded.Loaded.{Loaded}
use Rattle.ns_store.specs.declared.loaded.Loaded.TheVariants as loaded
use Rattle.ns_store.specs.declared.newest_answer.Newest.TheVariants as newest
use Rattle.play_names.specs.Tails.{pass_begun}
use Rattle.play_names.specs.declared.tailed.Tailed.{Tailed}
use Rattle.play_names.specs.declared.tailed.Tailed.TheVariants as tailed
use Rattle.play_standby.specs.Standbys.{StandbyView, empty_standby, held}
use Rattle.play_standby.specs.Tailing.{TailEnds}
use Rattle.play_boot.specs.declared.booted.Booted.{Booted}
use Rattle.play_boot.specs.declared.booted.Booted.TheVariants as booted

-- ## What it begins with
-- what the newest image of these files tells, with the image's txid; or nothing, where none counts
abbrev pub IsBegun : Files → StandbyView → Option ℕ → Type 0
IsBegun from s None = IsNewest from newest.NoImage × (s ≡ empty_standby)
IsBegun from s (Some txid) = IsNewest from (newest.Image txid) × IsAnswer from txid (loaded.Image s.space s.position)

-- a load of the newest image of these files answers so
pub record LoadsNewest (from : Files) (answer : Loaded) : Type 0 where
  pub txid : ℕ
  pub newest : IsNewest from (newest.Image txid)
  pub loads : IsAnswer from txid answer

-- ## Where its tail ends
-- A tail without an end, from what it began with on, was led by the calls that were made, and ended
-- so: as that of each name node that holds this, whatever images it has.
abbrev pub TailsTo : ℕ → StandbyView → List PeerCall → List PeerCall → StandbyView → Tailed → Type 0
TailsTo nodes begun before after s t = (images : List Image) → TailEnds nodes (pass_begun None (held images begun)) images before after s t

-- its own disk had no image, it began with what `from` holds, and tailed
pub record Boots (nodes : ℕ) (from to : Files) (before after : List PeerCall) (s : StandbyView) (image : Option ℕ) (t : Tailed) : Type 0 where
  pub none : IsNewest to newest.NoImage
  pub begun : StandbyView
  pub begins : IsBegun from begun image
  pub tails : TailsTo nodes begun before after s t

-- it was where the tail ended, and holds it no more
pub record BootsInVain (nodes : ℕ) (from to : Files) (before after : List PeerCall) (position : ℕ) (t : Tailed) : Type 0 where
  pub standby : StandbyView
  pub here : standby.position ≡ position
  pub image : Option ℕ
  pub boots : Boots nodes from to before after standby image t

-- it didn't come to the tail, since the newest image of `from` isn't loaded but answered so
pub record IsStopped (from to : Files) (before after : List PeerCall) (answer : Loaded) : Type 0 where
  pub none : IsNewest to newest.NoImage
  pub loads : LoadsNewest from answer
  pub no_call : after ≡ before

-- ## The answer
-- Of a bootstrap over disks that tell their bytes, from these files to those, by so many nodes: one
-- answer alone fits, but for faults of the disks and lack of memory.
abbrev pub IsBooted : ℕ → Files → Files → List PeerCall → List PeerCall → Booted → Type 0
IsBooted nodes from to before after (booted.Done standby image) = Boots nodes from to before after standby image (tailed.Caught standby.position)
IsBooted nodes from to before after (booted.NotEmpty txid) = IsNewest to (newest.Image txid) × (after ≡ before)
IsBooted nodes from to before after (booted.DigestDiffers stored computed) = IsStopped from to before after (loaded.DigestDiffers stored computed)
IsBooted nodes from to before after (booted.BadImage place cause) = IsStopped from to before after (loaded.BadImage place cause)
IsBooted nodes from to before after (booted.Unreachable have first) = BootsInVain nodes from to before after have (tailed.Purged first)
IsBooted nodes from to before after (booted.Behind txid causes) = BootsInVain nodes from to before after txid (tailed.Behind txid causes)
IsBooted nodes from to before after (booted.BadEntry txid) = (have : ℕ) × BootsInVain nodes from to before after have (tailed.BadEntry txid)
IsBooted nodes from to before after booted.FromFault = IsNewest to newest.NoImage × (after ≡ before)
IsBooted nodes from to before after booted.ToFault = Unit {0}
IsBooted nodes from to before after booted.OutOfMemory = Unit {0}

-- ## Its own disk
-- the image of this txid has these bytes, with their digest, and nothing but its own files changed
pub record Copies (txid : ℕ) (bytes : List ℕ) (old new : Files) : Type 0 where
  pub only : OnlyOf txid (Itself ∷ Checkpoint ∷ Digest ∷ FreshDigest ∷ []) old new
  pub here : HasBytes txid (image_in new txid) bytes

-- the image of this txid that `from` holds is there too, and no crash undoes it
pub record IsKept (txid : ℕ) (from : Files) (old new : View) : Type 0 where
  pub bytes : List ℕ
  pub original : HasBytes txid (image_in from txid) bytes
  pub copies : Happens (Copies txid bytes) old new

-- after a refusal it is as it was
abbrev pub LeavesDisk : Files → View → View → Booted → Type 0
LeavesDisk from old new (booted.Done standby None) = Rests old new
LeavesDisk from old new (booted.Done standby (Some txid)) = IsKept txid from old new
LeavesDisk from old new booted.ToFault = Unit {0}
LeavesDisk from old new booted.OutOfMemory = Unit {0}
LeavesDisk from old new _ = Rests old new

-- the newest image of `from` is there, whole, and no other
pub record HoldsCopy (from files : Files) : Type 0 where
  pub txid : ℕ
  pub newest : IsNewest from (newest.Image txid)
  pub bytes : List ℕ
  pub original : HasBytes txid (image_in from txid) bytes
  pub here : HasBytes txid (image_in files txid) bytes
  pub alone : (other : ℕ) → Counts files other → other ≡ txid

abbrev pub HasNoneOrCopy : Files → Files → Type 0
HasNoneOrCopy from files = IsNewest files newest.NoImage ⊎ HoldsCopy from files

-- ## Faults
-- the answers as results of the calls of either disk
abbrev pub from_result : Booted → Result (Unit {0}) DiskFail
from_result booted.FromFault = Err fail.Failed
from_result booted.OutOfMemory = Err fail.OutOfMemory
from_result _ = Ok tt

abbrev pub to_result : Booted → Result (Unit {0}) DiskFail
to_result booted.ToFault = Err fail.Failed
to_result booted.OutOfMemory = Err fail.OutOfMemory
to_result _ = Ok tt

-- what came of it by what was refused, else of this standby
abbrev pub booted_as : StandbyView → Result (Option ℕ) Booted → Booted
booted_as s (Ok image) = booted.Done s image
booted_as s (Err refused) = refused

-- ## By a log
-- the replay of the log's first entries, as many as the position says
pub record IsReplayed (log : List (List ℕ)) (s : StandbyView) : Type 0 where
  pub within : s.position ≤ length log
  pub space : replay (take s.position log) ≡ Some s.space

-- the newest image is the log's, or there is none
abbrev pub IsImageOf : List (List ℕ) → Files → Type 0
IsImageOf log from = (txid : ℕ) (s : StandbyView) → IsBegun from s (Some txid) → IsReplayed log s

-- each body that a read gave is the log's, at its txid
abbrev pub ReadsAgree : List (List ℕ) → List PeerCall → Type 0
ReadsAgree log calls =
    (node from txid : ℕ) (batch : BatchView) (body : List ℕ) → Contains calls (call_of node (Read from) (Answer (reply.Edits batch))) → HasBody from batch.bodies txid body
    → HasBody 1 log txid body

abbrev pub IsBootedOf : List (List ℕ) → Booted → Type 0
IsBootedOf log (booted.Done standby image) = IsReplayed log standby
IsBootedOf log _ = Unit {0}
