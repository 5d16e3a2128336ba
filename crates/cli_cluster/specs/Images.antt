-- The images of a name node's folder.
use Rattle.std.specs.Prelude.{ℕ, ◌≡◌, ◌≢◌, ◌^◌, ◌⊎◌, min, List, [], Option, Some, None, Result, Ok, Err, OnOk, Bool, true, false}
use Rattle.std.specs.declared.alloc.AllocError.{AllocError}
use Rattle.base_disk.specs.Files.{Files}
use Rattle.base_disk.specs.View.{View}
use Rattle.base_disk.specs.Calls.{Rests, Rose}
use Rattle.base_disk.specs.DiskCalls.{IsDiskRun, IfTold}
use Rattle.base_disk.specs.declared.disk.DiskFail.{DiskFail}
use Rattle.base_disk.specs.declared.disk.DiskFail.TheVariants as fail
use Rattle.base_disk.specs.declared.disk.DiskModel.{Ghosts}
use Rattle.ns_edits.specs.Replay.{Image}
use Rattle.ns_store.specs.Names.{name_of, Itself}
use Rattle.ns_store.specs.Images.{ListsImages}
use Rattle.ns_store.specs.Lists.{second_newest}
use Rattle.ns_store.specs.Answers.{IsNewest}
use Rattle.ns_store.specs.Loads.{IsAnswer}
use Rattle.ns_store.specs.declared.loaded.Loaded.{Loaded}
use Rattle.ns_store.specs.declared.loaded.Loaded.TheVariants as loading
use Rattle.ns_store.specs.declared.newest_answer.Newest.TheVariants as newest
use Rattle.cli_commands.specs.declared.command_fault.CommandFault.{CommandFault}
use Rattle.cli_commands.specs.declared.command_fault.CommandFault.TheVariants as fault
use Rattle.play_script.specs.declared.script_line.ScriptLine.{ScriptLine}
use Rattle.play_script.specs.declared.script_line.ScriptLine.TheVariants as line
use Rattle.play_standby.specs.Standbys.{StandbyView, empty_standby}
use Rattle.play_standby.specs.Saves.{one_saved}
use Rattle.play_standby.specs.Disks.{Checkpoints}
use Rattle.play_model.specs.Actions.{ActorView}
use Rattle.play_actor.specs.Kinds.{begun_actor, IsStandbyAt, IsNoStandby}

-- what contracts see of a name node and its folder
pub record FolderView (D : Type 0) : Type 0 where
  pub actor : ActorView
  -- where it has one
  pub disk : Option D
  -- a call of the disk failed as an image was saved
  pub failed : Bool

-- ## A start
-- no file changed
abbrev pub Stays : {D : Type 0} → Ghosts D → D → D → Type 0
Stays disk old new = disk.tells old → disk.tells new × ((disk.view new).seen ≡ (disk.view old).seen)

-- the image of this txid was loaded, and the standby stands there with its namespace
pub record IsAtImage (files : Files) (txid : ℕ) (s : StandbyView) : Type 0 where
  pub position : s.position ≡ txid
  pub loaded : IsAnswer files txid (loading.Image s.space txid)

-- the newest image that counts, if there is one
abbrev pub TellsNewest : Files → Option ℕ → Type 0
TellsNewest files (Some txid) = IsNewest files (newest.Image txid)
TellsNewest files None = IsNewest files newest.NoImage

-- the older of the two newest images that count, or the only one
pub record IsSecond (files : Files) (txid : ℕ) : Type 0 where
  pub txids : List ℕ
  pub lists : ListsImages txids files
  pub second : txid ≡ second_newest txids

-- that one, or none counts
abbrev pub TellsSecond : Files → ℕ → Type 0
TellsSecond files txid = IsSecond files txid ⊎ IsNewest files newest.NoImage

-- the images that it has then: this one, which is the only one, or the one before it, too
abbrev pub AreKept : Files → StandbyView → List Image → Type 0
AreKept files s images =
    (IsSecond files s.position × (images ≡ one_saved [] s))
    ⊎ ((older : StandbyView) × IsSecond files older.position × IsAtImage files older.position older × (images ≡ one_saved (one_saved [] older) s))

-- at this image, with the images that are kept
pub record StartsAt (files : Files) (txid : ℕ) (s : StandbyView) (images : List Image) : Type 0 where
  pub at : IsAtImage files txid s
  pub kept : AreKept files s images

-- It stands at the newest image that counts, or is empty where none does.
abbrev pub StandsAtNewest : Files → StandbyView → List Image → Type 0
StandsAtNewest files s images =
    ((txid : ℕ) × IsNewest files (newest.Image txid) × StartsAt files txid s images) ⊎ (IsNewest files newest.NoImage × (s ≡ empty_standby) × (images ≡ []))

-- a name node begins there
pub record BeginsAs (nodes : ℕ) (files : Files) (v : ActorView) : Type 0 where
  pub images : List Image
  pub standby : StandbyView
  pub is : v ≡ begun_actor nodes images standby
  pub stands : StandsAtNewest files standby images

-- over this disk, of which no file changed
pub record HasFolder {D : Type 0} (disk : Ghosts D) (old : D) (v : FolderView D) : Type 0 where
  pub now : D
  pub is : v.disk ≡ Some now
  pub stays : Stays disk old now
  pub no_fault : disk.faults now ≡ disk.faults old
  pub well : v.failed ≡ false

-- ## Why it doesn't begin
-- A fault of the disk is told where the disk failed, and only there.
pub record TellsFaults {D T : Type 0} (disk : Ghosts D) (old new : D) (result : Result T CommandFault) : Type 0 where
  pub failed : result ≡ Err fault.DiskFault → Rose (disk.faults old) (disk.faults new)
  pub no_fault : result ≢ Err fault.DiskFault → disk.faults new ≡ disk.faults old

-- that the image's file is bad, unless memory is wanted
abbrev pub NamesImage : ℕ → CommandFault → Type 0
NamesImage txid (fault.BadFile name) = name ≡ name_of (min txid (2 ^ 62)) Itself
NamesImage txid fault.OutOfMemory = Unit {0}
NamesImage txid _ = ⊥

-- it isn't an image of this txid
abbrev pub IsOther : ℕ → Loaded → Type 0
IsOther txid (loading.Image space told) = told ≢ txid
IsOther txid loading.NoImage = Unit {0}
IsOther txid (loading.DigestDiffers stored computed) = Unit {0}
IsOther txid (loading.BadImage place cause) = Unit {0}

-- what is loaded of this txid is no image of it: that is damaged, or tells another one
pub record IsBadImage (files : Files) (txid : ℕ) : Type 0 where
  pub found : Loaded
  pub loaded : IsAnswer files txid found
  pub other : IsOther txid found

-- it is a bad image for which nothing begins, and it is told by its name; or the disk failed, or
-- memory ran out. `Of` says which images may be told.
abbrev pub FailsFor : {D : Type 0} → Ghosts D → D → (Files → ℕ → Type 0) → CommandFault → Type 0
FailsFor disk old Of (fault.BadFile name) = (txid : ℕ) × NamesImage txid (fault.BadFile name) × (disk.tells old → Of (disk.view old).seen txid × IsBadImage (disk.view old).seen txid)
FailsFor disk old Of fault.DiskFault = Unit {0}
FailsFor disk old Of fault.OutOfMemory = Unit {0}
FailsFor disk old Of _ = ⊥

-- one of the two newest that count
abbrev pub IsOfTwoNewest : Files → ℕ → Type 0
IsOfTwoNewest files txid = IsNewest files (newest.Image txid) ⊎ IsSecond files txid

-- A start that failed: the disk was called, and failed if that is told.
pub record FailsToBegin {D : Type 0} (disk : Ghosts D) (old : D) (of : CommandFault) : Type 0 where
  pub now : D
  pub cause : TellsFaults {T = Unit {0}} disk old now (Err of)
  pub why : FailsFor disk old IsOfTwoNewest of

-- ## A checkpoint
-- it was a standby here, and its namespace was saved as an image at its position
pub record SavesHere (actor : ActorView) (result : Result (Unit {0}) DiskFail) (old new : View) : Type 0 where
  pub standby : StandbyView
  pub stands : IsStandbyAt actor standby
  pub saves : Checkpoints standby.position standby.space result old new

-- or it was none, and no file changed
abbrev pub SavesStandby : ActorView → Result (Unit {0}) DiskFail → View → View → Type 0
SavesStandby actor result old new = SavesHere actor result old new ⊎ (IsNoStandby actor × (result ≡ Ok tt) × Rests old new)

-- in the folder, where there is one
abbrev pub SavesIn : {D : Type 0} → Ghosts D → ActorView → Result (Unit {0}) DiskFail → Option D → Option D → Type 0
SavesIn disk actor result (Some old) (Some new) = IsDiskRun disk old new result × IfTold disk old new (SavesStandby actor result)
SavesIn disk actor result None None = result ≡ Ok tt
SavesIn disk actor result (Some old) None = ⊥
SavesIn disk actor result None (Some new) = ⊥

-- ## A line
abbrev pub is_checkpoint : ScriptLine → Bool
is_checkpoint (line.Checkpoint actor) = true
is_checkpoint _ = false

abbrev pub failed_after : Bool → Result (Unit {0}) DiskFail → Bool
failed_after failed (Err fail.Failed) = true
failed_after failed (Err fail.OutOfMemory) = failed
failed_after failed (Ok done) = failed

-- The namespace was saved first, with this outcome; a line that was taken found it saved.
pub record SavesFirst {D : Type 0} (disk : Ghosts D) (result : Result (Unit {0}) AllocError) (old new : FolderView D) : Type 0 where
  pub outcome : Result (Unit {0}) DiskFail
  pub saves : SavesIn disk old.actor outcome old.disk new.disk
  pub done : OnOk result (outcome ≡ Ok tt)
  pub failed : new.failed ≡ failed_after old.failed outcome

-- What a line did to the folder: a checkpoint saved the namespace there, and no other line changes
-- it.
abbrev pub TakesInFolder : {D : Type 0} → Ghosts D → Bool → Result (Unit {0}) AllocError → FolderView D → FolderView D → Type 0
TakesInFolder disk true result old new = SavesFirst disk result old new
TakesInFolder disk false result old new = (new.disk ≡ old.disk) × (new.failed ≡ old.failed)
