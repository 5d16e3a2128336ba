-- The images on the disk of a standby: which of them it holds, and what opening and a checkpoint
-- make of them.
use Rattle.std.specs.Prelude.{◌≡◌, ◌⊎◌, ◌↔◌, ℕ, List, [], ◌∷◌, ◌++◌, Option, Some, None, Result, Ok, Err, OnOk, Contains}
use Rattle.std.specs.List.Sorted.{IsStrictlySortedBy}
use Rattle.std.specs.Ordering.{nat_cmp}
use Rattle.base_disk.specs.Files.{Files}
use Rattle.base_disk.specs.View.{View, LeavesOnly}
use Rattle.base_disk.specs.declared.disk.DiskFail.{DiskFail}
use Rattle.base_disk.specs.declared.disk.DiskFail.TheVariants as fail
use Rattle.ns_tree.specs.Space.{Space}
use Rattle.ns_edits.specs.Replay.{Image}
use Rattle.play_names.specs.Holding.{reload_image}
pub use Rattle.play_names.specs.ImageDisks.{AreFalling, HasTxid, HoldsImages}
use Rattle.ns_store.specs.Images.{Counts}
use Rattle.ns_store.specs.Answers.{IsNewest}
use Rattle.ns_store.specs.Loads.{IsAnswer, SavesImage}
use Rattle.ns_store.specs.Lists.{older_than}
use Rattle.ns_store.specs.Saves.{Prepares, Thins, AreRemoved}
use Rattle.ns_store.specs.declared.loaded.Loaded.{Loaded}
use Rattle.ns_store.specs.declared.loaded.Loaded.TheVariants as loading
use Rattle.ns_store.specs.declared.newest_answer.Newest.TheVariants as newest
use Rattle.ns_store.specs.declared.kept_answer.MinToKeep.{MinToKeep}
use Rattle.ns_store.specs.declared.kept_answer.MinToKeep.TheVariants as kept
use Rattle.play_standby.specs.declared.opened.OpenedImage.{OpenedImage}
use Rattle.play_standby.specs.declared.opened.OpenedImage.TheVariants as opened
use Rattle.play_standby.specs.Standbys.{StandbyView, empty_standby, held}

-- ## The images that a disk holds
-- their txids, the newest last
abbrev pub rising_txids : List Image → List ℕ
rising_txids [] = []
rising_txids (i ∷ is) = rising_txids is ++ i.txid ∷ []

-- ## Opening
abbrev pub opened_result : OpenedImage → Result (Unit {0}) DiskFail
opened_result opened.DiskFault = Err fail.Failed
opened_result opened.OutOfMemory = Err fail.OutOfMemory
opened_result _ = Ok tt

-- What the image of this txid was loaded as.
abbrev pub IsLoadedAt : Files → ℕ → StandbyView → OpenedImage → Type 0
IsLoadedAt files txid new (opened.Loaded told) = IsAnswer files txid (loading.Image new.space told)
IsLoadedAt files txid new opened.Empty = IsAnswer files txid loading.NoImage
IsLoadedAt files txid new (opened.DigestDiffers stored computed) = IsAnswer files txid (loading.DigestDiffers stored computed)
IsLoadedAt files txid new (opened.BadImage place cause) = IsAnswer files txid (loading.BadImage place cause)
IsLoadedAt files txid new opened.DiskFault = Unit {0}
IsLoadedAt files txid new opened.OutOfMemory = Unit {0}

-- what was loaded, as the answer tells it
abbrev pub IsTakenAs : Loaded → StandbyView → OpenedImage → Type 0
IsTakenAs l new (opened.Loaded told) = l ≡ loading.Image new.space told
IsTakenAs l new opened.Empty = l ≡ loading.NoImage
IsTakenAs l new (opened.DigestDiffers stored computed) = l ≡ loading.DigestDiffers stored computed
IsTakenAs l new (opened.BadImage place cause) = l ≡ loading.BadImage place cause
IsTakenAs l new opened.DiskFault = ⊥
IsTakenAs l new opened.OutOfMemory = Unit {0}

-- The newest image was loaded so; `Empty` exactly where none counts.
pub record NewestLoadedAs (files : Files) (new : StandbyView) (answer : OpenedImage) : Type 0 where
  pub txid : ℕ
  pub newest : IsNewest files (newest.Image txid)
  pub loaded : IsLoadedAt files txid new answer

abbrev pub IsOpened : Files → StandbyView → OpenedImage → Type 0
IsOpened files new opened.Empty = IsNewest files newest.NoImage
IsOpened files new opened.DiskFault = Unit {0}
IsOpened files new opened.OutOfMemory = Unit {0}
IsOpened files new answer = NewestLoadedAs files new answer

-- what the standby is then: after a refusal as before
abbrev pub OpensAs : StandbyView → StandbyView → OpenedImage → Type 0
OpensAs old new (opened.Loaded txid) = new.position ≡ txid
OpensAs old new opened.Empty = new ≡ empty_standby
OpensAs old new _ = new ≡ old

-- Over a disk that holds these images: it is as a name node that reloads, and no image is bad.
abbrev pub IsReloaded : List Image → StandbyView → StandbyView → OpenedImage → Type 0
IsReloaded images old new (opened.Loaded txid) = held images new ≡ reload_image (held images old)
IsReloaded images old new opened.Empty = held images new ≡ reload_image (held images old)
IsReloaded images old new (opened.DigestDiffers stored computed) = ⊥
IsReloaded images old new (opened.BadImage place cause) = ⊥
IsReloaded images old new opened.DiskFault = Unit {0}
IsReloaded images old new opened.OutOfMemory = Unit {0}

-- ## What is to keep
abbrev pub IsMinOf : Option ℕ → MinToKeep → Type 0
IsMinOf least (kept.Min txid) = least ≡ Some txid
IsMinOf least kept.NoImage = least ≡ None
IsMinOf least kept.DiskFault = Unit {0}
IsMinOf least kept.OutOfMemory = Unit {0}

-- ## A checkpoint
-- the txids of the images that count, and this one, in order and each once
pub record ListsBeside (txid : ℕ) (txids : List ℕ) (files : Files) : Type 0 where
  pub each : (t : ℕ) → Contains txids t ↔ (Counts files t ⊎ (t ≡ txid))
  pub sorted : IsStrictlySortedBy nat_cmp txids

-- the image is saved, and some of these older ones went after it: each counts as before or not at
-- all
pub record IsThinned (txid : ℕ) (space : Space) (older : List ℕ) (old new : Files) : Type 0 where
  pub put : Files
  pub saves : SavesImage txid space old put
  pub thins : Thins older put new

-- the image isn't saved, and nothing but its own files has changed; or it is, and some older ones
-- went
abbrev pub IsInCheckpoint : ℕ → Space → List ℕ → Files → Files → Type 0
IsInCheckpoint txid space older old new = Prepares txid old new ⊎ IsThinned txid space older old new

-- A checkpoint of which any call may have failed. At every moment all images but the one at the
-- txid and those older than the two newest are as they were, whatever their files hold; once it
-- answered Ok, the image is saved and the older ones are gone.
pub record Checkpoints (txid : ℕ) (space : Space) (result : Result (Unit {0}) DiskFail) (old new : View) : Type 0 where
  pub moments : (txids : List ℕ) → ListsBeside txid txids old.seen
      → LeavesOnly old new (λ c. (d : Files) × old.may_leave d × IsInCheckpoint txid space (older_than 2 txids) d c)
  pub seen : (txids : List ℕ) → ListsBeside txid txids old.seen → IsInCheckpoint txid space (older_than 2 txids) old.seen new.seen
  pub done : OnOk result ((txids : List ℕ) → ListsBeside txid txids old.seen → IsThinned txid space (older_than 2 txids) old.seen new.seen × AreRemoved (older_than 2 txids) new.seen)
