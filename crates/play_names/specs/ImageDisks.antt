-- The images that a disk holds.
use Rattle.std.specs.Prelude.{◌≡◌, ◌⊎◌, ◌↔◌, ℕ, ◌<◌, List, [], ◌∷◌}
use Rattle.std.specs.List.{AllByRecursion}
use Rattle.base_disk.specs.Files.{Files}
use Rattle.base_disk.specs.MemDisk.{disk_view}
use Rattle.base_disk.specs.declared.mem_disk.MemDisk.{MemDisk}
use Rattle.ns_edits.specs.Replay.{Image}
use Rattle.ns_store.specs.Images.{Counts}
use Rattle.ns_store.specs.Loads.{LoadsAs}

-- the newest first
abbrev pub AreFalling : List Image → Type 0
AreFalling [] = Unit {0}
AreFalling (i ∷ is) = AllByRecursion (λ j. j.txid < i.txid) is × AreFalling is

abbrev pub HasTxid : ℕ → List Image → Type 0
HasTxid txid [] = ⊥
HasTxid txid (i ∷ is) = (txid ≡ i.txid) ⊎ HasTxid txid is

-- The images of these namespaces are there, and no other one counts.
pub record HoldsImages (files : Files) (images : List Image) : Type 0 where
  pub falling : AreFalling images
  pub counts : (txid : ℕ) → Counts files txid ↔ HasTxid txid images
  pub loads : AllByRecursion (λ i. LoadsAs i.txid i.space files) images

-- a disk in memory holds them
abbrev pub HoldsOn : MemDisk → List Image → Type 0
HoldsOn disk images = HoldsImages (disk_view disk).seen images
