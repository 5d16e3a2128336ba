-- The images that the actors of a play leave.
use Rattle.std.specs.Prelude.{◌≡◌, ℕ, ◌≤◌, List, [], ◌∷◌, length, codes, Some, slice_get}
use Rattle.base_disk.specs.declared.mem_disk.MemDisk.{MemDisk}
use Rattle.mesh.specs.declared.whole.Mesh.{Mesh}
use Rattle.mesh.specs.Agree.{operator_of}
use Rattle.mesh.specs.Order.{epoch_order}
use Rattle.ns_tree.specs.declared.end.End.{End}
use Rattle.ns_edits.specs.Replay.{Image}
use Rattle.play_names.specs.ImageDisks.{HoldsOn}
use Rattle.play_names.specs.Results.{word}
use Rattle.play_script.specs.Scripts.{ScriptView}
use Rattle.play_model.specs.Lines.{IsPlayable, lines_of}
use Rattle.play_model.specs.Plays.{LeavesImages}
use Rattle.play_laws.specs.Linear.{ImagesReplay}
use Rattle.play_laws.specs.Acked.{Says}

-- the result line of a checkpoint
abbrev pub saved_text : ℕ → List ℕ
saved_text txid = word (codes "checkpoint") txid

-- the newest of them is at this txid, or later
abbrev pub ReachesTo : ℕ → List Image → Type 0
ReachesTo txid [] = ⊥
ReachesTo txid (i ∷ is) = txid ≤ i.txid

-- The newest image is that of the greatest txid that the actor told of a checkpoint, and where it
-- told none there is none.
pub record AreNewestTold (m : Mesh) (c : ℕ) (images : List Image) : Type 0 where
  pub reaches : (txid : ℕ) → Says m c (saved_text txid) → (told : ℕ) × (saved_text told ≡ saved_text txid) × ReachesTo told images
  pub told : (i : Image) (is : List Image) → images ≡ i ∷ is → Says m c (saved_text i.txid)

-- What an actor's disk holds: images of the line, in the order of the epochs, and no others.
pub record IsLeftBy (m : Mesh) (c : ℕ) (disk : MemDisk) : Type 0 where
  pub images : List Image
  pub holds : HoldsOn disk images
  pub replays : ImagesReplay m (epoch_order m) images
  pub newest : AreNewestTold m c images

-- a disk for each actor of a play, in order of declaration
abbrev pub ImagesAreLeft : Type 0
ImagesAreLeft =
    (s : ScriptView) (m : Mesh) (ends : List End) (disks : List MemDisk) → IsPlayable s → LeavesImages s.named s.nodes (lines_of s) m ends disks
    → (length disks ≡ operator_of m) × ((c : ℕ) (disk : MemDisk) → slice_get disks c ≡ Some disk → IsLeftBy m c disk)
