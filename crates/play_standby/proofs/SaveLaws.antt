-- What the disk of the images that were saved tells.
use Rattle.std.proofs.Common.{ℕ, List}
use Rattle.base_disk.specs.MemDisk.{disk_view}
use Rattle.base_disk.specs.declared.mem_disk.MemDisk.{MemDisk}
use Rattle.ns_edits.specs.Replay.{Image}
use Rattle.ns_store.specs.Answers.{IsKeptFrom}
use Rattle.ns_store.specs.declared.kept_answer.MinToKeep.{MinToKeep}
use Rattle.play_names.specs.Holding.{min_to_keep}
use Rattle.play_standby.specs.Disks.{IsMinOf}
use Rattle.play_standby.specs.Saves.{AreOnDisk}
use Rattle.play_standby.proofs.DiskLaws.{min_of}

-- an answer of the disk tells it of the images
pub least_kept : (disk : MemDisk) (images : List Image) (extra : ℕ) (answer : MinToKeep) → AreOnDisk disk images
    → IsKeptFrom (disk_view disk).seen extra answer → IsMinOf (min_to_keep extra images) answer
least_kept disk images extra answer h kept = min_of (disk_view disk).seen images extra answer h.holds kept
