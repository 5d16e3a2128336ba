-- The images that a name node of a script saves, on a disk of its own.
use Rattle.std.specs.Prelude.{List, []}
use Rattle.std.specs.List.{fold}
use Rattle.std.specs.declared.snapshot.Snapshot.{Snapshot}
use Rattle.base_disk.specs.MemDisk.{disk_view, CannotFail}
use Rattle.base_disk.specs.declared.mem_disk.MemDisk.{MemDisk}
use Rattle.ns_edits.specs.Replay.{Image}
use Rattle.play_names.specs.Holding.{save_image}
use Rattle.play_standby.specs.Standbys.{StandbyView, held}
use Rattle.play_standby.specs.Disks.{HoldsImages}

-- what is kept once one more is saved
abbrev pub one_saved : List Image → StandbyView → List Image
one_saved images s = (save_image (held images s)).images

-- what is kept of all that was saved, in the order of saving
abbrev pub kept_of_saves : List (Snapshot StandbyView) → List Image
kept_of_saves saves = fold (λ images s. one_saved images s.value) [] saves

-- the disk holds these images, and none of its calls fails
pub record AreOnDisk (disk : MemDisk) (images : List Image) : Type 0 where
  pub steady : CannotFail disk
  pub holds : HoldsImages (disk_view disk).seen images
