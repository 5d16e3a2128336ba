-- What holds of every bootstrap.
use Rattle.std.specs.Prelude.{◌≡◌, ◌≤◌, ◌^◌, ℕ, List, Option}
use Rattle.base_disk.specs.Files.{Files}
use Rattle.ns_edits.specs.Replay.{Image}
use Rattle.ns_tree.specs.Space.{Space}
use Rattle.ns_store.specs.Images.{image_in}
use Rattle.ns_store.specs.Loads.{HasBytes, IsAnswer}
use Rattle.ns_store.specs.declared.loaded.Loaded.TheVariants as loaded
use Rattle.play_names.specs.Holding.{reload_image}
use Rattle.play_names.specs.ImageDisks.{HoldsImages}
use Rattle.play_standby.specs.Standbys.{StandbyView, held}
use Rattle.play_boot.specs.Boots.{IsBegun, Copies}
use Rattle.play_boot.specs.Nodes.{image_of}

-- A standby begins with what a name node that holds these images reloads, and its image is the
-- newest of them.
pub record Reloads (images : List Image) (begun old : StandbyView) (image : Option ℕ) : Type 0 where
  pub reloads : held images begun ≡ reload_image (held images old)
  pub newest : image ≡ image_of images

abbrev pub ABootReloads : Type 0
ABootReloads = (from : Files) (images : List Image) (begun old : StandbyView) (image : Option ℕ) → HoldsImages from images → IsBegun from begun image → Reloads images begun old image

-- the copy of an image that is loaded is loaded so too
abbrev pub CopiesAreLoaded : Type 0
CopiesAreLoaded =
    (from old new : Files) (txid told : ℕ) (space : Space) (bytes : List ℕ) → txid ≤ 2 ^ 62 → HasBytes txid (image_in from txid) bytes → Copies txid bytes old new
    → IsAnswer from txid (loaded.Image space told) → IsAnswer new txid (loaded.Image space told)
