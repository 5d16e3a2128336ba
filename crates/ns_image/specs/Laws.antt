-- What has an image.
use Rattle.std.specs.Prelude.{◌≡◌, ◌⊎◌, ◌^◌, ◌<◌, ◌≤◌, [], length}
use Rattle.std.specs.List.{AllByRecursion}
use Rattle.ns_tree.specs.declared.inode.Noted.{Noted}
use Rattle.ns_tree.specs.Space.{AreRising}
use Rattle.ns_tree.specs.Places.{IsTree}
use Rattle.ns_image.specs.declared.answer.ReadImage.{ReadImage}
use Rattle.ns_image.specs.declared.answer.ReadImage.TheVariants.{Image, BadImage}
use Rattle.ns_image.specs.Reading.{Told}

-- a call as a client sends it: an id of 16 bytes, and a number of 32 bits
pub record IsSent (noted : Noted) : Type 0 where
  pub client : length noted.call.client ≡ 16
  pub number : noted.call.number < 2 ^ 32

-- a namespace with at most 2^32 - 1 inodes, whose calls aren't above the txid; in layout 1 it has
-- none
pub record IsImage (image : Told) : Type 0 where
  pub tree : IsTree image.space
  pub counted : length image.space.pairs < 2 ^ 32
  pub txid : image.txid ≤ 2 ^ 62
  pub rising : AreRising 0 image.txid image.space.calls
  pub sent : AllByRecursion IsSent image.space.calls
  pub layout : ((image.layout ≡ 1) × (image.space.calls ≡ [])) ⊎ (image.layout ≡ 2)

-- an image that is read has a txid within its limit, and no call above it
abbrev pub IsWithin : ReadImage → Type 0
IsWithin (Image space txid) = (txid ≤ 2 ^ 62) × AreRising 0 txid space.calls
IsWithin (BadImage place cause) = Unit {0}
