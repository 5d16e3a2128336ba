-- What a save and a removal make of the files, and what a crash may leave meanwhile.
use Rattle.std.specs.Prelude.{◌≡◌, ◌⊎◌, ℕ, List, [], ◌∷◌, Option, Some, None, Contains, Result, OnOk}
use Rattle.base_disk.specs.Files.{Files, ChangesOnly}
use Rattle.base_disk.specs.View.{View}
use Rattle.base_disk.specs.Runs.{Quiet}
use Rattle.ns_store.specs.Images.{ListsImages}
use Rattle.ns_store.specs.Lists.{older_than}
use Rattle.ns_store.specs.Names.{Part, Itself, Checkpoint, Digest, FreshDigest, name_of, IsOutside}

-- the file is as before, or gone
abbrev pub IsSameOrGone : Option (List ℕ) → Option (List ℕ) → Type 0
IsSameOrGone old new = (new ≡ old) ⊎ (new ≡ None)

abbrev pub MayGo : List ℕ → Files → Files → Type 0
MayGo name = ChangesOnly name IsSameOrGone

-- both files of this image are as before
pub record KeepsImage (txid : ℕ) (old new : Files) : Type 0 where
  pub itself : new (name_of txid Itself) ≡ old (name_of txid Itself)
  pub digest : new (name_of txid Digest) ≡ old (name_of txid Digest)

-- no other file than these of this image changes
pub record OnlyOf (txid : ℕ) (parts : List Part) (old new : Files) : Type 0 where
  pub others : (name : List ℕ) → IsOutside txid parts name → new name ≡ old name

-- While an image is saved: nothing but its own files changes, and it counts as before or not at
-- all.
pub record Prepares (txid : ℕ) (old new : Files) : Type 0 where
  pub only : OnlyOf txid (Itself ∷ Checkpoint ∷ Digest ∷ FreshDigest ∷ []) old new
  pub here : KeepsImage txid old new ⊎ (new (name_of txid Itself) ≡ None)

-- It is saved: these are the bytes of its two files, and nothing is left over.
pub record Saves (txid : ℕ) (bytes line : List ℕ) (old new : Files) : Type 0 where
  pub only : OnlyOf txid (Itself ∷ Checkpoint ∷ Digest ∷ FreshDigest ∷ []) old new
  pub itself : new (name_of txid Itself) ≡ Some bytes
  pub digest : new (name_of txid Digest) ≡ Some line
  pub checkpoint : new (name_of txid Checkpoint) ≡ None
  pub fresh : new (name_of txid FreshDigest) ≡ None

-- while the file of the digest is put: it is as before, or holds this line
pub record Publishing (txid : ℕ) (line : List ℕ) (old new : Files) : Type 0 where
  pub only : OnlyOf txid (Digest ∷ FreshDigest ∷ []) old new
  pub digest : (new (name_of txid Digest) ≡ old (name_of txid Digest)) ⊎ (new (name_of txid Digest) ≡ Some line)

-- the digest is put, and the checkpoint file is the image
pub record Publishes (txid : ℕ) (line : List ℕ) (old new : Files) : Type 0 where
  pub only : OnlyOf txid (Itself ∷ Checkpoint ∷ Digest ∷ FreshDigest ∷ []) old new
  pub itself : new (name_of txid Itself) ≡ old (name_of txid Checkpoint)
  pub digest : new (name_of txid Digest) ≡ Some line
  pub checkpoint : new (name_of txid Checkpoint) ≡ None
  pub fresh : new (name_of txid FreshDigest) ≡ None

-- While an image is removed: nothing but its two files changes, and it counts as before or not at
-- all.
pub record Removes (txid : ℕ) (old new : Files) : Type 0 where
  pub only : OnlyOf txid (Itself ∷ Digest ∷ []) old new
  pub here : KeepsImage txid old new ⊎ (new (name_of txid Itself) ≡ None)

-- While images are removed: nothing but the files of these changes, and each counts as before or
-- not at all.
pub record Thins (txids : List ℕ) (old new : Files) : Type 0 where
  pub others : (name : List ℕ) → ((txid : ℕ) → Contains txids txid → IsOutside txid (Itself ∷ Digest ∷ []) name) → new name ≡ old name
  pub here : (txid : ℕ) → Contains txids txid → KeepsImage txid old new ⊎ (new (name_of txid Itself) ≡ None)

-- neither file of this image is there
pub record IsRemoved (txid : ℕ) (files : Files) : Type 0 where
  pub itself : files (name_of txid Itself) ≡ None
  pub digest : files (name_of txid Digest) ≡ None

abbrev pub AreRemoved : List ℕ → Files → Type 0
AreRemoved txids files = (txid : ℕ) → Contains txids txid → IsRemoved txid files

-- All but so many of the images that count are removed: at every moment a crash leaves these as
-- they were, and each other one as it was or not counting.
pub record Retains {T E : Type 0} (count : ℕ) (result : Result T E) (old new : View) : Type 0 where
  pub quiet : (txids : List ℕ) → ListsImages txids old.seen → Quiet (Thins (older_than count txids)) old new
  pub removed : OnOk result ((txids : List ℕ) → ListsImages txids old.seen → AreRemoved (older_than count txids) new.seen)
