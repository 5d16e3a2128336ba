-- What the answers say.
use Rattle.std.specs.Prelude.{◌≡◌, ◌≢◌, ℕ, ◌-◌, ◌≤◌, ◌^◌, List, [], length, slice_index, Option, Some, None, Result, Ok, Err}
use Rattle.base_disk.specs.Files.{Files}
use Rattle.base_disk.specs.declared.disk.DiskFail.{DiskFail}
use Rattle.base_disk.specs.declared.disk.DiskFail.TheVariants as fail
use Rattle.md5.specs.Md5.{md5}
use Rattle.ns_store.specs.Images.{Image, image_in, Counts, ListsImages}
use Rattle.ns_store.specs.Digests.{IsStored}
use Rattle.ns_store.specs.Lists.{kept_from}
use Rattle.ns_store.specs.declared.newest_answer.Newest.{Newest}
use Rattle.ns_store.specs.declared.newest_answer.Newest.TheVariants as new
use Rattle.ns_store.specs.declared.kept_answer.MinToKeep.{MinToKeep}
use Rattle.ns_store.specs.declared.kept_answer.MinToKeep.TheVariants as kept
use Rattle.ns_store.specs.declared.loaded_bytes.LoadedBytes.{LoadedBytes}
use Rattle.ns_store.specs.declared.loaded_bytes.LoadedBytes.TheVariants as loaded
use Rattle.ns_store.specs.declared.stored.Stored.{Stored}
use Rattle.ns_store.specs.declared.stored.Stored.TheVariants as stored

-- the answers as results of a disk call
abbrev pub newest_result : Newest → Result (Unit {0}) DiskFail
newest_result (new.Image txid) = Ok tt
newest_result new.NoImage = Ok tt
newest_result new.DiskFault = Err fail.Failed
newest_result new.OutOfMemory = Err fail.OutOfMemory

abbrev pub kept_result : MinToKeep → Result (Unit {0}) DiskFail
kept_result (kept.Min txid) = Ok tt
kept_result kept.NoImage = Ok tt
kept_result kept.DiskFault = Err fail.Failed
kept_result kept.OutOfMemory = Err fail.OutOfMemory

-- the greatest txid of an image that counts
abbrev pub IsNewest : Files → Newest → Type 0
IsNewest files (new.Image txid) = Counts files txid × ((other : ℕ) → Counts files other → other ≤ txid)
IsNewest files new.NoImage = (other : ℕ) → Counts files other → ⊥
IsNewest files new.DiskFault = Unit {0}
IsNewest files new.OutOfMemory = Unit {0}

-- the last of these
abbrev pub IsNewestIn : List ℕ → Newest → Type 0
IsNewestIn txids (new.Image txid) = (txids ≢ []) × (txid ≡ slice_index txids (length txids - 1))
IsNewestIn txids new.NoImage = txids ≡ []
IsNewestIn txids new.DiskFault = ⊥
IsNewestIn txids new.OutOfMemory = ⊥

-- the first txid that is kept, with so many more
abbrev pub IsKeptFrom : Files → ℕ → MinToKeep → Type 0
IsKeptFrom files extra (kept.Min txid) = (txids : List ℕ) × ListsImages txids files × (txids ≢ []) × (txid ≡ kept_from extra txids)
IsKeptFrom files extra kept.NoImage = (other : ℕ) → Counts files other → ⊥
IsKeptFrom files extra kept.DiskFault = Unit {0}
IsKeptFrom files extra kept.OutOfMemory = Unit {0}

-- the first txid that is kept, with so many more, where there are images of just these txids
abbrev pub IsKeptIn : List ℕ → ℕ → MinToKeep → Type 0
IsKeptIn txids extra (kept.Min txid) = (txids ≢ []) × (txid ≡ kept_from extra txids)
IsKeptIn txids extra kept.NoImage = txids ≡ []
IsKeptIn txids extra kept.DiskFault = ⊥
IsKeptIn txids extra kept.OutOfMemory = ⊥

-- what the file of this digest holds
abbrev pub IsStoredIn : ℕ → Option (List ℕ) → Stored → Type 0
IsStoredIn txid file (stored.Digest digest) = (bytes : List ℕ) × (file ≡ Some bytes) × IsStored txid bytes digest
IsStoredIn txid file stored.Bad = (bytes : List ℕ) × (file ≡ Some bytes) × ((digest : List ℕ) → IsStored txid bytes digest → ⊥)
IsStoredIn txid file stored.Absent = file ≡ None

-- what the files of this image tell
abbrev pub IsLoadedOf : ℕ → Option Image → LoadedBytes → Type 0
IsLoadedOf txid image (loaded.Bytes bytes) = (digest : List ℕ) × (image ≡ Some record { bytes = bytes.items; digest = digest }) × IsStored txid digest (md5 bytes.items)
IsLoadedOf txid image loaded.NoImage = image ≡ None
IsLoadedOf txid image (loaded.DigestDiffers stored computed) =
    (found : Image) × (image ≡ Some found) × IsStored txid found.digest stored × (computed ≡ md5 found.bytes) × (stored ≢ computed)
IsLoadedOf txid image loaded.BadDigest = (found : Image) × (image ≡ Some found) × ((digest : List ℕ) → IsStored txid found.digest digest → ⊥)

-- what the files of an image tell, where both of them were read
abbrev pub IsJudged : List ℕ → List ℕ → LoadedBytes → Type 0
IsJudged bytes digest (loaded.Bytes found) = (found.items ≡ bytes) × (digest ≡ md5 bytes)
IsJudged bytes digest loaded.NoImage = ⊥
IsJudged bytes digest (loaded.DigestDiffers stored computed) = (stored ≡ digest) × (computed ≡ md5 bytes) × (stored ≢ computed)
IsJudged bytes digest loaded.BadDigest = ⊥

-- a txid above 2^62 is that of no image
abbrev pub IsLoaded : Files → ℕ → LoadedBytes → Type 0
IsLoaded files txid answer = (txid ≤ 2 ^ 62 → IsLoadedOf txid (image_in files txid) answer) × ((txid ≤ 2 ^ 62 → ⊥) → answer ≡ loaded.NoImage)
