-- The steps of a bootstrap, each with what refuses the next one.
use Rattle.std.specs.Prelude.{◌≡◌, ℕ, ◌≤◌, ◌^◌, List, Option, Some, None, Result, Ok, Err, option_map}
use Rattle.base_disk.specs.Files.{Files}
use Rattle.base_disk.specs.View.{View}
use Rattle.base_disk.specs.Calls.{Rests, Effect}
use Rattle.base_disk.specs.declared.disk.DiskFail.{DiskFail}
use Rattle.journal_core.specs.declared.peer_call.PeerCall.{PeerCall}
use Rattle.md5.specs.Md5.{md5}
use Rattle.ns_image.specs.Reading.{reading_of}
use Rattle.ns_image.specs.declared.answer.ReadImage.TheVariants as read
use Rattle.ns_store.specs.Answers.{IsNewest}
use Rattle.ns_store.specs.Digests.{digest_line}
use Rattle.ns_store.specs.Images.{image_in, Counts}
use Rattle.ns_store.specs.Saves.{Prepares, Saves}
use Rattle.ns_store.specs.Loads.{HasBytes, IsAnswer, answer_to}
use Rattle.ns_store.specs.declared.loaded_bytes.LoadedBytes.{LoadedBytes}
use Rattle.ns_store.specs.declared.loaded_bytes.LoadedBytes.TheVariants as bytes
use Rattle.ns_store.specs.declared.loaded.Loaded.TheVariants as loaded
use Rattle.ns_store.specs.declared.newest_answer.Newest.TheVariants as newest
use Rattle.play_names.specs.declared.tailed.Tailed.TheVariants as tailed
use Rattle.play_standby.specs.Standbys.{StandbyView}
use Rattle.play_boot.specs.Boots.{IsBegun, LoadsNewest, TailsTo, from_result, to_result}
use Rattle.play_boot.specs.declared.booted.Booted.{Booted}
use Rattle.play_boot.specs.declared.booted.Booted.TheVariants as booted
use Rattle.play_boot.specs.declared.image_bytes.ImageBytes.{ImageBytes}

-- ## As results of the calls of a disk
abbrev pub begun_result : {T : Type 0} → Result T Booted → Result (Unit {0}) DiskFail
begun_result (Ok x) = Ok tt
begun_result (Err refused) = from_result refused

abbrev pub kept_result : {T : Type 0} → Result T Booted → Result (Unit {0}) DiskFail
kept_result (Ok x) = Ok tt
kept_result (Err refused) = to_result refused

-- ## Its own disk has no image
-- why not; where the disk tells its bytes, an image that counts is told
abbrev pub IsFull : Type 0 → Files → Booted → Type 0
IsFull told to (booted.NotEmpty txid) = told → IsNewest to (newest.Image txid)
IsFull told to booted.ToFault = Unit {0}
IsFull told to booted.OutOfMemory = Unit {0}
IsFull told to _ = ⊥

-- ## It begins
-- the txid of an image that was read
abbrev pub txid_of : Option ImageBytes → Option ℕ
txid_of image = option_map (λ (i : ImageBytes). i.txid) image

-- its bytes are those that the files have
abbrev pub HoldsBytes : Files → Option ImageBytes → Type 0
HoldsBytes from None = Unit {0}
HoldsBytes from (Some i) = HasBytes i.txid (image_in from i.txid) i.bytes.items

pub record Begins (from : Files) (s : StandbyView) (image : Option ImageBytes) : Type 0 where
  pub begun : IsBegun from s (txid_of image)
  pub bytes : HoldsBytes from image

-- why it doesn't
abbrev pub BeginsNot : Type 0 → Files → Booted → Type 0
BeginsNot told from (booted.DigestDiffers stored computed) = told → LoadsNewest from (loaded.DigestDiffers stored computed)
BeginsNot told from (booted.BadImage place cause) = told → LoadsNewest from (loaded.BadImage place cause)
BeginsNot told from booted.FromFault = Unit {0}
BeginsNot told from booted.OutOfMemory = Unit {0}
BeginsNot told from _ = ⊥

-- of the image of this txid, which may not be loaded
abbrev pub LoadsNot : Type 0 → Files → ℕ → Booted → Type 0
LoadsNot told from txid (booted.DigestDiffers stored computed) = told → IsAnswer from txid (loaded.DigestDiffers stored computed)
LoadsNot told from txid (booted.BadImage place cause) = told → IsAnswer from txid (loaded.BadImage place cause)
LoadsNot told from txid booted.FromFault = Unit {0}
LoadsNot told from txid booted.OutOfMemory = Unit {0}
LoadsNot told from txid _ = ⊥

-- what was taken of the image with these bytes
abbrev pub TakesBytes : ℕ → List ℕ → StandbyView → Result (Option ImageBytes) Booted → Type 0
TakesBytes txid bytes new (Ok None) = ⊥
TakesBytes txid bytes new (Ok (Some i)) = (i.txid ≡ txid) × (i.bytes.items ≡ bytes) × (reading_of bytes ≡ read.Image new.space new.position)
TakesBytes txid bytes new (Err (booted.BadImage place cause)) = reading_of bytes ≡ read.BadImage place cause
TakesBytes txid bytes new (Err booted.OutOfMemory) = Unit {0}
TakesBytes txid bytes new (Err _) = ⊥

-- the bytes that were read
abbrev pub bytes_found : LoadedBytes → Option (List ℕ)
bytes_found (bytes.Bytes found) = Some found.items
bytes_found bytes.NoImage = None
bytes_found (bytes.DigestDiffers stored computed) = None
bytes_found bytes.BadDigest = None

-- what was taken of what was read of the files of an image
abbrev pub TakesLoaded : ℕ → LoadedBytes → StandbyView → StandbyView → Result (Option ImageBytes) Booted → Type 0
TakesLoaded txid l old new (Ok None) = (l ≡ bytes.NoImage) × (new ≡ old)
TakesLoaded txid l old new (Ok (Some i)) = (i.txid ≡ txid) × (bytes_found l ≡ Some i.bytes.items) × (answer_to l ≡ loaded.Image new.space new.position)
TakesLoaded txid l old new (Err (booted.DigestDiffers stored computed)) = answer_to l ≡ loaded.DigestDiffers stored computed
TakesLoaded txid l old new (Err (booted.BadImage place cause)) = answer_to l ≡ loaded.BadImage place cause
TakesLoaded txid l old new (Err booted.OutOfMemory) = Unit {0}
TakesLoaded txid l old new (Err _) = ⊥

-- what was taken of the image of this txid
abbrev pub TakesFrom : Type 0 → Files → ℕ → StandbyView → StandbyView → Result (Option ImageBytes) Booted → Type 0
TakesFrom told from txid old new (Ok None) = (told → Counts from txid → ⊥) × (new ≡ old)
TakesFrom told from txid old new (Ok (Some i)) =
    (i.txid ≡ txid) × (told → HasBytes txid (image_in from txid) i.bytes.items) × (told → IsAnswer from txid (loaded.Image new.space new.position))
TakesFrom told from txid old new (Err refused) = LoadsNot told from txid refused

-- ## It tails
-- how a tail ended that didn't catch up
abbrev pub TailsNot : ℕ → StandbyView → List PeerCall → List PeerCall → StandbyView → Booted → Type 0
TailsNot nodes begun before after s (booted.Unreachable have first) = TailsTo nodes begun before after s (tailed.Purged first) × (s.position ≡ have)
TailsNot nodes begun before after s (booted.Behind txid causes) = TailsTo nodes begun before after s (tailed.Behind txid causes) × (s.position ≡ txid)
TailsNot nodes begun before after s (booted.BadEntry txid) = TailsTo nodes begun before after s (tailed.BadEntry txid)
TailsNot nodes begun before after s booted.OutOfMemory = Unit {0}
TailsNot nodes begun before after s _ = ⊥

-- ## It keeps its image
-- why it may not be there
abbrev pub KeepsNot : Booted → Type 0
KeepsNot booted.ToFault = Unit {0}
KeepsNot booted.OutOfMemory = Unit {0}
KeepsNot _ = ⊥

-- what keeping it makes of the disk: its bytes are saved with their digest
abbrev pub Keeps : {T : Type 0} → Option ImageBytes → Result T Booted → View → View → Type 0
Keeps None result old new = Rests old new
Keeps (Some i) result old new = Effect (Prepares i.txid) (Saves i.txid i.bytes.items (digest_line i.txid (md5 i.bytes.items))) result old new

-- the image of these bytes is within its limit
abbrev pub IsSmall : Option ImageBytes → Type 0
IsSmall None = Unit {0}
IsSmall (Some i) = i.txid ≤ 2 ^ 62
