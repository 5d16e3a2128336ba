-- A standby begins from what was read of an image.
use Rattle.std.proofs.Common.{◌≡◌, ℕ, ◌≤◌, ◌^◌, List, Option, Some, None, sym, ap, ◌∙◌, subst}
use Rattle.std.specs.Prelude.{IsSome, Result, Ok, Err, IsErrOf, MatchResult, IfOk}
use Rattle.base_disk.specs.Files.{Files}
use Rattle.base_disk.specs.declared.disk.DiskFail.TheVariants.{Failed}
use Rattle.ns_image.specs.Reading.{reading_of}
use Rattle.ns_store.specs.Answers.{IsNewest, IsLoaded, IsLoadedOf}
use Rattle.ns_store.specs.Images.{Image, image_in, Counts}
use Rattle.ns_store.specs.Loads.{HasBytes, IsAnswer, answer_of, answer_to}
use Rattle.ns_store.specs.declared.loaded_bytes.LoadedBytes.{LoadedBytes}
use Rattle.ns_store.specs.declared.loaded_bytes.LoadedBytes.TheVariants as bytes
use Rattle.ns_store.specs.declared.loaded.Loaded.{Loaded}
use Rattle.ns_store.specs.declared.loaded.Loaded.TheVariants as loaded
use Rattle.ns_store.specs.declared.newest_answer.Newest.TheVariants as newest
use Rattle.ns_store.proofs.AnswerLaws.{answered}
use Rattle.play_standby.specs.Standbys.{StandbyView}
use Rattle.play_boot.specs.Stages.{Begins, BeginsNot, LoadsNot, bytes_found, begun_result, TakesBytes, TakesLoaded, TakesFrom, IsSmall}
use Rattle.play_boot.specs.declared.booted.Booted.{Booted}
use Rattle.play_boot.specs.declared.booted.Booted.TheVariants as booted
use Rattle.play_boot.specs.declared.image_bytes.ImageBytes.{ImageBytes}

-- ## From bytes to what was read
pub taken_loaded : (txid : ℕ) (l : LoadedBytes) (items : List ℕ) (old new : StandbyView) (r : Result (Option ImageBytes) Booted) → bytes_found l ≡ Some items
    → answer_to l ≡ answer_of (reading_of items) → TakesBytes txid items new r → TakesLoaded txid l old new r
taken_loaded txid l items old new (Ok None) e f h = absurd h
taken_loaded txid l items old new (Ok (Some i)) e f h = (h.0, e ∙ ap (λ (x : List ℕ). Some x) (sym h.1), f ∙ ap answer_of h.2)
taken_loaded txid l items old new (Err (booted.Done standby image)) e f h = absurd h
taken_loaded txid l items old new (Err (booted.NotEmpty t)) e f h = absurd h
taken_loaded txid l items old new (Err (booted.DigestDiffers stored computed)) e f h = absurd h
taken_loaded txid l items old new (Err (booted.BadImage place cause)) e f h = f ∙ ap answer_of h
taken_loaded txid l items old new (Err (booted.Unreachable have first)) e f h = absurd h
taken_loaded txid l items old new (Err (booted.Behind t causes)) e f h = absurd h
taken_loaded txid l items old new (Err (booted.BadEntry t)) e f h = absurd h
taken_loaded txid l items old new (Err booted.FromFault) e f h = absurd h
taken_loaded txid l items old new (Err booted.ToFault) e f h = absurd h
taken_loaded txid l items old new (Err booted.OutOfMemory) e f h = tt

-- ## From what was read to the image of this txid
has_bytes : (txid : ℕ) (image : Option Image) (l : LoadedBytes) (items : List ℕ) → bytes_found l ≡ Some items → IsLoadedOf txid image l → HasBytes txid image items
has_bytes txid image (bytes.Bytes found) items e is =
    let same : found.items ≡ items = cc in subst (HasBytes txid image) same (record { digest = is.0; there = is.1; stored = is.2 })
has_bytes txid image bytes.NoImage items e is = absurd (cc e)
has_bytes txid image (bytes.DigestDiffers stored computed) items e is = absurd (cc e)
has_bytes txid image bytes.BadDigest items e is = absurd (cc e)

none_there : (image : Option Image) → image ≡ None → IsSome image → ⊥
none_there None e h = absurd (cc h)
none_there (Some i) e h = absurd (cc e)

module _ (told : Type 0) (files : Files) (txid : ℕ) (l : LoadedBytes) (small : txid ≤ 2 ^ 62) (is : told → IsLoaded files txid l) where
  answers : (a : Loaded) → answer_to l ≡ a → told → IsAnswer files txid a
  answers a e t = subst (IsAnswer files txid) e (answered files txid l (is t))

  pub taken_from : (old new : StandbyView) (r : Result (Option ImageBytes) Booted) → TakesLoaded txid l old new r → TakesFrom told files txid old new r
  taken_from old new (Ok None) h =
      (λ t c. none_there (image_in files txid) ((subst (IsLoaded files txid) h.0 (is t)).0 small) c.1, h.1)
  taken_from old new (Ok (Some i)) h =
      (h.0, λ t. has_bytes txid (image_in files txid) l i.bytes.items h.1 ((is t).0 small), answers (loaded.Image new.space new.position) h.2)
  taken_from old new (Err (booted.Done standby image)) h = absurd h
  taken_from old new (Err (booted.NotEmpty t)) h = absurd h
  taken_from old new (Err (booted.DigestDiffers stored computed)) h = answers (loaded.DigestDiffers stored computed) h
  taken_from old new (Err (booted.BadImage place cause)) h = answers (loaded.BadImage place cause) h
  taken_from old new (Err (booted.Unreachable have first)) h = absurd h
  taken_from old new (Err (booted.Behind t causes)) h = absurd h
  taken_from old new (Err (booted.BadEntry t)) h = absurd h
  taken_from old new (Err booted.FromFault) h = absurd h
  taken_from old new (Err booted.ToFault) h = absurd h
  taken_from old new (Err booted.OutOfMemory) h = tt

pub small_of : (txid : ℕ) (l : LoadedBytes) (old new : StandbyView) (r : Result (Option ImageBytes) Booted) → txid ≤ 2 ^ 62 → TakesLoaded txid l old new r → IfOk r IsSmall
small_of txid l old new (Ok None) small h = tt
small_of txid l old new (Ok (Some i)) small h = subst (λ (k : ℕ). k ≤ 2 ^ 62) (sym h.0) small
small_of txid l old new (Err refused) small h = tt

-- its answer tells no fault of the disk
pub taken_fine : (txid : ℕ) (l : LoadedBytes) (old new : StandbyView) (r : Result (Option ImageBytes) Booted) → TakesLoaded txid l old new r → IsErrOf (begun_result r) Failed → ⊥
taken_fine txid l old new (Ok x) h failed = absurd (cc)
taken_fine txid l old new (Err (booted.Done standby image)) h failed = absurd h
taken_fine txid l old new (Err (booted.NotEmpty t)) h failed = absurd h
taken_fine txid l old new (Err (booted.DigestDiffers stored computed)) h failed = absurd (cc)
taken_fine txid l old new (Err (booted.BadImage place cause)) h failed = absurd (cc)
taken_fine txid l old new (Err (booted.Unreachable have first)) h failed = absurd h
taken_fine txid l old new (Err (booted.Behind t causes)) h failed = absurd h
taken_fine txid l old new (Err (booted.BadEntry t)) h failed = absurd h
taken_fine txid l old new (Err booted.FromFault) h failed = absurd h
taken_fine txid l old new (Err booted.ToFault) h failed = absurd h
taken_fine txid l old new (Err booted.OutOfMemory) h failed = absurd (cc)

-- the files that were read, as they were before a call that reads
pub taken_as : (told now : Type 0) (files seen : Files) (txid : ℕ) (old new : StandbyView) (r : Result (Option ImageBytes) Booted) → (told → now) → (told → seen ≡ files)
    → TakesFrom now seen txid old new r → TakesFrom told files txid old new r
taken_as told now files seen txid old new (Ok None) f e h = (λ t c. h.0 (f t) (subst (λ (s : Files). Counts s txid) (sym (e t)) c), h.1)
taken_as told now files seen txid old new (Ok (Some i)) f e h = (
  h.0,
  λ t. subst (λ (s : Files). HasBytes txid (image_in s txid) i.bytes.items) (e t) (h.1 (f t)),
  λ t. subst (λ (s : Files). IsAnswer s txid (loaded.Image new.space new.position)) (e t) (h.2 (f t)),
)
taken_as told now files seen txid old new (Err (booted.Done standby image)) f e h = absurd h
taken_as told now files seen txid old new (Err (booted.NotEmpty t)) f e h = absurd h
taken_as told now files seen txid old new (Err (booted.DigestDiffers stored computed)) f e h = λ t. subst (λ (s : Files). IsAnswer s txid (loaded.DigestDiffers stored computed)) (e t) (h (f t))
taken_as told now files seen txid old new (Err (booted.BadImage place cause)) f e h = λ t. subst (λ (s : Files). IsAnswer s txid (loaded.BadImage place cause)) (e t) (h (f t))
taken_as told now files seen txid old new (Err (booted.Unreachable have first)) f e h = absurd h
taken_as told now files seen txid old new (Err (booted.Behind t causes)) f e h = absurd h
taken_as told now files seen txid old new (Err (booted.BadEntry t)) f e h = absurd h
taken_as told now files seen txid old new (Err booted.FromFault) f e h = tt
taken_as told now files seen txid old new (Err booted.ToFault) f e h = absurd h
taken_as told now files seen txid old new (Err booted.OutOfMemory) f e h = tt

-- ## From the newest image
module _ (told : Type 0) (files : Files) (txid : ℕ) (is : told → IsNewest files (newest.Image txid)) where
  begins_not : (b : Booted) → LoadsNot told files txid b → BeginsNot told files b
  begins_not (booted.Done standby image) h = absurd h
  begins_not (booted.NotEmpty t) h = absurd h
  begins_not (booted.DigestDiffers stored computed) h = λ t. record { txid = txid; newest = is t; loads = h t }
  begins_not (booted.BadImage place cause) h = λ t. record { txid = txid; newest = is t; loads = h t }
  begins_not (booted.Unreachable have first) h = absurd h
  begins_not (booted.Behind t causes) h = absurd h
  begins_not (booted.BadEntry t) h = absurd h
  begins_not booted.FromFault h = tt
  begins_not booted.ToFault h = absurd h
  begins_not booted.OutOfMemory h = tt

  pub begins : (old new : StandbyView) (r : Result (Option ImageBytes) Booted) → TakesFrom told files txid old new r
      → MatchResult r (λ image. told → Begins files new image) (BeginsNot told files)
  begins old new (Ok None) h = λ t. absurd (h.0 t (is t).0)
  begins old new (Ok (Some i)) h = λ t. record {
    begun = (
      subst (λ (k : ℕ). IsNewest files (newest.Image k)) (sym h.0) (is t),
      subst (λ (k : ℕ). IsAnswer files k (loaded.Image new.space new.position)) (sym h.0) (h.2 t),
    );
    bytes = subst (λ (k : ℕ). HasBytes k (image_in files k) i.bytes.items) (sym h.0) (h.1 t);
  }
  begins old new (Err refused) h = begins_not refused h
