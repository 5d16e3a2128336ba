-- What is due of a listing.
use Rattle.std.proofs.Common.{◌≡◌, ℕ, ◌+◌, List, Option, Some, None, Result, Ok, Err, refl, sym, ap, ◌∙◌, suc, subst, arith}
use Rattle.std.specs.Prelude.{IfOk, IfErr, IsErrAnd, IsErrOf}
use Rattle.base_disk.specs.declared.disk.DiskFail.{DiskFail}
use Rattle.base_disk.specs.declared.disk.DiskFail.TheVariants as fail
use Rattle.ns_tree.specs.declared.inode.Row.{Row}
use Rattle.ns_image.specs.Reading.{reading_of}
use Rattle.ns_image.specs.declared.image_cause.ImageCause.{ImageCause as Cause}
use Rattle.ns_image.specs.declared.answer.ReadImage.{ReadImage}
use Rattle.ns_image.specs.declared.answer.ReadImage.TheVariants as readings
use Rattle.list_oiv.specs.declared.image_listing.ImageByteCause.{ImageByteCause}
use Rattle.list_oiv.specs.declared.image_listing.ImageListing.{ImageListing}
use Rattle.list_oiv.specs.declared.image_listing.ImageListing.TheVariants.{Text, BadBytes, OutOfMemory}
use Rattle.list_oiv.specs.declared.image_listing.PathListing.{PathListing}
use Rattle.list_oiv.specs.declared.image_listing.PathListing.TheVariants as at_path
use Rattle.list_oiv.specs.Listed.{cause_of, IsAnswer}
use Rattle.list_oiv.specs.Directory.{IsPathAnswer}
use Rattle.cli_commands.specs.declared.status.Status.TheVariants as status
use Rattle.cli_commands.specs.declared.command_fault.CommandFault.{CommandFault}
use Rattle.cli_commands.specs.declared.command_fault.CommandFault.TheVariants as fault
use Rattle.cli_commands.specs.Tools.{Tool}
use Rattle.cli_commands.specs.declared.found.Found.{Found}
use Rattle.cli_commands.specs.declared.found.Found.TheVariants.{Absent, TooLong, Bytes}
use Rattle.cli_commands.specs.Uses.{DiskUse, NoDiskFailed}
use Rattle.cli_commands.specs.Listing.{IsImageTold, IsPathTold, LacksPath, file_under, HasCalls, GivesListing, IsListFault}
use Rattle.cli_commands.specs.Found.{IsFound, IsReadFault, GivesFound, IsFoundFault}

-- ## What was found
-- an image's fault, by what the bytes are read as
pub image_fault : (tell : List Row → List ℕ) (bytes : List ℕ) (place : ℕ) (cause : ImageByteCause) (r : ReadImage) → reading_of bytes ≡ r → IsAnswer tell r (BadBytes place cause)
    → (why : Cause) × (reading_of bytes ≡ readings.BadImage place why) × (cause_of why ≡ Some cause)
image_fault tell bytes place cause (readings.Image space txid) e is = absurd is
image_fault tell bytes place cause (readings.BadImage at why) e is = (why, e ∙ ap (λ (n : ℕ). readings.BadImage n why) (sym is.0), is.1)

-- of a text, where there is one
abbrev pub WhenText : ImageListing → (List ℕ → Type 0) → Type 0
WhenText (Text text) P = P text.items
WhenText (BadBytes place cause) P = Unit {0}
WhenText OutOfMemory P = Unit {0}

-- and its text
pub image_text : (tell : List Row → List ℕ) (bytes : List ℕ) (listing : ImageListing) (r : ReadImage) → reading_of bytes ≡ r → IsAnswer tell r listing → WhenText listing (IsImageTold tell bytes)
image_text tell bytes (Text text) (readings.Image space txid) e is = record { space = space; txid = txid; read = e; spelled = is }
image_text tell bytes (Text text) (readings.BadImage at why) e is = absurd is
image_text tell bytes (BadBytes place cause) r e is = tt
image_text tell bytes OutOfMemory r e is = tt

-- what is due of a path of an image
abbrev pub PathDue : List ℕ → List ℕ → PathListing → Type 0
PathDue path bytes (at_path.Text text) = IsPathTold path bytes text.items
PathDue path bytes at_path.NoPath = LacksPath path bytes
PathDue path bytes (at_path.BadBytes place cause) = (why : Cause) × (reading_of bytes ≡ readings.BadImage place why) × (cause_of why ≡ Some cause)
PathDue path bytes at_path.OutOfMemory = Unit {0}

pub path_due : (path bytes : List ℕ) (listing : PathListing) (r : ReadImage) → reading_of bytes ≡ r → IsPathAnswer path r listing → PathDue path bytes listing
path_due path bytes (at_path.Text text) (readings.Image space txid) e is = record { space = space; txid = txid; read = e; spelled = is }
path_due path bytes (at_path.Text text) (readings.BadImage at why) e is = absurd is
path_due path bytes at_path.NoPath (readings.Image space txid) e is = record { space = space; txid = txid; read = e; absent = is }
path_due path bytes at_path.NoPath (readings.BadImage at why) e is = absurd is
path_due path bytes (at_path.BadBytes place cause) (readings.Image space txid) e is = absurd is
path_due path bytes (at_path.BadBytes place cause) (readings.BadImage at why) e is = (why, e ∙ ap (λ (n : ℕ). readings.BadImage n why) (sym is.0), is.1)
path_due path bytes at_path.OutOfMemory r e is = tt

module _ {D : Type 0} (name : List ℕ) (disk : DiskUse D) (calls : HasCalls disk) (fine : NoDiskFailed disk) (of : Tool) where
  found_text : (found : Found) (text : List ℕ) → (disk.tells disk.before → IsFound (file_under disk name) found) → GivesFound of found text → GivesListing of name disk status.Ok text
  found_text Absent text is gives = absurd gives
  found_text TooLong text is gives = absurd gives
  found_text (Bytes bytes) text is gives = (refl, record { file = Some bytes.items; same = λ t. sym (is t); calls = calls; so = gives })

  bytes_fault : (bytes : List ℕ) (why : CommandFault) → (disk.tells disk.before → file_under disk name ≡ Some bytes) → IsReadFault of bytes why → IsListFault of name disk why
  bytes_fault bytes (fault.Usage place) is so = absurd so
  bytes_fault bytes (fault.BadScript line rule) is so = absurd so
  bytes_fault bytes (fault.BadReport line rule) is so = absurd so
  bytes_fault bytes fault.NoFile is so = absurd so
  bytes_fault bytes (fault.BadBytes place cause) is so = record { file = Some bytes; same = λ t. sym (is t); calls = calls; so = so }
  bytes_fault bytes (fault.BadImage place cause) is so = record { file = Some bytes; same = λ t. sym (is t); calls = calls; so = so }
  bytes_fault bytes (fault.BadFile file) is so = absurd so
  bytes_fault bytes fault.NoPath is so = record { file = Some bytes; same = λ t. sym (is t); calls = calls; so = so }
  bytes_fault bytes fault.NotJson is so = record { file = Some bytes; same = λ t. sym (is t); calls = calls; so = so }
  bytes_fault bytes (fault.BadEntry index) is so = record { file = Some bytes; same = λ t. sym (is t); calls = calls; so = so }
  bytes_fault bytes (fault.TooManyEntries number) is so = record { file = Some bytes; same = λ t. sym (is t); calls = calls; so = so }
  bytes_fault bytes (fault.Limit number) is so = absurd so
  bytes_fault bytes fault.ReadFault is so = absurd so
  bytes_fault bytes fault.DiskFault is so = absurd so
  bytes_fault bytes fault.OutOfMemory is so = fine

  absent : (disk.tells disk.before → file_under disk name ≡ None) → IsListFault of name disk fault.NoFile
  absent is = record { file = None; same = λ t. sym (is t); calls = calls; so = refl }

  found_fault : (found : Found) (why : CommandFault) → (disk.tells disk.before → IsFound (file_under disk name) found) → IsFoundFault of found why → IsListFault of name disk why
  found_fault Absent why is so = subst (λ (f : CommandFault). IsListFault of name disk f) (sym so) (absent is)
  found_fault TooLong why is so = subst (λ (f : CommandFault). IsListFault of name disk f) (sym so) (refl, calls, is)
  found_fault (Bytes bytes) why is so = bytes_fault bytes.items why is so

  pub found_ok : {T : Type 0} (items : T → List ℕ) (found : Found) (due : Result T CommandFault) → (disk.tells disk.before → IsFound (file_under disk name) found)
      → IfOk due (λ t. GivesFound of found (items t)) → IfOk due (λ t. GivesListing of name disk status.Ok (items t))
  found_ok items found (Ok t) is gives = found_text found (items t) is gives
  found_ok items found (Err e) is gives = tt

  pub found_err : {T : Type 0} (found : Found) (due : Result T CommandFault) → (disk.tells disk.before → IsFound (file_under disk name) found) → IfErr due (IsFoundFault of found)
      → IfErr due (IsListFault of name disk)
  found_err found (Ok t) is so = tt
  found_err found (Err e) is so = found_fault found e is so

pub found_no_fault : {T : Type 0} (found : T) → Ok found ≡ Err fail.Failed → ⊥
found_no_fault found e = absurd (cc e)

-- ## Calls that are left
-- an error that `?` passes on
pub carried : {S T : Type 0} (inner : Result S DiskFail) (outer : Result T DiskFail) (e : DiskFail) → inner ≡ Err e → IsErrAnd outer (λ d. d ≡ e)
    → IsErrOf outer fail.Failed → IsErrOf inner fail.Failed
carried inner (Ok x) e is and failed = absurd and
carried inner (Err d) e is and failed = is ∙ (let p : e ≡ fail.Failed = cc in ap (λ (x : DiskFail). Err x) p)

pub one_more : (left : Option ℕ) (k : ℕ) → left ≡ Some (1 + k) → left ≡ Some (suc k)
one_more left k e = e ∙ ap (λ (n : ℕ). Some n) (by k)
  where
    by : (n : ℕ) → 1 + n ≡ suc n
    by n = omega arith

pub two_more : (left : Option ℕ) (k : ℕ) → left ≡ Some (2 + k) → left ≡ Some (suc (suc k))
two_more left k e = e ∙ ap (λ (n : ℕ). Some n) (by k)
  where
    by : (n : ℕ) → 2 + n ≡ suc (suc n)
    by n = omega arith

pub one_left : (left : Option ℕ) (k : ℕ) → left ≡ Some (suc k) → left ≡ Some (1 + k)
one_left left k e = e ∙ ap (λ (n : ℕ). Some n) (by k)
  where
    by : (n : ℕ) → suc n ≡ 1 + n
    by n = omega arith
