-- What the answers on small files say.
use Rattle.std.specs.Prelude.{◌≡◌, ℕ, ◌≤◌, ◌^◌, List, Option, Some, None, Result, Ok, Err}
use Rattle.base_disk.specs.declared.disk.DiskFail.{DiskFail}
use Rattle.base_disk.specs.declared.disk.DiskFail.TheVariants as fail
use Rattle.base_files.specs.Records.{IsNumber, Record, IsRecord}
use Rattle.base_files.specs.declared.answers.Got.{Got}
use Rattle.base_files.specs.declared.answers.Got.TheVariants as got
use Rattle.base_files.specs.declared.answers.GotRecord.{GotRecord}
use Rattle.base_files.specs.declared.answers.GotRecord.TheVariants as found

-- a number that was asked for as the result of disk calls, a bad file being an answer
abbrev pub got_result : Got → Result (Unit {0}) DiskFail
got_result (got.Value n) = Ok tt
got_result (got.BadFile name) = Ok tt
got_result got.DiskFault = Err fail.Failed
got_result got.OutOfMemory = Err fail.OutOfMemory

abbrev pub found_result : GotRecord → Result (Unit {0}) DiskFail
found_result (found.Found epoch end) = Ok tt
found_result found.Absent = Ok tt
found_result (found.BadFile name) = Ok tt
found_result found.DiskFault = Err fail.Failed
found_result found.OutOfMemory = Err fail.OutOfMemory

-- what was got of a file with these bytes: the number that it holds, or that it holds none
abbrev pub GotOf : List ℕ → Option (List ℕ) → Got → Type 0
GotOf name file (got.Value n) = IsNumber file n
GotOf name file (got.BadFile bad) = (bad ≡ name) × ((n : ℕ) → IsNumber file n → ⊥)
GotOf name file got.DiskFault = Unit {0}
GotOf name file got.OutOfMemory = Unit {0}

-- a number is at most 2^62, whatever the disk
abbrev pub IsSmallGot : Got → Type 0
IsSmallGot (got.Value n) = n ≤ 2 ^ 62
IsSmallGot (got.BadFile name) = Unit {0}
IsSmallGot got.DiskFault = Unit {0}
IsSmallGot got.OutOfMemory = Unit {0}

abbrev pub FoundIn : List ℕ → Option (List ℕ) → GotRecord → Type 0
FoundIn name file (found.Found epoch end) = (bytes : List ℕ) × (file ≡ Some bytes) × IsRecord bytes (record { epoch = epoch; end = end })
FoundIn name file found.Absent = file ≡ None
FoundIn name file (found.BadFile bad) = (bad ≡ name) × (bytes : List ℕ) × (file ≡ Some bytes) × ((r : Record) → IsRecord bytes r → ⊥)
FoundIn name file found.DiskFault = Unit {0}
FoundIn name file found.OutOfMemory = Unit {0}

-- that the file of this name is bad, unless memory is wanted
abbrev pub IsBadNumber : List ℕ → Got → Type 0
IsBadNumber name (got.Value n) = ⊥
IsBadNumber name (got.BadFile bad) = bad ≡ name
IsBadNumber name got.DiskFault = ⊥
IsBadNumber name got.OutOfMemory = Unit {0}

abbrev pub IsBadRecord : List ℕ → GotRecord → Type 0
IsBadRecord name (found.Found epoch end) = ⊥
IsBadRecord name found.Absent = ⊥
IsBadRecord name (found.BadFile bad) = bad ≡ name
IsBadRecord name found.DiskFault = ⊥
IsBadRecord name found.OutOfMemory = Unit {0}
