-- Which file of which segment a name tells.
use Rattle.std.specs.Prelude.{◌≡◌, ℕ, ◌≤◌, ◌^◌, List, ◌++◌}
use Rattle.base_words.specs.Padded.{padded}
use Rattle.disk_segment.specs.Names.{Kind, InProgress, Final, Record, UnderWay, Fresh, FreshRecord, Front, front_of, rest_of, name_of, IsKind}
use Rattle.disk_opening.specs.declared.file_kind.FileKind.{FileKind}
use Rattle.disk_opening.specs.declared.file_kind.FileKind.TheVariants as told

abbrev pub kind_told : FileKind → Kind
kind_told told.InProgress = InProgress
kind_told (told.Final last) = Final last
kind_told told.Record = Record
kind_told (told.UnderWay epoch) = UnderWay epoch
kind_told told.Fresh = Fresh

-- all kinds but the temporary file of a record
abbrev pub IsTold : Kind → Type 0
IsTold FreshRecord = ⊥
IsTold kind = Unit {0}

-- the name is that of this file of the segment with this start
pub record IsNamed (name : List ℕ) (start : ℕ) (kind : Kind) : Type 0 where
  pub first : 1 ≤ start
  pub small : start ≤ 2 ^ 62
  pub valid : IsKind start kind
  pub spelled : name ≡ name_of start kind

-- the bytes are what stands after the start in the name of such a kind
pub record IsRest (front : Front) (start : ℕ) (rest : List ℕ) (kind : Kind) : Type 0 where
  pub front_is : front_of kind ≡ front
  pub valid : IsKind start kind
  pub spelled : rest ≡ rest_of kind

-- the bytes begin with a number from 1 to 2^62 of 19 digits
pub record BeginsWith (bytes : List ℕ) (n : ℕ) (rest : List ℕ) : Type 0 where
  pub first : 1 ≤ n
  pub small : n ≤ 2 ^ 62
  pub spelled : bytes ≡ padded 19 n ++ rest
