-- The names of the files of one segment: a front, the segment's start as 19 digits, and a rest.
use Rattle.std.specs.Prelude.{ℕ, ◌≤◌, ◌^◌, Bool, true, false, List, [], ◌++◌, codes}
use Rattle.std.specs.Fmt.{decimal}
use Rattle.base_words.specs.Padded.{padded}

pub data Kind : Type 0 where
  -- a segment in progress
  InProgress : Kind
  -- a final one with this last txid
  Final : (last : ℕ) → Kind
  -- the record of an acceptance
  Record : Kind
  -- the content of an acceptance that is under way under this epoch
  UnderWay : (epoch : ℕ) → Kind
  -- the temporary files of a new segment and of a record
  Fresh : Kind
  FreshRecord : Kind

-- how the names begin
pub data Front : Type 0 where
  progress : Front
  final : Front
  record_ : Front

abbrev pub front_of : Kind → Front
front_of InProgress = progress
front_of (Final last) = final
front_of Record = record_
front_of (UnderWay epoch) = progress
front_of Fresh = progress
front_of FreshRecord = record_

abbrev pub front_text : Front → List ℕ
front_text progress = codes "edits_inprogress_"
front_text final = codes "edits_"
front_text record_ = codes "paxos/"

-- what stands after the start
abbrev pub rest_of : Kind → List ℕ
rest_of InProgress = []
rest_of (Final last) = codes "-" ++ padded 19 last
rest_of Record = []
rest_of (UnderWay epoch) = codes ".epoch=" ++ decimal epoch
rest_of Fresh = codes ".new"
rest_of FreshRecord = codes ".tmp"

unfoldable pub name_of : ℕ → Kind → List ℕ
name_of start kind = front_text (front_of kind) ++ (padded 19 start ++ rest_of kind)

-- the numbers that a name may have
abbrev pub IsKind : ℕ → Kind → Type 0
IsKind start (Final last) = (start ≤ last) × (last ≤ 2 ^ 62)
IsKind start (UnderWay epoch) = (1 ≤ epoch) × (epoch ≤ 2 ^ 62)
IsKind start kind = Unit {0}

-- the files that count: all but temporary ones
abbrev pub IsLasting : Kind → Type 0
IsLasting Fresh = ⊥
IsLasting FreshRecord = ⊥
IsLasting kind = Unit {0}

-- the file of a final segment, or of one in progress
abbrev pub kind_of : ℕ → Bool → Kind
kind_of end true = Final end
kind_of end false = InProgress
