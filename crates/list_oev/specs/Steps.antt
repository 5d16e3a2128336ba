-- What a step of a reader through the edits of a file makes of what was told so far.
use Rattle.std.specs.Prelude.{◌≡◌, ℕ, ◌+◌, ◌^◌, ◌≤◌, List, length, Bool, true, false, Result, Ok, Err}
use Rattle.edit_ops.specs.Records.{EditView}
use Rattle.list_oev.specs.declared.segment_fault.SegmentFault.{SegmentFault}
use Rattle.list_oev.specs.declared.segment_fault.SegmentFault.TheVariants.{Memory, Damage}
use Rattle.list_oev.specs.Counts.{AreCounts}
use Rattle.list_oev.specs.Segment.{IsSegment}
use Rattle.list_oev.specs.Damage.{IsDamaged}
use Rattle.list_oev.specs.Listed.{IsTold}
use Rattle.list_oev.specs.Places.{Reader, IsAt}

-- the text, or what a text is made of, is what is told of the edits after which a reader of these
-- bytes stands
pub record IsListedSoFar {X : Type 0} (tell : ℕ → List EditView → List X) (bytes : List ℕ) (r : Reader) (text : List X) : Type 0 where
  pub start : ℕ
  pub edits : List EditView
  pub at : IsAt start edits r
  pub same : r.bytes ≡ bytes
  pub told : text ≡ tell start edits

-- so many are these edits, of each kind and in all
pub record IsCountedSoFar (bytes : List ℕ) (r : Reader) (counts : List ℕ) (total : ℕ) : Type 0 where
  pub start : ℕ
  pub edits : List EditView
  pub at : IsAt start edits r
  pub same : r.bytes ≡ bytes
  pub are : AreCounts counts edits
  pub total_is : total ≡ length edits

-- so many are the edits of the file
pub record IsCounted (bytes counts : List ℕ) (total : ℕ) : Type 0 where
  pub start : ℕ
  pub edits : List EditView
  pub segment : IsSegment bytes start edits
  pub are : AreCounts counts edits
  pub total_is : total ≡ length edits

-- the reader went on by one txid
pub record GoesOn (old new : Reader) : Type 0 where
  pub small : old.ahead.txid ≤ 2 ^ 62
  pub behind : new.ahead.txid ≡ old.ahead.txid + 1

-- one edit more is told
pub record IsLineMore {X : Type 0} (tell : ℕ → List EditView → List X) (bytes : List ℕ) (old new : Reader) (text : List X) : Type 0 where
  pub on : GoesOn old new
  pub so_far : IsListedSoFar tell bytes new text

-- one edit more is counted
pub record IsOneMore (bytes : List ℕ) (old new : Reader) (counts : List ℕ) (total : ℕ) : Type 0 where
  pub on : GoesOn old new
  pub so_far : IsCountedSoFar bytes new counts total

-- a step of a listing: what is told of the next edit, or all was told, or the file's damage
abbrev pub ListsNext : {X : Type 0} → (ℕ → List EditView → List X) → List ℕ → Reader → List X → Result Bool SegmentFault → Reader → Type 0
ListsNext tell bytes old text (Ok true) new = IsLineMore tell bytes old new text
ListsNext tell bytes old text (Ok false) new = IsTold tell bytes text
ListsNext tell bytes old text (Err (Damage place cause)) new = IsDamaged bytes place cause
ListsNext tell bytes old text (Err Memory) new = Unit {0}

-- a step of a count: the next edit is counted, or all were, or the file's damage
abbrev pub CountsNext : List ℕ → Reader → List ℕ → ℕ → Result Bool SegmentFault → Reader → Type 0
CountsNext bytes old counts total (Ok true) new = IsOneMore bytes old new counts total
CountsNext bytes old counts total (Ok false) new = IsCounted bytes counts total
CountsNext bytes old counts total (Err (Damage place cause)) new = IsDamaged bytes place cause
CountsNext bytes old counts total (Err Memory) new = Unit {0}
