-- What each part of the repair makes of the files.
use Rattle.std.specs.Prelude.{◌≡◌, ◌≢◌, ◌⊎◌, ℕ, ◌≤◌, ◌^◌, List, ◌++◌, Option, None, IsSome, Contains, codes}
use Rattle.base_disk.specs.Files.{Files}
use Rattle.base_disk.specs.View.{View}
use Rattle.base_disk.specs.Runs.{Quiet}
use Rattle.disk_segment.specs.Names.{Kind, InProgress, Final, Record, UnderWay, Fresh, name_of, IsKind}
use Rattle.disk_opening.specs.Kinds.{IsNamed}
use Rattle.disk_segment.specs.Stands.{HasEpoch}
use Rattle.disk_segment.specs.Effects.{IsTidy}
use Rattle.disk_opening.specs.Opening.{SegmentsStable, Repairs, IsBadRecordFile}

-- a final file with this start
pub record IsFinalFile (name : List ℕ) (start : ℕ) : Type 0 where
  pub last : ℕ
  pub named : IsNamed name start (Final last)

-- a final file with this start is there
pub record HasFinal (start : ℕ) (seen : Files) : Type 0 where
  pub name : List ℕ
  pub is : IsFinalFile name start
  pub there : IsSome (seen name)

-- the content of an acceptance that counts
pub record IsContent (start : ℕ) (old : Files) (file : Option (List ℕ)) : Type 0 where
  pub epoch : ℕ
  pub valid : IsKind start (UnderWay epoch)
  pub counts : HasEpoch (old (name_of start Record)) epoch
  pub there : IsSome (old (name_of start (UnderWay epoch)))
  pub is : file ≡ old (name_of start (UnderWay epoch))

-- what a file in progress becomes: it stays, or a content that counts takes its place, or it is
-- gone beside a final file
abbrev pub BecomesFile : ℕ → Files → Option (List ℕ) → Type 0
BecomesFile start old file = (file ≡ old (name_of start InProgress)) ⊎ (IsContent start old file ⊎ (HasFinal start old × (file ≡ None)))

-- what becomes of a content that counts: it stays or is put in the place of the file in progress,
-- unless a final file is there
abbrev pub BecomesContent : ℕ → ℕ → Files → Files → Type 0
BecomesContent start epoch old new = (new (name_of start (UnderWay epoch)) ≡ old (name_of start (UnderWay epoch)))
    ⊎ ((new (name_of start InProgress) ≡ old (name_of start (UnderWay epoch))) ⊎ HasFinal start old)

-- what becomes of the files of segments, bad ones too: final files and records stay
pub record Spares (old new : Files) : Type 0 where
  pub finals : (start last : ℕ) → 1 ≤ start → start ≤ 2 ^ 62 → IsKind start (Final last) → new (name_of start (Final last)) ≡ old (name_of start (Final last))
  pub records : (start : ℕ) → 1 ≤ start → start ≤ 2 ^ 62 → new (name_of start Record) ≡ old (name_of start Record)
  pub ways : (start epoch : ℕ) → 1 ≤ start → start ≤ 2 ^ 62 → IsKind start (UnderWay epoch)
      → (new (name_of start (UnderWay epoch)) ≡ old (name_of start (UnderWay epoch))) ⊎ (new (name_of start (UnderWay epoch)) ≡ None)
  pub progress : (start : ℕ) → 1 ≤ start → start ≤ 2 ^ 62 → BecomesFile start old (new (name_of start InProgress))
  pub content : (start epoch : ℕ) → 1 ≤ start → start ≤ 2 ^ 62 → IsKind start (UnderWay epoch) → HasEpoch (old (name_of start Record)) epoch
      → IsSome (old (name_of start (UnderWay epoch))) → BecomesContent start epoch old new

-- both, after which a crash still leaves what is read
pub record Cleans (old new : Files) : Type 0 where
  pub repairs : Repairs old new
  pub spares : Spares old new

pub record Mends (old new : View) : Type 0 where
  pub quiet : Quiet Cleans old new
  pub stable : SegmentsStable new

-- the starts of the final files that are there
pub record AreFinals (starts : List ℕ) (seen : Files) : Type 0 where
  pub there : (start : ℕ) → Contains starts start → HasFinal start seen
  pub all : (start : ℕ) → HasFinal start seen → Contains starts start

-- the starts of the final files among these names
pub record AreStartsIn (names : List (List ℕ)) (starts : List ℕ) : Type 0 where
  pub there : (start : ℕ) → Contains starts start → (name : List ℕ) × Contains names name × IsFinalFile name start
  pub all : (name : List ℕ) (start : ℕ) → Contains names name → IsFinalFile name start → Contains starts start

-- the starts of the final files among some names, and among these with one name more
pub record AddsStart (name : List ℕ) (old new : List ℕ) : Type 0 where
  pub kept : (start : ℕ) → Contains old start → Contains new start
  pub added : (start : ℕ) → IsFinalFile name start → Contains new start
  pub no_other : (start : ℕ) → Contains new start → Contains old start ⊎ IsFinalFile name start

-- the content of an acceptance that is under way
pub record IsWay (name : List ℕ) : Type 0 where
  pub start : ℕ
  pub epoch : ℕ
  pub named : IsNamed name start (UnderWay epoch)

pub record IsProgress (name : List ℕ) : Type 0 where
  pub start : ℕ
  pub named : IsNamed name start InProgress

-- what is to be removed of the files of a segment: a temporary one, and one in progress beside a
-- final one
abbrev pub IsLeftKind : List ℕ → ℕ → Kind → Type 0
IsLeftKind finals start Fresh = Unit {0}
IsLeftKind finals start InProgress = Contains finals start
IsLeftKind finals start kind = ⊥

pub record IsLeftFile (finals : List ℕ) (name : List ℕ) : Type 0 where
  pub start : ℕ
  pub kind : Kind
  pub named : IsNamed name start kind
  pub left : IsLeftKind finals start kind

-- what is to be removed of the files of a segment, or a name that ends in .tmp
abbrev pub IsLeftOver : List ℕ → List ℕ → Type 0
IsLeftOver finals name = ((front : List ℕ) × (name ≡ front ++ codes ".tmp")) ⊎ IsLeftFile finals name

abbrev pub NoName : List ℕ → Type 0
NoName name = ⊥

-- where P holds of the name its file is gone, and else it stays; of the others only free ones
-- change
pub record Clears (P Free : List ℕ → Type 0) (name : List ℕ) (old new : Files) : Type 0 where
  pub here : (P name × (new name ≡ None)) ⊎ ((P name → ⊥) × (new name ≡ old name))
  pub others : (other : List ℕ) → other ≢ name → (Free other → ⊥) → new other ≡ old other

-- each file of which P holds is gone, and of the others only free ones change
pub record ClearsAll (P Free : List ℕ → Type 0) (old new : Files) : Type 0 where
  pub gone : (name : List ℕ) → P name → new name ≡ None
  pub others : (name : List ℕ) → (P name → ⊥) → (Free name → ⊥) → new name ≡ old name

-- where nothing else is to be repaired, and which records may be bad
pub record Completes (old new : Files) : Type 0 where
  pub tidy : IsTidy new
  pub none_fresh : (start : ℕ) → 1 ≤ start → start ≤ 2 ^ 62 → new (name_of start Fresh) ≡ None
  pub none_temporary : (front : List ℕ) → new (front ++ codes ".tmp") ≡ None
  pub records : (name : List ℕ) → IsBadRecordFile new name → IsBadRecordFile old name
