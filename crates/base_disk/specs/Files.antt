-- Sets of files, and how one call changes them.
use Rattle.std.specs.Prelude.{◌≡◌, ◌≢◌, ℕ, ◌+◌, ◌≤◌, max, min, List, [], ◌++◌, length, take, drop, Option, Some, None}

-- the bytes of each file that is there, by its name
abbrev pub Files : Type 0
Files = List ℕ → Option (List ℕ)

-- only this file changes, in this way
pub record ChangesOnly (name : List ℕ) (step : Option (List ℕ) → Option (List ℕ) → Type 0) (old new : Files) : Type 0 where
  pub here : step (old name) (new name)
  pub others : (other : List ℕ) → other ≢ name → new other ≡ old other

-- the file from now stands under the name to
pub record Moves (from to : List ℕ) (old new : Files) : Type 0 where
  pub moved : new to ≡ old from
  pub gone : from ≢ to → new from ≡ None
  pub others : (other : List ℕ) → other ≢ from → other ≢ to → new other ≡ old other

-- no file changes
pub record IsSame (old new : Files) : Type 0 where
  pub files : (name : List ℕ) → new name ≡ old name

-- the bytes of a file, none of an absent one
abbrev pub bytes_of : Option (List ℕ) → List ℕ
bytes_of None = []
bytes_of (Some bytes) = bytes

-- a write that was done
abbrev pub Holds : ℕ → List ℕ → Option (List ℕ) → Option (List ℕ) → Type 0
Holds at bytes old new = new ≡ Some (take at (bytes_of old) ++ bytes ++ drop (at + length bytes) (bytes_of old))

-- the bytes after a write of n bytes that was cut short: any bytes in the range and past the old
-- end, the same elsewhere
pub record IsTorn (at n : ℕ) (old new : List ℕ) : Type 0 where
  pub before : take at new ≡ take at old
  pub after : drop (at + n) new ≡ drop (at + n) old
  pub no_shorter : length old ≤ length new
  pub no_longer : length new ≤ max (length old) (at + n)

-- a file that was absent may be so still
abbrev pub Torn : ℕ → ℕ → Option (List ℕ) → Option (List ℕ) → Type 0
Torn at n None None = Unit {0}
Torn at n None (Some new) = IsTorn at n [] new
Torn at n (Some old) None = ⊥
Torn at n (Some old) (Some new) = IsTorn at n old new

-- a cut that was done
abbrev pub IsShortened : ℕ → Option (List ℕ) → Option (List ℕ) → Type 0
IsShortened to old new = new ≡ Some (take to (bytes_of old))

-- the bytes after a cut that may have been stopped: some length from to on
pub record IsCut (to : ℕ) (old new : List ℕ) : Type 0 where
  pub no_shorter : min to (length old) ≤ length new
  pub front : take (length new) old ≡ new

abbrev pub Cut : ℕ → Option (List ℕ) → Option (List ℕ) → Type 0
Cut to None None = Unit {0}
Cut to None (Some new) = ⊥
Cut to (Some old) None = ⊥
Cut to (Some old) (Some new) = IsCut to old new

abbrev pub IsGone : Option (List ℕ) → Option (List ℕ) → Type 0
IsGone old new = new ≡ None

-- each new outcome of a crash is an old outcome after a step
abbrev pub Follows : (Files → Files → Type 0) → (Files → Type 0) → (Files → Type 0) → Type 0
Follows step old new = (c : Files) → new c → (d : Files) × old d × step d c
