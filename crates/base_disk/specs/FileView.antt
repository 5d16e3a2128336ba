-- A file of a disk in memory, as its contracts see it: what a read gives, what was stable at its
-- last sync, and the changes since.
use Rattle.std.specs.Prelude.{◌≡◌, ◌⊎◌, ℕ, zero, suc, ◌+◌, List, [], ◌∷◌, ◌++◌, length, take, drop, Option, Some, None}
use Rattle.base_disk.specs.Files.{Torn, Cut}
use Rattle.base_disk.specs.declared.disk.Choice.{Choice}
use Rattle.base_disk.specs.declared.disk.Choice.TheVariants.{Old, New, Fill}

-- a change that a crash may have stopped: a write of some bytes at an offset, or a cut to a length
pub data Step : Type 0 where
  Wrote : (at len : ℕ) → Step
  CutTo : (to : ℕ) → Step

pub record FileView : Type 0 where
  -- what a read gives
  pub now : List ℕ
  -- what the last sync made stable, nothing where there was none
  pub stable : Option (List ℕ)
  -- the changes since, the oldest first
  pub steps : List Step

-- what a change allows a crash to make of a file
abbrev pub Allows : Step → Option (List ℕ) → Option (List ℕ) → Type 0
Allows (Wrote at len) old new = Torn at len old new
Allows (CutTo to) old new = Cut to old new

-- what these changes allow
abbrev pub Image : Option (List ℕ) → List Step → Option (List ℕ) → Type 0
Image first [] file = file ≡ first
Image first (step ∷ steps) file = (next : Option (List ℕ)) × Allows step first next × Image next steps file

-- what a crash may leave of a file
abbrev pub IsImage : FileView → Option (List ℕ) → Type 0
IsImage f file = Image f.stable f.steps file ⊎ (file ≡ Some f.now)

-- the bytes from an offset on, so many of them as there are, are this one
abbrev pub filled : ℕ → ℕ → ℕ → List ℕ → List ℕ
filled byte at len [] = []
filled byte zero zero (x ∷ xs) = x ∷ xs
filled byte zero (suc len) (x ∷ xs) = byte ∷ filled byte zero len xs
filled byte (suc at) len (x ∷ xs) = x ∷ filled byte at len xs

-- each byte that these changes wrote is this one
abbrev pub filled_by : ℕ → List Step → List ℕ → List ℕ
filled_by byte [] xs = xs
filled_by byte (Wrote at len ∷ steps) xs = filled_by byte steps (filled byte at len xs)
filled_by byte (CutTo to ∷ steps) xs = filled_by byte steps xs

-- what a crash by this choice makes of a file
abbrev pub crashed : Choice → FileView → Option (List ℕ)
crashed Old f = f.stable
crashed New f = Some f.now
crashed (Fill byte) f = Some (filled_by byte f.steps f.now)

-- the file of these bytes, stable
abbrev pub at_rest : List ℕ → FileView
at_rest bytes = record { now = bytes; stable = Some bytes; steps = [] }

-- the first write to a file
abbrev pub created : List ℕ → FileView
created bytes = record { now = bytes; stable = None; steps = Wrote 0 (length bytes) ∷ [] }

abbrev pub overwritten : ℕ → List ℕ → List ℕ → List ℕ
overwritten at bytes old = take at old ++ bytes ++ drop (at + length bytes) old

abbrev pub written : ℕ → List ℕ → FileView → FileView
written at bytes f = record { now = overwritten at bytes f.now; stable = f.stable; steps = f.steps ++ Wrote at (length bytes) ∷ [] }

abbrev pub shortened : ℕ → FileView → FileView
shortened to f = record { now = take to f.now; stable = f.stable; steps = f.steps ++ CutTo to ∷ [] }
