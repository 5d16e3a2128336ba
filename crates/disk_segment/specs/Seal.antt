-- What is written after a blank seal counts once the seal is set: four calls, of which the third
-- decides.
use Rattle.std.specs.Prelude.{◌<◌, ◌≡◌, ◌≢◌, ◌≤◌, ℕ, ◌+◌, List, ◌∷◌, ◌++◌, length, take, drop, get_or, Option, Some, None, Result, OnOk, IsErr, IsErrOf}
use Rattle.base_disk.specs.Files.{ChangesOnly, Follows}
use Rattle.base_disk.specs.View.{View}
use Rattle.base_disk.specs.declared.disk.DiskFail.{DiskFail}
use Rattle.base_disk.specs.declared.disk.DiskFail.TheVariants.{Failed}

-- the seal at w is there, and isn't set
abbrev pub IsBlank : ℕ → Option (List ℕ) → Type 0
IsBlank w None = ⊥
IsBlank w (Some bytes) = (w < length bytes) × (get_or bytes w 0 ≢ 165)

-- the bytes before the seal stay, and the seal is still blank
abbrev pub StaysBlank : ℕ → Option (List ℕ) → Option (List ℕ) → Type 0
StaysBlank w None new = ⊥
StaysBlank w (Some old) None = ⊥
StaysBlank w (Some old) (Some new) = (take w new ≡ take w old) × (w < length new) × (get_or new w 0 ≢ 165)

-- the seal set, with these bytes after it
abbrev pub Seals : ℕ → List ℕ → Option (List ℕ) → Option (List ℕ) → Type 0
Seals w behind None new = ⊥
Seals w behind (Some old) new = new ≡ Some (take w old ++ (165 ∷ (behind ++ drop (w + 1 + length behind) old)))

-- Where it is known how many calls are left: with fewer than four an append isn't done. With four
-- or more no call fails, and an append that is done took four.
pub record SealCounts {T : Type 0} (before now : Option ℕ) (result : Result T DiskFail) : Type 0 where
  pub stops : (k : ℕ) → before ≡ Some k → k < 4 → IsErr result
  pub counts : (k : ℕ) → before ≡ Some (4 + k) → (IsErrOf result Failed → ⊥) × OnOk result (now ≡ Some k)

-- An append that was stopped after k disk calls. Up to the second only noise was done. After the
-- third the seal is set for who reads, and is blank in what was stable.
pub record IsCutAfter (k : ℕ) (name : List ℕ) (w : ℕ) (behind : List ℕ) (old new : View) : Type 0 where
  pub below : k < 4
  pub quiet : k ≤ 2 → Follows (ChangesOnly name (StaysBlank w)) old.may_leave new.may_leave
  pub stable : k ≡ 3 → ChangesOnly name (StaysBlank w) old.synced new.synced
  pub seen : k ≡ 3 → ChangesOnly name (Seals w behind) old.seen new.seen
