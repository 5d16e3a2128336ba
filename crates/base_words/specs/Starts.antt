-- Lists by rising start, of items that have one.
use Rattle.std.specs.Prelude.{ℕ, ◌≡◌, ◌≤◌, ◌<◌, List, [], ◌∷◌, length, take, drop, slice_index_or}

-- all starts are above that
abbrev pub Above : {R : Type 0} → (R → ℕ) → ℕ → List R → Type 0
Above start_of start [] = Unit {0}
Above start_of start (x ∷ xs) = (start < start_of x) × Above start_of start xs

-- all starts are below that
abbrev pub Below : {R : Type 0} → (R → ℕ) → ℕ → List R → Type 0
Below start_of start [] = Unit {0}
Below start_of start (x ∷ xs) = (start_of x < start) × Below start_of start xs

-- each start is below those after it
abbrev pub Rises : {R : Type 0} → (R → ℕ) → List R → Type 0
Rises start_of [] = Unit {0}
Rises start_of (x ∷ xs) = Above start_of (start_of x) xs × Rises start_of xs

-- the item at that place has that start
pub record IsAt {R : Type 0} (start_of : R → ℕ) (start place : ℕ) (xs : List R) : Type 0 where
  pub within : place < length xs
  pub there : (d : R) → start_of (slice_index_or xs place d) ≡ start

-- no item has that start, and one with it would stand at that place
pub record IsGap {R : Type 0} (start_of : R → ℕ) (start place : ℕ) (xs : List R) : Type 0 where
  pub within : place ≤ length xs
  pub below : Below start_of start (take place xs)
  pub above : Above start_of start (drop place xs)
