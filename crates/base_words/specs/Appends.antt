-- What stays of a list to which something was added.
use Rattle.std.specs.Prelude.{ℕ, ◌≡◌, List, ◌++◌}

-- the old list stands at the front of the new one
pub record Keeps (old new : List ℕ) : Type 0 where
  pub rest : List ℕ
  pub same : new ≡ old ++ rest
