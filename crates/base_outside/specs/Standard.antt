-- The standard input.
use Rattle.std.specs.Prelude.{ℕ, List, Option}

-- the bytes left, where they are told, and the faults
pub record StdSourceView : Type 0 where
  pub left : Option (List ℕ)
  pub faults : ℕ
