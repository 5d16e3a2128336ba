-- What contracts see of bodies in pieces.
use Rattle.std.specs.Prelude.{ℕ, List, Bool}

pub record PiecesView : Type 0 where
  pub bodies : List (List ℕ)
  -- one more piece can be kept without memory
  pub room : Bool
