-- Stored bodies are taken apart.
use Rattle.std.specs.Prelude.{◌≡◌, ℕ, List, [], ◌∷◌, Option, None, MatchOption}
use Rattle.std.specs.Borrow.{Bor}
use Rattle.disk_recent.specs.Edits.{stored_bytes}

-- the first of the bodies, and the others as they are stored
abbrev pub IsSplit : List (List ℕ) → Option (Bor (List ℕ) × Bor (List ℕ)) → Type 0
IsSplit [] o = o ≡ None
IsSplit (b ∷ bs) o = MatchOption o ⊥ (λ p. (p.0.now ≡ b) × (p.1.now ≡ stored_bytes bs))
