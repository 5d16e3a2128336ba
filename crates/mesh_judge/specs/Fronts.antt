-- The front of a list that keeps a fact.
use Rattle.std.specs.Prelude.{ℕ, ◌+◌, ◌<◌, List, take, length}

-- so many of the first lines keep it, and with the next one they don't
pub record KeepsUpTo {A : Type 0} (P : List A → Type 0) (lines : List A) (kept : ℕ) : Type 0 where
  pub within : kept < length lines
  pub front : P (take kept lines)
  pub broken : P (take (kept + 1) lines) → ⊥
