-- Bytes that are counted, up to one more than a report may have.
use Rattle.std.specs.Prelude.{ℕ, ◌≡◌, ◌+◌, min, List, [], ◌++◌, length}
use Rattle.std.proofs.Common.{arith, length-append}

-- from the one count to the other these bytes came
abbrev pub counts : ℕ → ℕ → List ℕ → Type 0
counts before now bytes = min now 268435457 ≡ min (before + length bytes) 268435457

pub counts_none : (n : ℕ) → counts n n []
counts_none n = omega arith

pub counts_more : (x y z : ℕ) (a b : List ℕ) → counts x y a → counts y z b → counts x z (a ++ b)
counts_more x y z a b p q = let e : length (a ++ b) ≡ length a + length b = length-append a b in omega (arith, p, q, e)
