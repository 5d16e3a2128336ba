-- A list in parts.
use Rattle.std.proofs.Common.{ℕ, ◌≡◌, ◌+◌, List, ◌++◌, take, drop, sym}
use Rattle.std.proofs.lemmas.List.{take-append-drop, drop-drop}

-- what is left at a place is its front and what is left behind that
pub drop-split : (xs front : List ℕ) (at n : ℕ) → front ≡ take n (drop at xs) → drop at xs ≡ front ++ drop (at + n) xs
drop-split xs front at n e = rw e (rw (← drop-drop n at xs) (sym (take-append-drop n (drop at xs))))

pub ruleset parts = drop-split
