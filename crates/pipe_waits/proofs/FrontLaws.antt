-- What is taken from the front, and what is left.
use Rattle.std.proofs.Common.{ℕ, ◌≡◌, List, ◌++◌, take, drop, sym, ap, ◌∙◌}
use Rattle.std.proofs.lemmas.List.{take-append-drop}

-- a list is the front that was taken of it and what is left
pub front-split : (xs front : List ℕ) (n : ℕ) → front ≡ take n xs → xs ≡ front ++ drop n xs
front-split xs front n e = rw e (sym (take-append-drop n xs))

pub ruleset fronts = front-split
