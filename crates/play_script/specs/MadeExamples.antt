-- Worked scripts.
use Rattle.std.specs.Prelude.{ℕ, List, [], ◌∷◌, codes}

-- one edit; the number drawn before it is 74
abbrev pub one_edit_lines : List (List ℕ)
one_edit_lines = codes "names 3" ∷ codes "name a" ∷ codes "name b" ∷ codes "name s" ∷ codes "takeover a" ∷ codes "log a mkdir /d0 1 755 gen gen" ∷ codes "tail s" ∷ []

-- each chance once; the numbers drawn before the edits are 8, 7, 0, 5, 2 and 57
abbrev pub each_chance_lines : List (List ℕ)
each_chance_lines =
    codes "names 3" ∷ codes "name a" ∷ codes "name b" ∷ codes "name s" ∷ codes "takeover a"
    ∷ codes "takeover a" ∷ codes "log a mkdir /d0 1 755 gen gen"
    ∷ codes "kill 2" ∷ codes "restart 2" ∷ codes "log a add /d0/f2 3 2 2 1 644 gen gen"
    ∷ codes "takeover b" ∷ codes "log b add /d0/f3 3 3 3 1 644 gen gen"
    ∷ codes "drop b 1 1" ∷ codes "log b add /d0/f4 3 4 4 1 644 gen gen"
    ∷ codes "roll b" ∷ codes "log b add /d0/f5 3 5 5 1 644 gen gen"
    ∷ codes "log b add /d0/f6 3 6 6 1 644 gen gen"
    ∷ codes "tail s" ∷ []
