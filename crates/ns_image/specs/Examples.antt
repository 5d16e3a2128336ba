-- Known images.
use Rattle.std.specs.Prelude.{ℕ, List, [], ◌∷◌}

-- the image of the empty namespace at txid 0, with this byte as its layout, up to the end of the
-- inodes
abbrev pub empty_image : ℕ → List ℕ
empty_image layout =
    81 ∷ 74 ∷ 73 ∷ 77 ∷ 0 ∷ 0 ∷ 0 ∷ layout ∷ 0 ∷ 0 ∷ 0 ∷ 0 ∷ 0 ∷ 0 ∷ 0 ∷ 0 ∷ 0 ∷ 0 ∷ 0 ∷ 1 ∷ 0 ∷ 1 ∷ 47 ∷ 0 ∷ 0 ∷ 0 ∷ 0 ∷ 0 ∷ 0 ∷ 0 ∷ 0 ∷ 0
    ∷ 1 ∷ 237 ∷ 0 ∷ 4 ∷ 104 ∷ 100 ∷ 102 ∷ 115 ∷ 0 ∷ 10 ∷ 115 ∷ 117 ∷ 112 ∷ 101 ∷ 114 ∷ 103 ∷ 114 ∷ 111 ∷ 117 ∷ 112
    ∷ 0 ∷ 0 ∷ 0 ∷ 0 ∷ 0 ∷ 0 ∷ 0 ∷ 0 ∷ 0 ∷ 0 ∷ 0 ∷ 0 ∷ 0 ∷ 0 ∷ 0 ∷ 0 ∷ []

-- a count of no calls
abbrev pub no_calls : List ℕ
no_calls = 0 ∷ 0 ∷ 0 ∷ 0 ∷ []
