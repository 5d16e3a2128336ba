-- Known bytes of frames.
use Rattle.std.specs.Prelude.{ℕ, List, [], ◌∷◌}
use Rattle.journal_core.specs.Views.{BatchView}

abbrev pub batch_of : ℕ → List (List ℕ) → BatchView
batch_of first bodies = record { first = first; bodies = bodies }

-- the body 0a at the txid 2
abbrev pub one_edit : BatchView
one_edit = batch_of 2 ((10 ∷ []) ∷ [])

-- its frame, with this byte as the seal
abbrev pub known_bytes : ℕ → List ℕ
known_bytes byte = byte ∷ 0 ∷ 0 ∷ 0 ∷ 15 ∷ 0 ∷ 0 ∷ 0 ∷ 0 ∷ 0 ∷ 0 ∷ 0 ∷ 2 ∷ 0 ∷ 0 ∷ 0 ∷ 1 ∷ 0 ∷ 1 ∷ 10 ∷ []

-- the header of a segment from the txid 2 on, written under epoch 1
abbrev pub known_header : List ℕ
known_header = 81 ∷ 74 ∷ 83 ∷ 71 ∷ 0 ∷ 0 ∷ 0 ∷ 1 ∷ 0 ∷ 0 ∷ 0 ∷ 0 ∷ 0 ∷ 0 ∷ 0 ∷ 2 ∷ 0 ∷ 0 ∷ 0 ∷ 0 ∷ 0 ∷ 0 ∷ 0 ∷ 1 ∷ []
