-- What is cached: edits, oldest first, and what they take where they are stored.
use Rattle.std.specs.Prelude.{◌≡◌, ℕ, ◌+◌, ◌/◌, ◌%◌, ◌<◌, ◌≤◌, ⊤, ◌==◌, nat_le, if◌then◌else◌, List, [], ◌∷◌, ◌++◌, length, map, take, Option, Some, None}

-- one edit of a segment
pub record Edit : Type 0 where
  pub txid : ℕ
  pub body : List ℕ

-- the bytes of the ring, and the edits that it holds, oldest first
pub record Cached : Type 0 where
  pub bytes : ℕ
  pub edits : List Edit

abbrev pub bodies_of : List Edit → List (List ℕ)
bodies_of es = map (λ (e : Edit). e.body) es

-- a body with its length before it, in two bytes, the greater first
abbrev pub with_length : List ℕ → List ℕ
with_length b = length b / 256 ∷ length b % 256 ∷ b

-- bodies as they are stored
abbrev pub stored_bytes : List (List ℕ) → List ℕ
stored_bytes [] = []
stored_bytes (b ∷ bs) = with_length b ++ stored_bytes bs

-- the bytes are those of one or more of the bodies, from the first on
abbrev pub IsStored : List (List ℕ) → List ℕ → Type 0
IsStored bs xs = (n : ℕ) × (0 < n) × (n ≤ length bs) × (xs ≡ stored_bytes (take n bs))

-- the bytes that edits take where they are stored
abbrev pub size_of : List Edit → ℕ
size_of [] = 0
size_of (e ∷ es) = length e.body + 2 + size_of es

-- the last edit is kept, and each other for which it and all later ones take at most that many
-- bytes
abbrev pub kept_edits : ℕ → List Edit → List Edit
kept_edits most [] = []
kept_edits most (e ∷ []) = e ∷ []
kept_edits most (e ∷ f ∷ es) = if nat_le (size_of (e ∷ f ∷ es)) most then e ∷ f ∷ es else kept_edits most (f ∷ es)

-- the edits from the one with that txid on
abbrev pub since : ℕ → List Edit → List Edit
since txid [] = []
since txid (e ∷ es) = if e.txid == txid then e ∷ es else since txid es

abbrev pub first_txid : List Edit → Option ℕ
first_txid [] = None
first_txid (e ∷ es) = Some e.txid

abbrev pub last_txid : List Edit → Option ℕ
last_txid [] = None
last_txid (e ∷ []) = Some e.txid
last_txid (e ∷ f ∷ es) = last_txid (f ∷ es)

-- there are none, or the txid is the one after the last
abbrev pub Follows : List Edit → ℕ → Type 0
Follows [] txid = ⊤
Follows (e ∷ []) txid = txid ≡ e.txid + 1
Follows (e ∷ f ∷ es) txid = Follows (f ∷ es) txid

-- these bodies, from that txid on
abbrev pub number_edits : ℕ → List (List ℕ) → List Edit
number_edits txid [] = []
number_edits txid (b ∷ bs) = record { txid = txid; body = b } ∷ number_edits (txid + 1) bs
