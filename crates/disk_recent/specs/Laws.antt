-- What holds of the edits that a ring keeps.
use Rattle.std.specs.Prelude.{◌≡◌, ℕ, ◌<◌, ◌≤◌, List, [], ◌∷◌, ◌++◌, length, drop}
use Rattle.disk_recent.specs.Edits.{Edit, kept_edits, last_txid, since, size_of}

-- what is kept are the newest
abbrev pub AreNewest : Type 0
AreNewest = (most : ℕ) (es : List Edit) → (n : ℕ) × (kept_edits most es ≡ drop n es)

-- what is kept of what was kept and one more is what is kept of all
abbrev pub KeepInTurn : Type 0
KeepInTurn = (most : ℕ) (es : List Edit) (e : Edit) → kept_edits most (kept_edits most es ++ e ∷ []) ≡ kept_edits most (es ++ e ∷ [])

-- where the edits from a txid on take no more than that, they are kept
abbrev pub KeepWhatFits : Type 0
KeepWhatFits = (most txid : ℕ) (es : List Edit) → size_of (since txid es) ≤ most → since txid (kept_edits most es) ≡ since txid es

-- the last edit is kept
abbrev pub KeepTheLast : Type 0
KeepTheLast = (most : ℕ) (es : List Edit) → last_txid (kept_edits most es) ≡ last_txid es

-- what is kept takes no more than that, but for a lone edit
abbrev pub TakeNoMore : Type 0
TakeNoMore = (most : ℕ) (es : List Edit) → 1 < length (kept_edits most es) → size_of (kept_edits most es) ≤ most
