-- What the bytes of one allocation own and lend, and what gives it back.
use Rattle.std.specs.Prelude.{◌≡◌, ℕ, ◌+◌, ◌^◌, ◌≤◌, List, [], ◌∷◌, length, map, take, drop, Option, Some, None}
use base.Fraction.{full_share}
use base.Fml.{Lft, Fml, ftrue, ffalse, fsep, flt, froom}
use mir.Syntax.{Ty, ty_array, ty_int, w8}
use denote.Builtin.{u8}
use denote.Memory.{part_at, shared_of}
use denote.Sharing.{nothing, said, beside}
use denote.RawPtr.{Ptr, block_ptr, null_ptr}

-- one place for a byte, o bytes into the block b, written or not yet
abbrev pub place : ℕ → ℕ → Option ℕ → Fml
place b o (Some x) = part_at u8 full_share x b o
place b o None = froom (ty_int w8) b o

-- places side by side
abbrev pub places : ℕ → ℕ → List (Option ℕ) → Fml
places b o [] = ftrue
places b o (c ∷ cs) = fsep (place b o c) (places b (o + 1) cs)

abbrev pub place_lent : ℕ → ℕ → Option ℕ → Lft → Fml
place_lent b o (Some x) = shared_of u8 x b o
place_lent b o None = nothing

abbrev pub places_lent : ℕ → ℕ → List (Option ℕ) → Lft → Fml
places_lent b o [] = nothing
places_lent b o (c ∷ cs) = beside (place_lent b o c) (places_lent b (o + 1) cs)

-- there are fewer than 2 ^ 63 places
abbrev pub few : List (Option ℕ) → Fml
few cs = flt (length cs) (2 ^ 63)

abbrev pub bytes_own : Ptr → List (Option ℕ) → Fml
bytes_own (block_ptr b o) cs = fsep (few cs) (places b o cs)
bytes_own null_ptr cs = ffalse

abbrev pub bytes_lent : Ptr → List (Option ℕ) → Lft → Fml
bytes_lent (block_ptr b o) cs = beside (said (few cs)) (places_lent b o cs)
bytes_lent null_ptr cs = said ffalse

-- the allocator's token for an allocation of n bytes
abbrev pub room_owned : (Ty → Ptr → Fml) → Ptr → ℕ → Fml
room_owned token p n = token (ty_array (ty_int w8) n) p

-- the n places from the index from on are there, and written
abbrev pub IsWritten : List (Option ℕ) → ℕ → ℕ → Type 0
IsWritten cs from n = (from + n ≤ length cs) × ((xs : List ℕ) × (take n (drop from cs) ≡ map Some xs))
