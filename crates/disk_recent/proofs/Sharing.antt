-- A `&` to the bytes is made where one to each byte is. Assumes `Logic`.
use Prim.Native.Nat.{ℕ, ◌+◌}
use Rattle.std.specs.Prelude.{List, [], ◌∷◌, Option, Some, None}
use seplogic.Ra.Ura.{Ura}
use base.Fml.{Lft, Incl, ftrue, ffalse}
use types.Logic.{Logic}
use denote.Builtin.{u8}
use denote.Param.Shared.{copy_shared}
use denote.RawPtr.{Ptr, block_ptr, null_ptr}
use denote.Sharing.{ShrLaws, said}
use denote.SharingLaws.{beside_shr_laws, nothing_shr_laws, said_shr_laws}
use denote.Shares.{Shares-less}
use denote.Struct.Field.{u8-field}
use denote.Struct.Laws.{u8-copy}
use denote.Struct.Lending.{Lends, Lends-both, Lends-nothing, Lends-said, Lends-false}
use Rattle.disk_recent.specs.Owned.{place, places, place_lent, places_lent, few, bytes_own, bytes_lent}

place_lent_laws : (b o : ℕ) (c : Option ℕ) → ShrLaws (place_lent b o c)
place_lent_laws b o (Some x) = (copy_shared u8-field u8-copy).shr_laws x b o
place_lent_laws b o None = nothing_shr_laws

places_lent_laws : (b o : ℕ) (cs : List (Option ℕ)) → ShrLaws (places_lent b o cs)
places_lent_laws b o [] = nothing_shr_laws
places_lent_laws b o (c ∷ cs) = beside_shr_laws _ _ (place_lent_laws b o c) (places_lent_laws b (o + 1) cs)

pub bytes_lent_laws : (p : Ptr) (cs : List (Option ℕ)) → ShrLaws (bytes_lent p cs)
bytes_lent_laws (block_ptr b o) cs = beside_shr_laws _ _ (said_shr_laws (few cs) tt) (places_lent_laws b o cs)
bytes_lent_laws null_ptr cs = said_shr_laws ffalse tt

module _ {M : Type 1} {𝓤 : Ura M} (𝓛 : Logic 𝓤) (l : Lft) (inc : Incl l u8.lives) where
  Lends-place : (b o : ℕ) (c : Option ℕ) → Lends 𝓛 (place b o c) (place_lent b o c) l
  Lends-place b o (Some x) = λ κ ts. Shares-less 𝓛 u8 u8.lives l inc ((copy_shared u8-field u8-copy).shares M 𝓤 𝓛) x κ ts b o
  Lends-place b o None = Lends-nothing 𝓛 (place b o None) l

  Lends-places : (b o : ℕ) (cs : List (Option ℕ)) → Lends 𝓛 (places b o cs) (places_lent b o cs) l
  Lends-places b o [] = Lends-nothing 𝓛 ftrue l
  Lends-places b o (c ∷ cs) =
      Lends-both 𝓛 (place b o c) (places b (o + 1) cs) (place_lent b o c) (places_lent b (o + 1) cs) l (Lends-place b o c) (Lends-places b (o + 1) cs)

  pub Lends-bytes : (p : Ptr) (cs : List (Option ℕ)) → Lends 𝓛 (bytes_own p cs) (bytes_lent p cs) l
  Lends-bytes (block_ptr b o) cs = Lends-both 𝓛 (few cs) (places b o cs) (said (few cs)) (places_lent b o cs) l (Lends-said 𝓛 (few cs) tt l) (Lends-places b o cs)
  Lends-bytes null_ptr cs = Lends-false 𝓛 (said ffalse) l
