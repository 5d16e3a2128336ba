-- The bytes may cross threads, and a ownership as its allocator may.
use Rattle.std.specs.Prelude.{ℕ, ◌+◌, List, [], ◌∷◌, Option, Some, None}
use base.Fraction.{full_share}
use base.Shift.{Keyless}
use denote.Exit.{Exit, unchanged, leaves, hidden, under}
use denote.RattleType.{RattleType}
use denote.Builtin.{u8}
use denote.RawPtr.{Ptr, block_ptr, null_ptr}
use denote.Struct.Struct.{exits_of}
use denote.Struct.Owning.{shape, fields, to}
use denote.Param.Send.{IsSend, IsSync, Quiet, Frees, Common, AllSend, part_keyless, owning_send, struct_send, struct_sync, sendable}
use Rattle.std.specs.declared.alloc.Allocator.{Ghosts}
use Rattle.disk_recent.specs.Owned.{places, places_lent, bytes_own, bytes_lent}
use Rattle.disk_recent.specs.contracts.raw.RawBytes as RawBytes
use Rattle.disk_recent.specs.contracts.raw.Ownership as Ownership

quiet : {D X : Type 0} (to : D → X) (e : Exit X) → Quiet e → Quiet (hidden (under to e))
quiet to unchanged q = λ x w. tt
quiet to (leaves L l S s r₀) q = λ d. q (to d)

places-Keyless : IsSend u8 → (b o : ℕ) (cs : List (Option ℕ)) → Keyless (places b o cs)
places-Keyless s b o [] = tt
places-Keyless s b o (Some x ∷ cs) = (part_keyless u8 s full_share x b o, places-Keyless s b (o + 1) cs)
places-Keyless s b o (None ∷ cs) = (tt, places-Keyless s b (o + 1) cs)

places_lent-Common : IsSync u8 → (b o : ℕ) (cs : List (Option ℕ)) → Common (places_lent b o cs)
places_lent-Common y b o [] κ = tt
places_lent-Common y b o (Some x ∷ cs) κ = (y.shared x b o κ, places_lent-Common y b (o + 1) cs κ)
places_lent-Common y b o (None ∷ cs) κ = (tt, places_lent-Common y b (o + 1) cs κ)

bytes-Keyless : IsSend u8 → (p : Ptr) (cs : List (Option ℕ)) → Keyless (bytes_own p cs)
bytes-Keyless s (block_ptr b o) cs = (tt, places-Keyless s b o cs)
bytes-Keyless s null_ptr cs = tt

bytes_lent-Common : IsSync u8 → (p : Ptr) (cs : List (Option ℕ)) → Common (bytes_lent p cs)
bytes_lent-Common y (block_ptr b o) cs κ = (tt, places_lent-Common y b o cs κ)
bytes_lent-Common y null_ptr cs κ = tt

pub RawBytes-send : IsSend RawBytes.the_row
RawBytes-send =
    let O = RawBytes.the_type in let all : AllSend (fields O) = (search sendable, tt) in
    owning_send O all (λ d. bytes-Keyless (search sendable) d.at d.places) (λ k. quiet (to O) (exits_of k (fields O)) ((struct_send (shape O) all).leaving k))

pub RawBytes-sync : IsSync RawBytes.the_row
RawBytes-sync = let O = RawBytes.the_type in record { shared = λ d b o κ. ((struct_sync (shape O) (search sendable, tt)).shared (to O d) b o κ, bytes_lent-Common (search sendable) d.at d.places κ) }

module _ (A : RattleType) (g : Ghosts A.Denot) where
  pub Ownership-send : Frees g g.dealloc_token → IsSend (Ownership.the_row A g)
  Ownership-send f =
      let O = Ownership.the_type A g in let all : AllSend (fields O) = (search sendable, tt) in
      owning_send O all (λ d. f.frees d.alloc _ d.at) (λ k. quiet (to O) (exits_of k (fields O)) ((struct_send (shape O) all).leaving k))

  pub Ownership-sync : IsSync (Ownership.the_row A g)
  Ownership-sync = let O = Ownership.the_type A g in record { shared = λ d b o κ. ((struct_sync (shape O) (search sendable, tt)).shared (to O d) b o κ, tt) }
