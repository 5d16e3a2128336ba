-- What saves and removals make of the images that count.
use Rattle.std.proofs.Common.{inl, inr, ◌⊎◌, ◌≡◌, ◌≢◌, ℕ, ◌≤◌, ◌^◌, List, [], ◌∷◌, ap, sym, subst}
use Rattle.std.specs.Prelude.{Option, Some, None, Contains}
use Rattle.base_disk.specs.Files.{Files}
use Rattle.ns_store.specs.Names.{Itself, Checkpoint, Digest, FreshDigest, name_of, IsOutside}
use Rattle.ns_store.specs.Images.{image_of, image_in}
use Rattle.ns_store.specs.Saves.{KeepsImage, OnlyOf, Prepares, Saves, Thins}
use Rattle.ns_store.proofs.NameLaws.{parts_apart, same_txid}

both_same : (old new : Files) (t : ℕ) → new (name_of t Itself) ≡ old (name_of t Itself) → new (name_of t Digest) ≡ old (name_of t Digest) → image_in new t ≡ image_in old t
both_same old new t itself digest = λ i. image_of (itself i) (digest i)

module _ (t u : ℕ) (small_t : t ≤ 2 ^ 62) (small_u : u ≤ 2 ^ 62) (ne : u ≢ t) where
  itself_outside : IsOutside t (Itself ∷ Checkpoint ∷ Digest ∷ FreshDigest ∷ []) (name_of u Itself)
  itself_outside = (
    λ same. ne (same_txid u t Itself small_u small_t same),
    (parts_apart u t Itself Checkpoint (λ e. absurd (cc)), (parts_apart u t Itself Digest (λ e. absurd (cc)), (parts_apart u t Itself FreshDigest (λ e. absurd (cc)), tt))),
  )

  digest_outside : IsOutside t (Itself ∷ Checkpoint ∷ Digest ∷ FreshDigest ∷ []) (name_of u Digest)
  digest_outside = (
    parts_apart u t Digest Itself (λ e. absurd (cc)),
    (parts_apart u t Digest Checkpoint (λ e. absurd (cc)), (λ same. ne (same_txid u t Digest small_u small_t same), (parts_apart u t Digest FreshDigest (λ e. absurd (cc)), tt))),
  )

  pub only_others : (old new : Files) → OnlyOf t (Itself ∷ Checkpoint ∷ Digest ∷ FreshDigest ∷ []) old new → image_in new u ≡ image_in old u
  only_others old new only = both_same old new u (only.others (name_of u Itself) itself_outside) (only.others (name_of u Digest) digest_outside)

pub before_it : (t : ℕ) (old new : Files) → Prepares t old new → (image_in new t ≡ image_in old t) ⊎ (image_in new t ≡ None)
before_it t old new prepares = by prepares.here
  where
    by : KeepsImage t old new ⊎ (new (name_of t Itself) ≡ None) → (image_in new t ≡ image_in old t) ⊎ (image_in new t ≡ None)
    by (inl keeps) = inl (both_same old new t keeps.itself keeps.digest)
    by (inr gone) = inr (ap (λ (f : Option (List ℕ)). image_of f (new (name_of t Digest))) gone)

pub after_it : (t : ℕ) (bytes line : List ℕ) (old new : Files) → Saves t bytes line old new → image_in new t ≡ Some record { bytes = bytes; digest = line }
after_it t bytes line old new saves = λ i. image_of (saves.itself i) (saves.digest i)

pub thin_others : (txids : List ℕ) (u : ℕ) (old new : Files) → ((t : ℕ) → Contains txids t → t ≤ 2 ^ 62) → u ≤ 2 ^ 62 → (Contains txids u → ⊥) → Thins txids old new → image_in new u ≡ image_in old u
thin_others txids u old new small small_u none thins = both_same old new u
    (thins.others (name_of u Itself) (λ t has. (λ same. none_of t has (same_txid u t Itself small_u (small t has) same), (parts_apart u t Itself Digest (λ e. absurd (cc)), tt))))
    (thins.others (name_of u Digest) (λ t has. (parts_apart u t Digest Itself (λ e. absurd (cc)), (λ same. none_of t has (same_txid u t Digest small_u (small t has) same), tt))))
  where
    none_of : (t : ℕ) → Contains txids t → u ≡ t → ⊥
    none_of t has same = none (subst (λ (n : ℕ). Contains txids n) (sym same) has)
