-- Different files of images have different names.
use Rattle.std.proofs.Common.{◌≡◌, ◌≢◌, ℕ, ◌+◌, List, ◌++◌, ap, sym, ◌∙◌, refl, arith, ◌^◌, ◌≤◌, take, drop, length, length-append}
use Rattle.std.proofs.lemmas.List.{take_at, drop_at}
use Rattle.base_words.specs.Padded.{padded}
use Rattle.base_words.proofs.PaddedLaws.{length-padded, padded_injective}
use Rattle.ns_store.specs.Names.{Part, Itself, Checkpoint, Digest, FreshDigest, front_of, rest_of, name_of}

-- how many bytes a name has, which tells the file
abbrev pub width : Part → ℕ
width Itself = 27
width Checkpoint = 32
width Digest = 31
width FreshDigest = 35

front_rest : (part : Part) → length (front_of part) + (19 + length (rest_of part)) ≡ width part
front_rest Itself = refl
front_rest Checkpoint = refl
front_rest Digest = refl
front_rest FreshDigest = refl

pub length-name : (txid : ℕ) (part : Part) → length (name_of txid part) ≡ width part
unfolding name_of
length-name txid part =
    let front = length-append (front_of part) (padded 19 txid ++ rest_of part) in
    let back = length-append (padded 19 txid) (rest_of part) in
    let digits = length-padded 19 txid in
    omega (arith, front, back, digits, front_rest part)

-- files of different parts, also of different images
pub parts_apart : (t u : ℕ) (p q : Part) → width p ≢ width q → name_of t p ≢ name_of u q
parts_apart t u p q ne same = ne (sym (length-name t p) ∙ ap (λ (l : List ℕ). length l) same ∙ length-name u q)

digits_in : (t : ℕ) (p : Part) → take 19 (drop (length (front_of p)) (name_of t p)) ≡ padded 19 t
unfolding name_of
digits_in t p = ap (λ (l : List ℕ). take 19 l) (drop_at (front_of p) (padded 19 t ++ rest_of p) (length (front_of p)) refl) ∙ take_at (padded 19 t) (rest_of p) 19 (length-padded 19 t)

-- files of one part with one name are those of one image
pub same_txid : (t u : ℕ) (p : Part) → t ≤ 2 ^ 62 → u ≤ 2 ^ 62 → name_of t p ≡ name_of u p → t ≡ u
same_txid t u p small_t small_u same =
    padded_injective t u small_t small_u (sym (digits_in t p) ∙ ap (λ (l : List ℕ). take 19 (drop (length (front_of p)) l)) same ∙ digits_in u p)
