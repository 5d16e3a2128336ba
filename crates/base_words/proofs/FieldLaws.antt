-- Numbers at the front of bytes: what is read there is what spells them.
use Rattle.std.proofs.Common.{◌≡◌, ℕ, zero, suc, ◌^◌, ◌<◌, ◌≤◌, List, [], ◌∷◌, ◌++◌, length, take, drop, refl, sym, ap, subst, ◌∙◌, append_assoc, arith}
use Rattle.std.specs.Int.{Width, w16, w32, w64, from_be_bytes, to_be_bytes}
use Rattle.std.proofs.lemmas.List.{take_at, drop_at, take-append-drop, length-append, length-take}
use Rattle.std.proofs.lemmas.Nat.{be_bytes_2, be_bytes_4, be_bytes_8, from_be_bytes-to_be_bytes_2, from_be_bytes-to_be_bytes_4, from_be_bytes-to_be_bytes_8}
use Rattle.base_words.specs.Fields.{IsBytes}

-- what stands before a place of bytes, and what stands after it, are bytes
pub bytes_before : (n : ℕ) (bytes : List ℕ) → IsBytes bytes → IsBytes (take n bytes)
bytes_before zero bytes all i = omega arith
bytes_before (suc n) [] all i = all i
bytes_before (suc n) (byte ∷ bytes) all zero = all 0
bytes_before (suc n) (byte ∷ bytes) all (suc i) = bytes_before n bytes (λ j. all (suc j)) i

pub bytes_after : (n : ℕ) (bytes : List ℕ) → IsBytes bytes → IsBytes (drop n bytes)
bytes_after zero bytes all = all
bytes_after (suc n) [] all = all
bytes_after (suc n) (byte ∷ bytes) all = bytes_after n bytes (λ j. all (suc j))

-- Bytes begin with a text, and bytes are left after it.
pub record Begins (bytes text rest : List ℕ) : Type 0 where
  pub spelled : bytes ≡ text ++ rest
  pub left : IsBytes rest

-- what is left begins with another text
pub Begins-then : {bytes first middle second rest : List ℕ} → Begins bytes first middle → Begins middle second rest → Begins bytes (first ++ second) rest
Begins-then {first = first} {second = second} {rest = rest} b c = record {
  spelled = b.spelled ∙ ap (λ (l : List ℕ). first ++ l) c.spelled ∙ sym (append_assoc first second rest);
  left = c.left;
}

-- a part of so many bytes, whatever it is
pub begins_cut : (n : ℕ) (bytes : List ℕ) → IsBytes bytes → Begins bytes (take n bytes) (drop n bytes)
begins_cut n bytes all = record { spelled = sym (take-append-drop n bytes); left = bytes_after n bytes all }

-- The number n below the bound stands in the first bytes, so many, and rest after them: this is
-- what is read of them, and they are its text.
pub record Front (w : Width) (size bound : ℕ) (bytes : List ℕ) (n : ℕ) (rest : List ℕ) : Type 0 where
  pub enough : size ≤ length bytes
  pub small : n < bound
  pub number : from_be_bytes w (take size bytes) ≡ n
  pub after : drop size bytes ≡ rest
  pub spelled : bytes ≡ to_be_bytes w n ++ rest

pub front_begins : {w : Width} {size bound : ℕ} {bytes : List ℕ} {n : ℕ} {rest : List ℕ} → Front w size bound bytes n rest → IsBytes bytes → Begins bytes (to_be_bytes w n) rest
front_begins {size = size} {bytes = bytes} f all = record { spelled = f.spelled; left = subst IsBytes f.after (bytes_after size bytes all) }

-- A field of so many bytes has room for each number below the bound, and for no other.
pub record IsField (w : Width) (size bound : ℕ) : Type 0 where
  pub small : (bytes : List ℕ) → IsBytes bytes → from_be_bytes w bytes < bound
  pub found : (bytes : List ℕ) → IsBytes bytes → size ≤ length bytes → Front w size bound bytes (from_be_bytes w (take size bytes)) (drop size bytes)
  pub put : (n : ℕ) (rest : List ℕ) → n < bound → Front w size bound (to_be_bytes w n ++ rest) n rest

module _ (w : Width) (size bound : ℕ) (small : (bytes : List ℕ) → IsBytes bytes → from_be_bytes w bytes < bound) (len : (n : ℕ) → length (to_be_bytes w n) ≡ size)
    (text : (bytes : List ℕ) (n : ℕ) → length bytes ≡ size → IsBytes bytes → n ≡ from_be_bytes w bytes → to_be_bytes w n ≡ bytes)
    (number : (n : ℕ) → n < bound → from_be_bytes w (to_be_bytes w n) ≡ n) where
  found_front : (bytes : List ℕ) → IsBytes bytes → size ≤ length bytes → Front w size bound bytes (from_be_bytes w (take size bytes)) (drop size bytes)
  found_front bytes all enough =
      let front : IsBytes (take size bytes) = bytes_before size bytes all in
      let is : to_be_bytes w (from_be_bytes w (take size bytes)) ≡ take size bytes =
      text (take size bytes) (from_be_bytes w (take size bytes)) (omega (arith, length-take size bytes, enough)) front refl in
      record {
        enough = enough;
        small = small (take size bytes) front;
        number = refl;
        after = refl;
        spelled = sym (take-append-drop size bytes) ∙ ap (λ (l : List ℕ). l ++ drop size bytes) (sym is);
      }

  put_front : (n : ℕ) (rest : List ℕ) → n < bound → Front w size bound (to_be_bytes w n ++ rest) n rest
  put_front n rest lt = record {
    enough = omega (arith, length-append (to_be_bytes w n) rest, len n);
    small = lt;
    number = ap (from_be_bytes w) (take_at (to_be_bytes w n) rest size (len n)) ∙ number n lt;
    after = drop_at (to_be_bytes w n) rest size (len n);
    spelled = refl;
  }

  field_by : IsField w size bound
  field_by = record { small = small; found = found_front; put = put_front }

pub field16 : IsField w16 2 (2 ^ 16)
field16 = field_by w16 2 (2 ^ 16) (λ bytes all. omega (arith, all 0, all 1)) (λ n. refl) be_bytes_2 from_be_bytes-to_be_bytes_2

pub field32 : IsField w32 4 (2 ^ 32)
field32 = field_by w32 4 (2 ^ 32) (λ bytes all. omega (arith, all 0, all 1, all 2, all 3)) (λ n. refl) be_bytes_4 from_be_bytes-to_be_bytes_4

pub field64 : IsField w64 8 (2 ^ 64)
field64 = field_by w64 8 (2 ^ 64) (λ bytes all. omega (arith, all 0, all 1, all 2, all 3, all 4, all 5, all 6, all 7)) (λ n. refl) be_bytes_8 from_be_bytes-to_be_bytes_8
