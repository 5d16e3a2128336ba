-- Which digest a file holds.
use Rattle.std.proofs.Common.{inl, inr, ⊎_elim, ◌⊎◌, ◌≡◌, ◌≢◌, ℕ, ◌<◌, List, [], ◌∷◌, ◌++◌, ap, sym, ◌∙◌, refl, subst, arith, take, length, length-append}
use Rattle.std.specs.Prelude.{codes, Option, Some, None, option_map, Result, Ok, Err, IsErr, IsOk, MatchResult, MatchOption, MatchBool, Bool, true, false}
use Rattle.std.specs.Str.{bytes_eq}
use Rattle.std.proofs.lemmas.Slice.Eq.{bytes_eq-Decides}
use Rattle.std.proofs.lemmas.List.{take_at, take_all}
use Rattle.hex.specs.Hex.{encode_lower, lower_digits, decode_of, decode_sized}
use Rattle.hex.proofs.HexLemmas.{length-encode_with, decode_of-encode_lower, decode_of-ok, decode_of-same, decode_sized-twice, decode_sized-ok}
use Rattle.hex.specs.declared.error.FromHexError.{FromHexError}
use Rattle.ns_store.specs.Names.{Itself, name_of}
use Rattle.ns_store.specs.Digests.{digest_line, IsDigits, IsStored}
use Rattle.ns_store.proofs.NameLaws.{length-name}

pub length-digits : (digits digest : List ℕ) → IsDigits digits digest → length digits ≡ 32
length-digits digits digest is = let e = ap (λ (l : List ℕ). length l) is.spelled in let f = length-encode_with lower_digits digest in omega (arith, e, f, is.long)

-- such digits decode to their digest
decoded : (digits digest : List ℕ) → IsDigits digits digest → decode_of digits ≡ Ok digest
decoded digits digest is = ap decode_of is.spelled ∙ decode_of-encode_lower digest is.bytes

pub one_digest : (digits a b : List ℕ) → IsDigits digits a → IsDigits digits b → a ≡ b
one_digest digits a b is_a is_b = decode_of-same digits a b (decoded digits a is_a) (decoded digits b is_b)

sized : (digits digest : List ℕ) (n : ℕ) → n ≡ 16 → IsDigits digits digest → decode_sized digits n ≡ Ok digest
sized digits digest n sixteen is = decode_sized-twice digits n (let len = length-digits digits digest is in omega (arith, len, sixteen)) ∙ decoded digits digest is

-- what decoding into 16 bytes tells
abbrev Decodes : List ℕ → ℕ → List ℕ → Result (Unit {0}) FromHexError → Type 0
Decodes digits n out result = MatchResult (decode_sized digits n) (λ bytes. (result ≡ Ok tt) × (out ≡ bytes)) (λ e. result ≡ Err e)

module _ (digits : List ℕ) (n : ℕ) (sixteen : n ≡ 16) (out : List ℕ) (result : Result (Unit {0}) FromHexError) where
  no_err : (digest : List ℕ) (r : Result (List ℕ) FromHexError) → r ≡ Ok digest → MatchResult r (λ bytes. (result ≡ Ok tt) × (out ≡ bytes)) (λ e. result ≡ Err e) → (result ≡ Ok tt) × (out ≡ digest)
  no_err digest (Ok bytes) same told = let e : bytes ≡ digest = cc in (told.0, told.1 ∙ e)
  no_err digest (Err e) same told = absurd (cc)

  pub not_decoded : Decodes digits n out result → IsErr result → (digest : List ℕ) → IsDigits digits digest → ⊥
  not_decoded told err digest is = let e = (no_err digest (decode_sized digits n) (sized digits digest n sixteen is) told).0 in absurd (cc)

  pub is_decoded : Decodes digits n out result → (digest : List ℕ) → IsDigits digits digest → out ≡ digest
  is_decoded told digest is = (no_err digest (decode_sized digits n) (sized digits digest n sixteen is) told).1

  ok_is : (r : Result (List ℕ) FromHexError) → MatchResult r (λ bytes. (result ≡ Ok tt) × (out ≡ bytes)) (λ e. result ≡ Err e) → IsOk result → r ≡ Ok out
  ok_is (Ok bytes) told ok = ap (λ (l : List ℕ). Ok l) (sym told.1)
  ok_is (Err e) told ok = absurd (cc)

  pub digits_again : Decodes digits n out result → IsOk result → (again : List ℕ) → again ≡ encode_lower out → again ≡ digits → IsDigits digits out
  digits_again told ok again encoded same =
      let is = ok_is (decode_sized digits n) told ok in
      let long = decode_sized-ok digits n out is in
      let all = decode_of-ok digits out (sym (decode_sized-twice digits n long) ∙ is) in
      record { bytes = all.3; long = omega (arith, long, all.2, sixteen); spelled = sym same ∙ encoded }

  pub not_again : Decodes digits n out result → (again : List ℕ) → again ≡ encode_lower out → again ≢ digits → (digest : List ℕ) → IsDigits digits digest → ⊥
  not_again told again encoded other digest is = other (encoded ∙ ap encode_lower (is_decoded told digest is) ∙ sym is.spelled)

-- a line begins with its digits
line_front : (txid : ℕ) (digest : List ℕ) → length digest ≡ 16 → take 32 (digest_line txid digest) ≡ encode_lower digest
unfolding digest_line
line_front txid digest long = take_at (encode_lower digest) (codes " *" ++ (name_of txid Itself ++ 10 ∷ [])) 32 (let e = length-encode_with lower_digits digest in omega (arith, e, long))

pub length-line : (txid : ℕ) (digest : List ℕ) → length digest ≡ 16 → length (digest_line txid digest) ≡ 62
unfolding digest_line
length-line txid digest long =
    let a = length-append (encode_lower digest) (codes " *" ++ (name_of txid Itself ++ 10 ∷ [])) in
    let b = length-append (codes " *") (name_of txid Itself ++ 10 ∷ []) in
    let c = length-append (name_of txid Itself) (10 ∷ []) in
    let d = length-name txid Itself in
    let e = length-encode_with lower_digits digest in
    omega (arith, a, b, c, d, e, long)

pub digits_of : (txid : ℕ) (file digest : List ℕ) → IsStored txid file digest → IsDigits (take 32 file) digest
digits_of txid file digest is = record { bytes = is.bytes; long = is.long; spelled = by is.spelled }
  where
    by : (file ≡ encode_lower digest) ⊎ (file ≡ digest_line txid digest) → take 32 file ≡ encode_lower digest
    by (inl alone) = ap (λ (l : List ℕ). take 32 l) alone ∙ take_all 32 (encode_lower digest) (let e = length-encode_with lower_digits digest in omega (arith, e, is.long))
    by (inr line) = ap (λ (l : List ℕ). take 32 l) line ∙ line_front txid digest is.long

pub stored_length : (txid : ℕ) (file digest : List ℕ) → IsStored txid file digest → (length file ≡ 32) ⊎ (length file ≡ 62)
stored_length txid file digest is = by is.spelled
  where
    by : (file ≡ encode_lower digest) ⊎ (file ≡ digest_line txid digest) → (length file ≡ 32) ⊎ (length file ≡ 62)
    by (inl alone) = inl (ap (λ (l : List ℕ). length l) alone ∙ (let e = length-encode_with lower_digits digest in omega (arith, e, is.long)))
    by (inr line) = inr (ap (λ (l : List ℕ). length l) line ∙ length-line txid digest is.long)

pub too_short : (txid : ℕ) (file digest : List ℕ) → length file < 32 → IsStored txid file digest → ⊥
too_short txid file digest lt is = ⊎_elim (λ e. absurd (omega (arith, lt, e))) (λ e. absurd (omega (arith, lt, e))) (stored_length txid file digest is)

-- what the digits at the front tell of the file
pub front_tells : (file front : List ℕ) (r : Option (List ℕ)) → front ≡ take 32 file → MatchOption r ((digest : List ℕ) → IsDigits front digest → ⊥) (λ digest. IsDigits front digest)
    → MatchOption r ((txid : ℕ) (digest : List ℕ) → IsStored txid file digest → ⊥) (λ digest. IsDigits (take 32 file) digest)
front_tells file front None same told = λ txid digest is. told digest (subst (λ (l : List ℕ). IsDigits l digest) (sym same) (digits_of txid file digest is))
front_tells file front (Some found) same told = subst (λ (l : List ℕ). IsDigits l found) same told

module _ (txid : ℕ) (file digest : List ℕ) (front : IsDigits (take 32 file) digest) where
  pub digits_alone : length file ≡ 32 → IsStored txid file digest
  digits_alone len = record { bytes = front.bytes; long = front.long; spelled = inl (sym (take_all 32 file (omega (arith, len))) ∙ front.spelled) }

  pub is_line : file ≡ digest_line txid digest → IsStored txid file digest
  is_line same = record { bytes = front.bytes; long = front.long; spelled = inr same }

  pub no_line : length file ≢ 32 → file ≢ digest_line txid digest → (other : List ℕ) → IsStored txid file other → ⊥
  no_line len apart other is = by is.spelled
    where
      by : (file ≡ encode_lower other) ⊎ (file ≡ digest_line txid other) → ⊥
      by (inl alone) = len (ap (λ (l : List ℕ). length l) alone ∙ (let e = length-encode_with lower_digits other in omega (arith, e, is.long)))
      by (inr line) = apart (line ∙ ap (digest_line txid) (one_digest (take 32 file) other digest (digits_of txid file other is) front))

  -- as the line is the file or not
  pub line_cases : (line : List ℕ) (r : Bool) → r ≡ bytes_eq line file → line ≡ digest_line txid digest → length file ≢ 32
      → MatchBool r (IsStored txid file digest) ((other : List ℕ) → IsStored txid file other → ⊥)
  line_cases line true is spelled len = is_line (sym ((bytes_eq-Decides line file).0 (sym is)) ∙ spelled)
  line_cases line false is spelled len = no_line len (λ same. let e = (bytes_eq-Decides line file).1 (spelled ∙ sym same) in absurd (cc))

-- a longer file holds none
pub too_long : (txid : ℕ) (file : Option (List ℕ)) (size : ℕ) → Some size ≡ option_map (λ (l : List ℕ). length l) file → 62 < size
    → (bytes : List ℕ) × (file ≡ Some bytes) × ((digest : List ℕ) → IsStored txid bytes digest → ⊥)
too_long txid None size same lt = absurd (cc)
too_long txid (Some bytes) size same lt =
    let len : size ≡ length bytes = cc in
    (bytes, refl, λ digest is. ⊎_elim (λ e. absurd (omega (arith, lt, e, len))) (λ e. absurd (omega (arith, lt, e, len))) (stored_length txid bytes digest is))
