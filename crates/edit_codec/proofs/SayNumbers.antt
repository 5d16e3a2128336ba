-- Numbers as words.
use Rattle.std.proofs.Common.{◌≡◌, ℕ, ◌^◌, ◌<◌, ◌≤◌, Bool, true, false, cond, ltb, leb, List, Option, Some, None, refl, ap, subst, ◌∙◌, arith}
use Rattle.std.specs.Str.{bytes_eq}
use Rattle.std.specs.Fmt.{digits}
use Rattle.std.specs.Str.Parse.{digits_value}
use Rattle.std.proofs.lemmas.Bool.{lt-ltb, ltb-true, le-leb, leb-true, and_parts}
use Rattle.std.proofs.lemmas.Bool.Decides.{nat_tests}
use Rattle.std.proofs.lemmas.Fmt.{digits_is_IsNumeral}
use Rattle.std.proofs.Math.Nat.{pow-le-pow_left}
use Rattle.std.proofs.lemmas.Slice.Eq.{bytes_eq-Decides}
use Rattle.base_words.specs.Numbers.{IsNumber}
use Rattle.edit_codec.specs.Saying.{is_number, number_said, at_most}

pub same_bytes : (a b : List ℕ) → bytes_eq a b ≡ true → a ≡ b
same_bytes a b e = (bytes_eq-Decides a b).0 e

pub value_of_number : (base : ℕ) → 2 ≤ base → base ≤ 16 → (n : ℕ) → n < 2 ^ 64 → digits_value base (digits base false n) ≡ n
value_of_number base low high n lt = (digits_is_IsNumeral base false low high n (omega (arith, lt, pow-le-pow_left low 64))).1

-- the text of a number says it
pub number_is_said : (base : ℕ) → 2 ≤ base → base ≤ 16 → (word : List ℕ) (n : ℕ) → IsNumber base word n → number_said base word ≡ Some n
unfolding number_said
number_is_said base low high word n is =
    let value : digits_value base word ≡ n = ap (digits_value base) is.1 ∙ value_of_number base low high n is.0 in
    let small : ltb n (2 ^ 64) ≡ true = lt-ltb _ _ is.0 in
    let same : bytes_eq word (digits base false n) ≡ true = (bytes_eq-Decides word (digits base false n)).1 is.1 in
    rw (value, small, same) refl

said_by : (test : Bool) (base : ℕ) (word : List ℕ) → is_number base word ≡ test → ((n : ℕ) → IsNumber base word n → ⊥) → cond test (Some (digits_value base word)) None ≡ None
said_by true base word e none = let t = and_parts (ltb (digits_value base word) (2 ^ 64)) (bytes_eq word (digits base false (digits_value base word)))
    e in absurd (none (digits_value base word) (ltb-true _ _ t.0, same_bytes word (digits base false (digits_value base word)) t.1))
said_by false base word e none = refl

-- a word that is no number's says none
pub none_is_said : (base : ℕ) (word : List ℕ) → ((n : ℕ) → IsNumber base word n → ⊥) → number_said base word ≡ None
unfolding number_said
none_is_said base word none = said_by (is_number base word) base word refl none

found_by : (test : Bool) (base : ℕ) (word : List ℕ) (n : ℕ) → is_number base word ≡ test → cond test (Some (digits_value base word)) None ≡ Some n → IsNumber base word n
found_by true base word n e is =
    let t = and_parts (ltb (digits_value base word) (2 ^ 64)) (bytes_eq word (digits base false (digits_value base word))) e in
    let same : digits_value base word ≡ n = cc in
    subst (IsNumber base word) same (ltb-true _ _ t.0, same_bytes word (digits base false (digits_value base word)) t.1)
found_by false base word n e is = absurd cc

pub said_is_number : (base : ℕ) (word : List ℕ) (n : ℕ) → number_said base word ≡ Some n → IsNumber base word n
unfolding number_said
said_is_number base word n is = found_by (is_number base word) base word n refl is

pub within : (most n : ℕ) (o : Option ℕ) → o ≡ Some n → n ≤ most → at_most most o ≡ Some n
within most n o is le = let t : leb n most ≡ true = le-leb _ _ le in rw (is, t) refl

over : (n most : ℕ) → most < n → leb n most ≡ false
over n most gt = grind (arith, nat_tests)

pub beyond : (most n : ℕ) (o : Option ℕ) → o ≡ Some n → most < n → at_most most o ≡ None
beyond most n o is gt = let t : leb n most ≡ false = over n most gt in rw (is, t) refl

pub no_number : (most : ℕ) (o : Option ℕ) → o ≡ None → at_most most o ≡ None
no_number most o is = rw is refl

at_most_by : (most n m : ℕ) (test : Bool) → leb m most ≡ test → cond test (Some m) None ≡ Some n → (m ≡ n) × (n ≤ most)
at_most_by most n m true e is = let same : m ≡ n = cc in (same, omega (arith, same, leb-true _ _ e))
at_most_by most n m false e is = absurd cc

-- a number that is said is small enough
pub said_at_most : (most n : ℕ) (o : Option ℕ) → at_most most o ≡ Some n → (o ≡ Some n) × (n ≤ most)
said_at_most most n None is = absurd cc
said_at_most most n (Some m) is = let r = at_most_by most n m (leb m most) refl is in (ap (λ (k : ℕ). Some k) r.0, r.1)
