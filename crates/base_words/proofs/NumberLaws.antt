-- Words that are numbers: the test, and the number that a word tells.
use Rattle.std.proofs.Common.{ℕ, ◌≡◌, ◌≢◌, ◌<◌, ◌≤◌, ◌^◌, List, Bool, true, false, ◌&&◌, inl, inr, refl, sym, ap, arith, ◌∙◌, nat_le, decimal}
use Rattle.std.specs.Str.{bytes_eq}
use Rattle.std.specs.Str.Parse.{digits_value}
use Rattle.std.proofs.lemmas.Bool.{and_parts, le-leb, leb-true}
use Rattle.std.proofs.lemmas.Bool.Decides.{leb_tells}
use Rattle.std.proofs.lemmas.Fmt.{decimal_is_IsNumeral}
use Rattle.std.proofs.lemmas.Slice.Eq.{bytes_eq-Decides}
use Rattle.base_words.specs.WordNumbers.{is_number, Tells}

le_not : (m n : ℕ) → n < m → nat_le m n ≡ false
le_not m n l = elim (leb_tells m n) [ inl p ↦ absurd (omega (arith, p.1)) | inr p ↦ p.0 ]

-- ## The test, at the value of the digits
abbrev pub is_that : ℕ → ℕ → List ℕ → ℕ → Bool
is_that least most word n = nat_le least n && nat_le n most && bytes_eq word (decimal n)

number_by : (least most : ℕ) (word : List ℕ) → is_number least most word ≡ is_that least most word (digits_value 10 word)
unfolding is_number
number_by least most word = refl

pub value_of_decimal : (n : ℕ) → n < 2 ^ 64 → digits_value 10 (decimal n) ≡ n
value_of_decimal n l = (decimal_is_IsNumeral n l).1

number_at : (least most : ℕ) (word : List ℕ) (n : ℕ) → n < 2 ^ 64 → word ≡ decimal n → is_number least most word ≡ is_that least most word n
number_at least most word n l e = number_by least most word ∙ ap (is_that least most word) (ap (digits_value 10) e ∙ value_of_decimal n l)

all_three : (a b c : Bool) → a ≡ true → b ≡ true → c ≡ true → (a && b && c) ≡ true
all_three a b c e f g = rw (e, f, g) refl

not_first : (a b c : Bool) → a ≡ false → (a && b && c) ≡ false
not_first a b c e = rw e refl

not_second : (a b c : Bool) → b ≡ false → (a && b && c) ≡ false
not_second true b c e = rw e refl
not_second false b c e = refl

-- the words are that number's
pub tells : (least most : ℕ) (word : List ℕ) (n : ℕ) → n < 2 ^ 64 → word ≡ decimal n → least ≤ n → n ≤ most → Tells least most word n
tells least most word n l e a b = (
  number_at least most word n l e ∙ all_three (nat_le least n) (nat_le n most) (bytes_eq word (decimal n)) (le-leb least n a) (le-leb n most b)
      ((bytes_eq-Decides word (decimal n)).1 e),
  sym e,
  a,
  b,
)

pub too_low : (least most : ℕ) (word : List ℕ) (n : ℕ) → n < 2 ^ 64 → word ≡ decimal n → n < least → is_number least most word ≡ false
too_low least most word n l e a = number_at least most word n l e ∙ not_first (nat_le least n) (nat_le n most) (bytes_eq word (decimal n)) (le_not least n a)

pub too_high : (least most : ℕ) (word : List ℕ) (n : ℕ) → n < 2 ^ 64 → word ≡ decimal n → most < n → is_number least most word ≡ false
too_high least most word n l e a = number_at least most word n l e ∙ not_second (nat_le least n) (nat_le n most) (bytes_eq word (decimal n)) (le_not n most a)

-- the number that the word tells
pub told_number : (least most : ℕ) (word : List ℕ) → is_number least most word ≡ true → Tells least most word (digits_value 10 word)
told_number least most word e =
    let n : ℕ = digits_value 10 word in
    let t : ((nat_le least n && nat_le n most) ≡ true) × (bytes_eq word (decimal n) ≡ true) =
    and_parts (nat_le least n && nat_le n most) (bytes_eq word (decimal n)) (sym (number_by least most word) ∙ e) in
    let u : (nat_le least n ≡ true) × (nat_le n most ≡ true) = and_parts (nat_le least n) (nat_le n most) t.0 in
    (e, sym ((bytes_eq-Decides word (decimal n)).0 t.1), leb-true least n u.0, leb-true n most u.1)

pub not_number : (least most : ℕ) (word : List ℕ) → most < 2 ^ 64 → ((n : ℕ) → n < 2 ^ 64 → word ≢ decimal n) → is_number least most word ≡ false
not_number least most word l h = by (is_number least most word) refl
  where
    by : (b : Bool) → is_number least most word ≡ b → b ≡ false
    by true e =
        let t = told_number least most word e in
        let low : digits_value 10 word ≤ most = t.3 in
        absurd (h (digits_value 10 word) (omega arith) (sym t.1))
    by false e = refl

pub ruleset numbers = (tells, too_low, too_high, not_number)
