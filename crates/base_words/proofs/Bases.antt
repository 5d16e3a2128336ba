-- Digits in a base from 2 to 10: a text of them without a leading zero is that of its value.
use Rattle.std.proofs.Common.{◌≡◌, ℕ, zero, suc, ◌+◌, ◌-◌, ◌*◌, ◌/◌, ◌%◌, ◌^◌, ◌<◌, ◌≤◌, Bool, false, cond, List, [], ◌∷◌, ◌++◌, length, get_or, take}
use Rattle.std.proofs.Common.{drop, refl, sym, ap, subst, ◌∙◌, append_assoc, arith, inl, inr, ⊎_elim, ◌⊎◌}
use Rattle.std.specs.Fmt.{digits, digits_onto, digit_glyph}
use Rattle.std.specs.Char.{digit_value}
use Rattle.std.specs.Str.Parse.{AllDigits, digits_value, digits_value_after}
use Rattle.std.proofs.lemmas.Bool.{cases_lt}
use Rattle.std.proofs.lemmas.Bool.Decides.{nat_tests}
use Rattle.std.proofs.lemmas.List.{append-nil, take-append-drop, drop_more, nil_from_length, get_or_append_left}
use Rattle.std.proofs.lemmas.Nat.{row_below_turned, div-mul-add, mod-mul-add}
use Rattle.std.proofs.Math.Nat.{div-eq_of_lt, le-div_iff_mul-le, mod-lt, mul-le-mul_left, div-add-mod, div-mul-le_self, pow-le-pow_left}
use Rattle.std.proofs.lemmas.Fmt.{digits_is_IsNumeral}
use borrow.Author.Tests.{eq-eqb, ne_eqb}
use Rattle.base_words.specs.Numbers.{IsNumber}

-- ---- one digit

-- the byte of a digit, and its value
pub digit_of_byte : (base c : ℕ) → base ≤ 10 → 48 ≤ c → c - 48 < base → digit_value c ≡ c - 48
digit_of_byte base c high from below = grind (arith, nat_tests)

byte_of_digit : (base c : ℕ) → base ≤ 10 → digit_value c < base → (48 ≤ c) × (c ≡ 48 + digit_value c)
byte_of_digit base c high d = (grind (arith, nat_tests), grind (arith, nat_tests))

pub digit_at : (base : ℕ) (bytes : List ℕ) (i : ℕ) → AllDigits base bytes → i < length bytes → digit_value (get_or bytes i 0) < base
digit_at base [] i d lt = absurd (omega arith)
digit_at base (c ∷ cs) zero d lt = d.0
digit_at base (c ∷ cs) (suc i) d lt = digit_at base cs i d.1 (omega arith)

-- a byte that is no digit
pub not_digit : (base : ℕ) (bytes : List ℕ) (i c : ℕ) → base ≤ 10 → i < length bytes → c ≡ get_or bytes i 0 → (48 ≤ c → base ≤ c - 48) → AllDigits base bytes → ⊥
not_digit base bytes i c high lt is apart d =
    let at : digit_value c < base = rw is (digit_at base bytes i d lt) in
    let b = byte_of_digit base c high at in
    omega (arith, apart b.0, b.1, at)

-- ---- values only grow

grows : (base n : ℕ) (ds : List ℕ) → 1 ≤ base → n ≤ digits_value_after base n ds
grows base n [] low = omega arith
grows base n (c ∷ cs) low = omega (arith, mul-le-mul_left n low, grows base (n * base + digit_value c) cs low)

after-append : (base n : ℕ) (xs ys : List ℕ) → digits_value_after base n (xs ++ ys) ≡ digits_value_after base (digits_value_after base n xs) ys
after-append base n [] ys = refl
after-append base n (x ∷ xs) ys = after-append base (n * base + digit_value x) xs ys

-- the value of a front, with one digit more, is no greater than the whole
pub front_is_less : (base : ℕ) (bytes : List ℕ) (i : ℕ) → 1 ≤ base → i < length bytes → digits_value base (take i bytes) * base + digit_value (get_or bytes i 0) ≤ digits_value base bytes
front_is_less base bytes i low lt =
    let whole : digits_value base bytes ≡ digits_value_after base (digits_value base (take i bytes)) (drop i bytes) =
    ap (digits_value base) (sym (take-append-drop i bytes)) ∙ after-append base 0 (take i bytes) (drop i bytes) in
    let next = drop_more bytes i 0 lt in
    let one : digits_value base bytes ≡ digits_value_after base (digits_value base (take i bytes) * base + digit_value (get_or bytes i 0))
    (drop (i + 1) bytes) = whole ∙ ap (digits_value_after base (digits_value base (take i bytes))) next in
    omega (arith, one, grows base (digits_value base (take i bytes) * base + digit_value (get_or bytes i 0)) (drop (i + 1) bytes) low)

-- ---- the text of a number, digit by digit

module _ (base : ℕ) (low : 2 ≤ base) (high : base ≤ 10) where
  abbrev spell : ℕ → ℕ → List ℕ → List ℕ
  spell k n acc = digits_onto k base false n acc

  abbrev last : ℕ → ℕ
  last n = digit_glyph false (n % base)

  half : (n k : ℕ) → n < 2 ^ suc k → n / base < 2 ^ k
  half n k lt = (row_below_turned n base (2 ^ k) 2 (omega (arith, lt)) low).1

  none_left : (n : ℕ) → n < base → n / base ≡ 0
  none_left n lt = div-eq_of_lt lt

  some_left : (n : ℕ) → base ≤ n → n / base ≡ 0 → ⊥
  some_left n le is = let p : 0 < base = omega arith in omega (arith, is, (le-div_iff_mul-le {k = base} {x = 1} {y = n} p).1 (omega arith))

  spell_last : (k n : ℕ) (acc : List ℕ) → n < base → spell (suc k) n acc ≡ last n ∷ acc
  spell_last k n acc lt = ap (λ (t : Bool). cond t (last n ∷ acc) (spell k (n / base) (last n ∷ acc))) (eq-eqb (n / base) 0 (none_left n lt))

  spell_next : (k n : ℕ) (acc : List ℕ) → base ≤ n → spell (suc k) n acc ≡ spell k (n / base) (last n ∷ acc)
  spell_next k n acc le = ap (λ (t : Bool). cond t (last n ∷ acc) (spell k (n / base) (last n ∷ acc))) (ne_eqb (n / base) 0 (some_left n le))

  -- the digits stand before those that are there, whatever room was left
  onto : (k j n : ℕ) (acc : List ℕ) → n < 2 ^ suc k → n < 2 ^ suc j → spell (suc k) n acc ≡ spell (suc j) n [] ++ acc
  onto zero j n acc p q = spell_last zero n acc (omega (arith, p, low)) ∙ ap (λ (ds : List ℕ). ds ++ acc) (sym (spell_last j n [] (omega (arith, p, low))))
  onto (suc k) zero n acc p q = spell_last (suc k) n acc (omega (arith, q, low)) ∙ ap (λ (ds : List ℕ). ds ++ acc) (sym (spell_last zero n [] (omega (arith, q, low))))
  onto (suc k) (suc j) n acc p q =
      elim (cases_lt n base) [
        | inl lt ↦ spell_last (suc k) n acc lt ∙ ap (λ (ds : List ℕ). ds ++ acc) (sym (spell_last (suc j) n [] lt))
        | inr le ↦
            spell_next (suc k) n acc le ∙ onto k j (n / base) (last n ∷ acc) (half n (suc k) p) (half n (suc j) q)
            ∙ sym (append_assoc (spell (suc j) (n / base) []) (last n ∷ []) acc)
            ∙ ap (λ (ds : List ℕ). ds ++ acc) (sym (spell_next (suc j) n [] le ∙ onto j j (n / base) (last n ∷ []) (half n (suc j) q) (half n (suc j) q)))
      ]

  whole : (n : ℕ) → spell 64 n [] ≡ digits base false n
  unfolding digits
  whole n = refl

  glyph : (d : ℕ) → d < 10 → digit_glyph false d ≡ 48 + d
  glyph d lt = grind (arith, nat_tests)

  last_is : (n : ℕ) → last n ≡ 48 + n % base
  last_is n = let p : 0 < base = omega arith in glyph (n % base) (omega (arith, mod-lt n p))

  one_digit : (n : ℕ) → n < base → digits base false n ≡ (48 + n) ∷ []
  one_digit n lt = sym (whole n) ∙ spell_last 63 n [] lt ∙ ap (λ (d : ℕ). d ∷ [])
      (last_is n ∙ ap (λ (d : ℕ). 48 + d) (let e = div-add-mod n base in omega (arith, e, none_left n lt, ap (λ (q : ℕ). base * q) (none_left n lt))))

  digits_step : (n : ℕ) → base ≤ n → n < 2 ^ 64 → digits base false n ≡ digits base false (n / base) ++ (48 + n % base) ∷ []
  digits_step n le lt =
      sym (whole n) ∙ spell_next 63 n [] le ∙ onto 62 63 (n / base) (last n ∷ []) (half n 63 lt) (omega (arith, half n 63 lt))
      ∙ (λ i. whole (n / base) i ++ (last_is n i ∷ []))

  -- the last digit is written before those that are there
  pub digits_push : (n : ℕ) (rest : List ℕ) → base ≤ n → n < 2 ^ 64 → digits base false n ++ rest ≡ digits base false (n / base) ++ (48 + n % base) ∷ rest
  digits_push n rest le lt = ap (λ (x : List ℕ). x ++ rest) (digits_step n le lt) ∙ append_assoc (digits base false (n / base)) ((48 + n % base) ∷ []) rest

  pub first_digit : (n : ℕ) (rest : List ℕ) → n < base → digits base false n ++ rest ≡ (48 + n) ∷ rest
  first_digit n rest lt = ap (λ (x : List ℕ). x ++ rest) (one_digit n lt)

  -- the places that are left are enough for what is left
  pub room_left : (n at : ℕ) → base ≤ n → n < 2 ^ at → (2 ≤ at) × (n / base < 2 ^ (at - 1))
  room_left n zero le lt = absurd (omega (arith, le, low, lt))
  room_left n (suc zero) le lt = absurd (omega (arith, le, low, lt))
  room_left n (suc (suc k)) le lt = let same : suc (suc k) - 1 ≡ suc k = omega arith in let P : ℕ → Type 0 = λ j. n / base < 2 ^ j in (omega arith, subst P (sym same) (half n (suc k) lt))

  digits_after : (n : ℕ) (ds : List ℕ) → 0 < n → AllDigits base ds → digits_value_after base n ds < 2 ^ 64 → digits base false (digits_value_after base n ds) ≡ digits base false n ++ ds
  digits_after n [] some d lt = sym (append-nil (digits base false n))
  digits_after n (c ∷ cs) some d lt =
      let m : ℕ = n * base + digit_value c in
      let more : n * base + digit_value c ≤ digits_value_after base (n * base + digit_value c) cs = grows base (n * base + digit_value c) cs (omega arith) in
      let great : base ≤ n * base + digit_value c = omega (arith, mul-le-mul_left base some) in
      let front : (n * base + digit_value c) / base ≡ n = div-mul-add n base (digit_value c) d.0 in
      let end : 48 + (n * base + digit_value c) % base ≡ c = omega (arith, mod-mul-add n base (digit_value c) d.0, (byte_of_digit base c high d.0).1) in
      digits_after (n * base + digit_value c) cs (omega arith) d.1 lt
      ∙ ap (λ (x : List ℕ). x ++ cs) (digits_step (n * base + digit_value c) great (omega arith) ∙ (λ i. digits base false (front i) ++ (end i ∷ [])))
      ∙ append_assoc (digits base false n) (c ∷ []) cs

  -- digits without a leading zero are the text of their value
  pub text_of_value : (c : ℕ) (cs : List ℕ) → AllDigits base (c ∷ cs) → (c ≡ 48 → cs ≡ []) → digits_value base (c ∷ cs) < 2 ^ 64 → digits base false (digits_value base (c ∷ cs)) ≡ c ∷ cs
  text_of_value c [] d lead lt =
      let same : 0 * base + digit_value c ≡ digit_value c = omega arith in
      ap (digits base false) same ∙ one_digit (digit_value c) d.0 ∙ ap (λ (x : ℕ). x ∷ []) (sym (byte_of_digit base c high d.0).1)
  text_of_value c (e ∷ cs) d lead lt =
      let same : 0 * base + digit_value c ≡ digit_value c = omega arith in
      let b = byte_of_digit base c high d.0 in
      let some : 0 < digit_value c = at_least (cases_lt 0 (digit_value c)) in
      let P : ℕ → Type 0 = λ n. digits base false (digits_value_after base n (e ∷ cs)) ≡ c ∷ e ∷ cs in
      let small : digits_value_after base (digit_value c) (e ∷ cs) < 2 ^ 64 = rw same at lt in
      subst P (sym same) (digits_after (digit_value c) (e ∷ cs) some d.1 small ∙ ap (λ (x : List ℕ). x ++ (e ∷ cs)) (one_digit (digit_value c) d.0 ∙ ap (λ (x : ℕ). x ∷ []) (sym b.1)))
    where
      at_least : (0 < digit_value c) ⊎ (digit_value c ≤ 0) → 0 < digit_value c
      at_least (inl p) = p
      at_least (inr p) = let z : c ≡ 48 = omega (arith, (byte_of_digit base c high d.0).1) in let none_more = lead z in absurd cc

-- a number that passes the limit with one digit more passes it as a whole
pub too_great : (base : ℕ) (bytes : List ℕ) (i value digit limit : ℕ) → 1 ≤ base → i < length bytes → value ≡ digits_value base (take i bytes)
    → digit ≤ digit_value (get_or bytes i 0) → limit ≤ value * base + digit → limit ≤ digits_value base bytes
too_great base bytes i value digit limit low lt is le great = omega (arith, front_is_less base bytes i low lt, ap (λ (v : ℕ). v * base) is)

-- a text of digits without a leading zero is that of its value, and of no other number
pub number_is : (base : ℕ) (low : 2 ≤ base) (high : base ≤ 10) (bytes : List ℕ) (n : ℕ) → n < 2 ^ 64 → 0 < length bytes
    → (get_or bytes 0 0 ≡ 48 → length bytes ≤ 1) → AllDigits base bytes × (n ≡ digits_value base bytes) → IsNumber base bytes n
number_is base low high [] n lt some lead is = absurd (omega arith)
number_is base low high (c ∷ cs) n lt some lead is = (
  lt,
  sym (ap (digits base false) is.1
      ∙ text_of_value base low high c cs is.0 (λ z. nil_from_length cs (omega (arith, lead z))) (omega (arith, is.1))),
)

below_power : (b m : ℕ) → 2 ≤ b → m < 2 ^ 64 → m < b ^ 64
below_power b m le lt = omega (arith, lt, pow-le-pow_left le 64)

pub digits_of_number : (base : ℕ) (low : 2 ≤ base) (high : base ≤ 10) (bytes : List ℕ) (n : ℕ) → IsNumber base bytes n → AllDigits base bytes × (digits_value base bytes ≡ n) × (0 < length bytes)
digits_of_number base low high bytes n is =
    let d = digits_is_IsNumeral base false low (omega arith) n (below_power base n low is.0) in
    let P : List ℕ → Type 0 = λ ds. AllDigits base ds × (digits_value base ds ≡ n) × (0 < length ds) in
    subst P (sym is.1) (d.0.1, d.1, d.0.0)

-- a longer text of a number doesn't begin with a zero
pub no_leading_zero : (base : ℕ) (low : 2 ≤ base) (high : base ≤ 10) (bytes : List ℕ) (n : ℕ) → 2 ≤ length bytes → get_or bytes 0 0 ≡ 48 → IsNumber base bytes n → ⊥
no_leading_zero base low high bytes n long zero_first is =
    ⊎_elim
    (λ l. omega (arith, long, ap length (is.1 ∙ one_digit base low high n l)))
    (λ l. omega (arith, zero_first, first_of (suc n) n (omega arith) (omega arith) is.0, ap (λ (x : List ℕ). get_or x 0 0) is.1))
    (cases_lt n base)
  where
    -- the first digit of a number isn't 0
    first_of : (turns m : ℕ) → m < turns → 0 < m → m < 2 ^ 64 → 48 < get_or (digits base false m) 0 0
    first_of zero m lt some small = absurd (omega arith)
    first_of (suc turns) m lt some small =
        ⊎_elim
        (λ l. omega (arith, ap (λ (x : List ℕ). get_or x 0 0) (one_digit base low high m l), some))
        (λ l.
        let left : 0 < m / base = let p : 0 < base = omega arith in (le-div_iff_mul-le {k = base} {x = 1} {y = m} p).1 (omega arith) in
        let less : m / base < turns = omega (arith, mul-le-mul_left (m / base) low, div-mul-le_self m base) in
        let below : m / base < 2 ^ 64 = omega (arith, mul-le-mul_left (m / base) low, div-mul-le_self m base) in
        let digits_left = (digits_is_IsNumeral base false low (omega arith) (m / base) (below_power base (m / base) low below)).0.0 in
        omega (
          arith,
          first_of turns (m / base) less left below,
          ap (λ (x : List ℕ). get_or x 0 0) (digits_step base low high m l small),
          get_or_append_left (digits base false (m / base)) ((48 + m % base) ∷ []) 0 0 digits_left,
        ))
        (cases_lt m base)
