-- Numbers of a fixed number of digits.
use Rattle.std.proofs.Common.{◌≡◌, ℕ, zero, suc, ◌+◌, ◌*◌, ◌/◌, ◌%◌, ◌^◌, ◌<◌, ◌≤◌, List, [], ◌∷◌, ◌++◌, length, set, get_or, take, drop, refl, sym, ap, subst, ◌∙◌, append_assoc, length-append, arith}
use Rattle.std.specs.Char.{digit_value}
use Rattle.std.specs.Str.Parse.{AllDigits, digits_value}
use Rattle.std.proofs.lemmas.Bool.Decides.{nat_tests}
use Rattle.std.proofs.lemmas.List.{take_all, take_at, take_more, take-set, length-take, drop-set}
use Rattle.std.proofs.lemmas.Int.Digits.{digits_value_push, digits_push}
use Rattle.base_words.specs.Padded.{padded}

pub length-padded : (k n : ℕ) → length (padded k n) ≡ k
unfolding padded
length-padded zero n = refl
length-padded (suc k) n = length-append (padded k (n / 10)) ((48 + n % 10) ∷ []) ∙ omega (arith, length-padded k (n / 10))

digit_byte : (d : ℕ) → d < 10 → digit_value (48 + d) ≡ d
digit_byte d lt = grind (arith, nat_tests)

pub padded_digits : (k n : ℕ) → AllDigits 10 (padded k n)
unfolding padded
padded_digits zero n = tt
padded_digits (suc k) n = digits_push 10 (padded k (n / 10)) (48 + n % 10) (padded_digits k (n / 10)) (omega (arith, digit_byte (n % 10) (omega arith)))

pub value-padded : (k n : ℕ) → n < 10 ^ k → digits_value 10 (padded k n) ≡ n
unfolding padded
value-padded zero n lt = omega (arith, lt)
value-padded (suc k) n lt =
    digits_value_push 10 (padded k (n / 10)) (48 + n % 10)
    ∙ omega (arith, value-padded k (n / 10) (omega (arith, lt)), digit_byte (n % 10) (omega arith))

front_digits : (xs : List ℕ) (c : ℕ) → AllDigits 10 (xs ++ c ∷ []) → AllDigits 10 xs × (digit_value c < 10)
front_digits [] c d = (tt, d.0)
front_digits (x ∷ xs) c d = let r = front_digits xs c d.1 in ((d.0, r.0), r.1)

byte_digit : (c : ℕ) → digit_value c < 10 → 48 + digit_value c ≡ c
byte_digit c lt = grind (arith, nat_tests)

-- so many digits are the text of their value
pub padded-value : (k : ℕ) (ds : List ℕ) → length ds ≡ k → AllDigits 10 ds → padded k (digits_value 10 ds) ≡ ds
unfolding padded
padded-value zero [] len d = refl
padded-value zero (x ∷ ds) len d = absurd (omega (arith, len))
padded-value (suc k) ds len d =
    let c : ℕ = get_or ds k 0 in
    let split : ds ≡ take k ds ++ get_or ds k 0 ∷ [] = sym (take_all (k + 1) ds (omega arith)) ∙ take_more ds k 0 (omega arith) in
    let parts = front_digits (take k ds) (get_or ds k 0) (subst (AllDigits 10) split d) in
    let value : digits_value 10 ds ≡ digits_value 10 (take k ds) * 10 + digit_value (get_or ds k 0) = ap (digits_value 10) split ∙ digits_value_push 10 (take k ds) (get_or ds k 0) in
    let front : digits_value 10 ds / 10 ≡ digits_value 10 (take k ds) = omega (arith, value, parts.1) in
    let end : 48 + digits_value 10 ds % 10 ≡ get_or ds k 0 = omega (arith, value, parts.1, byte_digit (get_or ds k 0) parts.1) in
    (λ i. padded k (front i) ++ (end i ∷ []))
    ∙ ap (λ (x : List ℕ). x ++ (get_or ds k 0 ∷ [])) (padded-value k (take k ds) (omega (arith, length-take k ds)) parts.0)
    ∙ sym split

pub padded_injective : (m n : ℕ) → m ≤ 2 ^ 62 → n ≤ 2 ^ 62 → padded 19 m ≡ padded 19 n → m ≡ n
padded_injective m n p q same = sym (value-padded 19 m (omega arith)) ∙ ap (digits_value 10) same ∙ value-padded 19 n (omega arith)

-- one digit more is written, from the back
pub padded_goes_on : (j k n x : ℕ) (out total : List ℕ) → j ≡ k + 1 → k < length out → x ≡ 48 + n % 10 → total ≡ padded j n ++ drop j out → total ≡ padded k (n / 10) ++ drop k (set out k x)
unfolding padded
padded_goes_on j k n x out total next lt is so_far =
    so_far ∙ ap (λ (i : ℕ). padded i n ++ drop i out) {x = j} {y = suc k} (omega (arith, next))
    ∙ append_assoc (padded k (n / 10)) ((48 + n % 10) ∷ []) (drop (suc k) out)
    ∙ ap (λ (i : ℕ). padded k (n / 10) ++ ((48 + n % 10) ∷ drop i out)) {x = suc k} {y = k + 1} (omega arith)
    ∙ ap (λ (d : ℕ). padded k (n / 10) ++ (d ∷ drop (k + 1) out)) (sym is)
    ∙ ap (λ (r : List ℕ). padded k (n / 10) ++ r) (sym (drop-set out k x lt))

-- zeros in front of the last digits
pub padded_zeros : (j k x : ℕ) (out : List ℕ) → j ≡ k + 1 → k < length out → take j out ≡ padded j 0 → take k (set out k x) ≡ padded k 0
unfolding padded
padded_zeros j k x out next lt are =
    let split : take (k + 1) out ≡ take k out ++ (get_or out k 0 ∷ []) = take_more out k 0 lt in
    let front : take k (take k out ++ (get_or out k 0 ∷ [])) ≡ take k out = take_at (take k out) (get_or out k 0 ∷ []) k (omega (arith, lt, length-take k out)) in
    let last : take k (padded (suc k) 0) ≡ padded k 0 = take_at (padded k 0) (48 ∷ []) k (length-padded k 0) in
    take-set out k x ∙ sym front ∙ ap (take k) (sym split ∙ ap (λ (i : ℕ). take i out) (sym next) ∙ are) ∙ ap (λ (i : ℕ). take k (padded i 0)) {x = j} {y = suc k} (omega (arith, next)) ∙ last
