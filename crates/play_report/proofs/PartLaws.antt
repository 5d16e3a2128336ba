-- Numbers in decimal, and bytes in hexadecimal.
use Rattle.std.proofs.Common.{ℕ, suc, ◌≡◌, ◌<◌, ◌≤◌, ◌+◌, ◌-◌, ◌*◌, ◌/◌, ◌%◌, arith, set, List, [], ◌∷◌, ◌++◌, length, take, drop, get_or, replicate, refl, sym, ◌∙◌, ap, append_assoc, append-nil, decimal}
use Rattle.std.proofs.lemmas.Fmt.{decimal_digit}
use Rattle.std.proofs.lemmas.List.{take_rest, take_more, take_more_set, length-set, drop_more, drop_all, get_or-take, get_or-replicate}
use Rattle.base_words.specs.Hex.{hex_digit, hex_text}
use Rattle.journal_text.specs.Texts.{numbers_text}
use Rattle.journal_text.proofs.PrintLaws.{decimal_short}

-- the digits stand after the place at which they start
pub digits_piece : (n start : ℕ) (buf : List ℕ) → length buf ≡ 20 → drop start buf ≡ decimal n ++ drop 20 (replicate 20 32) → take (20 - start) (drop start buf) ≡ decimal n
digits_piece n start buf size written =
    ap (λ k. take (k - start) (drop start buf)) (sym size) ∙ take_rest buf start ∙ written ∙ append-nil (decimal n)

pub ruleset decimals = (decimal_short, digits_piece)

pub one_digit : (out new : List ℕ) (n : ℕ) → n < 10 → new ≡ out ++ (48 + n) ∷ [] → new ≡ out ++ decimal n
one_digit out new n l e = e ∙ ap (λ x. out ++ x) (sym (decimal_digit n l))

pub numbers_one : (out space new : List ℕ) (n : ℕ) → space ≡ out ++ 32 ∷ [] → new ≡ space ++ decimal n → new ≡ out ++ numbers_text (n ∷ [])
unfolding numbers_text
numbers_one out space new n s e =
    e ∙ ap (λ x. x ++ decimal n) s ∙ append_assoc out (32 ∷ []) (decimal n) ∙ ap (λ x. out ++ x) (sym (append-nil (32 ∷ decimal n)))

pub numbers_two : (out one new : List ℕ) (m n : ℕ) → one ≡ out ++ numbers_text (m ∷ []) → new ≡ one ++ numbers_text (n ∷ []) → new ≡ out ++ numbers_text (m ∷ n ∷ [])
unfolding numbers_text
numbers_two out one new m n o e =
    e ∙ ap (λ x. x ++ numbers_text (n ∷ [])) o ∙ append_assoc out (numbers_text (m ∷ [])) (numbers_text (n ∷ []))
    ∙ ap (λ x. out ++ (x ++ numbers_text (n ∷ []))) (append-nil (32 ∷ decimal m))

-- ## Numbers, from the last to the first
pub numbers-append : (ms ns : List ℕ) → numbers_text (ms ++ ns) ≡ numbers_text ms ++ numbers_text ns
unfolding numbers_text
numbers-append [] ns = refl
numbers-append (m ∷ ms) ns = ap (λ xs. (32 ∷ decimal m) ++ xs) (numbers-append ms ns) ∙ sym (append_assoc (32 ∷ decimal m) (numbers_text ms) (numbers_text ns))

-- spaces stand before a place
abbrev pub AreSpaces : ℕ → List ℕ → Type 0
AreSpaces start digits = (k : ℕ) → k < start → get_or digits k 32 ≡ 32

pub spaces_first : (n : ℕ) → AreSpaces n (replicate n 32)
spaces_first n k l = get_or-replicate n k 32 32 l

pub spaces_kept : (old new : List ℕ) (start at : ℕ) → at ≤ start → take at new ≡ take at old → AreSpaces start old → AreSpaces at new
spaces_kept old new start at l same h k small =
    sym (get_or-take at new k 32 small) ∙ ap (λ (xs : List ℕ). get_or xs k 32) same ∙ get_or-take at old k 32 small ∙ h k (omega (arith, l, small))

pub numbers_last : (numbers : List ℕ) → [] ≡ numbers_text (drop (length numbers) numbers)
unfolding numbers_text
numbers_last numbers = ap numbers_text (sym (drop_all (length numbers) numbers (omega arith)))

-- one more before the others
pub number_written : (numbers old new : List ℕ) (i n start at : ℕ) → i < length numbers → n ≡ get_or numbers i 0 → 0 < at → at ≤ start → at ≤ length new
    → drop at new ≡ decimal n ++ drop start old → take at new ≡ take at old → AreSpaces start old → drop start old ≡ numbers_text (drop (i + 1) numbers)
    → drop (at - 1) new ≡ numbers_text (drop i numbers)
unfolding numbers_text
number_written numbers old new i n start at l is some before size written same spaces rest =
    let next : at - 1 + 1 ≡ at = omega (arith, some) in
    drop_more new (at - 1) 32 (omega (arith, some, size))
    ∙ ap (λ (b : ℕ). b ∷ drop (at - 1 + 1) new) (spaces_kept old new start at before same spaces (at - 1) (omega (arith, some)))
    ∙ ap (λ (k : ℕ). 32 ∷ drop k new) next
    ∙ ap (λ (xs : List ℕ). 32 ∷ xs) (written ∙ ap (λ (xs : List ℕ). decimal n ++ xs) rest)
    ∙ ap (λ (m : ℕ). numbers_text (m ∷ drop (i + 1) numbers)) is
    ∙ ap numbers_text (sym (drop_more numbers i 0 l))

-- ## Hexadecimal digits
pub hex-append : (ms ns : List ℕ) → hex_text (ms ++ ns) ≡ hex_text ms ++ hex_text ns
unfolding hex_text
hex-append [] ns = refl
hex-append (m ∷ ms) ns = ap (λ xs. hex_digit (m / 16) ∷ hex_digit (m % 16) ∷ xs) (hex-append ms ns)

pub hex_nil : 32 ∷ [] ≡ 32 ∷ hex_text []
unfolding hex_text
hex_nil = refl

hex_more : (ns : List ℕ) (i d : ℕ) → i < length ns → hex_text (take (i + 1) ns) ≡ hex_text (take i ns) ++ (hex_digit (get_or ns i d / 16) ∷ hex_digit (get_or ns i d % 16) ∷ [])
unfolding hex_text
hex_more ns i d l = ap hex_text (take_more ns i d l) ∙ hex-append (take i ns) (get_or ns i d ∷ [])

-- two more digits
pub hex_written : (digits bytes : List ℕ) (i a b : ℕ) → length digits ≡ 129 → i < length bytes → length bytes ≤ 64 → take (1 + 2 * i) digits ≡ 32 ∷ hex_text (take i bytes)
    → a ≡ hex_digit (get_or bytes i 0 / 16) → b ≡ hex_digit (get_or bytes i 0 % 16)
    → (length (set (set digits (2 * i + 1) a) (2 * i + 2) b) ≡ 129) × (take (1 + 2 * (i + 1)) (set (set digits (2 * i + 1) a) (2 * i + 2) b) ≡ 32 ∷ hex_text (take (i + 1) bytes))
hex_written digits bytes i a b size l small before first second =
    let one : length (set digits (2 * i + 1) a) ≡ 129 = length-set digits (2 * i + 1) a ∙ size in
    let two : 1 + 2 * (i + 1) ≡ 2 * i + 2 + 1 = omega arith in
    let mid : 2 * i + 2 ≡ 2 * i + 1 + 1 = omega arith in
    let low : 2 * i + 1 ≡ 1 + 2 * i = omega arith in (
      length-set (set digits (2 * i + 1) a) (2 * i + 2) b ∙ one,
      ap (λ k. take k (set (set digits (2 * i + 1) a) (2 * i + 2) b)) two ∙ take_more_set (set digits (2 * i + 1) a) (2 * i + 2) b (omega (arith, one, l, small))
          ∙ ap (λ k. take k (set digits (2 * i + 1) a) ++ b ∷ []) mid
          ∙ ap (λ xs. xs ++ b ∷ []) (take_more_set digits (2 * i + 1) a (omega (arith, size, l, small))) ∙ ap (λ k. (take k digits ++ a ∷ []) ++ b ∷ []) low
          ∙ ap (λ xs. (xs ++ a ∷ []) ++ b ∷ []) before
          ∙ append_assoc (32 ∷ hex_text (take i bytes)) (a ∷ []) (b ∷ []) ∙ ap (λ x. 32 ∷ hex_text (take i bytes) ++ x ∷ b ∷ []) first
          ∙ ap (λ x. 32 ∷ hex_text (take i bytes) ++ hex_digit (get_or bytes i 0 / 16) ∷ x ∷ []) second
          ∙ ap (λ (xs : List ℕ). 32 ∷ xs) (sym (hex_more bytes i 0 l)),
    )

part_of : (k : ℕ) (digits text : List ℕ) → take (suc k) digits ≡ 32 ∷ text → take k (drop 1 digits) ≡ text
part_of k [] text e = absurd (cc e)
part_of k (d ∷ digits) text e = ap (drop 1) e

-- the digits without the space
pub digits_part : (digits bytes : List ℕ) → take (1 + 2 * length bytes) digits ≡ 32 ∷ hex_text bytes → take (1 + 2 * length bytes - 1) (drop 1 digits) ≡ hex_text bytes
digits_part digits bytes e =
    let size : 1 + 2 * length bytes ≡ suc (2 * length bytes) = omega arith in
    let less : 1 + 2 * length bytes - 1 ≡ 2 * length bytes = omega arith in
    ap (λ k. take k (drop 1 digits)) less ∙ part_of (2 * length bytes) digits (hex_text bytes) (ap (λ k. take k digits) (sym size) ∙ e)
