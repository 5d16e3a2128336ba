-- Hexadecimal digits: how they are printed and read, and that each undoes the other.
use Rattle.std.proofs.Common.{ℕ, ◌≡◌, ◌<◌, ◌≤◌, ◌+◌, ◌-◌, ◌*◌, ◌/◌, ◌%◌, ◌==◌, ◌&&◌, List, [], ◌∷◌, ◌++◌, length, take, drop, get_or, set, Option}
use Rattle.std.proofs.Common.{Some, None, Bool, true, false, cond, nat_lt, nat_le, refl, sym, ap, subst, ◌∙◌, arith, append_assoc, append-nil}
use Rattle.std.proofs.Common.{if◌then◌else◌, inl, inr}
use Rattle.std.specs.List.{list_all, AllByRecursion}
use Rattle.std.specs.Char.{is_ascii_graphic}
use Rattle.std.proofs.lemmas.Bool.{cases_lt}
use Rattle.std.proofs.lemmas.Bool.Decides.{nat_tests}
use Rattle.std.proofs.lemmas.List.{take_rest, take_more, take_more_set, length-set, nil_from_length}
use Rattle.base_words.specs.Hex.{IsByte, hex_digit, hex_text, digit_in, byte_on, bytes_in}
use Rattle.base_words.proofs.AppendLaws.{Keeps-same, Keeps-more, Keeps-on}

-- ## Printing
pub length-hex_text : (bytes : List ℕ) → length (hex_text bytes) ≡ 2 * length bytes
unfolding hex_text
length-hex_text [] = refl
length-hex_text (b ∷ bytes) = let e = length-hex_text bytes in omega (arith, e)

hex-append : (ms ns : List ℕ) → hex_text (ms ++ ns) ≡ hex_text ms ++ hex_text ns
unfolding hex_text
hex-append [] ns = refl
hex-append (m ∷ ms) ns = ap (λ xs. hex_digit (m / 16) ∷ hex_digit (m % 16) ∷ xs) (hex-append ms ns)

hex_more : (ns : List ℕ) (i d : ℕ) → i < length ns → hex_text (take (i + 1) ns) ≡ hex_text (take i ns) ++ (hex_digit (get_or ns i d / 16) ∷ hex_digit (get_or ns i d % 16) ∷ [])
unfolding hex_text
hex_more ns i d l = ap hex_text (take_more ns i d l) ∙ hex-append (take i ns) (get_or ns i d ∷ [])

pub hex_nil : [] ≡ hex_text []
unfolding hex_text
hex_nil = refl

pub hex_none : (old : List ℕ) → old ++ hex_text [] ≡ old
unfolding hex_text
hex_none old = append-nil old

-- two more digits
pub hex_written : (digits bytes : List ℕ) (i a b : ℕ) → length digits ≡ 64 → i < length bytes → length bytes ≤ 32 → take (2 * i) digits ≡ hex_text (take i bytes)
    → a ≡ hex_digit (get_or bytes i 0 / 16) → b ≡ hex_digit (get_or bytes i 0 % 16)
    → (length (set (set digits (2 * i) a) (2 * i + 1) b) ≡ 64) × (take (2 * (i + 1)) (set (set digits (2 * i) a) (2 * i + 1) b) ≡ hex_text (take (i + 1) bytes))
hex_written digits bytes i a b size l small before first second =
    let one : length (set digits (2 * i) a) ≡ 64 = length-set digits (2 * i) a ∙ size in
    let two : 2 * (i + 1) ≡ 2 * i + 1 + 1 = omega arith in (
      length-set (set digits (2 * i) a) (2 * i + 1) b ∙ one,
      ap (λ k. take k (set (set digits (2 * i) a) (2 * i + 1) b)) two ∙ take_more_set (set digits (2 * i) a) (2 * i + 1) b (omega arith)
          ∙ ap (λ xs. xs ++ b ∷ []) (take_more_set digits (2 * i) a (omega arith)) ∙ ap (λ xs. xs ++ a ∷ [] ++ b ∷ []) before
          ∙ append_assoc (hex_text (take i bytes)) (a ∷ []) (b ∷ []) ∙ ap (λ x. hex_text (take i bytes) ++ x ∷ b ∷ []) first
          ∙ ap (λ x. hex_text (take i bytes) ++ hex_digit (get_or bytes i 0 / 16) ∷ x ∷ []) second
          ∙ sym (hex_more bytes i 0 l),
    )

-- the text of the front was added, that of the rest is left
pub hex_step : (old mid new rest front back digits all : List ℕ) → mid ++ hex_text rest ≡ old ++ hex_text all → rest ≡ front ++ back → digits ≡ hex_text front → new ≡ mid ++ digits
    → new ++ hex_text back ≡ old ++ hex_text all
hex_step old mid new rest front back digits all h r d n =
    ap (λ x. x ++ hex_text back) (n ∙ ap (λ x. mid ++ x) d) ∙ append_assoc mid (hex_text front) (hex_text back)
    ∙ ap (λ x. mid ++ x) (sym (hex-append front back) ∙ ap hex_text (sym r)) ∙ h

pub hex_end : (old new rest all : List ℕ) → new ++ hex_text rest ≡ old ++ hex_text all → length rest ≡ 0 → new ≡ old ++ hex_text all
hex_end old new rest all h e =
    let none : rest ≡ [] = nil_from_length rest e in
    sym (hex_none new) ∙ ap (λ xs. new ++ hex_text xs) (sym none) ∙ h

pub ruleset prints = (Keeps-same, Keeps-more, Keeps-on, hex_none)

-- ## Reading
-- what was read, and what the rest says
abbrev pub prepend : {A : Type 0} → List A → Option (List A) → Option (List A)
prepend xs None = None
prepend xs (Some ys) = Some (xs ++ ys)

pub prepend_nil : {A : Type 0} (o : Option (List A)) → prepend [] o ≡ o
prepend_nil None = refl
prepend_nil (Some ys) = refl

byte_prepends : (xs : List ℕ) (x y : ℕ) (o : Option (List ℕ)) → prepend (xs ++ (16 * x + y) ∷ []) o ≡ prepend xs (byte_on (Some x) (Some y) o)
byte_prepends xs x y None = refl
byte_prepends xs x y (Some bs) = ap (λ (zs : List ℕ). let o : Option (List ℕ) = Some zs in o) (append_assoc xs ((16 * x + y) ∷ []) bs)

-- one byte more
byte_more : (xs rest : List ℕ) (a b x y : ℕ) (all : Option (List ℕ)) → prepend xs (bytes_in (a ∷ b ∷ rest)) ≡ all → Some x ≡ digit_in a
    → Some y ≡ digit_in b → prepend (xs ++ (16 * x + y) ∷ []) (bytes_in rest) ≡ all
byte_more xs rest a b x y all h p q =
    byte_prepends xs x y (bytes_in rest) ∙ ap (λ o. prepend xs (byte_on o (Some y) (bytes_in rest))) p ∙ ap (λ o. prepend xs (byte_on (digit_in a) o (bytes_in rest))) q ∙ h

no_low : (o : Option ℕ) (bs : Option (List ℕ)) → byte_on o None bs ≡ None
no_low None bs = refl
no_low (Some x) bs = refl

pub high_stops : (xs rest : List ℕ) (a b : ℕ) (all : Option (List ℕ)) → prepend xs (bytes_in (a ∷ b ∷ rest)) ≡ all → None ≡ digit_in a → all ≡ None
high_stops xs rest a b all h e = sym h ∙ ap (λ o. prepend xs (byte_on o (digit_in b) (bytes_in rest))) (sym e)

pub low_stops : (xs rest : List ℕ) (a b : ℕ) (all : Option (List ℕ)) → prepend xs (bytes_in (a ∷ b ∷ rest)) ≡ all → None ≡ digit_in b → all ≡ None
low_stops xs rest a b all h e = sym h ∙ ap (λ o. prepend xs (byte_on (digit_in a) o (bytes_in rest))) (sym e) ∙ ap (prepend xs) (no_low (digit_in a) (bytes_in rest))

-- the first two
pub pair_of : (xs : List ℕ) → 2 ≤ length xs → xs ≡ get_or xs 0 0 ∷ (get_or xs 1 0 ∷ take (length xs - 2) (drop 2 xs))
pair_of [] h = absurd (omega arith)
pair_of (x ∷ []) h = absurd (omega arith)
pair_of (x ∷ y ∷ zs) h = ap (λ (us : List ℕ). x ∷ (y ∷ us)) (sym (take_rest (x ∷ y ∷ zs) 2))

-- two more digits are read
pub pair_read : (word rest bytes : List ℕ) (at x y b : ℕ) → 2 ≤ length rest → at < length bytes → prepend (take at bytes) (bytes_in rest) ≡ bytes_in word → 2 * at + length rest ≡ length word
    → Some x ≡ digit_in (get_or rest 0 0) → Some y ≡ digit_in (get_or rest 1 0) → b ≡ 16 * x + y
    → (prepend (take (at + 1) (set bytes at b)) (bytes_in (take (length rest - 2) (drop 2 rest))) ≡ bytes_in word) × (2 * (at + 1) + length (take (length rest - 2) (drop 2 rest)) ≡ length word)
pair_read word rest bytes at x y b l k h two p q e =
    let others : List ℕ = take (length rest - 2) (drop 2 rest) in
    let pair : rest ≡ get_or rest 0 0 ∷ (get_or rest 1 0 ∷ others) = pair_of rest l in
    let long : length rest ≡ length (get_or rest 0 0 ∷ (get_or rest 1 0 ∷ others)) = ap length pair in
    let more : take (at + 1) (set bytes at b) ≡ take at bytes ++ (16 * x + y) ∷ [] = take_more_set bytes at b k ∙ ap (λ v. take at bytes ++ v ∷ []) e in (
      ap (λ (zs : List ℕ). prepend zs (bytes_in others)) more
          ∙ byte_more (take at bytes) others (get_or rest 0 0) (get_or rest 1 0) x y (bytes_in word) (ap (λ (us : List ℕ). prepend (take at bytes) (bytes_in us)) (sym pair) ∙ h) p q,
      omega (arith, long, two),
    )

-- no two digits are left
pub reading_ends : (word rest bytes : List ℕ) (at : ℕ) → prepend (take at bytes) (bytes_in rest) ≡ bytes_in word → 2 * at + length rest ≡ length word → length rest < 2
    → bytes_in word ≡ (if length rest == 0 then Some (take (length word / 2) bytes) else None)
reading_ends word [] bytes at h two l =
    let half : at ≡ length word / 2 = omega (arith, two) in
    sym h ∙ ap (λ (zs : List ℕ). let o : Option (List ℕ) = Some zs in o) (append-nil (take at bytes)) ∙ ap (λ k. let o : Option (List ℕ) = Some (take k bytes) in o) half
reading_ends word (a ∷ []) bytes at h two l = sym h
reading_ends word (a ∷ b ∷ cs) bytes at h two l = absurd (omega arith)

pub ruleset reads = (prepend_nil, high_stops, low_stops, reading_ends)

-- ## What is printed is read
digit_back : (d : ℕ) → d < 16 → digit_in (hex_digit d) ≡ Some d
digit_back d h = elim (cases_lt d 10) [ inl l ↦ low d l | inr l ↦ high d l h ]
  where
    low : (d : ℕ) → d < 10 → digit_in (hex_digit d) ≡ Some d
    low d l =
        let a : nat_lt d 10 ≡ true = grind (arith, nat_tests, l) in
        let b : nat_le 48 (48 + d) ≡ true = grind (arith, nat_tests) in
        let c : nat_le (48 + d) 57 ≡ true = grind (arith, nat_tests, l) in
        let e : 48 + d - 48 ≡ d = omega arith in
        rw (a, b, c, e) refl

    high : (d : ℕ) → 10 ≤ d → d < 16 → digit_in (hex_digit d) ≡ Some d
    high d l h =
        let a : nat_lt d 10 ≡ false = grind (arith, nat_tests, l) in
        let b : nat_le 48 (87 + d) ≡ true = grind (arith, nat_tests) in
        let c : nat_le (87 + d) 57 ≡ false = grind (arith, nat_tests, l) in
        let f : nat_le 97 (87 + d) ≡ true = grind (arith, nat_tests, l) in
        let g : nat_le (87 + d) 102 ≡ true = grind (arith, nat_tests, h) in
        let e : 87 + d - 87 ≡ d = omega arith in
        rw (a, b, c, f, g, e) refl

pub bytes_back : (bs : List ℕ) → AllByRecursion IsByte bs → bytes_in (hex_text bs) ≡ Some bs
unfolding hex_text
bytes_back [] h = refl
bytes_back (b ∷ bs) h =
    let high : b / 16 < 16 = (let l : b < 256 = h.0 in omega arith) in
    let low : b % 16 < 16 = omega arith in
    let whole : 16 * (b / 16) + b % 16 ≡ b = omega arith in
    ap (λ o. byte_on o (digit_in (hex_digit (b % 16))) (bytes_in (hex_text bs))) (digit_back (b / 16) high)
    ∙ ap (λ o. byte_on (Some (b / 16)) o (bytes_in (hex_text bs))) (digit_back (b % 16) low)
    ∙ ap (λ (o : Option (List ℕ)). byte_on (Some (b / 16)) (Some (b % 16)) o) (bytes_back bs h.1)
    ∙ ap (λ n. let o : Option (List ℕ) = Some (n ∷ bs) in o) whole

-- ## What is read was printed
-- the word is the text of these bytes
pub record IsHexOf (word written : List ℕ) : Type 0 where
  pub text : hex_text written ≡ word
  pub bytes : AllByRecursion IsByte written

digit_by : (c d : ℕ) (low high : Bool) → (nat_le 48 c && nat_le c 57) ≡ low → (nat_le 97 c && nat_le c 102) ≡ high
    → cond low (let o : Option ℕ = Some (c - 48) in o) (cond high (Some (c - 87)) None) ≡ Some d → (d < 16) × (hex_digit d ≡ c)
digit_by c d true high l h e = let is : c - 48 ≡ d = cc in let small : d < 10 = grind (arith, nat_tests, l, is) in let t : nat_lt d 10 ≡ true =
    grind (arith, nat_tests, small) in (omega (arith, small), rw t (grind (arith, nat_tests, l, is)))
digit_by c d false true l h e = let is : c - 87 ≡ d = cc in let large : 10 ≤ d = grind (arith, nat_tests, h, is) in let t : nat_lt d 10 ≡ false =
    grind (arith, nat_tests, large) in (grind (arith, nat_tests, h, is), rw t (grind (arith, nat_tests, h, is)))
digit_by c d false false l h e = absurd cc

digit_found : (c d : ℕ) → digit_in c ≡ Some d → (d < 16) × (hex_digit d ≡ c)
digit_found c d e = digit_by c d (nat_le 48 c && nat_le c 57) (nat_le 97 c && nat_le c 102) refl refl e

pair_by : (a b : ℕ) (cs bytes : List ℕ) (x y : Option ℕ) (rest : Option (List ℕ)) → digit_in a ≡ x → digit_in b ≡ y → bytes_in cs ≡ rest → ((bs : List ℕ) → bytes_in cs ≡ Some bs → IsHexOf cs bs)
    → byte_on x y rest ≡ Some bytes → IsHexOf (a ∷ b ∷ cs) bytes
unfolding hex_text
pair_by a b cs bytes None y rest p q r more e = absurd cc
pair_by a b cs bytes (Some x) None rest p q r more e = absurd cc
pair_by a b cs bytes (Some x) (Some y) None p q r more e = absurd cc
pair_by a b cs bytes (Some x) (Some y) (Some bs) p q r more e =
    let is : (16 * x + y) ∷ bs ≡ bytes = cc in
    let high = digit_found a x p in
    let low = digit_found b y q in
    let first : (16 * x + y) / 16 ≡ x = omega (arith, high.0, low.0) in
    let second : (16 * x + y) % 16 ≡ y = omega (arith, high.0, low.0) in
    let others = more bs r in
    let byte : 16 * x + y < 256 = omega (arith, high.0, low.0) in
    subst (IsHexOf (a ∷ b ∷ cs)) is (record {
      text = (λ i. (ap hex_digit first ∙ high.1) i ∷ ((ap hex_digit second ∙ low.1) i ∷ others.text i));
      bytes = (byte, others.bytes);
    })

pub bytes_found : (word bytes : List ℕ) → bytes_in word ≡ Some bytes → IsHexOf word bytes
unfolding hex_text
bytes_found [] bytes e = let is : [] ≡ bytes = cc in subst (IsHexOf []) is (record { text = refl; bytes = tt })
bytes_found (a ∷ []) bytes e = absurd cc
bytes_found (a ∷ b ∷ cs) bytes e = pair_by a b cs bytes (digit_in a) (digit_in b) (bytes_in cs) refl refl refl (λ bs r. bytes_found cs bs r) e

-- ## Digits are no spaces
digit_graphic : (d : ℕ) → d < 16 → is_ascii_graphic (hex_digit d) ≡ true
digit_graphic d lt = grind (arith, nat_tests)

pub hex_graphic : (bytes : List ℕ) → AllByRecursion IsByte bytes → list_all is_ascii_graphic (hex_text bytes) ≡ true
unfolding hex_text
hex_graphic [] h = refl
hex_graphic (b ∷ bytes) h =
    let byte : b < 256 = h.0 in
    let high : is_ascii_graphic (hex_digit (b / 16)) ≡ true = digit_graphic (b / 16) (omega arith) in
    let low : is_ascii_graphic (hex_digit (b % 16)) ≡ true = digit_graphic (b % 16) (omega arith) in
    rw (high, low) (hex_graphic bytes h.1)
