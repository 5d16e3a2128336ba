-- Words with a space before each, and the words of a line of them.
use Rattle.std.proofs.Common.{ℕ, ◌≡◌, ◌<◌, ◌≤◌, ◌+◌, ◌^◌, ◌/◌, ◌%◌, List, [], ◌∷◌, ◌++◌, map, false, refl, sym, ap, ◌∙◌, arith, zero, suc, append-nil, decimal}
use Rattle.std.proofs.lemmas.Bool.Decides.{nat_tests}
use Rattle.std.proofs.lemmas.List.Splits.{slice_split_at, slice_split_none}
use Rattle.std.proofs.lemmas.Fmt.{decimal_by_steps}
use Rattle.std.specs.List.{All, join_with_byte}
use Rattle.base_words.specs.Words.{is_space, words_of}
use Rattle.base_words.specs.Hex.{hex_digit, hex_text}
use Rattle.base_words.proofs.WordLaws.{text_is}

abbrev pub NoSpace : List ℕ → Type 0
NoSpace [] = Unit {0}
NoSpace (b ∷ bs) = (is_space b ≡ false) × NoSpace bs

NoSpace-append : (xs ys : List ℕ) → NoSpace xs → NoSpace ys → NoSpace (xs ++ ys)
NoSpace-append [] ys h k = k
NoSpace-append (x ∷ xs) ys h k = (h.0, NoSpace-append xs ys h.1 k)

pub each_no_space : (xs : List ℕ) → NoSpace xs → All (λ b. is_space b ≡ false) xs
each_no_space [] h k d l = absurd (omega arith)
each_no_space (x ∷ xs) h zero d l = h.0
each_no_space (x ∷ xs) h (suc k) d l = each_no_space xs h.1 k d (omega arith)

digit_apart : (b : ℕ) → 48 ≤ b → is_space b ≡ false
digit_apart b l = grind (arith, nat_tests)

pub decimal_no_space : (n : ℕ) → n < 2 ^ 64 → NoSpace (decimal n)
decimal_no_space n h =
    decimal_by_steps (λ m ds. NoSpace ds) (λ m l. (digit_apart (48 + m) (omega arith), tt))
    (λ m ds l k. NoSpace-append ds ((48 + m % 10) ∷ []) k (digit_apart (48 + m % 10) (omega arith), tt)) n h

hex_apart : (d : ℕ) → is_space (hex_digit d) ≡ false
hex_apart d = grind (arith, nat_tests)

pub hex_no_space : (bs : List ℕ) → NoSpace (hex_text bs)
unfolding hex_text
hex_no_space [] = tt
hex_no_space (b ∷ bs) = (hex_apart (b / 16), (hex_apart (b % 16), hex_no_space bs))

-- each word after a space
abbrev pub spaced_all : List (List ℕ) → List ℕ
spaced_all [] = []
spaced_all (w ∷ ws) = 32 ∷ w ++ spaced_all ws

abbrev pub AreApart : List (List ℕ) → Type 0
AreApart [] = Unit {0}
AreApart (w ∷ ws) = NoSpace w × AreApart ws

pub bodies_apart : (bs : List (List ℕ)) → AreApart (map hex_text bs)
bodies_apart [] = tt
bodies_apart (b ∷ bs) = (hex_no_space b, bodies_apart bs)

-- the words are got back
pub words_back : (ws : List (List ℕ)) (w : List ℕ) → NoSpace w → AreApart ws → words_of (w ++ spaced_all ws) ≡ w ∷ ws
unfolding words_of
words_back [] w h k = ap words_of (append-nil w) ∙ slice_split_none is_space w (each_no_space w h)
words_back (v ∷ vs) w h k =
    slice_split_at is_space w 32 (v ++ spaced_all vs) (each_no_space w h) refl ∙ ap (λ (us : List (List ℕ)). w ∷ us) (words_back vs v k.0 k.1)

joined_is : (ws : List (List ℕ)) (w : List ℕ) → join_with_byte 32 (w ∷ ws) ≡ w ++ spaced_all ws
joined_is [] w = sym (append-nil w)
joined_is (v ∷ vs) w = ap (λ xs. w ++ (32 ∷ xs)) (joined_is vs v)

-- a line is its words
pub line_is : (line w : List ℕ) (ws : List (List ℕ)) → words_of line ≡ w ∷ ws → w ++ spaced_all ws ≡ line
line_is line w ws e = sym (text_is line (w ∷ ws) e ∙ joined_is ws w)
