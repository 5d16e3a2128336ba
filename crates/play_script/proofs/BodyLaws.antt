-- Words of a line: names and bodies in hexadecimal.
use Rattle.std.proofs.Common.{ℕ, ◌≡◌, ◌<◌, ◌≤◌, List, [], ◌∷◌, ◌++◌, length, Bool, true, false, not, ◌&&◌, ◌||◌, inl, inr, refl, sym, ap, arith, ◌∙◌, nat_le, nat_lt, map, Option, Some, None}
use Rattle.std.specs.Prelude.{is_some}
use Rattle.std.specs.List.{list_all, AllByRecursion}
use Rattle.std.specs.Str.{bytes_eq}
use Rattle.std.proofs.lemmas.Bool.{false≢true, and_parts}
use Rattle.std.proofs.lemmas.Bool.Decides.{leb_tells}
use Rattle.base_words.specs.Words.{joined, words_of, is_empty}
use Rattle.base_words.specs.Hex.{hex_text}
use Rattle.base_words.proofs.WordLaws.{some_of}
use Rattle.base_words.proofs.HexLaws.{length-hex_text, hex_graphic}
use Rattle.journal_text.specs.Reading.{put_first, body_in, bodies_in}
use Rattle.journal_text.specs.Lines.{IsBody}
use Rattle.journal_text.proofs.BodyLaws.{body_read, body_found}
use Rattle.play_script.specs.Lines.{Lacks, is_plain}
use Rattle.play_script.specs.Words.{is_letter, is_name_byte, is_word_of_name, is_name, operator, is_body}
use Rattle.play_script.proofs.WordLaws.{words_more, words_all}

pub all_append : (p : ℕ → Bool) (xs ys : List ℕ) → list_all p xs ≡ true → list_all p ys ≡ true → list_all p (xs ++ ys) ≡ true
all_append p [] ys h k = k
all_append p (x ∷ xs) ys h k =
    let t : (p x ≡ true) × (list_all p xs ≡ true) = and_parts (p x) (list_all p xs) h in
    rw t.0 (all_append p xs ys t.1 k)

all_weaker : (p q : ℕ → Bool) → ((b : ℕ) → p b ≡ true → q b ≡ true) → (xs : List ℕ) → list_all p xs ≡ true → list_all q xs ≡ true
all_weaker p q w [] h = refl
all_weaker p q w (x ∷ xs) h =
    let t : (p x ≡ true) × (list_all p xs ≡ true) = and_parts (p x) (list_all p xs) h in
    let u : q x ≡ true = w x t.0 in
    rw u (all_weaker p q w xs t.1)

-- ## The bytes of words
-- a byte that may stand in a word: 0x21 to 0x7E
abbrev pub is_word_byte : ℕ → Bool
is_word_byte b = nat_le 33 b && nat_le b 126

abbrev pub IsWord : List ℕ → Type 0
IsWord word = list_all is_word_byte word ≡ true

byte_between : (b : ℕ) → is_word_byte b ≡ true → (33 ≤ b) × (b ≤ 126)
byte_between b h =
    let t : (nat_le 33 b ≡ true) × (nat_le b 126 ≡ true) = and_parts (nat_le 33 b) (nat_le b 126) h in
    (le_true 33 b t.0, le_true b 126 t.1)
  where
    le_true : (m n : ℕ) → nat_le m n ≡ true → m ≤ n
    le_true m n e = elim (leb_tells m n) [ inl p ↦ p.1 | inr p ↦ absurd (false≢true (sym p.0 ∙ e)) ]

pub le_is : (m n : ℕ) → m ≤ n → nat_le m n ≡ true
le_is m n l = elim (leb_tells m n) [ inl p ↦ p.0 | inr p ↦ absurd (omega (arith, p.1)) ]

pub le_from : (m n : ℕ) → nat_le m n ≡ true → m ≤ n
le_from m n e = elim (leb_tells m n) [ inl p ↦ p.1 | inr p ↦ absurd (false≢true (sym p.0 ∙ e)) ]

pub between_is : (low high b : ℕ) → low ≤ b → b ≤ high → (nat_le low b && nat_le b high) ≡ true
between_is low high b l h =
    let x : nat_le low b ≡ true = le_is low b l in
    let y : nat_le b high ≡ true = le_is b high h in
    rw (x, y) refl

pub between_from : (low high b : ℕ) → (nat_le low b && nat_le b high) ≡ true → (low ≤ b) × (b ≤ high)
between_from low high b e =
    let t : (nat_le low b ≡ true) × (nat_le b high ≡ true) = and_parts (nat_le low b) (nat_le b high) e in
    (le_from low b t.0, le_from b high t.1)

pub word_lacks : (c : ℕ) (word : List ℕ) → c < 33 → IsWord word → Lacks c word
word_lacks c [] l h = tt
word_lacks c (b ∷ bs) l h =
    let t : (is_word_byte b ≡ true) × (list_all is_word_byte bs ≡ true) = and_parts (is_word_byte b) (list_all is_word_byte bs) h in
    let r : (33 ≤ b) × (b ≤ 126) = byte_between b t.0 in
    ((λ e. absurd (omega (arith, r.0, e))), word_lacks c bs l t.1)

pub word_plain : (word : List ℕ) → IsWord word → list_all is_plain word ≡ true
word_plain word h = all_weaker is_word_byte is_plain (λ b e. let r : (33 ≤ b) × (b ≤ 126) = byte_between b e in between_is 32 126 b (omega (arith, r.0)) r.1) word h

-- ## Words joined
pub words_again : (word : List ℕ) (words : List (List ℕ)) → AllByRecursion IsWord (word ∷ words) → words_of (joined (word ∷ words)) ≡ word ∷ words
words_again word [] h = words_all word (word_lacks 32 word (omega arith) h.0)
words_again word (next ∷ words) h =
    words_more (joined (word ∷ next ∷ words)) word (joined (next ∷ words)) refl (word_lacks 32 word (omega arith) h.0) ∙ ap (λ ws. word ∷ ws) (words_again next words h.1)

pub joined_plain : (words : List (List ℕ)) → AllByRecursion IsWord words → list_all is_plain (joined words) ≡ true
joined_plain [] h = refl
joined_plain (word ∷ []) h = word_plain word h.0
joined_plain (word ∷ next ∷ words) h = all_append is_plain word (32 ∷ joined (next ∷ words)) (word_plain word h.0) (joined_plain (next ∷ words) h.1)

-- ## Names
name_byte_is : (b : ℕ) → is_name_byte b ≡ true → is_word_byte b ≡ true
name_byte_is b e = byte_is (is_letter b) refl e
  where
    byte_is : (a : Bool) → is_letter b ≡ a → (a || (nat_le 48 b && nat_le b 57)) ≡ true → is_word_byte b ≡ true
    byte_is true h k = let r : (97 ≤ b) × (b ≤ 122) = between_from 97 122 b h in between_is 33 126 b (omega (arith, r.0)) (omega (arith, r.1))
    byte_is false h k = let r : (48 ≤ b) × (b ≤ 57) = between_from 48 57 b k in between_is 33 126 b (omega (arith, r.0)) (omega (arith, r.1))

letter_is : (b : ℕ) → is_letter b ≡ true → is_word_byte b ≡ true
letter_is b h = let r : (97 ≤ b) × (b ≤ 122) = between_from 97 122 b h in between_is 33 126 b (omega (arith, r.0)) (omega (arith, r.1))

word_of_name : (word : List ℕ) → is_word_of_name word ≡ true → IsWord word × (is_empty word ≡ false)
word_of_name [] h = absurd (false≢true h)
word_of_name (b ∷ bs) h =
    let t : ((is_letter b && list_all is_name_byte bs) ≡ true) × (nat_lt (length bs) 16 ≡ true) = and_parts (is_letter b && list_all is_name_byte bs) (nat_lt (length bs) 16) h in
    let u : (is_letter b ≡ true) × (list_all is_name_byte bs ≡ true) = and_parts (is_letter b) (list_all is_name_byte bs) t.0 in
    let v : is_word_byte b ≡ true = letter_is b u.0 in
    (rw v (all_weaker is_name_byte is_word_byte name_byte_is bs u.1), refl)

pub name_is_word : (word : List ℕ) → is_name word ≡ true → IsWord word × (is_empty word ≡ false)
unfolding is_name
name_is_word word h = word_of_name word (and_parts (is_word_of_name word) (not (bytes_eq word operator)) h).0

-- ## Bodies
pub body_is_word : (body : List ℕ) → IsBody body → IsWord (hex_text body) × (is_empty (hex_text body) ≡ false)
body_is_word body h =
    let some : 0 < length (hex_text body) = omega (arith, length-hex_text body, h.some) in
    (hex_graphic body h.bytes, some_of (hex_text body) some)

pub body_again : (body : List ℕ) → IsBody body → is_body (hex_text body) ≡ true
unfolding is_body
body_again body h = ap is_some (body_read body h)

some_is : (word : List ℕ) (o : Option (List ℕ)) → body_in word ≡ o → is_some o ≡ true → (body : List ℕ) × (body_in word ≡ Some body)
some_is word None is e = cc
some_is word (Some body) is e = (body, is)

body_of : (word : List ℕ) → is_body word ≡ true → (body : List ℕ) × (body_in word ≡ Some body)
unfolding is_body
body_of word e = some_is word (body_in word) refl e

-- words that are bodies stand for some
pub bodies_of : (words : List (List ℕ)) → list_all is_body words ≡ true → (bodies : List (List ℕ)) × (map hex_text bodies ≡ words) × AllByRecursion IsBody bodies
bodies_of [] e = ([], refl, tt)
bodies_of (word ∷ words) e =
    let t : (is_body word ≡ true) × (list_all is_body words ≡ true) = and_parts (is_body word) (list_all is_body words) e in
    let b = body_of word t.0 in
    let f = body_found word b.0 b.1 in
    let bs = bodies_of words t.1 in
    (b.0 ∷ bs.0, ap (λ x. x ∷ map hex_text bs.0) f.0 ∙ ap (λ xs. word ∷ xs) bs.1, (f.1, bs.2))

-- the words are read as bodies, all of them or not
test_by : (word : List ℕ) (words : List (List ℕ)) (first : Option (List ℕ)) (rest : Option (List (List ℕ))) → is_body word ≡ is_some first → list_all is_body words ≡ is_some rest
    → list_all is_body (word ∷ words) ≡ is_some (put_first first rest)
test_by word words None rest p q = rw p refl
test_by word words (Some b) None p q = rw (p, q) refl
test_by word words (Some b) (Some bs) p q = rw (p, q) refl

body_test : (word : List ℕ) → is_body word ≡ is_some (body_in word)
unfolding is_body
body_test word = refl

pub bodies_test : (words : List (List ℕ)) → list_all is_body words ≡ is_some (bodies_in words)
bodies_test [] = refl
bodies_test (word ∷ words) = test_by word words (body_in word) (bodies_in words) (body_test word) (bodies_test words)
