-- Bodies in hexadecimal: what a word says, and that what is printed is read.
use Rattle.std.proofs.Common.{ℕ, ◌≡◌, ◌≢◌, ◌<◌, ◌≤◌, ◌*◌, ◌||◌, List, [], ◌∷◌, length, map, Option, Some, None, is_some, Bool, true, false, cond, nat_lt, refl, sym, ap, subst, ◌∙◌, arith}
use Rattle.std.specs.Prelude.{Result, Ok, Err, IfOk, OnErr, IfSome, MatchOption}
use Rattle.std.specs.List.{AllByRecursion}
use Rattle.std.proofs.lemmas.Bool.Decides.{nat_tests}
use Rattle.base_words.specs.Words.{is_empty}
use Rattle.base_words.specs.Hex.{hex_text, bytes_in}
use Rattle.base_words.proofs.WordLaws.{some_of}
use Rattle.base_words.proofs.HexLaws.{IsHexOf, length-hex_text, bytes_back, bytes_found}
use Rattle.journal_text.specs.Reading.{put_first, body_of_size, body_in, bodies_in}
use Rattle.journal_text.specs.Lines.{IsBody}

-- ## What a word says
abbrev some_body : List ℕ → Option (List ℕ)
some_body body = Some body

sized_by : (word bytes body : List ℕ) (empty long : Bool) → is_empty bytes ≡ empty → nat_lt 4096 (length bytes) ≡ long → IsHexOf word bytes
    → cond (empty || long) None (Some bytes) ≡ some_body body → (hex_text body ≡ word) × IsBody body
sized_by word bytes body true long a b h e = absurd cc
sized_by word bytes body false true a b h e = absurd cc
sized_by word [] body false false a b h e = absurd cc
sized_by word (x ∷ xs) body false false a b h e =
    let is : x ∷ xs ≡ body = cc in
    let short : length (x ∷ xs) ≤ 4096 = grind (arith, nat_tests, b) in
    subst (λ (bs : List ℕ). (hex_text bs ≡ word) × IsBody bs) is (h.text, record { some = omega arith; short = short; bytes = h.bytes })

found_by : (word body : List ℕ) (o : Option (List ℕ)) → bytes_in word ≡ o → body_of_size o ≡ some_body body → (hex_text body ≡ word) × IsBody body
found_by word body None is e = absurd cc
found_by word body (Some bytes) is e = sized_by word bytes body (is_empty bytes) (nat_lt 4096 (length bytes)) refl refl (bytes_found word bytes is) e

pub body_found : (word body : List ℕ) → body_in word ≡ Some body → (hex_text body ≡ word) × IsBody body
unfolding body_in
body_found word body e = found_by word body (bytes_in word) refl e

last_true : (b : Bool) (bytes : List ℕ) → None ≡ cond (b || true) None (some_body bytes)
last_true true bytes = refl
last_true false bytes = refl

pub too_long : (word : List ℕ) → 8192 < length word → None ≡ body_in word
unfolding body_in
too_long word l = by (bytes_in word) refl
  where
    by : (o : Option (List ℕ)) → bytes_in word ≡ o → None ≡ body_of_size o
    by None is = refl
    by (Some bytes) is =
        let h = bytes_found word bytes is in
        let two : length word ≡ 2 * length bytes = ap length (sym h.text) ∙ length-hex_text bytes in
        let long : nat_lt 4096 (length bytes) ≡ true = grind (arith, nat_tests, l, two) in
        rw long (last_true (is_empty bytes) bytes)

pub not_hex : (word : List ℕ) → bytes_in word ≡ None → None ≡ body_in word
unfolding body_in
not_hex word e = sym (ap body_of_size e)

no_byte : (word bytes : List ℕ) → bytes_in word ≡ Some bytes → bytes ≡ [] → None ≡ body_in word
unfolding body_in
no_byte word bytes e n = sym (ap body_of_size (e ∙ ap (λ (bs : List ℕ). some_body bs) n))

sized : (word bytes body : List ℕ) → bytes_in word ≡ Some bytes → length bytes ≤ 4096 → body ≡ bytes → body ≢ [] → Some body ≡ body_in word
unfolding body_in
sized word [] body e l is n = absurd (n is)
sized word (x ∷ xs) body e l is n =
    let short : nat_lt 4096 (length (x ∷ xs)) ≡ false = grind (arith, nat_tests, l) in
    let all : body_of_size (Some (x ∷ xs)) ≡ Some (x ∷ xs) = rw short refl in
    ap (λ (bs : List ℕ). some_body bs) is ∙ sym (ap body_of_size e ∙ all)

-- the bytes were copied
pub copied : {E : Type 0} (r : Result (Option (List ℕ)) E) (word bytes : List ℕ) → bytes_in word ≡ Some bytes → length bytes ≤ 4096
    → IfOk r (λ o. MatchOption o (bytes ≡ []) (λ b. b ≡ bytes)) → IfOk r (λ o. IfSome o (λ b. b ≢ [])) → IfOk r (λ o. o ≡ body_in word)
copied (Ok None) word bytes e l is some = no_byte word bytes e is
copied (Ok (Some b)) word bytes e l is some = sized word bytes b e l is some
copied (Err x) word bytes e l is some = tt

-- memory is wanted for a body alone
pub copied_some : (word bytes : List ℕ) → bytes_in word ≡ Some bytes → length bytes ≤ 4096 → 0 < length word → is_some (body_in word) ≡ true
unfolding body_in hex_text
copied_some word [] e l n = let none : word ≡ [] = sym (bytes_found word [] e).text in absurd (omega (arith, n, ap length none))
copied_some word (x ∷ xs) e l n =
    let short : nat_lt 4096 (length (x ∷ xs)) ≡ false = grind (arith, nat_tests, l) in
    let all : body_of_size (Some (x ∷ xs)) ≡ Some (x ∷ xs) = rw short refl in
    ap is_some (ap body_of_size e ∙ all)

pub copied_memory : {T E : Type 0} (r : Result T E) (word bytes : List ℕ) → bytes_in word ≡ Some bytes → length bytes ≤ 4096 → 0 < length word → OnErr r (is_some (body_in word) ≡ true)
copied_memory (Ok x) word bytes e l n = tt
copied_memory (Err x) word bytes e l n = copied_some word bytes e l n

pub no_word : (word : List ℕ) → word ≡ [] → None ≡ body_in word
unfolding body_in
no_word word e = sym (ap (λ (w : List ℕ). body_of_size (bytes_in w)) e)

pub hex_judges : (word bytes : List ℕ) (r : Bool) → bytes_in word ≡ cond r (Some bytes) None → length bytes ≤ 4096 → 0 < length word → r ≡ is_some (body_in word)
hex_judges word bytes true e l n = sym (copied_some word bytes e l n)
hex_judges word bytes false e l n = ap is_some (not_hex word e)

pub ruleset bodies = (too_long, not_hex, no_word)

-- ## What is printed is read
pub body_read : (b : List ℕ) → IsBody b → body_in (hex_text b) ≡ Some b
unfolding body_in
body_read b h =
    let short : nat_lt 4096 (length b) ≡ false = grind (arith, nat_tests, h.short) in
    ap body_of_size (bytes_back b h.bytes) ∙ rw (some_of b h.some, short) refl

pub bodies_read : (bs : List (List ℕ)) → AllByRecursion IsBody bs → bodies_in (map hex_text bs) ≡ Some bs
bodies_read [] h = refl
bodies_read (b ∷ bs) h =
    ap (λ o. put_first o (bodies_in (map hex_text bs))) (body_read b h.0) ∙ ap (λ (o : Option (List (List ℕ))). put_first (Some b) o) (bodies_read bs h.1)

-- ## What is read was printed
bodies_by : (word : List ℕ) (words bodies : List (List ℕ)) (first : Option (List ℕ)) (rest : Option (List (List ℕ))) → body_in word ≡ first → bodies_in words ≡ rest
    → ((bs : List (List ℕ)) → bodies_in words ≡ Some bs → (map hex_text bs ≡ words) × AllByRecursion IsBody bs) → put_first first rest ≡ Some bodies
    → (map hex_text bodies ≡ word ∷ words) × AllByRecursion IsBody bodies
bodies_by word words bodies None rest p q more e = absurd cc
bodies_by word words bodies (Some b) None p q more e = absurd cc
bodies_by word words bodies (Some b) (Some bs) p q more e =
    let is : b ∷ bs ≡ bodies = cc in
    let one = body_found word b p in
    let others = more bs q in
    subst (λ (all : List (List ℕ)). (map hex_text all ≡ word ∷ words) × AllByRecursion IsBody all) is ((λ i. one.0 i ∷ others.0 i), (one.1, others.1))

pub bodies_found : (words bodies : List (List ℕ)) → bodies_in words ≡ Some bodies → (map hex_text bodies ≡ words) × AllByRecursion IsBody bodies
bodies_found [] bodies e = let is : [] ≡ bodies = cc in subst (λ (all : List (List ℕ)). (map hex_text all ≡ []) × AllByRecursion IsBody all) is (refl, tt)
bodies_found (word ∷ words) bodies e = bodies_by word words bodies (body_in word) (bodies_in words) refl refl (λ bs r. bodies_found words bs r) e
