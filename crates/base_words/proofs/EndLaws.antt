-- Where a word ends: the first space, looked for in the front of a text and then in the rest.
use Rattle.std.proofs.Common.{ℕ, ◌≡◌, ◌<◌, ◌≤◌, ◌+◌, ◌==◌, List, [], ◌++◌, length, take, drop, get_or, Bool, true, false, not, cond, Option, Some, None, refl, sym, ap, ◌∙◌, arith, append-nil}
use Rattle.std.proofs.lemmas.Bool.Decides.{nat_tests}
use Rattle.std.proofs.lemmas.Bool.{false_from_ne_true}
use Rattle.std.proofs.lemmas.List.{take-append-drop}
use Rattle.std.proofs.lemmas.List.Folds.{prefix_len-append}
use Rattle.std.proofs.lemmas.List.Sums.{position_or_len_is, prefix_len-le-length}
use Rattle.std.specs.List.{position_or_len}
use Rattle.memchr.specs.Find.{IsFirstByte, is_byte}
use Rattle.base_words.specs.Words.{is_space}

-- ## What a search of bytes finds
pub space_found : (xs : List ℕ) (i : ℕ) → IsFirstByte (is_byte 32) xs (Some i) → i ≡ position_or_len is_space xs
space_found xs i h = sym (position_or_len_is is_space xs i 0 (omega (arith, h.0.high)) (λ k l. false_from_ne_true (is_space (get_or xs k 0)) (h.0.before k (omega arith) l)) (λ l. h.1))

pub no_space_found : (xs : List ℕ) → IsFirstByte (is_byte 32) xs None → length xs ≡ position_or_len is_space xs
no_space_found xs h = sym (position_or_len_is is_space xs (length xs) 0 (omega arith) (λ k l. false_from_ne_true (is_space (get_or xs k 0)) (h k (omega arith) l)) (λ l. absurd (omega arith)))

pub found_within : (xs : List ℕ) (i : ℕ) → IsFirstByte (is_byte 32) xs (Some i) → i ≤ length xs
found_within xs i h = omega (arith, h.0.high)

pub ruleset ends = (space_found, no_space_found, found_within)

-- ## Two texts side by side
near_is : (xs ys : List ℕ) → position_or_len is_space xs < length xs → position_or_len is_space (xs ++ ys) ≡ position_or_len is_space xs
near_is xs ys h =
    let b : (position_or_len is_space xs == length xs) ≡ false = grind (arith, nat_tests, h) in
    prefix_len-append (λ x. not (is_space x)) xs ys ∙ ap (λ t. cond t (length xs + position_or_len is_space ys) (position_or_len is_space xs)) b

far_is : (xs ys : List ℕ) → length xs ≤ position_or_len is_space xs → position_or_len is_space (xs ++ ys) ≡ length xs + position_or_len is_space ys
far_is xs ys h =
    let b : (position_or_len is_space xs == length xs) ≡ true = grind (arith, nat_tests, h, prefix_len-le-length (λ x. not (is_space x)) xs) in
    prefix_len-append (λ x. not (is_space x)) xs ys ∙ ap (λ t. cond t (length xs + position_or_len is_space ys) (position_or_len is_space xs)) b

pub ends_near : (text near far : List ℕ) (n i : ℕ) → near ≡ take n text → far ≡ drop n text → i ≡ position_or_len is_space near → i < length near → i ≡ position_or_len is_space text
ends_near text near far n i e f h l =
    let at : position_or_len is_space near ≡ i = sym h in
    let inside : position_or_len is_space near < length near = omega (arith, at, l) in
    h ∙ sym (near_is near far inside) ∙ ap (position_or_len is_space) (ap (λ (x : List ℕ). x ++ far) e ∙ ap (λ (x : List ℕ). take n text ++ x) f ∙ take-append-drop n text)

pub ends_far : (text near far : List ℕ) (n i j : ℕ) → near ≡ take n text → far ≡ drop n text → i ≡ position_or_len is_space near → length near ≤ i → j ≡ position_or_len is_space far
    → length near + j ≡ position_or_len is_space text
ends_far text near far n i j e f h l k =
    let at : position_or_len is_space near ≡ i = sym h in
    let whole : length near ≤ position_or_len is_space near = omega (arith, at, l) in
    ap (λ x. length near + x) k ∙ sym (far_is near far whole) ∙ ap (position_or_len is_space) (ap (λ (x : List ℕ). x ++ far) e ∙ ap (λ (x : List ℕ). take n text ++ x) f ∙ take-append-drop n text)

pub ends_alone : (text near far : List ℕ) (n i : ℕ) → near ≡ take n text → far ≡ drop n text → far ≡ [] → i ≡ position_or_len is_space near → i ≡ position_or_len is_space text
ends_alone text near far n i e f none h =
    h ∙ ap (position_or_len is_space) (sym (append-nil near) ∙ ap (λ (x : List ℕ). near ++ x) (sym none) ∙ ap (λ (x : List ℕ). x ++ far) e
    ∙ ap (λ (x : List ℕ). take n text ++ x) f ∙ take-append-drop n text)

pub ruleset sides = (ends_near, ends_far, ends_alone)
