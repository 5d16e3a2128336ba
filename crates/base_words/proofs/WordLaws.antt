-- A text at its first space, and its words put together again.
use Rattle.std.proofs.Common.{ℕ, ◌≡◌, ◌≢◌, ◌<◌, ◌≤◌, ◌+◌, ◌-◌, List, [], ◌∷◌, length, take, drop, Bool, true, false, not, cond, refl, sym, ap, ◌∙◌, arith, ◌⊎◌, inl, inr}
use Rattle.std.proofs.lemmas.Bool.{cases_lt}
use Rattle.std.proofs.lemmas.List.{take_rest}
use Rattle.std.proofs.lemmas.List.Splits.{slice_split_first, join_with_byte-slice_split}
use Rattle.std.specs.List.{onto_first, position_or_len, slice_split}
use Rattle.base_words.specs.Words.{joined, is_space, is_empty, words_of, first_word}

-- ## At the first space
step : (b : Bool) (x : ℕ) (xs : List ℕ) → length (x ∷ xs) ≤ cond (not b) (1 + position_or_len is_space xs) 0 → (slice_split is_space xs ≡ xs ∷ []) ⊎ (position_or_len is_space xs < length xs)
    → cond b ([] ∷ slice_split is_space xs) (onto_first x (slice_split is_space xs)) ≡ (x ∷ xs) ∷ []
step true x xs h q = absurd (omega arith)
step false x xs h (inl e) = rw e refl
step false x xs h (inr l) = absurd (omega arith)

no_space : (xs : List ℕ) → (slice_split is_space xs ≡ xs ∷ []) ⊎ (position_or_len is_space xs < length xs)
no_space [] = inl refl
no_space (x ∷ xs) = elim (cases_lt (position_or_len is_space (x ∷ xs)) (length (x ∷ xs))) [ inl l ↦ inr l | inr h ↦ inl (step (is_space x) x xs h (no_space xs)) ]

pub split_found : (xs : List ℕ) (i : ℕ) → i ≡ position_or_len is_space xs → i < length xs → words_of xs ≡ take i xs ∷ words_of (take (length xs - (i + 1)) (drop (i + 1) xs))
unfolding words_of
split_found xs i e l =
    let inside : position_or_len is_space xs < length xs = omega (arith, e, l) in
    slice_split_first is_space xs 0 inside ∙ ap (λ k. take k xs ∷ slice_split is_space (drop (k + 1) xs)) (sym e)
    ∙ ap (λ (ys : List ℕ). take i xs ∷ slice_split is_space ys) (sym (take_rest xs (i + 1)))

pub split_none : (xs : List ℕ) (i : ℕ) → i ≡ position_or_len is_space xs → length xs ≤ i → words_of xs ≡ xs ∷ []
unfolding words_of
split_none xs i e l = elim (no_space xs) [ inl w ↦ w | inr k ↦ absurd (omega (arith, e, l, k)) ]

pub ruleset splits = (split_found, split_none)

-- ## Put together again
pub words_joined : (text : List ℕ) → joined (words_of text) ≡ text
unfolding words_of
words_joined text = join_with_byte-slice_split 32 text

pub text_is : (text : List ℕ) (words : List (List ℕ)) → words_of text ≡ words → text ≡ joined words
text_is text words e = sym (words_joined text) ∙ ap joined e

one_is : (text : List ℕ) (words : List (List ℕ)) → joined words ≡ text → length words ≡ 1 → words ≡ text ∷ []
one_is text [] j n = absurd (omega arith)
one_is text (w ∷ []) j n = ap (λ x. x ∷ []) j
one_is text (w ∷ v ∷ words) j n = absurd (omega arith)

-- a text of one word
pub one_word : (text : List ℕ) → length (words_of text) ≡ 1 → words_of text ≡ text ∷ []
one_word text n = one_is text (words_of text) (words_joined text) n

onto_some : (b : ℕ) (parts : List (List ℕ)) → onto_first b parts ≢ []
onto_some b [] e = cc
onto_some b (part ∷ parts) e = cc

split_some : (text : List ℕ) → slice_split is_space text ≢ []
split_some [] e = cc
split_some (b ∷ bs) e = cond_some (is_space b) (slice_split is_space bs) (onto_first b (slice_split is_space bs)) (onto_some b (slice_split is_space bs)) e
  where
    cond_some : (c : Bool) (xs ys : List (List ℕ)) → ys ≢ [] → cond c ([] ∷ xs) ys ≢ []
    cond_some true xs ys n h = cc
    cond_some false xs ys n h = n h

-- there is a word in any text
pub words_some : (text : List ℕ) → words_of text ≢ []
unfolding words_of
words_some text e = split_some text e

pub some_of : (word : List ℕ) → 0 < length word → is_empty word ≡ false
some_of [] h = absurd (omega arith)
some_of (b ∷ bs) h = refl

pub first_first : (word : List ℕ) (words : List (List ℕ)) → is_empty word ≡ false → first_word (word ∷ words) ≡ word
first_first [] words e = cc
first_first (b ∷ bs) words e = refl

pub ruleset counted = (one_word)
