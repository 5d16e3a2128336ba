-- Lists of what the callers have, in the order of their numbers.
use Rattle.std.proofs.Common.{◌≡◌, ℕ, zero, suc, ◌+◌, ◌<◌, List, [], ◌∷◌, ◌++◌, length, map, replicate, refl, sym, ap, ◌∙◌, arith, get_or}
use Rattle.std.specs.Prelude.{Result, Ok}
use Rattle.std.proofs.lemmas.List.{map-append}
use Rattle.play_threads.specs.Gathered.{numbered_from}

pub numbered_more : {A : Type 0} (n : ℕ) (xs : List A) (x : A) → numbered_from n (xs ++ x ∷ []) ≡ numbered_from n xs ++ (n + length xs, x) ∷ []
numbered_more n [] x = let e : n ≡ n + 0 = omega arith in ap (λ k. (k, x) ∷ []) e
numbered_more n (y ∷ xs) x = let e : suc n + length xs ≡ n + length (y ∷ xs) = omega arith in ap (λ l. (n, y) ∷ l) (numbered_more (suc n) xs x ∙ ap (λ k. numbered_from (suc n) xs ++ (k, x) ∷ []) e)

pub numbered_length : {A : Type 0} (n : ℕ) (xs : List A) → length (numbered_from n xs) ≡ length xs
numbered_length n [] = refl
numbered_length n (x ∷ xs) = ap suc (numbered_length (suc n) xs)

pub numbered_at : {A : Type 0} (n : ℕ) (xs : List A) (i : ℕ) (d : ℕ × A) → i < length xs → get_or (numbered_from n xs) i d ≡ (n + i, get_or xs i d.1)
numbered_at n [] i d l = absurd (omega (arith, l))
numbered_at n (x ∷ xs) zero d l = let e : n ≡ n + 0 = omega arith in ap (λ k. (k, x)) e
numbered_at n (x ∷ xs) (suc i) d l = let e : suc n + i ≡ n + suc i = omega arith in numbered_at (suc n) xs i d (omega (arith, l)) ∙ ap (λ k. (k, get_or xs i d.1)) e

-- ## Results that are all well
pub oks_more : {A E : Type 0} (oks : List A) (lefts : List (Result A E)) (left : Result A E) (new : A) → left ≡ Ok new → lefts ≡ map (λ o. Ok o) oks
    → lefts ++ left ∷ [] ≡ map (λ o. Ok o) (oks ++ new ∷ [])
oks_more oks lefts left new is e = ap (λ l. l ++ left ∷ []) e ∙ ap (λ x. map (λ o. Ok o) oks ++ x ∷ []) is ∙ sym (map-append (λ o. Ok o) oks (new ∷ []))

pub parts_more : {A B : Type 0} (f : A → B) (oks : List A) (xs ys : List B) (new : A) → xs ≡ map f oks → ys ≡ xs ++ f new ∷ [] → ys ≡ map f (oks ++ new ∷ [])
parts_more f oks xs ys new e is = is ∙ ap (λ l. l ++ f new ∷ []) e ∙ sym (map-append f oks (new ∷ []))

pub counts : {A : Type 0} (xs : List A) (a b : ℕ) (x y : A) → xs ≡ replicate a x → b ≡ a → y ≡ x → xs ≡ replicate b y
counts xs a b x y e n is = e ∙ ap (λ k. replicate k x) (sym n) ∙ ap (replicate b) (sym is)
