-- Lists that are decided line by line from the front, and facts that are decided number by number.
use Rattle.std.proofs.Common.{◌≡◌, ℕ, ◌+◌, ◌<◌, ◌≤◌, List, [], ◌∷◌, Bool, true, false, Decides, refl, length, sym, ap, ◌∙◌, subst, drop, get_or, arith, inl, inr, ◌⊎◌}
use Rattle.std.proofs.lemmas.Bool.{cases_lt, true≢false}
use Rattle.std.proofs.lemmas.List.{drop_more, drop_all}

-- what is said of a list, line by line
pub record ByLine {A : Type 0} (P : List A → Type 0) (Q : A → Type 0) : Type 0 where
  pub none : P []
  pub first : (x : A) (xs : List A) → P (x ∷ xs) → Q x
  pub rest : (x : A) (xs : List A) → P (x ∷ xs) → P xs
  pub more : (x : A) (xs : List A) → Q x → P xs → P (x ∷ xs)

-- the lines from this place on decide
abbrev pub From : {A : Type 0} → (List A → Type 0) → ℕ → List A → Type 0
From P i xs = (P (drop i xs) → P xs) × (P xs → P (drop i xs))

pub front : {A : Type 0} (i : ℕ) (xs : List A) (x : A) → i < length xs → x ≡ get_or xs i x → drop i xs ≡ x ∷ drop (i + 1) xs
front i xs x l is = drop_more xs i x l ∙ ap (λ z. z ∷ drop (i + 1) xs) (sym is)

pub from_begin : {A : Type 0} (P : List A → Type 0) (xs : List A) → From P 0 xs
from_begin P xs = (λ h. h, λ h. h)

pub from_more : {A : Type 0} (P : List A → Type 0) (Q : A → Type 0) → ByLine P Q → (i : ℕ) (xs : List A) (x : A) → i < length xs → x ≡ get_or xs i x → Q x → From P i xs → From P (i + 1) xs
from_more P Q b i xs x l is q f =
    let e = front i xs x l is in
    (λ h. f.0 (subst P (sym e) (b.more x (drop (i + 1) xs) q h)), λ h. b.rest x (drop (i + 1) xs) (subst P e (f.1 h)))

pub from_fails : {A : Type 0} (P : List A → Type 0) (Q : A → Type 0) → ByLine P Q → (i : ℕ) (xs : List A) (x : A) → i < length xs → x ≡ get_or xs i x → (Q x → ⊥) → From P i xs → P xs → ⊥
from_fails P Q b i xs x l is n f h = n (b.first x (drop (i + 1) xs) (subst P (front i xs x l is) (f.1 h)))

pub from_ends : {A : Type 0} (P : List A → Type 0) (Q : A → Type 0) → ByLine P Q → (i : ℕ) (xs : List A) → length xs ≤ i → From P i xs → P xs
from_ends P Q b i xs l f = f.0 (subst P (sym (drop_all i xs l)) b.none)

-- ## Numbers below a bound

pub below_more : (P : ℕ → Type 0) (i : ℕ) → P i → ((k : ℕ) → k < i → P k) → (k : ℕ) → k < i + 1 → P k
below_more P i p h k l = by (cases_lt k i)
  where
    by : (k < i) ⊎ (i ≤ k) → P k
    by (inl g) = h k g
    by (inr g) = let e : i ≡ k = omega (arith, g, l) in subst P e p

pub below_all : (P : ℕ → Type 0) (n i : ℕ) → n ≤ i → ((k : ℕ) → k < i → P k) → (k : ℕ) → k < n → P k
below_all P n i l h k g = h k (omega (arith, l, g))

-- ## Answers
pub yes : (P : Type 0) → P → Decides true P
yes P p = (λ e. p, λ h. refl)

pub no : (P : Type 0) → (P → ⊥) → Decides false P
no P n = (λ (e : false ≡ true). absurd (true≢false (sym e)), λ p. absurd (n p))

pub holds : (P : Type 0) (b : Bool) → b ≡ true → Decides b P → P
holds P b e d = d.0 e

pub fails : (P : Type 0) (b : Bool) → b ≡ false → Decides b P → P → ⊥
fails P b e d p = true≢false (sym (d.1 p) ∙ e)
