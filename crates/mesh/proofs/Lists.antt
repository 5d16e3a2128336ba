-- Lists: one item more, and what a list contains.
use Rattle.std.proofs.Common.{◌≡◌, ℕ, List, [], ◌∷◌, ◌++◌, Bool, true, false, cond, filter, Contains, refl, ap, arith, ◌⊎◌, inl, inr}
use Rattle.std.specs.Prelude.{◌≢◌, ◌==◌}
use Rattle.std.proofs.lemmas.List.Elements.{Contains-push_cases, Contains-append_right, Contains-append_cases}
use Rattle.std.proofs.lemmas.Bool.Decides.{eqb_tells}

pub filter_snoc : {A : Type 0} (test : A → Bool) (xs : List A) (x : A) → filter test (xs ++ x ∷ []) ≡ cond (test x) (filter test xs ++ x ∷ []) (filter test xs)
filter_snoc test [] x = refl
filter_snoc {A} test (y ∷ xs) x = by (test y) (test x) (filter_snoc test xs x)
  where
    by : (b c : Bool) → filter test (xs ++ x ∷ []) ≡ cond c (filter test xs ++ x ∷ []) (filter test xs)
        → cond b (y ∷ filter test (xs ++ x ∷ [])) (filter test (xs ++ x ∷ [])) ≡ cond c (cond b (y ∷ filter test xs) (filter test xs) ++ x ∷ []) (cond b (y ∷ filter test xs) (filter test xs))
    by true true h = ap (λ (l : List A). y ∷ l) h
    by true false h = ap (λ (l : List A). y ∷ l) h
    by false true h = h
    by false false h = h

pub cond_true : {A : Type 0} (b : Bool) (x y : A) → b ≡ true → cond b x y ≡ x
cond_true b x y e = rw e refl

pub cond_false : {A : Type 0} (b : Bool) (x y : A) → b ≡ false → cond b x y ≡ y
cond_false b x y e = rw e refl

-- ## Numbers that are the same, or aren't
unfoldable pub Alike : ℕ → ℕ → Type 0
Alike a b = (((a == b) ≡ true) × (a ≡ b)) ⊎ (((a == b) ≡ false) × (a ≢ b))

pub alike : (a b : ℕ) → Alike a b
unfolding Alike
alike a b = eqb_tells a b

pub same_test : (a b : ℕ) → a ≡ b → (a == b) ≡ true
same_test a b e = by (eqb_tells a b)
  where
    by : (((a == b) ≡ true) × (a ≡ b)) ⊎ (((a == b) ≡ false) × (a ≢ b)) → (a == b) ≡ true
    by (inl h) = h.0
    by (inr h) = absurd (h.1 e)

pub other_test : (a b : ℕ) → a ≢ b → (a == b) ≡ false
other_test a b e = by (eqb_tells a b)
  where
    by : (((a == b) ≡ true) × (a ≡ b)) ⊎ (((a == b) ≡ false) × (a ≢ b)) → (a == b) ≡ false
    by (inl h) = absurd (e h.1)
    by (inr h) = h.0

-- ## What a list contains
pub contains_none : {A : Type 0} (x : A) → Contains [] x → ⊥
contains_none x h = omega (arith, h.1)

pub contains_only : {A : Type 0} (y x : A) → Contains (y ∷ []) x → y ≡ x
contains_only {A} y x h = by (Contains-push_cases [] y x h)
  where
    by : Contains [] x ⊎ (y ≡ x) → y ≡ x
    by (inl g) = absurd (contains_none x g)
    by (inr e) = e

pub contains_cases : {A : Type 0} (y : A) (ys : List A) (x : A) → Contains (y ∷ ys) x → (y ≡ x) ⊎ Contains ys x
contains_cases {A} y ys x h = by (Contains-append_cases (y ∷ []) ys x h)
  where
    by : Contains (y ∷ []) x ⊎ Contains ys x → (y ≡ x) ⊎ Contains ys x
    by (inl g) = inl (contains_only y x g)
    by (inr g) = inr g

pub contains_head : {A : Type 0} (y : A) (ys : List A) (x : A) → y ≡ x → Contains (y ∷ ys) x
contains_head y ys x e = (0, omega arith, e)

pub contains_tail : {A : Type 0} (y : A) (ys : List A) (x : A) → Contains ys x → Contains (y ∷ ys) x
contains_tail y ys x h = Contains-append_right (y ∷ []) ys x h

-- an item that isn't this one adds nothing to it
pub contains_less : {A : Type 0} (x y : A) (xs : List A) → y ≢ x → Contains (xs ++ y ∷ []) x → Contains xs x
contains_less {A} x y xs off h = by (Contains-push_cases xs y x h)
  where
    by : Contains xs x ⊎ (y ≡ x) → Contains xs x
    by (inl g) = g
    by (inr e) = absurd (off e)

pub append_none : {A : Type 0} (xs : List A) → xs ++ [] ≡ xs
append_none [] = refl
append_none {A} (x ∷ xs) = ap (λ (l : List A). x ∷ l) (append_none xs)
