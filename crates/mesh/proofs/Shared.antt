-- Two majorities of the nodes 1 to n share a node.
use Rattle.std.proofs.Common.{◌≡◌, ℕ, zero, suc, ◌+◌, ◌*◌, ◌<◌, ◌≤◌, List, [], ◌∷◌, true, false, refl, sym, ap, subst, arith, length, ◌⊎◌, inl, inr}
use Rattle.std.specs.Prelude.{nat_eq, ◌≢◌}
use Rattle.std.proofs.lemmas.Bool.Decides.{eqb_tells}

unfoldable pub In : {A : Type 0} → A → List A → Type 0
In x [] = ⊥
In x (y ∷ ys) = (y ≡ x) ⊎ In x ys

-- falling numbers from 1 on, below a bound
unfoldable pub Below : ℕ → List ℕ → Type 0
Below hi [] = Unit {0}
Below hi (k ∷ ks) = (1 ≤ k) × (k < hi) × Below k ks

pub below_more : (a b : ℕ) (ks : List ℕ) → a ≤ b → Below a ks → Below b ks
unfolding Below
below_more a b [] l h = tt
below_more a b (k ∷ ks) l h = (h.0, omega (arith, h.1, l), h.2)

-- at the greatest number or below it
top : (h : ℕ) (ks : List ℕ) → Below (suc h) ks → ((rest : List ℕ) × (ks ≡ h ∷ rest) × Below h rest) ⊎ Below h ks
unfolding Below
top h [] b = inr tt
top h (k ∷ ks) b = by (eqb_tells k h)
  where
    by : ((nat_eq k h ≡ true) × (k ≡ h)) ⊎ ((nat_eq k h ≡ false) × (k ≢ h)) → ((rest : List ℕ) × (k ∷ ks ≡ h ∷ rest) × Below h rest) ⊎ Below h (k ∷ ks)
    by (inl e) = inl (ks, ap (λ (x : ℕ). x ∷ ks) e.1, subst (λ (x : ℕ). Below x ks) e.1 b.2)
    by (inr e) = inr (b.0, grind (arith, e.1, b.1), b.2)

unfoldable pub Common : List ℕ → List ℕ → Type 0
Common ks ls = (k : ℕ) × In k ks × In k ls

share : (h : ℕ) (ks ls : List ℕ) → Below (suc h) ks → Below (suc h) ls → Common ks ls ⊎ (length ks + length ls ≤ h)
unfolding Common In
share zero [] [] a b = inr (omega arith)
share zero [] (l ∷ ls) a b = absurd (unfold Below in omega (arith, b.0, b.1))
share zero (k ∷ ks) ls a b = absurd (unfold Below in omega (arith, a.0, a.1))
share (suc h) ks ls a b = by (top (suc h) ks a) (top (suc h) ls b) (λ xs ys c d. share h xs ys c d)
  where
    by : ((rest : List ℕ) × (ks ≡ suc h ∷ rest) × Below (suc h) rest) ⊎ Below (suc h) ks → ((rest : List ℕ) × (ls ≡ suc h ∷ rest) × Below (suc h) rest) ⊎ Below (suc h) ls
        → ((xs ys : List ℕ) → Below (suc h) xs → Below (suc h) ys → Common xs ys ⊎ (length xs + length ys ≤ h)) → Common ks ls ⊎ (length ks + length ls ≤ suc h)
    by (inl x) (inl y) go = inl (suc h, subst (In (suc h)) (sym x.1) (inl refl), subst (In (suc h)) (sym y.1) (inl refl))
    by (inl x) (inr y) go = left (go x.0 ls x.2 y)
      where
        left : Common x.0 ls ⊎ (length x.0 + length ls ≤ h) → Common ks ls ⊎ (length ks + length ls ≤ suc h)
        left (inl c) = inl (c.0, subst (In c.0) (sym x.1) (inr c.1), c.2)
        left (inr l) = inr (omega (arith, l, ap length x.1))
    by (inr x) (inl y) go = right (go ks y.0 x y.2)
      where
        right : Common ks y.0 ⊎ (length ks + length y.0 ≤ h) → Common ks ls ⊎ (length ks + length ls ≤ suc h)
        right (inl c) = inl (c.0, c.1, subst (In c.0) (sym y.1) (inr c.2))
        right (inr l) = inr (omega (arith, l, ap length y.1))
    by (inr x) (inr y) go = both (go ks ls x y)
      where
        both : Common ks ls ⊎ (length ks + length ls ≤ h) → Common ks ls ⊎ (length ks + length ls ≤ suc h)
        both (inl c) = inl c
        both (inr l) = inr (omega (arith, l))

-- majorities of the nodes 1 to n
pub shared : (n : ℕ) (ks ls : List ℕ) → Below (n + 1) ks → Below (n + 1) ls → n < 2 * length ks → n < 2 * length ls → (k : ℕ) × In k ks × In k ls
shared n ks ls a b c d =
    let same : n + 1 ≡ suc n = omega arith in
    by (share n ks ls (subst (λ (x : ℕ). Below x ks) same a) (subst (λ (x : ℕ). Below x ls) same b))
  where
    by : Common ks ls ⊎ (length ks + length ls ≤ n) → (k : ℕ) × In k ks × In k ls
    by (inl x) = unfold Common in x
    by (inr l) = absurd (omega (arith, l, c, d))
