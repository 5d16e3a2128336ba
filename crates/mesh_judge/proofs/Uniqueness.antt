-- Two lists that rise are the same where those that tie stand in the same order in both: a stable
-- sort has one result.
use Rattle.std.proofs.Common.{◌≡◌, ℕ, suc, zero, ◌<◌, ◌≤◌, List, [], ◌∷◌, Bool, true, false, not, cond, filter, refl, sym, ap, ◌∙◌, subst, arith, get_or, length, ◌⊎◌, inl, inr}
use Rattle.std.specs.Prelude.{◌&&◌}
use Rattle.std.specs.Cmp.{IsStrictWeakOrder}
use Rattle.std.specs.List.Sorted.{ties, IsSortedBy}
use Rattle.std.proofs.lemmas.Bool.{cases_Bool}
use Rattle.std.proofs.lemmas.List.Sorted.{sorted_far}
use Rattle.mesh.proofs.Lists.{cond_true}
use Rattle.mesh.proofs.Shared.{In}

module _ {X : Type 0} (lt : X → X → Bool) where
  -- none of them is less
  unfoldable pub NoneLess : X → List X → Type 0
  NoneLess x [] = Unit {0}
  NoneLess x (y ∷ ys) = (lt y x ≡ false) × NoneLess x ys

  unfoldable pub Rises : List X → Type 0
  Rises [] = Unit {0}
  Rises (x ∷ xs) = NoneLess x xs × Rises xs

module _ {X : Type 0} (lt : X → X → Bool) (order : IsStrictWeakOrder lt) where
  pub never_less : (x : X) → lt x x ≡ false
  never_less x = by (cases_Bool (lt x x))
    where
      by : (lt x x ≡ true) ⊎ (lt x x ≡ false) → lt x x ≡ false
      by (inl e) = order.one_way x x e
      by (inr e) = e

  none_from : (x : X) (xs : List X) → ((j : ℕ) (d : X) → j < length xs → lt (get_or xs j d) x ≡ false) → NoneLess lt x xs
  unfolding NoneLess
  none_from x [] h = tt
  none_from x (y ∷ ys) h = (h zero x (omega arith), none_from x ys (λ j d l. h (suc j) d (omega (arith, l))))

  rises_from : (xs : List X) → ((i j : ℕ) (d : X) → i ≤ j → j < length xs → lt (get_or xs j d) (get_or xs i d) ≡ false) → Rises lt xs
  unfolding Rises
  rises_from [] h = tt
  rises_from (x ∷ xs) h = (none_from x xs (λ j d l. h zero (suc j) d (omega arith) (omega (arith, l))), rises_from xs (λ i j d le l. h (suc i) (suc j) d (omega (arith, le)) (omega (arith, l))))

  -- what a sort ensures
  pub sorted_rises : (xs : List X) → IsSortedBy lt xs → Rises lt xs
  sorted_rises xs s = rises_from xs (λ i j d le l. sorted_far lt order xs s i j d le l)

  both_not : (a b : Bool) → a ≡ false → b ≡ false → (not a && not b) ≡ true
  both_not a b e f = rw (e, f) refl

  self_ties : (x : X) → ties lt x x ≡ true
  self_ties x = both_not (lt x x) (lt x x) (never_less x) (never_less x)

  nil_cons : (x : X) (xs : List X) → [] ≡ x ∷ xs → ⊥
  nil_cons x xs e = cc e

  in_filter : (p : X → Bool) (x : X) (l xs : List X) → filter p xs ≡ x ∷ l → In x xs
  unfolding In
  in_filter p x l [] e = absurd (nil_cons x l e)
  in_filter p x l (y ∷ xs) e = by (p y) e (λ f. in_filter p x l xs f)
    where
      by : (b : Bool) → cond b (y ∷ filter p xs) (filter p xs) ≡ x ∷ l → (filter p xs ≡ x ∷ l → In x xs) → (y ≡ x) ⊎ In x xs
      by true f go = inl (cc f)
      by false f go = inr (go f)

  none_in : (x y : X) (xs : List X) → NoneLess lt x xs → In y xs → lt y x ≡ false
  unfolding NoneLess In
  none_in x y [] h i = absurd i
  none_in x y (z ∷ xs) h (inl e) = subst (λ w. lt w x ≡ false) e h.0
  none_in x y (z ∷ xs) h (inr i) = none_in x y xs h.1 i

  first_kept : (x : X) (xs : List X) → filter (ties lt x) (x ∷ xs) ≡ x ∷ filter (ties lt x) xs
  first_kept x xs = cond_true (ties lt x x) (x ∷ filter (ties lt x) xs) (filter (ties lt x) xs) (self_ties x)

  meet : (x y : X) (xs ys : List X) → Rises lt (x ∷ xs) → Rises lt (y ∷ ys) → ((z : X) → filter (ties lt z) (x ∷ xs) ≡ filter (ties lt z) (y ∷ ys)) → x ≡ y
  unfolding Rises In
  meet x y xs ys rx ry h = by (in_filter (ties lt x) x (filter (ties lt x) xs) (y ∷ ys) there) (in_filter (ties lt y) y (filter (ties lt y) ys) (x ∷ xs) (h y ∙ first_kept y ys))
    where
      there : filter (ties lt x) (y ∷ ys) ≡ x ∷ filter (ties lt x) xs
      there = sym (h x) ∙ first_kept x xs

      by : (y ≡ x) ⊎ In x ys → (x ≡ y) ⊎ In y xs → x ≡ y
      by (inl e) j = sym e
      by (inr i) (inl e) = e
      by (inr i) (inr j) =
          let tied : ties lt x y ≡ true = both_not (lt x y) (lt y x) (none_in y x ys ry.0 i) (none_in x y xs rx.0 j) in
          let f : y ∷ filter (ties lt x) ys ≡ x ∷ filter (ties lt x) xs = sym (cond_true (ties lt x y) (y ∷ filter (ties lt x) ys) (filter (ties lt x) ys) tied) ∙ there in
          let e : y ≡ x = cc f in
          sym e

  rest_same : (b : Bool) (x : X) (xs ys : List X) → cond b (x ∷ xs) xs ≡ cond b (x ∷ ys) ys → xs ≡ ys
  rest_same true x xs ys e = cc e
  rest_same false x xs ys e = e

  pub one_order : (xs ys : List X) → Rises lt xs → Rises lt ys → ((z : X) → filter (ties lt z) xs ≡ filter (ties lt z) ys) → xs ≡ ys
  unfolding Rises
  one_order [] [] rx ry h = refl
  one_order [] (y ∷ ys) rx ry h = absurd (nil_cons y (filter (ties lt y) ys) (h y ∙ first_kept y ys))
  one_order (x ∷ xs) [] rx ry h = absurd (nil_cons x (filter (ties lt x) xs) (sym (h x) ∙ first_kept x xs))
  one_order (x ∷ xs) (y ∷ ys) rx ry h =
      let e : x ≡ y = meet x y xs ys rx ry h in
      let t : xs ≡ ys =
      one_order xs ys rx.1 ry.1
      (λ z. rest_same (ties lt z x) x (filter (ties lt z) xs) (filter (ties lt z) ys) (subst (λ w. filter (ties lt z) (x ∷ xs) ≡ filter (ties lt z) (w ∷ ys)) (sym e) (h z))) in
      ap (λ w. w ∷ xs) e ∙ ap (λ l. y ∷ l) t
