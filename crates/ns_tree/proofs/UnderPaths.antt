-- What is under a path comes after it, and nothing else comes between.
use Rattle.std.proofs.Common.{◌≡◌, ℕ, ◌<◌, ◌≤◌, ◌+◌, List, [], ◌∷◌, ◌++◌, length, refl, subst, arith, Bool, true, false}
use Rattle.std.specs.declared.cmp.Ordering.{Ordering}
use Rattle.std.specs.declared.cmp.Ordering.TheVariants.{Less, Equal, Greater}
use Rattle.std.proofs.lemmas.Grind.{common_steps}
use Rattle.std.proofs.lemmas.Bool.Decides.{nat_tests}
use Rattle.ns_tree.specs.Path.{walk_cmp, same_text, begins_with, is_under, is_at_or_under, stem}
use Rattle.ns_tree.proofs.Order.{walk_cmp_total, walk_cmp_exact, walk_cmp_self, same_text_is, turned}

pub begins_short : (s q : List ℕ) → length q ≤ length s → begins_with (s ++ 47 ∷ []) q ≡ false
begins_short [] [] h = refl
begins_short [] (y ∷ ys) h = absurd (omega arith)
begins_short (x ∷ xs) [] h = refl
begins_short (x ∷ xs) (y ∷ ys) h = let rest = begins_short xs ys (omega arith) in grind (arith, common_steps)

-- what begins with p and a `/` comes after p
pub begins_after : (p q : List ℕ) → begins_with (p ++ 47 ∷ []) q ≡ true → walk_cmp p q ≡ Less
begins_after [] [] h = absurd (cc)
begins_after [] (y ∷ ys) h = refl
begins_after (x ∷ xs) [] h = absurd (cc)
begins_after (x ∷ xs) (y ∷ ys) h =
    let same : x ≡ y = grind (arith, nat_tests) in
    let begins : begins_with (xs ++ 47 ∷ []) ys ≡ true = grind (arith, nat_tests) in
    let rest = begins_after xs ys begins in
    grind (arith, nat_tests)

-- and so does all that stands between p and it
pub begins_between : (p x y : List ℕ) → walk_cmp p x ≡ Less → walk_cmp x y ≡ Less → begins_with (p ++ 47 ∷ []) y ≡ true → begins_with (p ++ 47 ∷ []) x ≡ true
begins_between [] [] y a b h = absurd (cc)
begins_between [] (x ∷ xs) [] a b h = absurd (cc)
begins_between [] (x ∷ xs) (y ∷ ys) a b h = grind (arith, nat_tests)
begins_between (c ∷ cs) [] y a b h = absurd (cc)
begins_between (c ∷ cs) (x ∷ xs) [] a b h = absurd (cc)
begins_between (c ∷ cs) (x ∷ xs) (y ∷ ys) a b h =
    let same : c ≡ y = grind (arith, nat_tests) in
    let begins : begins_with (cs ++ 47 ∷ []) ys ≡ true = grind (arith, nat_tests) in
    let between = begins_between cs xs ys in
    grind (arith, nat_tests)

-- ---- what is under a path, by `is_under`, and what stands between, for a path that is not empty

pub under_after : (p q : List ℕ) → 0 < length p → is_under p q ≡ true → walk_cmp p q ≡ Less
under_after [] q n h = absurd (omega arith)
under_after (b ∷ []) [] n h = absurd (grind (arith, nat_tests))
under_after (b ∷ []) (y ∷ []) n h = absurd (grind (arith, nat_tests))
under_after (b ∷ []) (y ∷ z ∷ zs) n h = grind (arith, nat_tests)
under_after (b ∷ c ∷ cs) [] n h = absurd (cc)
under_after (b ∷ c ∷ cs) (y ∷ []) n h = absurd (grind (arith, nat_tests))
under_after (b ∷ c ∷ cs) (y ∷ z ∷ zs) n h = begins_after (b ∷ c ∷ cs) (y ∷ z ∷ zs) h

pub under_between : (p x y : List ℕ) → 0 < length p → walk_cmp p x ≡ Less → walk_cmp x y ≡ Less → is_under p y ≡ true → is_under p x ≡ true
under_between [] x y n a b h = absurd (omega arith)
under_between (e ∷ es) [] y n a b h = absurd (cc)
under_between (e ∷ es) (x ∷ xs) [] n a b h = absurd (cc)
under_between (e ∷ []) (x ∷ []) (y ∷ ys) n a b h = grind (arith, nat_tests)
under_between (e ∷ []) (x ∷ u ∷ us) (y ∷ []) n a b h = absurd (grind (arith, nat_tests))
under_between (e ∷ []) (x ∷ u ∷ us) (y ∷ v ∷ vs) n a b h = grind (arith, nat_tests)
under_between (e ∷ f ∷ fs) (x ∷ []) (y ∷ []) n a b h = absurd (grind (arith, nat_tests))
under_between (e ∷ f ∷ fs) (x ∷ []) (y ∷ v ∷ vs) n a b h = absurd (grind (arith, nat_tests))
under_between (e ∷ f ∷ fs) (x ∷ u ∷ us) (y ∷ []) n a b h = absurd (grind (arith, nat_tests))
under_between (e ∷ f ∷ fs) (x ∷ u ∷ us) (y ∷ v ∷ vs) n a b h = begins_between (e ∷ f ∷ fs) (x ∷ u ∷ us) (y ∷ v ∷ vs) a b h

pub not_true : (b : Bool) → (b ≡ true → ⊥) → b ≡ false
not_true true h = absurd (h refl)
not_true false h = refl

pub not_under_before : (p q : List ℕ) → 0 < length p → walk_cmp q p ≡ Less → is_under p q ≡ false
not_under_before p q n h = not_true (is_under p q) (λ e. let later = under_after p q n e in let back = walk_cmp_total.trans p q p later h in let same = walk_cmp_self p in cc)

pub not_under_self : (p : List ℕ) → 0 < length p → is_under p p ≡ false
not_under_self p n = not_true (is_under p p) (λ e. let later = under_after p p n e in let same = walk_cmp_self p in cc)

pub prefix_cmp : (s u v : List ℕ) → walk_cmp (s ++ u) (s ++ v) ≡ walk_cmp u v
prefix_cmp [] u v = refl
prefix_cmp (x ∷ xs) u v = let rest = prefix_cmp xs u v in grind (arith, nat_tests)

-- what follows p and is not under it follows all that is at or under p
pub after_under : (p x y : List ℕ) → 0 < length p → is_at_or_under p x ≡ true → walk_cmp p y ≡ Less → is_under p y ≡ false → walk_cmp x y ≡ Less
after_under p x y n inside later outside = by (same_text p x) refl
  where
    last : is_under p x ≡ true → (r : Ordering) → walk_cmp x y ≡ r → walk_cmp x y ≡ Less
    last u Less e = e
    last u Equal e = let same = walk_cmp_exact x y e in absurd (cc)
    last u Greater e = let between = under_between p y x n later (turned x y e) u in absurd (cc)

    by : (b : Bool) → same_text p x ≡ b → walk_cmp x y ≡ Less
    by true e = subst (λ q. walk_cmp q y ≡ Less) (same_text_is p x e) later
    by false e = let u : is_under p x ≡ true = grind (arith, nat_tests) in last u (walk_cmp x y) refl

-- what is before p is before all that is at or under p
pub before_under : (p x y : List ℕ) → 0 < length p → is_at_or_under p x ≡ true → walk_cmp y p ≡ Less → walk_cmp y x ≡ Less
before_under p x y n inside earlier = by (same_text p x) refl
  where
    by : (b : Bool) → same_text p x ≡ b → walk_cmp y x ≡ Less
    by true e = subst (λ q. walk_cmp y q ≡ Less) (same_text_is p x e) earlier
    by false e = let u : is_under p x ≡ true = grind (arith, nat_tests) in walk_cmp_total.trans y p x earlier (under_after p x n u)

-- what is under p is longer than p's stem
begins_long : (s q : List ℕ) → begins_with (s ++ 47 ∷ []) q ≡ true → length s + 1 ≤ length q
begins_long [] [] h = absurd (cc)
begins_long [] (y ∷ ys) h = omega arith
begins_long (x ∷ xs) [] h = absurd (cc)
begins_long (x ∷ xs) (y ∷ ys) h =
    let rest : begins_with (xs ++ 47 ∷ []) ys ≡ true = grind (arith, nat_tests) in
    omega (arith, begins_long xs ys rest)

stem_short : (q : List ℕ) → length (stem q) ≤ length q
stem_short [] = omega arith
stem_short (b ∷ []) = grind (arith, nat_tests)
stem_short (b ∷ c ∷ bs) = omega arith

pub under_long : (p q : List ℕ) → is_under p q ≡ true → length (stem p) + 1 ≤ length q
under_long p q h = omega (arith, begins_long (stem p) (stem q) h, stem_short q)
