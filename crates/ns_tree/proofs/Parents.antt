-- Paths other than the root's, and the directories that they stand in.
use Rattle.std.proofs.Common.{◌≡◌, ℕ, ◌<◌, List, [], ◌∷◌, ◌++◌, length, Bool, true, false, cond, refl, sym, ap, ◌∙◌, ◌⊎◌, inl, inr, arith, ◌==◌, ◌&&◌}
use Rattle.std.specs.Prelude.{◌||◌}
use Rattle.std.proofs.lemmas.Bool.Decides.{nat_tests}
use Rattle.ns_tree.specs.Path.{same_text, begins_with, stem, path_of_stem, is_under, is_at_or_under, has_slash, before_last_slash, parent_of, is_path, is_root}
use Rattle.ns_tree.proofs.Order.{same_text_is}
use Rattle.std.proofs.lemmas.Bool.{and_parts, or_right, or_cases}

abbrev pub root_path : List ℕ
root_path = 47 ∷ []

begins_trans : (x y z : List ℕ) → begins_with x y ≡ true → begins_with y z ≡ true → begins_with x z ≡ true
begins_trans [] y z a b = refl
begins_trans (n ∷ x) [] z a b = absurd (cc a)
begins_trans (n ∷ x) (m ∷ y) [] a b = absurd (cc b)
begins_trans (n ∷ x) (m ∷ y) (k ∷ z) a b =
    let p : ((n == m) ≡ true) × (begins_with x y ≡ true) = and_parts (n == m) (begins_with x y) a in
    let q : ((m == k) ≡ true) × (begins_with y z ≡ true) = and_parts (m == k) (begins_with y z) b in
    let first : (n == k) ≡ true = grind (arith, nat_tests, p.0, q.0) in
    rw first (begins_trans x y z p.1 q.1)

pub slash_after : (q : List ℕ) → has_slash q ≡ true → begins_with (before_last_slash q ++ 47 ∷ []) q ≡ true
slash_after [] e = absurd (cc e)
slash_after (b ∷ bs) e = by (has_slash bs) refl (λ h. slash_after bs h)
  where
    same : (b == b) ≡ true
    same = grind (arith, nat_tests)

    by : (c : Bool) → has_slash bs ≡ c → (has_slash bs ≡ true → begins_with (before_last_slash bs ++ 47 ∷ []) bs ≡ true) → begins_with (cond c (b ∷ before_last_slash bs) [] ++ 47 ∷ []) (b ∷ bs) ≡ true
    by true is go = rw same (go is)
    by false is go = let here : (47 == b) ≡ true = (let s : (b == 47) ≡ true = only (b == 47) (ap (λ (z : Bool). (b == 47) || z) (sym is) ∙ e) in grind (arith, nat_tests, s)) in rw here refl
      where
        only : (z : Bool) → (z || false) ≡ true → z ≡ true
        only true e = refl
        only false e = absurd (cc e)

pub front_begins : (x y : List ℕ) → begins_with x (x ++ y) ≡ true
front_begins [] y = refl
front_begins (n ∷ x) y = let same : (n == n) ≡ true = grind (arith, nat_tests) in rw same (front_begins x y)

front_begins_by : (q : List ℕ) → has_slash q ≡ true → begins_with (before_last_slash q) q ≡ true
front_begins_by q e = begins_trans (before_last_slash q) (before_last_slash q ++ 47 ∷ []) q (front_begins (before_last_slash q) (47 ∷ [])) (slash_after q e)

-- a path that isn't the root's
pub record Below (p : List ℕ) : Type 0 where
  pub first : ℕ
  pub second : ℕ
  pub rest : List ℕ
  pub is : p ≡ first ∷ second ∷ rest
  pub slash : has_slash p ≡ true

pub below_root : (p : List ℕ) → is_path p ≡ true → is_root p ≡ false → Below p
below_root [] a r = absurd (cc a)
below_root (b ∷ []) a r = let one : (b == 47) ≡ true = a in absurd (off (let same : b ≡ 47 = grind (arith, nat_tests, one) in same))
  where
    off : b ≡ 47 → ⊥
    off same = let root : is_root (b ∷ []) ≡ true = ap (λ (n : ℕ). is_root (n ∷ [])) same in cc (sym r ∙ root)
below_root (b ∷ c ∷ bs) a r =
    let p : ((b == 47) ≡ true) × _ = and_parts (b == 47) _ a in
    record { first = b; second = c; rest = bs; is = refl; slash = ap (λ (z : Bool). z || has_slash (c ∷ bs)) p.0 }

pub stem_same : (p : List ℕ) → Below p → stem p ≡ p
stem_same p b = ap stem b.is ∙ sym b.is

pub shorter : (q : List ℕ) → has_slash q ≡ true → length (before_last_slash q) < length q
shorter [] e = absurd (cc e)
shorter (b ∷ bs) e = by (has_slash bs) refl (λ h. shorter bs h)
  where
    by : (c : Bool) → has_slash bs ≡ c → (has_slash bs ≡ true → length (before_last_slash bs) < length bs) → length (cond c (b ∷ before_last_slash bs) []) < length (b ∷ bs)
    by true is go = let rec : length (before_last_slash bs) < length bs = go is in omega (arith, rec)
    by false is go = omega arith

-- what is at or under p with its parent is under p
pub under_parent : (p q : List ℕ) → Below p → Below q → is_at_or_under p (parent_of q) ≡ true → is_at_or_under p q ≡ true
under_parent p q b d e = by (before_last_slash q) refl e
  where
    under_it : begins_with (p ++ 47 ∷ []) q ≡ true → is_at_or_under p q ≡ true
    under_it h = or_right (same_text p q) (is_under p q) (ap (λ (w : List ℕ). begins_with (w ++ 47 ∷ []) (stem q)) (stem_same p b) ∙ ap (begins_with (p ++ 47 ∷ [])) (stem_same q d) ∙ h)

    no_root : same_text p (47 ∷ []) ≡ true → ⊥
    no_root s = let one : p ≡ 47 ∷ [] = same_text_is p (47 ∷ []) s in let two : b.first ∷ b.second ∷ b.rest ≡ 47 ∷ [] = sym b.is
        ∙ one in let lengths : length (b.first ∷ b.second ∷ b.rest) ≡ 1 = ap (λ (l : List ℕ). length l) two in omega (arith, lengths)

    long : (ws : List ℕ) → begins_with (p ++ 47 ∷ []) (stem ws) ≡ true → begins_with (p ++ 47 ∷ []) ws ≡ true
    long [] h = h
    long (w ∷ []) h = absurd (none (w == 47) h)
      where
        none : (z : Bool) → begins_with (p ++ 47 ∷ []) (cond z [] (w ∷ [])) ≡ true → ⊥
        none true h = cc (sym (ap (λ (l : List ℕ). begins_with (l ++ 47 ∷ []) []) b.is) ∙ h)
        none false h = cc (sym (and_last (b.first == w)) ∙ sym (ap (λ (l : List ℕ). begins_with (l ++ 47 ∷ []) (w ∷ [])) b.is) ∙ h)
          where
            and_last : (z : Bool) → (z && false) ≡ false
            and_last true = refl
            and_last false = refl
    long (w ∷ v ∷ ws) h = h

    by : (z : List ℕ) → before_last_slash q ≡ z → is_at_or_under p (path_of_stem z) ≡ true → is_at_or_under p q ≡ true
    by [] is e = absurd (root_case (or_cases (same_text p (47 ∷ [])) (is_under p (47 ∷ [])) e))
      where
        root_case : (same_text p (47 ∷ []) ≡ true) ⊎ (is_under p (47 ∷ []) ≡ true) → ⊥
        root_case (inl s) = no_root s
        root_case (inr u) = cc (sym (ap (λ (l : List ℕ). begins_with (stem l ++ 47 ∷ []) []) b.is) ∙ u)
    by (y ∷ z) is e = under_it (either (or_cases (same_text p (y ∷ z)) (is_under p (y ∷ z)) e))
      where
        either : (same_text p (y ∷ z) ≡ true) ⊎ (is_under p (y ∷ z) ≡ true) → begins_with (p ++ 47 ∷ []) q ≡ true
        either (inl s) = ap (λ (w : List ℕ). begins_with (w ++ 47 ∷ []) q) (same_text_is p (y ∷ z) s ∙ sym is) ∙ slash_after q d.slash
        either (inr u) =
            let plain : begins_with (p ++ 47 ∷ []) (stem (y ∷ z)) ≡ true = ap (λ (w : List ℕ). begins_with (w ++ 47 ∷ []) (stem (y ∷ z))) (sym (stem_same p b)) ∙ u in
            begins_trans (p ++ 47 ∷ []) (y ∷ z) q (long (y ∷ z) plain) (ap (λ (w : List ℕ). begins_with w q) (sym is) ∙ front_begins_by q d.slash)

-- the root isn't at or under another path
pub root_apart : (p : List ℕ) → Below p → is_at_or_under p root_path ≡ false
root_apart p b = by (same_text p root_path) refl
  where
    under : is_under p root_path ≡ false
    under = ap (λ (l : List ℕ). begins_with (stem l ++ 47 ∷ []) []) b.is

    by : (z : Bool) → same_text p root_path ≡ z → (z || is_under p root_path) ≡ false
    by true s = absurd (let one : p ≡ 47 ∷ [] = same_text_is p (47 ∷ []) s in let two : b.first ∷ b.second ∷ b.rest ≡ 47 ∷ [] = sym b.is
        ∙ one in let lengths : length (b.first ∷ b.second ∷ b.rest) ≡ 1 = ap (λ (l : List ℕ). length l) two in omega (arith, lengths))
    by false s = under

pub path_long : (p : List ℕ) → is_path p ≡ true → 0 < length p
path_long [] e = absurd (cc e)
path_long (b ∷ bs) e = omega arith
