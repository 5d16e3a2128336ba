-- Paths at or under another path: that path's text, and a tail.
use Rattle.std.proofs.Common.{◌≡◌, ℕ, ◌<◌, ◌+◌, List, [], ◌∷◌, ◌++◌, length, drop, Bool, true, false, cond, refl, sym, ap, ◌∙◌, append_assoc, append-nil, length-append, arith, ◌==◌, ◌&&◌}
use Rattle.std.specs.Prelude.{◌||◌}
use Rattle.std.proofs.Math.Bool.{and_assoc}
use Rattle.std.proofs.lemmas.Bool.Decides.{nat_tests}
use Rattle.ns_tree.specs.Path.{same_text, walk_cmp, begins_with, stem, path_of_stem, is_under, is_at_or_under, has_slash, before_last_slash}
use Rattle.ns_tree.specs.Path.{parent_of, is_component, are_components, is_path, is_root, moved_path}
use Rattle.ns_tree.proofs.Order.{same_text_is, same_text_self}
use Rattle.ns_tree.proofs.Parents.{root_path, Below, below_root, stem_same, front_begins, shorter, root_apart, under_parent}
use Rattle.ns_tree.proofs.UnderPaths.{prefix_cmp}
use Rattle.std.proofs.lemmas.Bool.{and_parts, or_right}

abbrev pub is_tail : List ℕ → Bool
is_tail [] = true
is_tail (b ∷ bs) = b == 47

pub record Tail (p q : List ℕ) : Type 0 where
  pub rest : List ℕ
  pub is : q ≡ p ++ rest
  pub good : is_tail rest ≡ true

-- ## What is at or under a path has a tail
pub begins_split : (p q : List ℕ) → begins_with p q ≡ true → q ≡ p ++ drop (length p) q
begins_split [] q h = refl
begins_split (n ∷ ns) [] h = absurd (cc h)
begins_split (n ∷ ns) (x ∷ xs) h =
    let parts : ((n == x) ≡ true) × (begins_with ns xs ≡ true) = and_parts (n == x) (begins_with ns xs) h in
    let first : x ≡ n = (let e : (n == x) ≡ true = parts.0 in grind (arith, nat_tests, e)) in
    let rest : xs ≡ ns ++ drop (length ns) xs = begins_split ns xs parts.1 in
    (λ i. first i ∷ rest i)

stem_begins : (p q : List ℕ) → Below p → begins_with (p ++ 47 ∷ []) (stem q) ≡ true → begins_with (p ++ 47 ∷ []) q ≡ true
stem_begins p [] b h = h
stem_begins p (w ∷ []) b h = absurd (none (w == 47) h)
  where
    none : (z : Bool) → begins_with (p ++ 47 ∷ []) (cond z [] (w ∷ [])) ≡ true → ⊥
    none true h = cc (sym (ap (λ (l : List ℕ). begins_with (l ++ 47 ∷ []) []) b.is) ∙ h)
    none false h = cc (sym (and_last (b.first == w)) ∙ sym (ap (λ (l : List ℕ). begins_with (l ++ 47 ∷ []) (w ∷ [])) b.is) ∙ h)
      where
        and_last : (z : Bool) → (z && false) ≡ false
        and_last true = refl
        and_last false = refl
stem_begins p (w ∷ v ∷ ws) b h = h

pub tail_of : (p q : List ℕ) → Below p → is_at_or_under p q ≡ true → Tail p q
tail_of p q b h = by (same_text p q) refl h
  where
    by : (z : Bool) → same_text p q ≡ z → (z || is_under p q) ≡ true → Tail p q
    by true s h = record { rest = []; is = sym (same_text_is p q s) ∙ sym (append-nil p); good = refl }
    by false s h =
        let plain : begins_with (p ++ 47 ∷ []) q ≡ true = stem_begins p q b (ap (λ (w : List ℕ). begins_with (w ++ 47 ∷ []) (stem q)) (sym (stem_same p b)) ∙ h) in
        record {
          rest = 47 ∷ drop (length (p ++ 47 ∷ [])) q;
          is = begins_split (p ++ 47 ∷ []) q plain ∙ append_assoc p (47 ∷ []) (drop (length (p ++ 47 ∷ [])) q);
          good = refl;
        }

pub tail_under : (p rest : List ℕ) → Below p → is_tail rest ≡ true → is_at_or_under p (p ++ rest) ≡ true
tail_under p [] b g = ap (λ (z : Bool). z || is_under p (p ++ [])) (ap (same_text p) (append-nil p) ∙ same_text_self p)
tail_under p (c ∷ cs) b g =
    let slash : c ≡ 47 = (let e : (c == 47) ≡ true = g in grind (arith, nat_tests, e)) in
    or_right (same_text p (p ++ c ∷ cs)) (is_under p (p ++ c ∷ cs))
    (ap (λ (l : List ℕ). begins_with (l ++ 47 ∷ []) (stem (p ++ c ∷ cs))) (stem_same p b)
    ∙ ap (begins_with (p ++ 47 ∷ [])) (stem_long ∙ ap (λ (n : ℕ). p ++ n ∷ cs) slash ∙ sym (append_assoc p (47 ∷ []) cs))
    ∙ front_begins (p ++ 47 ∷ []) cs)
  where
    stem_long : stem (p ++ c ∷ cs) ≡ p ++ c ∷ cs
    stem_long = ap (λ (l : List ℕ). stem (l ++ c ∷ cs)) b.is ∙ sym (ap (λ (l : List ℕ). l ++ c ∷ cs) b.is)

-- ## Moves
pub drop_front : (p u : List ℕ) → drop (length p) (p ++ u) ≡ u
drop_front [] u = refl
drop_front (x ∷ xs) u = drop_front xs u

pub moved_tail : (src dst rest : List ℕ) → moved_path src dst (src ++ rest) ≡ dst ++ rest
moved_tail src dst rest = ap (λ (l : List ℕ). dst ++ l) (drop_front src rest)

pub same_prefix : (p u v : List ℕ) → same_text (p ++ u) (p ++ v) ≡ same_text u v
same_prefix [] u v = refl
same_prefix (x ∷ xs) u v = let here : (x == x) ≡ true = grind (arith, nat_tests) in rw here (same_prefix xs u v)

pub moved_by : (src dst q : List ℕ) (t : Tail src q) → moved_path src dst q ≡ dst ++ t.rest
moved_by src dst q t = ap (moved_path src dst) t.is ∙ moved_tail src dst t.rest

pub moved_cmp : (src dst p q : List ℕ) → Below src → is_at_or_under src p ≡ true → is_at_or_under src q ≡ true → walk_cmp (moved_path src dst p) (moved_path src dst q) ≡ walk_cmp p q
moved_cmp src dst p q b e f =
    let t : Tail src p = tail_of src p b e in
    let u : Tail src q = tail_of src q b f in
    (λ i. walk_cmp (moved_by src dst p t i) (moved_by src dst q u i))
    ∙ prefix_cmp dst t.rest u.rest
    ∙ sym (prefix_cmp src t.rest u.rest)
    ∙ (λ i. walk_cmp (sym t.is i) (sym u.is i))

pub moved_under : (src dst q : List ℕ) → Below src → Below dst → is_at_or_under src q ≡ true → is_at_or_under dst (moved_path src dst q) ≡ true
moved_under src dst q b d e =
    let t : Tail src q = tail_of src q b e in
    ap (is_at_or_under dst) (moved_by src dst q t) ∙ tail_under dst t.rest d t.good

-- ## Parents
slash_later : (p w : List ℕ) → has_slash w ≡ true → has_slash (p ++ w) ≡ true
slash_later [] w h = h
slash_later (x ∷ xs) w h = or_right (x == 47) (has_slash (xs ++ w)) (slash_later xs w h)

pub last_slash_later : (p w : List ℕ) → has_slash w ≡ true → before_last_slash (p ++ w) ≡ p ++ before_last_slash w
last_slash_later [] w h = refl
last_slash_later (x ∷ xs) w h = rw (slash_later xs w h) (ap (λ (l : List ℕ). x ∷ l) (last_slash_later xs w h))

stem_path : (p w : List ℕ) → Below p → path_of_stem (p ++ w) ≡ p ++ w
stem_path p w b = ap (λ (l : List ℕ). path_of_stem (l ++ w)) b.is ∙ sym (ap (λ (l : List ℕ). l ++ w) b.is)

pub parent_tail : (p u : List ℕ) → Below p → parent_of (p ++ 47 ∷ u) ≡ p ++ before_last_slash (47 ∷ u)
parent_tail p u b = ap path_of_stem (last_slash_later p (47 ∷ u) refl) ∙ stem_path p (before_last_slash (47 ∷ u)) b

pub tail_parent : (u : List ℕ) → is_tail (before_last_slash (47 ∷ u)) ≡ true
tail_parent u = by (has_slash u)
  where
    by : (z : Bool) → is_tail (cond z (47 ∷ before_last_slash u) []) ≡ true
    by true = refl
    by false = refl

-- the parent of what isn't at or under a path isn't either
pub parent_apart : (p q : List ℕ) → Below p → is_path q ≡ true → is_at_or_under p q ≡ false → is_at_or_under p (parent_of q) ≡ false
parent_apart p q b path apart = by (is_root q) refl (is_at_or_under p (parent_of q)) refl
  where
    by : (r : Bool) → is_root q ≡ r → (z : Bool) → is_at_or_under p (parent_of q) ≡ z → is_at_or_under p (parent_of q) ≡ false
    by r at false is = is
    by true at true is = ap (λ (w : List ℕ). is_at_or_under p (parent_of w)) (same_text_is q root_path at) ∙ root_apart p b
    by false at true is = absurd (cc (sym apart ∙ under_parent p q b (below_root q path at) is))

-- nor is a path's own parent
pub own_parent_apart : (p : List ℕ) → Below p → is_at_or_under p (parent_of p) ≡ false
own_parent_apart p b = by (is_at_or_under p (parent_of p)) refl (before_last_slash p) refl
  where
    by : (z : Bool) → is_at_or_under p (parent_of p) ≡ z → (w : List ℕ) → before_last_slash p ≡ w → is_at_or_under p (parent_of p) ≡ false
    by false is w e = is
    by true is [] e = ap (λ (l : List ℕ). is_at_or_under p (path_of_stem l)) e ∙ root_apart p b
    by true is (x ∷ w) e =
        let same : parent_of p ≡ x ∷ w = ap path_of_stem e in
        let t : Tail p (parent_of p) = tail_of p (parent_of p) b is in
        let long : length (parent_of p) ≡ length p + length t.rest = ap (λ (l : List ℕ). length l) t.is ∙ length-append p t.rest in
        let short : length (before_last_slash p) < length p = shorter p b.slash in
        let one : length (before_last_slash p) ≡ length (x ∷ w) = ap (λ (l : List ℕ). length l) e in
        let two : length (parent_of p) ≡ length (x ∷ w) = ap (λ (l : List ℕ). length l) same in
        absurd (omega (arith, long, short, one, two))

-- ## The grammar of a moved path
pub components_split : (c p u : List ℕ) → are_components c (p ++ 47 ∷ u) ≡ (are_components c p && are_components [] u)
components_split c [] u = refl
components_split c (b ∷ p) u = by (b == 47) (components_split [] p u) (components_split (c ++ b ∷ []) p u)
  where
    by : (z : Bool) → are_components [] (p ++ 47 ∷ u) ≡ (are_components [] p && are_components [] u)
        → are_components (c ++ b ∷ []) (p ++ 47 ∷ u) ≡ (are_components (c ++ b ∷ []) p && are_components [] u)
        → cond z (is_component c && are_components [] (p ++ 47 ∷ u)) (are_components (c ++ b ∷ []) (p ++ 47 ∷ u)) ≡
        (cond z (is_component c && are_components [] p) (are_components (c ++ b ∷ []) p) && are_components [] u)
    by true e f = ap (λ (x : Bool). is_component c && x) e ∙ sym (and_assoc (is_component c) (are_components [] p) (are_components [] u))
    by false e f = f

pub path_split : (p u : List ℕ) → Below p → is_path (p ++ 47 ∷ u) ≡ (is_path p && are_components [] u)
path_split p u b =
    ap (λ (l : List ℕ). is_path (l ++ 47 ∷ u)) b.is
    ∙ ap (λ (x : Bool). (b.first == 47) && x) (components_split [] (b.second ∷ b.rest) u)
    ∙ sym (and_assoc (b.first == 47) (are_components [] (b.second ∷ b.rest)) (are_components [] u))
    ∙ sym (ap (λ (l : List ℕ). is_path l && are_components [] u) b.is)

pub path_tail : (src dst rest : List ℕ) → Below src → Below dst → is_tail rest ≡ true → is_path dst ≡ true → is_path (src ++ rest) ≡ true → is_path (dst ++ rest) ≡ true
path_tail src dst [] b d g path e = ap is_path (append-nil dst) ∙ path
path_tail src dst (c ∷ u) b d g path e =
    let slash : c ≡ 47 = (let f : (c == 47) ≡ true = g in grind (arith, nat_tests, f)) in
    let old : is_path (src ++ 47 ∷ u) ≡ true = ap (λ (n : ℕ). is_path (src ++ n ∷ u)) (sym slash) ∙ e in
    let parts : (is_path src ≡ true) × (are_components [] u ≡ true) = and_parts (is_path src) (are_components [] u) (sym (path_split src u b) ∙ old) in
    ap (λ (n : ℕ). is_path (dst ++ n ∷ u)) slash ∙ path_split dst u d ∙ rw (path, parts.1) refl
