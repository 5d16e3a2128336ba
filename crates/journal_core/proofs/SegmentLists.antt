-- Laws of a node's list of segments.
use Rattle.std.proofs.Common.{◌≡◌, ◌≢◌, ℕ, ◌<◌, ◌≤◌, max, ◌==◌, true, List, [], ◌∷◌, Option, Some, None, refl, arith, subst, ap, ◌∙◌}
use Rattle.std.proofs.lemmas.Bool.{cond_both, eqb-true, eq-eqb, ne_eqb, cond-true, cond-false}
use Rattle.base_words.proofs.StartLaws as starts
use Rattle.journal_core.specs.Segments.{find_segment, put_segment, remove_segment, newest, has_edit, max_or, AreAbove, AreRising}
use Rattle.journal_core.specs.declared.segment.Segment.{Segment}
use Rattle.journal_core.proofs.PlaceLaws.{by_segments}

pub Rising-put : (g : Segment) (xs : List Segment) → AreRising xs → AreRising (put_segment g xs)
Rising-put = starts.put_rises by_segments

pub Rising-remove : (m : ℕ) (xs : List Segment) → AreRising xs → AreRising (remove_segment m xs)
Rising-remove = starts.without_rises by_segments

pub find-start : (m : ℕ) (xs : List Segment) (g : Segment) → find_segment m xs ≡ Some g → g.start ≡ m
find-start = starts.find_start by_segments

pub find-put_same : (g : Segment) (xs : List Segment) → find_segment g.start (put_segment g xs) ≡ Some g
find-put_same = starts.find_put_same by_segments

pub find-put_other : (m : ℕ) (g : Segment) (xs : List Segment) → g.start ≢ m → find_segment m (put_segment g xs) ≡ find_segment m xs
find-put_other = starts.find_put_other by_segments

pub find-remove_same : (m : ℕ) (xs : List Segment) → find_segment m (remove_segment m xs) ≡ None
find-remove_same = starts.find_without_same by_segments

pub find-remove_other : (m k : ℕ) (xs : List Segment) → k ≢ m → find_segment m (remove_segment k xs) ≡ find_segment m xs
find-remove_other = starts.find_without_other by_segments

-- ## The newest start
-- a segment with an edit starts at or below the newest start
pub newest-above : (m : ℕ) (xs : List Segment) (g : Segment) → find_segment m xs ≡ Some g → has_edit g ≡ true → (k : ℕ) × (newest xs ≡ Some k) × (m ≤ k)
unfolding find_segment newest
newest-above m [] g e h = cc
newest-above m (s ∷ rest) g e h =
    cond_both (s.start == m) (Some s) (find_segment m rest) (λ o. o ≡ Some g → (k : ℕ) × (newest (s ∷ rest) ≡ Some k) × (m ≤ k))
    (λ t f. let same : s ≡ g = cc in
    let edit : has_edit s ≡ true = ap has_edit same ∙ h in
    let start : s.start ≡ m = eqb-true s.start m t in
    (max_or s.start (newest rest), cond-true (has_edit s) (Some (max_or s.start (newest rest))) (newest rest) edit, at_least s.start (newest rest) m start))
    (λ t f. let r : (k : ℕ) × (newest rest ≡ Some k) × (m ≤ k) = newest-above m rest g f h in
    cond_both (has_edit s) (Some (max_or s.start (newest rest))) (newest rest) (λ o. (k : ℕ) × (o ≡ Some k) × (m ≤ k))
    (λ u. (max s.start r.0, ap (λ o. Some (max_or s.start o)) r.1, omega (arith, r.2)))
    (λ u. r))
    e
  where
    at_least : (x : ℕ) (o : Option ℕ) (n : ℕ) → x ≡ n → n ≤ max_or x o
    at_least x None n q = omega arith
    at_least x (Some y) n q = omega arith

-- the newest start is that of a segment with an edit
abbrev HasEditAt : ℕ → List Segment → Type 0
HasEditAt m xs = (g : Segment) × (find_segment m xs ≡ Some g) × (has_edit g ≡ true)

edit_later : (m : ℕ) (s : Segment) (rest : List Segment) → AreAbove s.start rest → HasEditAt m rest → HasEditAt m (s ∷ rest)
unfolding find_segment
edit_later m s rest a p =
    let lt : s.start < m = starts.found_above by_segments s.start m rest p.0 a p.1 in
    (p.0, cond-false (s.start == m) (Some s) (find_segment m rest) (ne_eqb s.start m (omega arith)) ∙ p.1, p.2)

edit_here : (m : ℕ) (s : Segment) (rest : List Segment) → AreAbove s.start rest → has_edit s ≡ true → (o : Option ℕ) → ((k : ℕ) → o ≡ Some k → HasEditAt k rest) →
    ◌≡◌ {A = Option ℕ} (Some (max_or s.start o)) (Some m) → HasEditAt m (s ∷ rest)
unfolding find_segment
edit_here m s rest a t None ih f = let same : s.start ≡ m = cc in (s, cond-true (s.start == m) (Some s) (find_segment m rest) (eq-eqb s.start m same), t)
edit_here m s rest a t (Some k) ih f =
    let p : HasEditAt k rest = ih k refl in
    let lt : s.start < k = starts.found_above by_segments s.start k rest p.0 a p.1 in
    let most : max s.start k ≡ m = cc in
    let same : k ≡ m = omega arith in
    subst (λ j. HasEditAt j (s ∷ rest)) same (edit_later k s rest a p)

pub newest-found : (m : ℕ) (xs : List Segment) → AreRising xs → newest xs ≡ Some m → (g : Segment) × (find_segment m xs ≡ Some g) × (has_edit g ≡ true)
unfolding newest
newest-found m [] r e = cc
newest-found m (s ∷ rest) r e =
    cond_both (has_edit s) (Some (max_or s.start (newest rest))) (newest rest) (λ o. o ≡ Some m → HasEditAt m (s ∷ rest))
    (λ t f. edit_here m s rest r.0 t (newest rest) (λ k h. newest-found k rest r.1 h) f)
    (λ t f. edit_later m s rest r.0 (newest-found m rest r.1 f)) e
