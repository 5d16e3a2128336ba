-- Laws of lists by rising start, whatever finds, puts and removes their items.
use Rattle.std.proofs.Common.{ℕ, zero, suc, ◌≡◌, ◌≢◌, ◌<◌, ◌≤◌, ◌+◌, ◌==◌, nat_lt, cond, List, [], ◌∷◌, length, get_or, take, drop, set, insert, Option, Some, None}
use Rattle.std.proofs.Common.{Result, Ok, Err, IfOk, IfErr, inl, inr, refl, sym, ap, subst, ◌∙◌, arith}
use Rattle.std.specs.List.{remove, AllByRecursion}
use Rattle.std.specs.List.Sorted.{IsSearchInRange, IsBinarySearchResult, IsNonDecreasingBy}
use Rattle.std.specs.Ordering.{nat_cmp, ordering_index}
use Rattle.std.proofs.lemmas.Bool.{cases_order, cases_eq}
use Rattle.std.proofs.lemmas.Bool.Decides.{nat_tests}
use Rattle.std.proofs.lemmas.Cmp.{ranked}
use Rattle.std.proofs.lemmas.List.{get_or_default}
use Rattle.std.proofs.lemmas.Option.{same_Some}
use Rattle.base_words.specs.Starts.{Above, Below, Rises, IsAt, IsGap}

-- ## The order
module _ {R : Type 0} (start_of : R → ℕ) where
  pub Above-mono : (a b : ℕ) (xs : List R) → a ≤ b → Above start_of b xs → Above start_of a xs
  Above-mono a b [] le above = tt
  Above-mono a b (x ∷ xs) le above = (omega (arith, le, above.0), Above-mono a b xs le above.1)

  above_at : (a : ℕ) (xs : List R) (i : ℕ) (d : R) → Above start_of a xs → i < length xs → a < start_of (get_or xs i d)
  above_at a [] i d above lt = absurd (omega (arith, lt))
  above_at a (x ∷ xs) zero d above lt = above.0
  above_at a (x ∷ xs) (suc i) d above lt = above_at a xs i d above.1 (omega (arith, lt))

  rises_at : (xs : List R) (i j : ℕ) (d : R) → Rises start_of xs → i < j → j < length xs → start_of (get_or xs i d) < start_of (get_or xs j d)
  rises_at [] i j d rises before lt = absurd (omega (arith, lt))
  rises_at (x ∷ xs) i zero d rises before lt = absurd (omega (arith, before))
  rises_at (x ∷ xs) zero (suc j) d rises before lt = above_at (start_of x) xs j d rises.0 (omega (arith, lt))
  rises_at (x ∷ xs) (suc i) (suc j) d rises before lt = rises_at xs i j d rises.1 (omega (arith, before)) (omega (arith, lt))

  no_lower : (xs : List R) (i j : ℕ) (d : R) → Rises start_of xs → i ≤ j → j < length xs → start_of (get_or xs i d) ≤ start_of (get_or xs j d)
  no_lower xs i j d rises le lt =
      elim (cases_eq i j) [
        | inl same ↦ subst (λ (k : ℕ). start_of (get_or xs i d) ≤ start_of (get_or xs k d)) same (omega arith)
        | inr ne ↦ omega (arith, rises_at xs i j d rises (omega (arith, le, ne)) lt)
      ]

  -- what stands before a place is below, and what stands from it on above
  below_by : (start i : ℕ) (xs : List R) → ((k : ℕ) (d : R) → k < i → start_of (get_or xs k d) < start) → Below start_of start (take i xs)
  below_by start zero xs each = tt
  below_by start (suc i) [] each = tt
  below_by start (suc i) (x ∷ xs) each = (each 0 x (omega arith), below_by start i xs (λ k d lt. each (suc k) d (omega (arith, lt))))

  above_by : (start i : ℕ) (xs : List R) → ((k : ℕ) (d : R) → i ≤ k → k < length xs → start < start_of (get_or xs k d)) → Above start_of start (drop i xs)
  above_by start zero [] each = tt
  above_by start zero (x ∷ xs) each = (each 0 x (omega arith) (omega arith), above_by start zero xs (λ k d le lt. each (suc k) d (omega arith) (omega (arith, lt))))
  above_by start (suc i) [] each = tt
  above_by start (suc i) (x ∷ xs) each = above_by start i xs (λ k d le lt. each (suc k) d (omega (arith, le)) (omega (arith, lt)))

  -- ## A place that is looked for
  comparisons_rise : (start : ℕ) (xs : List R) → Rises start_of xs → IsNonDecreasingBy (λ x. ordering_index (nat_cmp (start_of x) start)) xs
  comparisons_rise start xs rises i j d le lt = let no_lower_here = no_lower xs i j d rises le lt in grind (arith, nat_tests)

  pub searched_at : (start : ℕ) (xs : List R) (r : Result ℕ ℕ) → IsSearchInRange r (length xs) → IsBinarySearchResult (λ x. nat_cmp (start_of x) start) xs r
      → IfOk r (λ place. IsAt start_of start place xs)
  searched_at start xs (Ok place) within equal = record { within = within; there = λ d. ranked _ start _ (sym (equal d)) }
  searched_at start xs (Err place) within parted = tt

  pub searched_gap : (start : ℕ) (xs : List R) (r : Result ℕ ℕ) → Rises start_of xs → IsSearchInRange r (length xs) → IsBinarySearchResult (λ x. nat_cmp (start_of x) start) xs r
      → IfErr r (λ place. IsGap start_of start place xs)
  searched_gap start xs (Ok place) rises within equal = tt
  searched_gap start xs (Err place) rises within parted =
      let split = parted (comparisons_rise start xs rises) in
      record {
        within = within;
        below = below_by start place xs (λ k d lt. ranked _ start _ (sym (split.0 k d (omega arith) lt)));
        above = above_by start place xs (λ k d le lt. ranked _ start _ (sym (split.1 k d le lt)));
      }

  pub at_read : (start i : ℕ) (xs : List R) (d : R) → i < length xs → d ≡ get_or xs i d → start_of d ≡ start → IsAt start_of start i xs
  at_read start i xs d lt is e = record { within = lt; there = λ other. ap start_of (get_or_default xs i other d lt ∙ sym is) ∙ e }

  pub gap_none : (start : ℕ) (xs : List R) → length xs ≡ 0 → IsGap start_of start 0 xs
  gap_none start xs none = record { within = omega arith; below = tt; above = above_by start 0 xs (λ k d le lt. absurd (omega (arith, none, lt))) }

  -- after the last
  pub gap_last : (start i n : ℕ) (xs : List R) (d : R) → Rises start_of xs → n ≡ length xs → i + 1 ≡ n → d ≡ get_or xs i d → start_of d < start → IsGap start_of start n xs
  gap_last start i n xs d rises all last is lower = record {
    within = omega (arith, all);
    below = below_by start n xs (λ k other lt.
        let same : start_of (get_or xs i other) ≡ start_of d = ap start_of (get_or_default xs i other d (omega (arith, all, last)) ∙ sym is) in
        omega (arith, no_lower xs k i other rises (omega (arith, lt, last)) (omega (arith, all, last)), same, lower));
    above = above_by start n xs (λ k other le lt. absurd (omega (arith, le, lt, all)));
  }

pub ruleset sides = (at_read, gap_none, gap_last)

-- ## Functions over such a list
-- they find an item by its start, put one in place of that with its start, and leave one out
pub record IsByStart {R : Type 0} (start_of : R → ℕ) (find : ℕ → List R → Option R) (put : R → List R → List R) (without : ℕ → List R → List R) : Type 0 where
  pub find_none : (start : ℕ) → find start [] ≡ None
  pub find_more : (start : ℕ) (x : R) (xs : List R) → find start (x ∷ xs) ≡ cond (start_of x == start) (Some x) (find start xs)
  pub put_none : (new : R) → put new [] ≡ new ∷ []
  pub put_more : (new x : R) (xs : List R) → put new (x ∷ xs) ≡ cond (start_of x == start_of new) (new ∷ xs) (cond (nat_lt (start_of new) (start_of x)) (new ∷ x ∷ xs) (x ∷ put new xs))
  pub without_none : (start : ℕ) → without start [] ≡ []
  pub without_more : (start : ℕ) (x : R) (xs : List R) → without start (x ∷ xs) ≡ cond (start_of x == start) (without start xs) (x ∷ without start xs)

module _ {R : Type 0} {start_of : R → ℕ} {find : ℕ → List R → Option R} {put : R → List R → List R} {without : ℕ → List R → List R} (by : IsByStart start_of find put without) where
  pub find_here : (start : ℕ) (x : R) (xs : List R) → start_of x ≡ start → find start (x ∷ xs) ≡ Some x
  find_here start x xs is = let step = by.find_more start x xs in grind (arith, nat_tests)

  pub find_on : (start : ℕ) (x : R) (xs : List R) → start_of x ≢ start → find start (x ∷ xs) ≡ find start xs
  find_on start x xs ne = let step = by.find_more start x xs in grind (arith, nat_tests)

  pub put_here : (new x : R) (xs : List R) → start_of x ≡ start_of new → put new (x ∷ xs) ≡ new ∷ xs
  put_here new x xs is = let step = by.put_more new x xs in grind (arith, nat_tests)

  pub put_before : (new x : R) (xs : List R) → start_of new < start_of x → put new (x ∷ xs) ≡ new ∷ x ∷ xs
  put_before new x xs lt = let step = by.put_more new x xs in grind (arith, nat_tests)

  pub put_on : (new x : R) (xs : List R) → start_of x < start_of new → put new (x ∷ xs) ≡ x ∷ put new xs
  put_on new x xs lt = let step = by.put_more new x xs in grind (arith, nat_tests)

  pub without_here : (start : ℕ) (x : R) (xs : List R) → start_of x ≡ start → without start (x ∷ xs) ≡ without start xs
  without_here start x xs is = let step = by.without_more start x xs in grind (arith, nat_tests)

  pub without_on : (start : ℕ) (x : R) (xs : List R) → start_of x ≢ start → without start (x ∷ xs) ≡ x ∷ without start xs
  without_on start x xs ne = let step = by.without_more start x xs in grind (arith, nat_tests)

  -- what holds of such a list, by its first item
  find_by : (Q : Option R → Type 0) (start : ℕ) (x : R) (xs : List R) → (start_of x ≡ start → Q (Some x)) → (start_of x ≢ start → Q (find start xs)) → Q (find start (x ∷ xs))
  find_by Q start x xs here on =
      elim (cases_eq (start_of x) start) [ inl is ↦ subst Q (sym (find_here start x xs is)) (here is) | inr ne ↦ subst Q (sym (find_on start x xs ne)) (on ne) ]

  put_by : (Q : List R → Type 0) (new x : R) (xs : List R) → (start_of new ≡ start_of x → Q (new ∷ xs)) → (start_of new < start_of x → Q (new ∷ x ∷ xs))
      → (start_of x < start_of new → Q (x ∷ put new xs)) → Q (put new (x ∷ xs))
  put_by Q new x xs here before on =
      elim (cases_order (start_of new) (start_of x)) [
        | inl is ↦ subst Q (sym (put_here new x xs (sym is))) (here is)
        | inr other ↦ elim other [ inl lt ↦ subst Q (sym (put_before new x xs lt)) (before lt) | inr lt ↦ subst Q (sym (put_on new x xs lt)) (on lt) ]
      ]

  without_by : (Q : List R → Type 0) (start : ℕ) (x : R) (xs : List R) → (start_of x ≡ start → Q (without start xs)) → (start_of x ≢ start → Q (x ∷ without start xs)) → Q (without start (x ∷ xs))
  without_by Q start x xs here on =
      elim (cases_eq (start_of x) start) [ inl is ↦ subst Q (sym (without_here start x xs is)) (here is) | inr ne ↦ subst Q (sym (without_on start x xs ne)) (on ne) ]

  -- ## At a place
  found_at : (start i : ℕ) (xs : List R) (d : R) → Rises start_of xs → i < length xs → start_of (get_or xs i d) ≡ start → find start xs ≡ Some (get_or xs i d)
  found_at start i [] d rises lt is = absurd (omega (arith, lt))
  found_at start zero (x ∷ xs) d rises lt is = find_here start x xs is
  found_at start (suc i) (x ∷ xs) d rises lt is =
      let less : start_of x < start_of (get_or xs i d) = above_at start_of (start_of x) xs i d rises.0 (omega (arith, lt)) in
      find_on start x xs (λ e. omega (arith, less, is, e)) ∙ found_at start i xs d rises.1 (omega (arith, lt)) is

  -- the item at its place is found
  pub find_there : (start i : ℕ) (xs : List R) (d : R) → Rises start_of xs → IsAt start_of start i xs → find start xs ≡ Some (get_or xs i d)
  find_there start i xs d rises at = found_at start i xs d rises at.within (at.there d)

  pub find_above : (start : ℕ) (xs : List R) → Above start_of start xs → find start xs ≡ None
  find_above start [] above = by.find_none start
  find_above start (x ∷ xs) above = find_on start x xs (λ e. omega (arith, above.0, e)) ∙ find_above start xs above.1

  find_beside : (start i : ℕ) (xs : List R) → Below start_of start (take i xs) → Above start_of start (drop i xs) → find start xs ≡ None
  find_beside start zero xs below above = find_above start xs above
  find_beside start (suc i) [] below above = by.find_none start
  find_beside start (suc i) (x ∷ xs) below above = find_on start x xs (λ e. omega (arith, below.0, e)) ∙ find_beside start i xs below.1 above

  pub find_nowhere : (start i : ℕ) (xs : List R) → IsGap start_of start i xs → find start xs ≡ None
  find_nowhere start i xs gap = find_beside start i xs gap.below gap.above

  set_at : (new : R) (i : ℕ) (xs : List R) (d : R) → Rises start_of xs → i < length xs → start_of (get_or xs i d) ≡ start_of new → set xs i new ≡ put new xs
  set_at new i [] d rises lt is = absurd (omega (arith, lt))
  set_at new zero (x ∷ xs) d rises lt is = sym (put_here new x xs is)
  set_at new (suc i) (x ∷ xs) d rises lt is =
      let less : start_of x < start_of (get_or xs i d) = above_at start_of (start_of x) xs i d rises.0 (omega (arith, lt)) in
      ap (λ (ys : List R). x ∷ ys) (set_at new i xs d rises.1 (omega (arith, lt)) is) ∙ sym (put_on new x xs (omega (arith, less, is)))

  pub put_there : (new : R) (i : ℕ) (xs : List R) → Rises start_of xs → IsAt start_of (start_of new) i xs → set xs i new ≡ put new xs
  put_there new i xs rises at = set_at new i xs new rises at.within (at.there new)

  insert_beside : (new : R) (i : ℕ) (xs : List R) → Below start_of (start_of new) (take i xs) → Above start_of (start_of new) (drop i xs) → insert xs i new ≡ put new xs
  insert_beside new zero [] below above = sym (by.put_none new)
  insert_beside new zero (x ∷ xs) below above = sym (put_before new x xs above.0)
  insert_beside new (suc i) [] below above = sym (by.put_none new)
  insert_beside new (suc i) (x ∷ xs) below above = ap (λ (ys : List R). x ∷ ys) (insert_beside new i xs below.1 above) ∙ sym (put_on new x xs below.0)

  pub put_between : (new : R) (i : ℕ) (xs : List R) → IsGap start_of (start_of new) i xs → insert xs i new ≡ put new xs
  put_between new i xs gap = insert_beside new i xs gap.below gap.above

  pub without_above : (start : ℕ) (xs : List R) → Above start_of start xs → without start xs ≡ xs
  without_above start [] above = by.without_none start
  without_above start (x ∷ xs) above = without_on start x xs (λ e. omega (arith, above.0, e)) ∙ ap (λ (ys : List R). x ∷ ys) (without_above start xs above.1)

  remove_at : (start i : ℕ) (xs : List R) (d : R) → Rises start_of xs → i < length xs → start_of (get_or xs i d) ≡ start → remove xs i ≡ without start xs
  remove_at start i [] d rises lt is = absurd (omega (arith, lt))
  remove_at start zero (x ∷ xs) d rises lt is = sym (without_here start x xs is ∙ without_above start xs (subst (λ (n : ℕ). Above start_of n xs) is rises.0))
  remove_at start (suc i) (x ∷ xs) d rises lt is =
      let less : start_of x < start_of (get_or xs i d) = above_at start_of (start_of x) xs i d rises.0 (omega (arith, lt)) in
      ap (λ (ys : List R). x ∷ ys) (remove_at start i xs d rises.1 (omega (arith, lt)) is) ∙ sym (without_on start x xs (λ e. omega (arith, less, is, e)))

  pub remove_there : (start i : ℕ) (xs : List R) (d : R) → Rises start_of xs → IsAt start_of start i xs → remove xs i ≡ without start xs
  remove_there start i xs d rises at = remove_at start i xs d rises at.within (at.there d)

  without_beside : (start i : ℕ) (xs : List R) → Below start_of start (take i xs) → Above start_of start (drop i xs) → without start xs ≡ xs
  without_beside start zero xs below above = without_above start xs above
  without_beside start (suc i) [] below above = by.without_none start
  without_beside start (suc i) (x ∷ xs) below above =
      without_on start x xs (λ e. omega (arith, below.0, e)) ∙ ap (λ (ys : List R). x ∷ ys) (without_beside start i xs below.1 above)

  pub remove_nowhere : (start i : ℕ) (xs : List R) → IsGap start_of start i xs → xs ≡ without start xs
  remove_nowhere start i xs gap = sym (without_beside start i xs gap.below gap.above)

  -- ## What is found after that
  pub find_start : (start : ℕ) (xs : List R) (x : R) → find start xs ≡ Some x → start_of x ≡ start
  find_start start [] x e = let none : None ≡ Some x = sym (by.find_none start) ∙ e in absurd (cc)
  find_start start (y ∷ ys) x e = find_by (λ (o : Option R). o ≡ Some x → start_of x ≡ start) start y ys (λ is e1. ap start_of (sym (same_Some y x e1)) ∙ is) (λ ne e1. find_start start ys x e1) e

  pub found_above : (a start : ℕ) (xs : List R) (x : R) → Above start_of a xs → find start xs ≡ Some x → a < start
  found_above a start [] x above e = let none : None ≡ Some x = sym (by.find_none start) ∙ e in absurd (cc)
  found_above a start (y ∷ ys) x above e = find_by (λ (o : Option R). o ≡ Some x → a < start) start y ys (λ is e1. omega (arith, above.0, is)) (λ ne e1. found_above a start ys x above.1 e1) e

  pub found_all : (P : R → Type 0) (start : ℕ) (xs : List R) (x : R) → AllByRecursion P xs → find start xs ≡ Some x → P x
  found_all P start [] x all e = let none : None ≡ Some x = sym (by.find_none start) ∙ e in absurd (cc)
  found_all P start (y ∷ ys) x all e = find_by (λ (o : Option R). o ≡ Some x → P x) start y ys (λ is e1. subst P (same_Some y x e1) all.0) (λ ne e1. found_all P start ys x all.1 e1) e

  pub find_put_same : (new : R) (xs : List R) → find (start_of new) (put new xs) ≡ Some new
  find_put_same new [] = ap (find (start_of new)) (by.put_none new) ∙ find_here (start_of new) new [] refl
  find_put_same new (x ∷ xs) =
      put_by (λ (ys : List R). find (start_of new) ys ≡ Some new) new x xs (λ is. find_here (start_of new) new xs refl) (λ lt. find_here (start_of new) new (x ∷ xs) refl)
      (λ lt. find_on (start_of new) x (put new xs) (λ e. omega (arith, lt, e)) ∙ find_put_same new xs)

  -- the same item first, and alike after it
  after_same : (start : ℕ) (x : R) (xs ys : List R) → find start xs ≡ find start ys → find start (x ∷ xs) ≡ find start (x ∷ ys)
  after_same start x xs ys same = by.find_more start x xs ∙ ap (λ (o : Option R). cond (start_of x == start) (Some x) o) same ∙ sym (by.find_more start x ys)

  pub find_put_other : (start : ℕ) (new : R) (xs : List R) → start_of new ≢ start → find start (put new xs) ≡ find start xs
  find_put_other start new [] ne = ap (find start) (by.put_none new) ∙ find_on start new [] ne
  find_put_other start new (x ∷ xs) ne =
      put_by (λ (ys : List R). find start ys ≡ find start (x ∷ xs)) new x xs (λ is. find_on start new xs ne ∙ sym (find_on start x xs (λ e. ne (is ∙ e))))
      (λ lt. find_on start new (x ∷ xs) ne) (λ lt. after_same start x (put new xs) xs (find_put_other start new xs ne))

  pub find_without_same : (start : ℕ) (xs : List R) → find start (without start xs) ≡ None
  find_without_same start [] = ap (find start) (by.without_none start) ∙ by.find_none start
  find_without_same start (x ∷ xs) =
      without_by (λ (ys : List R). find start ys ≡ None) start x xs (λ is. find_without_same start xs) (λ ne. find_on start x (without start xs) ne ∙ find_without_same start xs)

  pub find_without_other : (other start : ℕ) (xs : List R) → start ≢ other → find other (without start xs) ≡ find other xs
  find_without_other other start [] ne = ap (find other) (by.without_none start)
  find_without_other other start (x ∷ xs) ne =
      without_by (λ (ys : List R). find other ys ≡ find other (x ∷ xs)) start x xs (λ is. find_without_other other start xs ne ∙ sym (find_on other x xs (λ e. ne (sym is ∙ e))))
      (λ differs. after_same other x (without start xs) xs (find_without_other other start xs ne))

  -- ## What is kept
  put_above : (a : ℕ) (new : R) (xs : List R) → a < start_of new → Above start_of a xs → Above start_of a (put new xs)
  put_above a new [] lt above = subst (λ (ys : List R). Above start_of a ys) (sym (by.put_none new)) (lt, tt)
  put_above a new (x ∷ xs) lt above = put_by (λ (ys : List R). Above start_of a ys) new x xs (λ is. (lt, above.1)) (λ before. (lt, above)) (λ on. (above.0, put_above a new xs lt above.1))

  pub put_rises : (new : R) (xs : List R) → Rises start_of xs → Rises start_of (put new xs)
  put_rises new [] rises = subst (λ (ys : List R). Rises start_of ys) (sym (by.put_none new)) (tt, tt)
  put_rises new (x ∷ xs) rises =
      put_by (λ (ys : List R). Rises start_of ys) new x xs (λ is. (subst (λ (n : ℕ). Above start_of n xs) (sym is) rises.0, rises.1))
      (λ before. ((before, Above-mono start_of (start_of new) (start_of x) xs (omega (arith, before)) rises.0), rises))
      (λ on. (put_above (start_of x) new xs on rises.0, put_rises new xs rises.1))

  pub put_all : (P : R → Type 0) (new : R) (xs : List R) → P new → AllByRecursion P xs → AllByRecursion P (put new xs)
  put_all P new [] p all = subst (λ (ys : List R). AllByRecursion P ys) (sym (by.put_none new)) (p, tt)
  put_all P new (x ∷ xs) p all = put_by (λ (ys : List R). AllByRecursion P ys) new x xs (λ is. (p, all.1)) (λ before. (p, all)) (λ on. (all.0, put_all P new xs p all.1))

  without_stays_above : (a start : ℕ) (xs : List R) → Above start_of a xs → Above start_of a (without start xs)
  without_stays_above a start [] above = subst (λ (ys : List R). Above start_of a ys) (sym (by.without_none start)) tt
  without_stays_above a start (x ∷ xs) above =
      without_by (λ (ys : List R). Above start_of a ys) start x xs (λ is. without_stays_above a start xs above.1) (λ ne. (above.0, without_stays_above a start xs above.1))

  pub without_rises : (start : ℕ) (xs : List R) → Rises start_of xs → Rises start_of (without start xs)
  without_rises start [] rises = subst (λ (ys : List R). Rises start_of ys) (sym (by.without_none start)) tt
  without_rises start (x ∷ xs) rises =
      without_by (λ (ys : List R). Rises start_of ys) start x xs (λ is. without_rises start xs rises.1) (λ ne. (without_stays_above (start_of x) start xs rises.0, without_rises start xs rises.1))

  pub without_all : (P : R → Type 0) (start : ℕ) (xs : List R) → AllByRecursion P xs → AllByRecursion P (without start xs)
  without_all P start [] all = subst (λ (ys : List R). AllByRecursion P ys) (sym (by.without_none start)) tt
  without_all P start (x ∷ xs) all = without_by (λ (ys : List R). AllByRecursion P ys) start x xs (λ is. without_all P start xs all.1) (λ ne. (all.0, without_all P start xs all.1))
