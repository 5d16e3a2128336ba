-- Laws of what a node serves.
use Rattle.std.proofs.Common.{ℕ, ◌≡◌, ◌≤◌, ◌<◌, ◌+◌, ◌-◌, List, [], ◌∷◌, length, take, drop, get_or, Some, None, Bool, true, false, cond, refl, sym}
use Rattle.std.proofs.Common.{◌∙◌, ap, arith, zero, suc, length-take, length-drop, ◌==◌, ◌≢◌, min, max, nat_lt, subst, ◌⊎◌, inl, inr, ◌&&◌}
use Rattle.std.proofs.lemmas.Bool.{cases_Bool, cases_lt, lt-ltb, false≢true}
use Rattle.std.proofs.lemmas.Bool.Decides.{nat_tests, eqb_tells}
use Rattle.std.proofs.lemmas.List.{drop_more, drop_all, drop-take, take_all, take-take}
use Rattle.journal_core.specs.declared.segment.Segment.{Segment}
use Rattle.journal_core.specs.declared.node_state.NodeState.{NodeState}
use Rattle.journal_core.specs.Segments.{AreSound, AreRising, AreAbove, IsWithin, has_edit, any_body, end_of}
use Rattle.journal_core.specs.Reads.{served, serving, least_served, last_below, manifest_of, edits_from, answer_from, not_served}
use Rattle.journal_core.specs.Answers.{Serves, BeginsAt, last_of, is_refusal}
use Rattle.journal_core.specs.declared.reply.Reply.{Reply}
use Rattle.journal_core.specs.declared.reply.Reply.TheVariants.{Edits}
use Rattle.journal_core.proofs.PlaceLaws.{segment_within}

serving_one : (s : NodeState) (from : ℕ) (g : Segment) (gs : List Segment) → serving s from gs ≡ None → g.start ≤ from → from < g.start + length (served s g)
    → serving s from (g ∷ gs) ≡ Some (drop (from - g.start) (served s g))
unfolding serving
serving_one s from g gs n l h = grind (arith, nat_tests)

serving_other : (s : NodeState) (from : ℕ) (g : Segment) (gs : List Segment) → serving s from gs ≡ None → (g.start ≤ from → g.start + length (served s g) ≤ from)
    → serving s from (g ∷ gs) ≡ None
unfolding serving
serving_other s from g gs n l = grind (arith, nat_tests)

serving_found : (gs : List Segment) (i : ℕ) (s : NodeState) (from : ℕ) (piece : List (List ℕ)) → serving s from (drop i gs) ≡ Some piece → serving s from gs ≡ Some piece
unfolding serving
serving_found [] zero s from piece h = h
serving_found [] (suc i) s from piece h = h
serving_found (g ∷ gs) zero s from piece h = h
serving_found (g ∷ gs) (suc i) s from piece h = rw (serving_found gs i s from piece h) refl

-- from the end on, the first segment that serves the txid
pub serves_at : (s : NodeState) (from i count : ℕ) (d : Segment) → AreSound s.segments → i < length s.segments → serving s from (drop (i + 1) s.segments) ≡ None
    → served s (get_or s.segments i d) ≡ take count (get_or s.segments i d).bodies → count ≡ length (served s (get_or s.segments i d))
    → (get_or s.segments i d).start ≤ from → from - (get_or s.segments i d).start < count → Serves s from (get_or s.segments i d) count
serves_at s from i count d sound l none prefix e low high =
    let g = get_or s.segments i d in
    let long : count ≡ length (take count g.bodies) = rw (← prefix) e in
    let top : from < g.start + length (served s g) = omega arith in
    record {
      low = low;
      high = omega arith;
      within = segment_within s.segments i d sound l;
      prefix = prefix;
      long = omega (arith, length-take count g.bodies);
      piece = serving_found s.segments i s from _ (ap (serving s from) (drop_more s.segments i d l) ∙ serving_one s from g (drop (i + 1) s.segments) none low top);
    }

pub serves_not : (s : NodeState) (from i : ℕ) (d : Segment) (gs : List Segment) → i < length gs → serving s from (drop (i + 1) gs) ≡ None
    → ((get_or gs i d).start ≤ from → (get_or gs i d).start + length (served s (get_or gs i d)) ≤ from) → serving s from (drop i gs) ≡ None
serves_not s from i d gs l none h = ap (serving s from) (drop_more gs i d l) ∙ serving_other s from (get_or gs i d) (drop (i + 1) gs) none h

pub serves_none : (s : NodeState) (from i : ℕ) (gs : List Segment) → length gs ≤ i → serving s from (drop i gs) ≡ None
unfolding serving
serves_none s from i gs l = rw (drop_all i gs l) refl

pub ruleset serves = (serves_at, serves_not, serves_none, segment_within)

-- ## The least and the last served txid
least_above : (s : NodeState) (gs : List Segment) (a : ℕ) → AreAbove a gs → (least_served s gs ≡ 0) ⊎ (a < least_served s gs)
unfolding least_served
least_above s [] a p = inl refl
least_above s (g ∷ gs) a p = go (any_body (served s g)) (least_above s gs a p.1)
  where
    pick : (b : Bool) (n : ℕ) → (b ≡ true) ⊎ (b ≡ false) → (n ≡ 0) ⊎ (a < n) → (cond b g.start (min g.start n) ≡ 0) ⊎ (a < cond b g.start (min g.start n))
    pick true n e h = inr p.0
    pick false n e (inl h) = inl (omega (arith, h))
    pick false n e (inr h) = inr (omega (arith, p.0))

    go : (b : Bool) → (least_served s gs ≡ 0) ⊎ (a < least_served s gs)
        → (cond b (cond (least_served s gs == 0) g.start (min g.start (least_served s gs))) (least_served s gs) ≡ 0)
        ⊎ (a < cond b (cond (least_served s gs == 0) g.start (min g.start (least_served s gs))) (least_served s gs))
    go true h = pick (least_served s gs == 0) (least_served s gs) (cases_Bool _) h
    go false h = h

any_body_is : (xs : List (List ℕ)) → any_body xs ≡ nat_lt 0 (length xs)
any_body_is [] = refl
any_body_is (x ∷ xs) = sym (lt-ltb 0 (suc (length xs)) (omega arith))

least_one : (s : NodeState) (g : Segment) (gs : List Segment) → AreAbove g.start gs → any_body (served s g) ≡ true → least_served s (g ∷ gs) ≡ g.start
unfolding least_served
least_one s g gs p e = rw e (pick (least_served s gs == 0) (least_above s gs g.start p) (eqb_tells (least_served s gs) 0))
  where
    pick : (b : Bool) → (least_served s gs ≡ 0) ⊎ (g.start < least_served s gs)
        → ((b ≡ true) × (least_served s gs ≡ 0)) ⊎ ((b ≡ false) × (least_served s gs ≢ 0)) → cond b g.start (min g.start (least_served s gs)) ≡ g.start
    pick true h q = refl
    pick false (inl h) (inl q) = absurd (false≢true q.0)
    pick false (inl h) (inr q) = absurd (q.1 h)
    pick false (inr h) q = omega arith

least_other : (s : NodeState) (g : Segment) (gs : List Segment) → any_body (served s g) ≡ false → least_served s (g ∷ gs) ≡ least_served s gs
unfolding least_served
least_other s g gs e = rw e refl

rising_from : (gs : List Segment) (i : ℕ) → AreRising gs → AreRising (drop i gs)
rising_from [] zero r = tt
rising_from [] (suc i) r = tt
rising_from (g ∷ gs) zero r = r
rising_from (g ∷ gs) (suc i) r = rising_from gs i r.1

pub least_at : (s : NodeState) (gs : List Segment) (i : ℕ) (d : Segment) → AreSound gs → i < length gs → 0 < length (served s (get_or gs i d)) → least_served s (drop i gs) ≡ (get_or gs i d).start
least_at s gs i d sound l h =
    let e = drop_more gs i d l in
    let P : List Segment → Type 0 = λ xs. AreRising xs in
    let r : AreRising (get_or gs i d ∷ drop (i + 1) gs) = subst P e (rising_from gs i sound.rising) in
    ap (least_served s) e ∙ least_one s (get_or gs i d) (drop (i + 1) gs) r.0 (any_body_is (served s (get_or gs i d)) ∙ lt-ltb 0 _ h)

pub least_next : (s : NodeState) (gs : List Segment) (i : ℕ) (d : Segment) → i < length gs → length (served s (get_or gs i d)) ≡ 0 → least_served s (drop i gs) ≡ least_served s (drop (i + 1) gs)
least_next s gs i d l h =
    ap (least_served s) (drop_more gs i d l) ∙ least_other s (get_or gs i d) (drop (i + 1) gs) (any_body_is (served s (get_or gs i d)) ∙ ap (nat_lt 0) h)

pub least_none : (s : NodeState) (gs : List Segment) (i : ℕ) → length gs ≤ i → least_served s (drop i gs) ≡ 0
unfolding least_served
least_none s gs i l = rw (drop_all i gs l) refl

pub ruleset least = (least_at, least_next, least_none, segment_within)

last_one : (s : NodeState) (from : ℕ) (g : Segment) (gs : List Segment) → last_below s from (g ∷ gs) ≡ max (last_below s from gs) (last_of s from g)
unfolding last_below
last_one s from g gs = refl

pub last_at : (s : NodeState) (from : ℕ) (gs : List Segment) (i : ℕ) (d : Segment) → i < length gs
    → last_below s from (drop i gs) ≡ max (last_below s from (drop (i + 1) gs)) (last_of s from (get_or gs i d))
last_at s from gs i d l = ap (last_below s from) (drop_more gs i d l) ∙ last_one s from (get_or gs i d) (drop (i + 1) gs)

pub last_none : (s : NodeState) (from : ℕ) (gs : List Segment) (i : ℕ) → length gs ≤ i → last_below s from (drop i gs) ≡ 0
unfolding last_below
last_none s from gs i l = rw (drop_all i gs l) refl

pub ruleset last = (last_at, last_none, segment_within)

pub last_of_is : (s : NodeState) (from : ℕ) (g : Segment) → last_of s from g ≡ cond (nat_lt 0 (length (served s g)) && nat_lt g.start from) (min (from - 1) (g.start + length (served s g) - 1)) 0
last_of_is s from g = rw (any_body_is (served s g)) refl

-- ## Lines and pieces
line_one : (g : Segment) (gs : List Segment) → has_edit g ≡ true
    → manifest_of (g ∷ gs) ≡ record { start = g.start; end = end_of g; is_final = g.is_final; epoch = g.epoch } ∷ manifest_of gs
unfolding manifest_of
line_one g gs e = rw e refl

line_other : (g : Segment) (gs : List Segment) → has_edit g ≡ false → manifest_of (g ∷ gs) ≡ manifest_of gs
unfolding manifest_of
line_other g gs e = rw e refl

pub line_at : (gs : List Segment) (i : ℕ) (d : Segment) → i < length gs → has_edit (get_or gs i d) ≡ true
    → manifest_of (drop i gs) ≡ record {
      start = (get_or gs i d).start;
      end = end_of (get_or gs i d);
      is_final = (get_or gs i d).is_final;
      epoch = (get_or gs i d).epoch;
    } ∷ manifest_of (drop (i + 1) gs)
line_at gs i d l e = ap manifest_of (drop_more gs i d l) ∙ line_one (get_or gs i d) (drop (i + 1) gs) e

pub line_next : (gs : List Segment) (i : ℕ) (d : Segment) → i < length gs → has_edit (get_or gs i d) ≡ false → manifest_of (drop i gs) ≡ manifest_of (drop (i + 1) gs)
line_next gs i d l e = ap manifest_of (drop_more gs i d l) ∙ line_other (get_or gs i d) (drop (i + 1) gs) e

pub line_none : (gs : List Segment) (i : ℕ) → length gs ≤ i → manifest_of (drop i gs) ≡ []
unfolding manifest_of
line_none gs i l = rw (drop_all i gs l) refl

pub ruleset lines = (line_at, line_next, line_none, segment_within)

not_nil : (xs : List (List ℕ)) → 0 < length xs → xs ≢ []
not_nil xs h e = let n : length xs ≡ 0 = ap length e in absurd (omega arith)

length_piece : (xs : List (List ℕ)) (skip most : ℕ) → length (take most (drop skip xs)) ≡ min most (length xs - skip)
length_piece xs skip most = simp (length-take, length-drop)

-- a piece has an edit, and ends within the segment
pub piece_some : (xs : List (List ℕ)) (skip most : ℕ) → skip < length xs → 0 < most → take most (drop skip xs) ≢ []
piece_some xs skip most l m = not_nil (take most (drop skip xs)) (omega (arith, length_piece xs skip most))

pub piece_ends : (g : Segment) (from most : ℕ) → IsWithin g → g.start ≤ from → from - g.start < length g.bodies
    → from + length (take most (drop (from - g.start) g.bodies)) - 1 ≤ 4611686018427387904
piece_ends g from most w l h = omega (arith, length_piece g.bodies (from - g.start) most)

pub ruleset pieces = (piece_some, piece_ends)

-- a txid that is served isn't refused
pub served_is_given : (s : NodeState) (from : ℕ) (g : Segment) (count : ℕ) → Serves s from g count → is_refusal (edits_from s from) ≡ false
unfolding edits_from
served_is_given s from g count h = ap (λ o. is_refusal (answer_from s from o)) h.piece

pub edit_some : (g : Segment) → has_edit g ≡ true → 0 < length g.bodies
edit_some g h = grind (arith, nat_tests, any_body_is g.bodies)

-- what a fetch gives fits it
pub piece_fits : (g : Segment) (from most : ℕ) → IsWithin g → g.start ≤ from → from - g.start < length g.bodies
    → BeginsAt from (record { first = from; bodies = take most (drop (from - g.start) g.bodies) })
piece_fits g from most w l h = record { first = refl; last = piece_ends g from most w l h }

take_both : (m n : ℕ) (xs : List (List ℕ)) → take m (take n xs) ≡ take (min m n) xs
take_both m n xs = elim (cases_lt n m) [ inl h ↦ fewer (omega arith) (omega arith) | inr h ↦ more h (omega arith) ]
  where
    fewer : n ≤ m → min m n ≡ n → take m (take n xs) ≡ take (min m n) xs
    fewer h e = rw e (take_all m (take n xs) (omega (arith, length-take n xs)))

    more : m ≤ n → min m n ≡ m → take m (take n xs) ≡ take (min m n) xs
    more h e = rw e (take-take m n xs h)

piece_in_front : (xs : List (List ℕ)) (skip count : ℕ) → skip ≤ count → take 256 (drop skip (take count xs)) ≡ take (min 256 (count - skip)) (drop skip xs)
piece_in_front xs skip count l =
    let e : skip + (count - skip) ≡ count = omega arith in
    ap (λ n. take 256 (drop skip (take n xs))) (sym e) ∙ ap (take 256) (drop-take skip (count - skip) xs) ∙ take_both 256 (count - skip) (drop skip xs)

-- what a read gives
pub edits_served : (s : NodeState) (from : ℕ) (g : Segment) (count : ℕ) → Serves s from g count
    → edits_from s from ≡ Edits (record { first = from; bodies = take (min 256 (count - (from - g.start))) (drop (from - g.start) g.bodies) })
unfolding edits_from
edits_served s from g count p =
    let low : g.start ≤ from = p.low in
    let high : from < g.start + count = p.high in
    rw (p.piece, p.prefix) (ap (λ (piece : List (List ℕ)). let r : Reply = Edits (record { first = from; bodies = piece }) in r) (piece_in_front g.bodies (from - g.start) count (omega arith)))
