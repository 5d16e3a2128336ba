-- Laws of purges.
use Rattle.std.proofs.Common.{ℕ, ◌≡◌, ◌<◌, ◌≤◌, List, [], ◌∷◌, Bool, true, false, cond, not, refl, sym, ap, ◌∙◌, arith, filter, map, ◌==◌, ◌≢◌, ◌+◌}
use Rattle.std.proofs.Common.{◌-◌, ◌&&◌, length, take, drop, get_or, min, nat_lt, zero, suc, Option, Some, None, subst}
use Rattle.std.proofs.lemmas.Bool.Decides.{nat_tests}
use Rattle.std.proofs.lemmas.List.{drop_more, drop_all}
use Rattle.base_words.proofs.StartLaws.{without_here, without_on, without_above}
use Rattle.journal_core.specs.declared.segment.Segment.{Segment}
use Rattle.journal_core.specs.declared.node_state.NodeState.{NodeState}
use Rattle.journal_core.specs.Effects.{Remove, after_effects}
use Rattle.journal_core.specs.Segments.{remove_segment, AreAbove, AreRising, AreWithin, AreSound}
use Rattle.journal_core.specs.Places.{without, start_of_place, lies_before}
use Rattle.journal_core.proofs.PlaceLaws.{by_segments}

-- the effects of a purge, one by one
pub removed_each : (olds : List Segment) (s : NodeState) → after_effects s (map (λ (g : Segment). Remove g.start) olds) ≡ record s { segments = without olds s.segments }
unfolding after_effects
removed_each [] s = refl
removed_each (old ∷ olds) s = removed_each olds (record s { segments = remove_segment old.start s.segments })

-- the starts of these segments are above
without_head : (olds : List Segment) (g : Segment) (gs : List Segment) → AreAbove g.start olds → without olds (g ∷ gs) ≡ g ∷ without olds gs
without_head [] g gs p = refl
without_head (old ∷ olds) g gs p =
    ap (without olds) (without_on by_segments old.start g gs (λ same. omega (arith, p.0, same))) ∙ without_head olds g (remove_segment old.start gs) p.1

pub filter_above : (p : Segment → Bool) (start : ℕ) (gs : List Segment) → AreAbove start gs → AreAbove start (filter p gs)
filter_above p start [] a = tt
filter_above p start (g ∷ gs) a =
    elim (p g) as (λ b. AreAbove start (cond b (g ∷ filter p gs) (filter p gs))) [ true ↦ (a.0, filter_above p start gs a.1) | false ↦ filter_above p start gs a.1 ]

filter_rising : (p : Segment → Bool) (gs : List Segment) → AreRising gs → AreRising (filter p gs)
filter_rising p [] r = tt
filter_rising p (g ∷ gs) r =
    elim (p g) as (λ b. AreRising (cond b (g ∷ filter p gs) (filter p gs))) [ true ↦ (filter_above p g.start gs r.0, filter_rising p gs r.1) | false ↦ filter_rising p gs r.1 ]

filter_within : (p : Segment → Bool) (gs : List Segment) → AreWithin gs → AreWithin (filter p gs)
filter_within p [] r = tt
filter_within p (g ∷ gs) r =
    elim (p g) as (λ b. AreWithin (cond b (g ∷ filter p gs) (filter p gs))) [ true ↦ (r.0, filter_within p gs r.1) | false ↦ filter_within p gs r.1 ]

pub filter_sound : (p : Segment → Bool) (gs : List Segment) → AreSound gs → AreSound (filter p gs)
filter_sound p gs s = record { rising = filter_rising p gs s.rising; within = filter_within p gs s.within }

-- to remove one by one what passes is to keep what doesn't
without_is : (p : Segment → Bool) (gs : List Segment) → AreRising gs → without (filter p gs) gs ≡ filter (λ g. not (p g)) gs
without_is p [] r = refl
without_is p (g ∷ gs) r =
    elim (p g) as (λ b. without (cond b (g ∷ filter p gs) (filter p gs)) (g ∷ gs) ≡ cond (not b) (g ∷ filter (λ x. not (p x)) gs) (filter (λ x. not (p x)) gs)) [
      | true ↦ ap (without (filter p gs)) (without_here by_segments g.start g gs refl ∙ without_above by_segments g.start gs r.0) ∙ without_is p gs r.1
      | false ↦ without_head (filter p gs) g gs (filter_above p g.start gs r.0) ∙ ap (λ xs. g ∷ xs) (without_is p gs r.1)
    ]

pub without-filter : (p : Segment → Bool) (gs : List Segment) → AreSound gs → filter (λ g. not (p g)) gs ≡ without (filter p gs) gs
without-filter p gs s = sym (without_is p gs s.rising)

pub ruleset purges = (without-filter, filter_sound)

-- ## The first ones of those that may go
-- so many were counted, and the rest tells how many more there are and which is next
pub record StillCounts (p : Segment → Bool) (most count : ℕ) (rest all : List Segment) : Type 0 where
  pub few : count ≤ most
  pub next : start_of_place (filter p rest) (most - count) ≡ start_of_place (filter p all) most
  pub left : min (most - count) (length (filter p rest)) + count ≡ min most (length (filter p all))

pub counts_start : (p : Segment → Bool) (most : ℕ) (all : List Segment) → StillCounts p most 0 all all
counts_start p most all = record { few = omega arith; next = ap (start_of_place (filter p all)) (omega arith); left = omega arith }

filter_takes : (p : Segment → Bool) (gs : List Segment) (i : ℕ) (d : Segment) → i < length gs → p (get_or gs i d) ≡ true → filter p (drop i gs) ≡ get_or gs i d ∷ filter p (drop (i + 1) gs)
filter_takes p gs i d l h = ap (filter p) (drop_more gs i d l) ∙ ap (λ b. cond b (get_or gs i d ∷ filter p (drop (i + 1) gs)) (filter p (drop (i + 1) gs))) h

filter_skips : (p : Segment → Bool) (gs : List Segment) (i : ℕ) (d : Segment) → i < length gs → p (get_or gs i d) ≡ false → filter p (drop i gs) ≡ filter p (drop (i + 1) gs)
filter_skips p gs i d l h = ap (filter p) (drop_more gs i d l) ∙ ap (λ b. cond b (get_or gs i d ∷ filter p (drop (i + 1) gs)) (filter p (drop (i + 1) gs))) h

pub counts_more : (p : Segment → Bool) (most count i : ℕ) (d : Segment) (gs : List Segment) → StillCounts p most count (drop i gs) gs → i < length gs → p (get_or gs i d) ≡ true → count ≢ most
    → StillCounts p most (count + 1) (drop (i + 1) gs) gs
counts_more p most count i d gs h l t ne =
    let few : count ≤ most = h.few in
    let e = filter_takes p gs i d l t in
    let k : most - count ≡ suc (most - (count + 1)) = omega arith in
    let left = h.left in
    let long : length (filter p (drop i gs)) ≡ suc (length (filter p (drop (i + 1) gs))) = ap length e in
    record {
      few = omega arith;
      next = sym (ap (λ xs. start_of_place xs (most - count)) e ∙ ap (start_of_place (get_or gs i d ∷ filter p (drop (i + 1) gs))) k) ∙ h.next;
      left = omega arith;
    }

pub counts_skip : (p : Segment → Bool) (most count i : ℕ) (d : Segment) (gs : List Segment) → StillCounts p most count (drop i gs) gs → i < length gs → p (get_or gs i d) ≡ false
    → StillCounts p most count (drop (i + 1) gs) gs
counts_skip p most count i d gs h l t =
    let e = filter_skips p gs i d l t in
    let P : List Segment → Type 0 = λ xs. start_of_place xs (most - count) ≡ start_of_place (filter p gs) most in
    let Q : List Segment → Type 0 = λ xs. min (most - count) (length xs) + count ≡ min most (length (filter p gs)) in
    record { few = h.few; next = subst P e h.next; left = subst Q e h.left }

pub counts_full : (p : Segment → Bool) (most count i : ℕ) (d : Segment) (gs : List Segment) → StillCounts p most count (drop i gs) gs → i < length gs → p (get_or gs i d) ≡ true → count ≡ most
    → (count ≡ min most (length (filter p gs))) × (Some (get_or gs i d).start ≡ start_of_place (filter p gs) most)
counts_full p most count i d gs h l t e =
    let f = filter_takes p gs i d l t in
    let zero_left : most - count ≡ 0 = omega arith in
    let left = h.left in
    (omega arith, sym (ap (λ xs. start_of_place xs (most - count)) f ∙ ap (start_of_place (get_or gs i d ∷ filter p (drop (i + 1) gs))) zero_left) ∙ h.next)

pub counts_end : (p : Segment → Bool) (most count i : ℕ) (gs : List Segment) → StillCounts p most count (drop i gs) gs → length gs ≤ i
    → (count ≡ min most (length (filter p gs))) × (None ≡ start_of_place (filter p gs) most)
counts_end p most count i gs h l =
    let e : filter p (drop i gs) ≡ [] = ap (filter p) (drop_all i gs l) in
    let left = h.left in
    let long : length (filter p (drop i gs)) ≡ 0 = ap length e in
    (omega arith, sym (ap (λ xs. start_of_place xs (most - count)) e) ∙ h.next)

pub ruleset counts = (counts_start, counts_more, counts_skip, counts_full, counts_end)

none_below : (p : Segment → Bool) (a : ℕ) (gs : List Segment) → AreAbove a gs → filter (λ g. p g && nat_lt g.start a) gs ≡ []
none_below p a [] h = refl
none_below p a (g ∷ gs) h =
    let e : nat_lt g.start a ≡ false = grind (arith, nat_tests, h.0) in
    rw e (elim (p g) as (λ b. cond (b && false) (g ∷ filter (λ x. p x && nat_lt x.start a) gs) (filter (λ x. p x && nat_lt x.start a) gs) ≡ [])
    [ true ↦ none_below p a gs h.1 | false ↦ none_below p a gs h.1 ])

before_place : (g : Segment) (gs : List Segment) (k : ℕ) → AreAbove g.start gs → lies_before (start_of_place gs k) g ≡ true
before_place g [] k h = refl
before_place g (x ∷ xs) zero h = grind (arith, nat_tests, h.0)
before_place g (x ∷ xs) (suc k) h = before_place g xs k h.1

-- what lies before the next one is what comes first
pub first_old : (p : Segment → Bool) (gs : List Segment) (k : ℕ) → AreRising gs → filter (λ g. p g && lies_before (start_of_place (filter p gs) k) g) gs ≡ take k (filter p gs)
first_old p [] zero r = refl
first_old p [] (suc k) r = refl
first_old p (g ∷ gs) zero r =
    elim (p g) as (λ b. cond (b && lies_before (start_of_place (cond b (g ∷ filter p gs) (filter p gs)) 0) g)
    (g ∷ filter (λ x. p x && lies_before (start_of_place (cond b (g ∷ filter p gs) (filter p gs)) 0) x) gs)
    (filter (λ x. p x && lies_before (start_of_place (cond b (g ∷ filter p gs) (filter p gs)) 0) x) gs) ≡ take 0 (cond b (g ∷ filter p gs) (filter p gs)))
    [ true ↦ (let e : nat_lt g.start g.start ≡ false = grind (arith, nat_tests) in rw e (none_below p g.start gs r.0)) | false ↦ first_old p gs 0 r.1 ]
first_old p (g ∷ gs) (suc k) r =
    elim (p g) as (λ b. cond (b && lies_before (start_of_place (cond b (g ∷ filter p gs) (filter p gs)) (suc k)) g)
    (g ∷ filter (λ x. p x && lies_before (start_of_place (cond b (g ∷ filter p gs) (filter p gs)) (suc k)) x) gs)
    (filter (λ x. p x && lies_before (start_of_place (cond b (g ∷ filter p gs) (filter p gs)) (suc k)) x) gs) ≡ take (suc k) (cond b (g ∷ filter p gs) (filter p gs)))
    [ true ↦ rw (before_place g (filter p gs) k (filter_above p g.start gs r.0)) (ap (λ xs. g ∷ xs) (first_old p gs k r.1)) | false ↦ first_old p gs (suc k) r.1 ]

pub first-without : (p : Segment → Bool) (gs : List Segment) (k : ℕ) (next : Option ℕ) → AreSound gs → next ≡ start_of_place (filter p gs) k
    → filter (λ g. not (p g && lies_before next g)) gs ≡ without (take k (filter p gs)) gs
first-without p gs k next s e =
    let first : filter (λ g. p g && lies_before next g) gs ≡ take k (filter p gs) = rw e (first_old p gs k s.rising) in
    without-filter (λ g. p g && lies_before next g) gs s ∙ ap (λ xs. without xs gs) first

-- to remove a start is to keep the others
pub removes_start : (start : ℕ) (gs : List Segment) → filter (λ g. not (g.start == start)) gs ≡ remove_segment start gs
unfolding remove_segment
removes_start start [] = refl
removes_start start (g ∷ gs) =
    elim (g.start == start) as (λ b. cond (not b) (g ∷ filter (λ x. not (x.start == start)) gs) (filter (λ x. not (x.start == start)) gs) ≡ cond b
    (remove_segment start gs) (g ∷ remove_segment start gs))
    [ true ↦ removes_start start gs | false ↦ ap (λ xs. g ∷ xs) (removes_start start gs) ]
