-- The order of segments, and the best answer of a list.
use Rattle.std.proofs.Common.{ℕ, ◌≡◌, ◌<◌, ◌+◌, List, [], ◌∷◌, Option, Some, None, Bool, true, false, cond, refl, arith, suc, zero, option_map, MatchOption}
use Rattle.std.proofs.lemmas.Bool.Decides.{nat_tests}
use Rattle.journal_core.specs.declared.segment_info.SegmentInfo.{SegmentInfo}
use Rattle.journal_core.specs.declared.reply.Reply.{Reply}
use Rattle.writer_core.specs.Best.{Best, better, outranks, told_by}
use Rattle.writer_core.specs.Rank.{segment_of, is_above, best_among, best_place, segment_at, NoneTold, IsFirstBest}

never_both_by : (f g : Bool) (a b : SegmentInfo) → a.is_final ≡ f → b.is_final ≡ g → outranks b a ≡ true → outranks a b ≡ false
never_both_by true true a b p q h = rw (p, q) (let k = rw (p, q) at h in grind (arith, nat_tests))
never_both_by true false a b p q h = rw (p, q) (let k = rw (p, q) at h in grind (arith, nat_tests))
never_both_by false true a b p q h = rw (p, q) (let k = rw (p, q) at h in grind (arith, nat_tests))
never_both_by false false a b p q h = rw (p, q) (let k = rw (p, q) at h in grind (arith, nat_tests))

pub never_both : (a b : SegmentInfo) → outranks b a ≡ true → outranks a b ≡ false
never_both a b h = never_both_by a.is_final b.is_final a b refl refl h

not_above_by : (f g h : Bool) (c b a : SegmentInfo) → c.is_final ≡ f → b.is_final ≡ g → a.is_final ≡ h → outranks c b ≡ false → outranks b a ≡ false → outranks c a ≡ false
not_above_by true true true c b a p q r x y = rw (p, r) (let k = rw (p, q) at x in let l = rw (q, r) at y in grind (arith, nat_tests))
not_above_by true true false c b a p q r x y = rw (p, r) (let k = rw (p, q) at x in let l = rw (q, r) at y in grind (arith, nat_tests))
not_above_by true false true c b a p q r x y = rw (p, r) (let k = rw (p, q) at x in let l = rw (q, r) at y in grind (arith, nat_tests))
not_above_by true false false c b a p q r x y = rw (p, r) (let k = rw (p, q) at x in let l = rw (q, r) at y in grind (arith, nat_tests))
not_above_by false true true c b a p q r x y = rw (p, r) (let k = rw (p, q) at x in let l = rw (q, r) at y in grind (arith, nat_tests))
not_above_by false true false c b a p q r x y = rw (p, r) (let k = rw (p, q) at x in let l = rw (q, r) at y in grind (arith, nat_tests))
not_above_by false false true c b a p q r x y = rw (p, r) (let k = rw (p, q) at x in let l = rw (q, r) at y in grind (arith, nat_tests))
not_above_by false false false c b a p q r x y = rw (p, r) (let k = rw (p, q) at x in let l = rw (q, r) at y in grind (arith, nat_tests))

pub not_above : (c b a : SegmentInfo) → outranks c b ≡ false → outranks b a ≡ false → outranks c a ≡ false
not_above c b a x y = not_above_by c.is_final b.is_final a.is_final c b a refl refl refl x y

not_itself_by : (f : Bool) (a : SegmentInfo) → a.is_final ≡ f → outranks a a ≡ false
not_itself_by true a p = rw p (grind (arith, nat_tests))
not_itself_by false a p = rw p (grind (arith, nat_tests))

-- the best of a list, at its place
record IsBestFrom (place : ℕ) (answers : List Reply) (b : Best) : Type 0 where
  at : ℕ
  is : b.node ≡ place + at
  told : segment_at answers at ≡ Some b.info
  highest : (k : ℕ) → is_above (segment_at answers k) (Some b.info) ≡ false
  lowest : (k : ℕ) → k < at → is_above (Some b.info) (segment_at answers k) ≡ true

none_above : (o : Option SegmentInfo) (b a : SegmentInfo) → is_above o (Some b) ≡ false → outranks b a ≡ false → is_above o (Some a) ≡ false
none_above None b a h g = refl
none_above (Some c) b a h g = not_above c b a h g

none_told : (answer : Reply) (answers : List Reply) → segment_of answer ≡ None → NoneTold answers → NoneTold (answer ∷ answers)
none_told answer answers e h zero = e
none_told answer answers e h (suc k) = h k

later : (place : ℕ) (answer : Reply) (answers : List Reply) (b : Best) → is_above (segment_of answer) (Some b.info) ≡ false
    → is_above (Some b.info) (segment_of answer) ≡ true → IsBestFrom (place + 1) answers b → IsBestFrom place (answer ∷ answers) b
later place answer answers b h l r =
    record { at = suc r.at; is = omega (arith, r.is); told = r.told; highest = high; lowest = low }
  where
    high : (k : ℕ) → is_above (segment_at (answer ∷ answers) k) (Some b.info) ≡ false
    high zero = h
    high (suc k) = r.highest k

    low : (k : ℕ) → k < suc r.at → is_above (Some b.info) (segment_at (answer ∷ answers) k) ≡ true
    low zero g = l
    low (suc k) g = r.lowest k (omega arith)

first : (place : ℕ) (answer : Reply) (answers : List Reply) (a : SegmentInfo) → segment_of answer ≡ Some a
    → ((k : ℕ) → is_above (segment_at answers k) (Some a) ≡ false) → IsBestFrom place (answer ∷ answers) (record { node = place; info = a })
first place answer answers a e h =
    record { at = 0; is = omega arith; told = e; highest = high; lowest = λ k g. absurd (omega arith) }
  where
    high : (k : ℕ) → is_above (segment_at (answer ∷ answers) k) (Some a) ≡ false
    high zero = rw e (not_itself_by a.is_final a refl)
    high (suc k) = h k

picks : (place : ℕ) (answer : Reply) (answers : List Reply) (a : SegmentInfo) (b : Best) (t : Bool) → outranks b.info a ≡ t → segment_of answer ≡ Some a
    → IsBestFrom (place + 1) answers b
    → MatchOption (cond t (Some b) (Some (record { node = place; info = a }))) (NoneTold (answer ∷ answers)) (IsBestFrom place (answer ∷ answers))
picks place answer answers a b true h e r = later place answer answers b (rw e (never_both a b.info h)) (rw e h) r
picks place answer answers a b false h e r = first place answer answers a e (λ k. none_above (segment_at answers k) b.info a (r.highest k) h)

joins : (place : ℕ) (answer : Reply) (answers : List Reply) (o : Option SegmentInfo) (r : Option Best) → segment_of answer ≡ o
    → MatchOption r (NoneTold answers) (IsBestFrom (place + 1) answers)
    → MatchOption (better (told_by place o) r) (NoneTold (answer ∷ answers)) (IsBestFrom place (answer ∷ answers))
joins place answer answers None None e h = none_told answer answers e h
joins place answer answers None (Some b) e h = later place answer answers b (rw e refl) (rw e refl) h
joins place answer answers (Some a) None e h = first place answer answers a e (λ k. rw (h k) refl)
joins place answer answers (Some a) (Some b) e h = picks place answer answers a b (outranks b.info a) refl e h

best_from_place : (place : ℕ) (answers : List Reply) → MatchOption (best_among place answers) (NoneTold answers) (IsBestFrom place answers)
unfolding best_among
best_from_place place [] = λ k. refl
best_from_place place (answer ∷ answers) =
    joins place answer answers (segment_of answer) (best_among (place + 1) answers) refl (best_from_place (place + 1) answers)

placed : (answers : List Reply) (o : Option Best) → MatchOption o (NoneTold answers) (IsBestFrom 0 answers)
    → MatchOption (option_map (λ b. b.node) o) (NoneTold answers) (IsFirstBest answers)
placed answers None h = h
placed answers (Some b) h =
    let n : b.node ≡ h.at = omega (arith, h.is) in
    record { info = b.info; told = rw n h.told; highest = h.highest; lowest = λ k l. h.lowest k (omega (arith, n, l)) }

pub best_place_is : (answers : List Reply) → MatchOption (best_place answers) (NoneTold answers) (IsFirstBest answers)
best_place_is answers = placed answers (best_among 0 answers) (best_from_place 0 answers)
