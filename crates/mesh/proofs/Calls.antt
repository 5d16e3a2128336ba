-- The call that a writer makes next, read backwards; and the count of promises in a round, slot by
-- slot.
use Rattle.std.proofs.Common.{◌≡◌, ℕ, zero, suc, ◌+◌, ◌-◌, ◌<◌, ◌≤◌, List, [], ◌∷◌, Bool, true, false, cond, refl, sym, ap, ◌∙◌, arith, length, get_or, set}
use Rattle.std.specs.Prelude.{Option, Some, None, position, option_map, count_by}
use Rattle.std.proofs.lemmas.List.Quantifiers.{position-Some}
use Rattle.std.proofs.lemmas.List.Recursion.{is_count_by}
use Rattle.journal_core.specs.declared.request.Request.{Request}
use Rattle.writer_core.specs.declared.round.Round.{Round}
use Rattle.writer_core.specs.declared.round.Round.TheVariants as round
use Rattle.writer_core.specs.declared.phase.Phase.{Phase}
use Rattle.writer_core.specs.declared.phase.Phase.TheVariants as phase
use Rattle.writer_core.specs.declared.slot.Slot.{Slot}
use Rattle.writer_core.specs.declared.slot.Slot.TheVariants.{Waiting, LeftOut, Told}
use Rattle.writer_core.specs.Views.{WriterView}
use Rattle.writer_core.specs.Answers.{is_ok, is_waiting}
use Rattle.writer_core.specs.Rounds.{request_in, to_all}
use Rattle.writer_core.specs.Writer.{next_call, call_in, node_in}

abbrev pub pair : ℕ → Request → ℕ × Request
pair k q = (k, q)

pub record CallAt (w : WriterView) (k : ℕ) (q : Request) : Type 0 where
  pub round : Round
  pub phase : w.phase ≡ phase.InRound round
  pub node : node_in round w.slots ≡ Some k
  pub asks : q ≡ request_in w round

map_is : (r : Request) (o : Option ℕ) (k : ℕ) (q : Request) → option_map {U = ℕ × Request} (λ (node : ℕ). (node, r)) o ≡ Some (k, q) → (o ≡ Some k) × (q ≡ r)
map_is r None k q h = absurd (cc h)
map_is r (Some i) k q h =
    let whole : pair i r ≡ pair k q = cc h in
    (ap (λ (c : ℕ × Request). Some c.0) whole, sym (ap (λ (c : ℕ × Request). c.1) whole))

call_by : (p : Phase) (w : WriterView) (k : ℕ) (q : Request) → w.phase ≡ p → call_in p w ≡ Some (k, q) → CallAt w k q
call_by (phase.InRound r) w k q e h = let x : (node_in r w.slots ≡ Some k) × (q ≡ request_in w r) =
    map_is (request_in w r) (node_in r w.slots) k q h in record { round = r; phase = e; node = x.0; asks = x.1 }
call_by phase.Idle w k q e h = absurd (cc h)
call_by phase.Writing w k q e h = absurd (cc h)
call_by phase.Stopped w k q e h = absurd (cc h)

pub call_at : (w : WriterView) (k : ℕ) (q : Request) → next_call w ≡ Some (k, q) → CallAt w k q
call_at w k q e = call_by w.phase w k q refl e

-- ## The first node that waits
pub record Waiter (slots : List Slot) (k : ℕ) : Type 0 where
  pub low : 1 ≤ k
  pub high : k ≤ length slots
  pub waits : get_or slots (k - 1) Waiting ≡ Waiting
  pub first : (j : ℕ) → j < k - 1 → is_waiting (get_or slots j Waiting) ≡ false

waiting_is : (s : Slot) → is_waiting s ≡ true → s ≡ Waiting
waiting_is Waiting e = refl
waiting_is LeftOut e = absurd (cc e)
waiting_is (Told h) e = absurd (cc e)

pub waiter : (slots : List Slot) (k : ℕ) → option_map (λ i. i + 1) (position is_waiting slots) ≡ Some k → Waiter slots k
waiter slots k e = by (position is_waiting slots) refl e
  where
    by : (o : Option ℕ) → position is_waiting slots ≡ o → option_map (λ i. i + 1) o ≡ Some k → Waiter slots k
    by None f h = absurd (cc h)
    by (Some i) f h =
        let x : (i < length slots) × (is_waiting (get_or slots i Waiting) ≡ true) × ((j : ℕ) → j < i → is_waiting (get_or slots j Waiting) ≡ false) = position-Some is_waiting slots i Waiting f in
        let same : i + 1 ≡ k = cc h in
        let back : k - 1 ≡ i = omega (arith, same) in
        record {
          low = omega (arith, same);
          high = omega (arith, same, x.0);
          waits = ap (λ (z : ℕ). get_or slots z Waiting) back ∙ waiting_is (get_or slots i Waiting) x.1;
          first = λ j l. x.2 j (omega (arith, l, back));
        }

-- ## Counts
passing : {A : Type 0} → (A → Bool) → List A → ℕ
passing test [] = 0
passing test (x ∷ xs) = cond (test x) (1 + passing test xs) (passing test xs)

is_count : {A : Type 0} (test : A → Bool) (xs : List A) → passing test xs ≡ count_by test xs
unfolding passing
is_count test xs = is_count_by (passing test) test refl (λ x xs. refl) xs

none_passes : (left : List Bool) → passing (is_ok round.Propose) (to_all left) ≡ 0
unfolding passing
none_passes [] = refl
none_passes (l ∷ left) = none_passes left

pub none_count : (left : List Bool) → count_by (is_ok round.Propose) (to_all left) ≡ 0
none_count left = sym (is_count (is_ok round.Propose) (to_all left)) ∙ none_passes left

passing_set : {A : Type 0} (test : A → Bool) (xs : List A) (i : ℕ) (d x : A) → i < length xs → test (get_or xs i d) ≡ false
    → passing test (set xs i x) ≡ cond (test x) (passing test xs + 1) (passing test xs)
unfolding passing
passing_set test [] i d x l e = absurd (omega (arith, l))
passing_set {A} test (y ∷ xs) zero d x l e = by (test y) (test x) e
  where
    by : (b c : Bool) → b ≡ false → cond c (1 + passing test xs) (passing test xs) ≡ cond c (cond b (1 + passing test xs) (passing test xs) + 1) (cond b (1 + passing test xs) (passing test xs))
    by true c f = absurd (cc f)
    by false true f = omega arith
    by false false f = omega arith
passing_set {A} test (y ∷ xs) (suc i) d x l e = by (test y) (test x) (passing_set test xs i d x (omega (arith, l)) e)
  where
    by : (b c : Bool) → passing test (set xs i x) ≡ cond c (passing test xs + 1) (passing test xs)
        → cond b (1 + passing test (set xs i x)) (passing test (set xs i x)) ≡ cond c (cond b (1 + passing test xs) (passing test xs) + 1) (cond b (1 + passing test xs) (passing test xs))
    by true true h = omega (arith, h)
    by true false h = omega (arith, h)
    by false true h = omega (arith, h)
    by false false h = omega (arith, h)

pub count_set : {A : Type 0} (test : A → Bool) (xs : List A) (i : ℕ) (d x : A) → i < length xs → test (get_or xs i d) ≡ false
    → count_by test (set xs i x) ≡ cond (test x) (count_by test xs + 1) (count_by test xs)
count_set test xs i d x l e = sym (is_count test (set xs i x)) ∙ (passing_set test xs i d x l e ∙ ap (λ (z : ℕ). cond (test x) (z + 1) z) (is_count test xs))
