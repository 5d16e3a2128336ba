-- A majority that answered with the Ok kind is enough for a round; and who has which part of it.
use Rattle.std.proofs.Common.{◌≡◌, ◌≢◌, ℕ, zero, suc, ◌+◌, ◌*◌, ◌<◌, ◌≤◌, ◌==◌, ◌||◌, ◌⊎◌, inl, inr, List, [], ◌∷◌, Bool, true, false, not, cond}
use Rattle.std.proofs.Common.{length, refl, sym, ap, ◌∙◌, subst, arith, count_by, filter, map}
use Rattle.std.specs.Prelude.{slice_set}
use Rattle.std.specs.List.{list_any}
use Rattle.std.proofs.lemmas.Bool.{cond_both, cases_eq, cond-true, eqb-true, eqb-false, lt-ltb}
use Rattle.std.proofs.lemmas.List.Sums.{length-filter}
use Rattle.writer_core.specs.declared.round.Round.{Round}
use Rattle.writer_core.specs.declared.slot.Slot.{Slot}
use Rattle.writer_core.specs.declared.slot.Slot.TheVariants.{Waiting, LeftOut}
use Rattle.writer_core.specs.Answers.{is_ok, is_waiting, has_majority}
use Rattle.writer_core.specs.Rounds.{to_all, to_others, left_out_after}
use Rattle.run_safety.specs.Majority.{Member, Distinct, IsMajority}
use Rattle.run_safety.proofs.Majorities.{without}
use Rattle.run_safety.proofs.Slots.{At, At-range, ok_from, ok_count}

-- ## Distinct nodes of a list are no more than the list
length-less : (x : ℕ) (ys : List ℕ) → Member x ys → suc (length (without x ys)) ≤ length ys
length-less x [] m = absurd m
length-less x (y ∷ ys) m =
    cond_both (y == x) ys (y ∷ without x ys) (λ zs. suc (length zs) ≤ length (y ∷ ys))
    (λ e. omega arith) (λ e. elim m [ inl same ↦ absurd (eqb-false y x e same) | inr k ↦ (let h : suc (length (without x ys)) ≤ length ys = length-less x ys k in omega arith) ])

Member-stays : (x i : ℕ) (ys : List ℕ) → i ≢ x → Member i ys → Member i (without x ys)
Member-stays x i [] off m = m
Member-stays x i (y ∷ ys) off m =
    cond_both (y == x) ys (y ∷ without x ys) (λ zs. Member i zs)
    (λ e. elim m [ inl same ↦ absurd (off (sym same ∙ eqb-true y x e)) | inr k ↦ k ]) (λ e. elim m [ inl same ↦ inl same | inr k ↦ inr (Member-stays x i ys off k) ])

no_more : (xs ys : List ℕ) → Distinct xs → ((i : ℕ) → Member i xs → Member i ys) → length xs ≤ length ys
no_more [] ys d in_it = omega arith
no_more (x ∷ xs) ys d in_it =
    let less : suc (length (without x ys)) ≤ length ys = length-less x ys (in_it x (inl refl)) in
    let rest : length xs ≤ length (without x ys) = no_more xs (without x ys) d.1
    (λ i m. Member-stays x i ys (λ same. d.0 (subst (λ z. Member z xs) same m)) (in_it i (inr m))) in
    omega arith

ok_in : (r : Round) (first : ℕ) (xs : List Slot) (node : ℕ) (slot : Slot) → At first xs node slot → is_ok r slot ≡ true → Member node (ok_from r first xs)
ok_in r first [] node slot a e = absurd a
ok_in r first (x ∷ xs) node slot (inl a) e =
    subst (λ ns. Member node ns) (sym (cond-true (is_ok r x) (first ∷ ok_from r (first + 1) xs) (ok_from r (first + 1) xs) (ap (is_ok r) a.1 ∙ e))) (inl a.0)
ok_in r first (x ∷ xs) node slot (inr a) e =
    cond_both (is_ok r x) (first ∷ ok_from r (first + 1) xs) (ok_from r (first + 1) xs) (λ ns. Member node ns)
    (λ t. inr (ok_in r (first + 1) xs node slot a e)) (λ f. ok_in r (first + 1) xs node slot a e)

pub enough : (n : ℕ) (r : Round) (slots : List Slot) (nodes : List ℕ) → length slots ≡ n → IsMajority n nodes
    → ((i : ℕ) → Member i nodes → (slot : Slot) × At 1 slots i slot × (is_ok r slot ≡ true)) → has_majority r slots ≡ true
enough n r slots nodes len k each =
    let le : length nodes ≤ length (ok_from r 1 slots) = no_more nodes (ok_from r 1 slots) k.distinct (λ i m. let x = each i m in ok_in r 1 slots i x.0 x.1 x.2) in
    let count : length (filter (is_ok r) slots) ≡ count_by (is_ok r) slots = length-filter (is_ok r) slots in
    let own : length (ok_from r 1 slots) ≡ length (filter (is_ok r) slots) = ok_count r 1 slots in
    lt-ltb (length slots) (2 * count_by (is_ok r) slots) (omega (arith, k.more))

-- ## Parts
-- one node has one part
pub At-one : (first : ℕ) (xs : List Slot) (node : ℕ) (a b : Slot) → At first xs node a → At first xs node b → a ≡ b
At-one first [] node a b p q = absurd p
At-one first (x ∷ xs) node a b (inl p) (inl q) = sym p.1 ∙ q.1
At-one first (x ∷ xs) node a b (inl p) (inr q) = let r = At-range (first + 1) xs node b q in absurd (omega (arith, r.0, p.0))
At-one first (x ∷ xs) node a b (inr p) (inl q) = let r = At-range (first + 1) xs node a p in absurd (omega (arith, r.0, q.0))
At-one first (x ∷ xs) node a b (inr p) (inr q) = At-one (first + 1) xs node a b p q

-- another node's part was put
pub At-other : (first place node : ℕ) (xs : List Slot) (y slot : Slot) → node ≢ first + place → At first xs node slot → At first (slice_set xs place y) node slot
At-other first place node [] y slot off a = absurd a
At-other first zero node (x ∷ xs) y slot off (inl a) = absurd (off (omega (arith, a.0)))
At-other first zero node (x ∷ xs) y slot off (inr a) = inr a
At-other first (suc place) node (x ∷ xs) y slot off (inl a) = inl a
At-other first (suc place) node (x ∷ xs) y slot off (inr a) = inr (At-other (first + 1) place node xs y slot (λ e. off (omega (arith, e))) a)

-- its own was
pub At-here : (first place node : ℕ) (xs : List Slot) (y : Slot) → node ≡ first + place → place < length xs → At first (slice_set xs place y) node y
At-here first place node [] y is l = absurd (omega (arith, l))
At-here first zero node (x ∷ xs) y is l = inl (omega (arith, is), refl)
At-here first (suc place) node (x ∷ xs) y is l = inr (At-here (first + 1) place node xs y (omega (arith, is)) (omega (arith, l)))

-- a part that waits
pub waits_any : (first : ℕ) (xs : List Slot) (node : ℕ) → At first xs node Waiting → list_any is_waiting xs ≡ true
waits_any first [] node a = absurd a
waits_any first (x ∷ xs) node (inl a) = ap (λ s. is_waiting s || list_any is_waiting xs) a.1
waits_any first (x ∷ xs) node (inr a) = by (is_waiting x) (waits_any (first + 1) xs node a)
  where
    by : (b : Bool) → list_any is_waiting xs ≡ true → (b || list_any is_waiting xs) ≡ true
    by true e = refl
    by false e = e

-- all are asked, or those that aren't left out
pub all_wait : (first : ℕ) (left : List Bool) (node : ℕ) → first ≤ node → node < first + length left → At first (to_all left) node Waiting
all_wait first [] node low high = absurd (omega (arith, low, high))
all_wait first (l ∷ left) node low high = elim (cases_eq first node) [
  | inl same ↦ inl (same, refl)
  | inr off ↦ inr (all_wait (first + 1) left node (omega (arith, low, off)) (omega (arith, high)))
]

abbrev pub IsIn : ℕ → List Bool → ℕ → Type 0
IsIn first [] node = ⊥
IsIn first (l ∷ left) node = ((first ≡ node) × (l ≡ false)) ⊎ IsIn (first + 1) left node

pub others_wait : (first : ℕ) (left : List Bool) (node : ℕ) → IsIn first left node → At first (to_others left) node Waiting
others_wait first [] node a = absurd a
others_wait first (l ∷ left) node (inl a) = inl (a.0, ap (λ b. cond b LeftOut Waiting) a.1)
others_wait first (l ∷ left) node (inr a) = inr (others_wait (first + 1) left node a)

pub none_in : (first : ℕ) (left : List Bool) (node : ℕ) → first ≤ node → node < first + length left → IsIn first (map (λ b. false) left) node
none_in first [] node low high = absurd (omega (arith, low, high))
none_in first (l ∷ left) node low high = elim (cases_eq first node) [
  | inl same ↦ inl (same, refl)
  | inr off ↦ inr (none_in (first + 1) left node (omega (arith, low, off)) (omega (arith, high)))
]

pub missed_in : (r : Round) (first : ℕ) (slots : List Slot) (node : ℕ) (slot : Slot) → At first slots node slot → is_ok r slot ≡ true → IsIn first (left_out_after r slots) node
missed_in r first [] node slot a e = absurd a
missed_in r first (x ∷ xs) node slot (inl a) e = inl (a.0, ap (λ s. not (is_ok r s)) a.1 ∙ ap not e)
missed_in r first (x ∷ xs) node slot (inr a) e = inr (missed_in r (first + 1) xs node slot a e)
