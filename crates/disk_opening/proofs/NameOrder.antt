-- Names in byte order: where they stand in a list, and which of two final files of one start comes
-- first.
use Rattle.std.proofs.Common.{inl, inr, ◌≡◌, ℕ, zero, suc, ◌+◌, ◌/◌, ◌%◌, ◌^◌, ◌<◌, ◌≤◌, List, [], ◌∷◌, ◌++◌, length, ap, sym, ◌∙◌, refl, subst, arith}
use Rattle.std.specs.Prelude.{slice_index_or, codes}
use Rattle.std.specs.Ordering.{nat_cmp, ordering_then, ordering_reverse}
use Rattle.std.specs.declared.cmp.Ordering.{Ordering}
use Rattle.std.specs.declared.cmp.Ordering.TheVariants.{Less, Equal, Greater}
use Rattle.std.specs.Cmp.Lexicographic.{slice_cmp}
use Rattle.std.specs.List.{AllByRecursion}
use Rattle.std.specs.List.Sorted.{IsStrictlySortedBy}
use Rattle.std.proofs.lemmas.Cmp.{tied_itself, nat_list_cmp_total}
use Rattle.std.proofs.lemmas.Bool.{cases_eq, cases_lt}
use Rattle.std.proofs.lemmas.Bool.Decides.{nat_tests}
use Rattle.base_words.specs.Padded.{padded}
use Rattle.base_words.proofs.PaddedLaws.{length-padded}
use Rattle.disk_segment.specs.Names.{Final, name_of}

abbrev order : List ℕ → List ℕ → Ordering
order = slice_cmp nat_cmp

-- ## A list in order
pub nth_is : (names : List (List ℕ)) (i : ℕ) (x y : List ℕ) → i < length names → slice_index_or names i x ≡ x → slice_index_or names i y ≡ y → x ≡ y
nth_is [] i x y lt at_x at_y = absurd (omega (arith, lt))
nth_is (n ∷ names) zero x y lt at_x at_y = sym at_x ∙ at_y
nth_is (n ∷ names) (suc i) x y lt at_x at_y = nth_is names i x y (omega (arith, lt)) at_x at_y

all_at : (P : List ℕ → Type 0) (names : List (List ℕ)) (i : ℕ) (x : List ℕ) → AllByRecursion P names → i < length names → slice_index_or names i x ≡ x → P x
all_at P [] i x all lt at_x = absurd (omega (arith, lt))
all_at P (n ∷ names) zero x all lt at_x = subst P at_x all.0
all_at P (n ∷ names) (suc i) x all lt at_x = all_at P names i x all.1 (omega (arith, lt)) at_x

-- an earlier name is less
pub sorted_at : (names : List (List ℕ)) (i j : ℕ) (x y : List ℕ) → IsStrictlySortedBy (slice_cmp nat_cmp) names → i < j → j < length names → slice_index_or names i x ≡ x → slice_index_or names j y ≡ y
    → slice_cmp nat_cmp x y ≡ Less
unfolding IsStrictlySortedBy
sorted_at [] i j x y sorted lt end at_x at_y = absurd (omega (arith, end))
sorted_at (n ∷ names) i zero x y sorted lt end at_x at_y = absurd (omega (arith, lt))
sorted_at (n ∷ names) zero (suc j) x y sorted lt end at_x at_y =
    all_at (λ m. order x m ≡ Less) names j y (subst (λ (k : List ℕ). AllByRecursion (λ m. order k m ≡ Less) names) at_x sorted.0) (omega (arith, end)) at_y
sorted_at (n ∷ names) (suc i) (suc j) x y sorted lt end at_x at_y = sorted_at names i j x y sorted.1 (omega (arith, lt)) (omega (arith, end)) at_x at_y

pub not_less_itself : (x : List ℕ) → slice_cmp nat_cmp x x ≡ Less → ⊥
not_less_itself x less = let e = sym (tied_itself nat_list_cmp_total x) ∙ less in absurd (cc)

pub not_less_both : (x y : List ℕ) → slice_cmp nat_cmp x y ≡ Less → slice_cmp nat_cmp y x ≡ Less → ⊥
not_less_both x y less more = let e = sym less ∙ nat_list_cmp_total.antisymm x y ∙ ap ordering_reverse more in absurd (cc)

-- a lesser name is earlier
pub less_at : (names : List (List ℕ)) (i j : ℕ) (x y : List ℕ) → IsStrictlySortedBy (slice_cmp nat_cmp) names → i < length names → j < length names
    → slice_index_or names i x ≡ x → slice_index_or names j y ≡ y
    → slice_cmp nat_cmp x y ≡ Less → i < j
less_at names i j x y sorted end_i end_j at_x at_y less = elim (cases_lt i j) [
  | inl lt ↦ lt
  | inr le ↦ elim (cases_eq i j) [
    | inl same ↦ absurd (not_less_itself y (subst (λ (n : List ℕ). order n y ≡ Less) (nth_is names j x y end_j (subst (λ (k : ℕ). slice_index_or names k x ≡ x) same at_x) at_y) less))
    | inr ne ↦ absurd (not_less_both x y less (sorted_at names j i y x sorted (omega (arith, le, ne)) end_i at_y at_x))
  ]
]

-- ## Numbers of as many digits
nat_less : (a b : ℕ) → a < b → nat_cmp a b ≡ Less
nat_less a b lt = grind (arith, nat_tests)

nat_same : (a : ℕ) → nat_cmp a a ≡ Equal
nat_same a = grind (arith, nat_tests)

less_then : (r p q : Ordering) → (p ≡ Less → q ≡ Less) → ordering_then r p ≡ Less → ordering_then r q ≡ Less
less_then Less p q more is = refl
less_then Equal p q more is = more is
less_then Greater p q more is = absurd (cc)

less_more : (xs ys us vs : List ℕ) → length xs ≡ length ys → order xs ys ≡ Less → order (xs ++ us) (ys ++ vs) ≡ Less
less_more [] [] us vs long less = absurd (cc)
less_more [] (y ∷ ys) us vs long less = absurd (omega (arith, long))
less_more (x ∷ xs) [] us vs long less = absurd (cc)
less_more (x ∷ xs) (y ∷ ys) us vs long less = less_then (nat_cmp x y) (order xs ys) (order (xs ++ us) (ys ++ vs)) (less_more xs ys us vs (omega (arith, long))) less

same_front : (xs us vs : List ℕ) → order (xs ++ us) (xs ++ vs) ≡ order us vs
same_front [] us vs = refl
same_front (x ∷ xs) us vs = ap (λ (r : Ordering). ordering_then r (order (xs ++ us) (xs ++ vs))) (nat_same x) ∙ same_front xs us vs

one_less : (a b : ℕ) → a < b → order (a ∷ []) (b ∷ []) ≡ Less
one_less a b lt = ap (λ (r : Ordering). ordering_then r Equal) (nat_less a b lt)

pub padded_less : (k m n : ℕ) → m < n → n < 10 ^ k → slice_cmp nat_cmp (padded k m) (padded k n) ≡ Less
unfolding padded
padded_less zero m n lt small = absurd (omega (arith, lt, small))
padded_less (suc k) m n lt small = elim (cases_lt (m / 10) (n / 10)) [
  | inl less ↦ less_more (padded k (m / 10)) (padded k (n / 10)) ((48 + m % 10) ∷ []) ((48 + n % 10) ∷ [])
      (length-padded k (m / 10) ∙ sym (length-padded k (n / 10))) (padded_less k (m / 10) (n / 10) less (omega (arith, small)))
  | inr le ↦ let same : m / 10 ≡ n / 10 = omega (arith, le, lt) in
      ap (λ (q : ℕ). order (padded k q ++ (48 + m % 10) ∷ []) (padded k (n / 10) ++ (48 + n % 10) ∷ [])) same
      ∙ same_front (padded k (n / 10)) ((48 + m % 10) ∷ []) ((48 + n % 10) ∷ [])
      ∙ one_less (48 + m % 10) (48 + n % 10) (omega (arith, same, lt))
]

pub final_less : (start m n : ℕ) → m < n → n ≤ 2 ^ 62 → slice_cmp nat_cmp (name_of start (Final m)) (name_of start (Final n)) ≡ Less
unfolding name_of
final_less start m n lt small =
    same_front (codes "edits_") (padded 19 start ++ (codes "-" ++ padded 19 m)) (padded 19 start ++ (codes "-" ++ padded 19 n))
    ∙ same_front (padded 19 start) (codes "-" ++ padded 19 m) (codes "-" ++ padded 19 n)
    ∙ same_front (codes "-") (padded 19 m) (padded 19 n)
    ∙ padded_less 19 m n lt (omega (arith, small))
