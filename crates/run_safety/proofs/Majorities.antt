-- Two majorities share a node.
use Rattle.std.proofs.Common.{ℕ, zero, suc, ◌≤◌, ◌⊎◌, ◌==◌, List, [], ◌∷◌, ◌++◌, length, refl, inl, inr, arith, subst, sym, length-append, if◌then◌else◌}
use Rattle.std.proofs.lemmas.Bool.{cond_both, cases_eq, eqb-true, eqb-false}
use Rattle.run_safety.specs.Majority.{Member, Distinct, IsMajority}

-- without its first place
abbrev pub without : ℕ → List ℕ → List ℕ
without x [] = []
without x (y ∷ ys) = if y == x then ys else y ∷ without x ys

length-without : (x : ℕ) (ys : List ℕ) → length ys ≤ suc (length (without x ys))
length-without x [] = omega arith
length-without x (y ∷ ys) =
    cond_both (y == x) ys (y ∷ without x ys) (λ zs. length (y ∷ ys) ≤ suc (length zs))
    (λ e. omega arith) (λ e. let h : length ys ≤ suc (length (without x ys)) = length-without x ys in omega arith)

Member-without : (x i : ℕ) (ys : List ℕ) → Member i (without x ys) → Member i ys
Member-without x i [] m = m
Member-without x i (y ∷ ys) m =
    cond_both (y == x) ys (y ∷ without x ys) (λ zs. Member i zs → Member i (y ∷ ys))
    (λ e k. inr k) (λ e. elim [ inl same ↦ inl same | inr k ↦ inr (Member-without x i ys k) ]) m

Distinct-without : (x : ℕ) (ys : List ℕ) → Distinct ys → Distinct (without x ys)
Distinct-without x [] d = d
Distinct-without x (y ∷ ys) d =
    cond_both (y == x) ys (y ∷ without x ys) (λ zs. Distinct zs)
    (λ e. d.1) (λ e. (λ m. d.0 (Member-without x y ys m), Distinct-without x ys d.1))

not_in-without : (x : ℕ) (ys : List ℕ) → Distinct ys → Member x (without x ys) → ⊥
not_in-without x [] d m = m
not_in-without x (y ∷ ys) d m =
    cond_both (y == x) ys (y ∷ without x ys) (λ zs. Member x zs → ⊥)
    (λ e k. d.0 (subst (λ z. Member z ys) (sym (eqb-true y x e)) k))
    (λ e. elim [ inl same ↦ eqb-false y x e same | inr k ↦ not_in-without x ys d.1 k ]) m

no_more_than : (n : ℕ) (xs : List ℕ) → Distinct xs → ((i : ℕ) → Member i xs → (1 ≤ i) × (i ≤ n)) → length xs ≤ n
no_more_than zero [] d within = omega arith
no_more_than zero (x ∷ xs) d within =
    let h : (1 ≤ x) × (x ≤ 0) = within x (inl refl) in absurd (omega arith)
no_more_than (suc n) xs d within =
    let shorter : length xs ≤ suc (length (without (suc n) xs)) = length-without (suc n) xs in
    let rest : length (without (suc n) xs) ≤ n = no_more_than n (without (suc n) xs) (Distinct-without (suc n) xs d)
    (λ i m. let h : (1 ≤ i) × (i ≤ suc n) = within i (Member-without (suc n) i xs m) in (
      h.0,
      elim (cases_eq i (suc n)) [
        | inl same ↦ absurd (not_in-without (suc n) xs d (subst (λ z. Member z (without (suc n) xs)) same m))
        | inr other ↦ omega arith
      ],
    )) in
    omega arith

pub Member-append : (i : ℕ) (xs ys : List ℕ) → Member i (xs ++ ys) → Member i xs ⊎ Member i ys
Member-append i [] ys m = inr m
Member-append i (x ∷ xs) ys (inl same) = inl (inl same)
Member-append i (x ∷ xs) ys (inr m) = elim (Member-append i xs ys m) [ inl a ↦ inl (inr a) | inr b ↦ inr b ]

pub Distinct-append : (xs ys : List ℕ) → Distinct xs → Distinct ys → ((i : ℕ) → Member i xs → Member i ys → ⊥) → Distinct (xs ++ ys)
Distinct-append [] ys dx dy apart = dy
Distinct-append (x ∷ xs) ys dx dy apart =
    (λ m. elim (Member-append x xs ys m) [ inl a ↦ dx.0 a | inr b ↦ apart x (inl refl) b ], Distinct-append xs ys dx.1 dy (λ i a b. apart i (inr a) b))

pub Member_or : (i : ℕ) (xs : List ℕ) → Member i xs ⊎ (Member i xs → ⊥)
Member_or i [] = inr (λ m. m)
Member_or i (x ∷ xs) = elim (cases_eq x i) [
  | inl same ↦ inl (inl same)
  | inr other ↦ elim (Member_or i xs) [ inl m ↦ inl (inr m) | inr none ↦ inr (elim [ inl same ↦ other same | inr m ↦ none m ]) ]
]

common_or : (xs ys : List ℕ) → ((i : ℕ) × Member i xs × Member i ys) ⊎ ((i : ℕ) → Member i xs → Member i ys → ⊥)
common_or [] ys = inr (λ i m. absurd m)
common_or (x ∷ xs) ys = elim (Member_or x ys) [
  | inl m ↦ inl (x, inl refl, m)
  | inr not_x ↦ elim (common_or xs ys) [
    | inl c ↦ inl (c.0, inr c.1, c.2)
    | inr apart ↦ inr (λ i. elim [ inl same ↦ λ m. not_x (subst (λ z. Member z ys) (sym same) m) | inr a ↦ λ m. apart i a m ])
  ]
]

pub majorities_share : (n : ℕ) (xs ys : List ℕ) → IsMajority n xs → IsMajority n ys → (i : ℕ) × Member i xs × Member i ys
majorities_share n xs ys p q = elim (common_or xs ys) [
  | inl c ↦ c
  | inr apart ↦
      let all : length (xs ++ ys) ≤ n = no_more_than n (xs ++ ys) (Distinct-append xs ys p.distinct q.distinct apart)
      (λ i m. elim (Member-append i xs ys m) [ inl a ↦ p.within i a | inr b ↦ q.within i b ]) in
      absurd (omega (arith, length-append xs ys))
]
