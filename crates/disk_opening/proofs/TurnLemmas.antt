-- The names of a list in byte order, at one of its turns.
use Rattle.std.proofs.Common.{⊎_elim, ◌≡◌, ℕ, zero, suc, length, ◌+◌, ◌<◌, List, [], ◌∷◌, ◌++◌, ap, sym, ◌∙◌, refl, subst, arith, get_or, take, drop}
use Rattle.std.specs.Prelude.{Contains, map, slice_index_or}
use Rattle.std.specs.Cmp.Lexicographic.{slice_cmp}
use Rattle.std.specs.Ordering.{nat_cmp}
use Rattle.std.specs.declared.cmp.Ordering.{Ordering}
use Rattle.std.specs.declared.cmp.Ordering.TheVariants.{Less, Equal}
use Rattle.std.specs.List.{All}
use Rattle.std.specs.List.Sorted.{IsStrictlySortedBy}
use Rattle.std.proofs.lemmas.Cmp.{tied_itself, nat_list_cmp_total}
use Rattle.std.proofs.lemmas.List.{take-append-drop, drop_more, map-append}
use Rattle.std.proofs.lemmas.List.Elements.{All-nil, All-cons, All-contains, All-from_recursion, Contains-append_right, Contains-append_cases}
use Rattle.std.proofs.lemmas.Map.Keys.{sorted_head, sorted_tail}

abbrev pub by_bytes : List ℕ → List ℕ → Ordering
by_bytes = slice_cmp nat_cmp

-- the name stands after those that are done
pub record Turn (names done : List (List ℕ)) (name : List ℕ) : Type 0 where
  pub rest : List (List ℕ)
  pub split : names ≡ done ++ name ∷ rest

pub turn : {X : Type 0} (f : X → List ℕ) (xs : List X) (i : ℕ) (x : X) → i < length xs → x ≡ get_or xs i x → Turn (map f xs) (map f (take i xs)) (f x)
turn f xs i x lt is = record {
  rest = map f (drop (i + 1) xs);
  split = ap (map f) (sym (take-append-drop i xs)) ∙ map-append f (take i xs) (drop i xs)
      ∙ ap (λ (l : List (List ℕ)). map f (take i xs) ++ l) (ap (map f) (drop_more xs i x lt)
      ∙ ap (λ (n : List ℕ). n ∷ map f (drop (i + 1) xs)) (ap f (sym is)));
}

not_less : (name : List ℕ) → by_bytes name name ≡ Less → ⊥
not_less name is = let p : by_bytes name name ≡ Equal = tied_itself nat_list_cmp_total name in absurd (cc)

head_of : (xs : List (List ℕ)) (name : List ℕ) → Contains (name ∷ xs) name
head_of xs name = (0, omega arith, refl)

one_of : (name x : List ℕ) (k : ℕ) → k < length (name ∷ []) → slice_index_or (name ∷ []) k x ≡ x → x ≡ name
one_of name x zero lt is = sym is
one_of name x (suc k) lt is = absurd (omega (arith, lt))

sorted_split : (done : List (List ℕ)) (name : List ℕ) (rest : List (List ℕ)) → IsStrictlySortedBy by_bytes (done ++ name ∷ rest)
    → All (λ other. by_bytes other name ≡ Less) done × IsStrictlySortedBy by_bytes (name ∷ rest)
sorted_split [] name rest sorted = (All-nil (λ other. by_bytes other name ≡ Less), sorted)
sorted_split (d ∷ done) name rest sorted =
    let tail = sorted_split done name rest (sorted_tail by_bytes d (done ++ name ∷ rest) sorted) in
    let less : by_bytes d name ≡ Less = All-contains (λ other. by_bytes d other ≡ Less) (done ++ name ∷ rest) name
    (All-from_recursion (λ other. by_bytes d other ≡ Less) (done ++ name ∷ rest) (sorted_head by_bytes d (done ++ name ∷ rest) sorted))
    (Contains-append_right done (name ∷ rest) name (head_of rest name)) in
    (All-cons (λ other. by_bytes other name ≡ Less) d done less tail.0, tail.1)

module _ (names done : List (List ℕ)) (name : List ℕ) (sorted : IsStrictlySortedBy by_bytes names) (at : Turn names done name) where
  parts : All (λ other. by_bytes other name ≡ Less) done × IsStrictlySortedBy by_bytes (name ∷ at.rest)
  parts = sorted_split done name at.rest (subst (λ (l : List (List ℕ)). IsStrictlySortedBy by_bytes l) at.split sorted)

  -- its turn comes once
  pub not_done : Contains done name → ⊥
  not_done among = not_less name (All-contains (λ other. by_bytes other name ≡ Less) done name parts.0 among)

  pub is_listed : Contains names name
  is_listed = subst (λ (l : List (List ℕ)). Contains l name) (sym at.split) (Contains-append_right done (name ∷ at.rest) name (head_of at.rest name))

  not_both_less : (other : List ℕ) → by_bytes other name ≡ Less → by_bytes name other ≡ Less → ⊥
  not_both_less other one two = let p = nat_list_cmp_total.trans other name other one two in not_less other p

  -- those before it are done
  pub less_is_done : (other : List ℕ) → Contains names other → by_bytes other name ≡ Less → Contains done other
  less_is_done other among less = ⊎_elim (λ is. is) (λ behind. absurd (no_more behind))
      (Contains-append_cases done (name ∷ at.rest) other (subst (λ (l : List (List ℕ)). Contains l other) at.split among))
    where
      all_behind : All (λ x. by_bytes name x ≡ Less) at.rest
      all_behind = All-from_recursion (λ x. by_bytes name x ≡ Less) at.rest (sorted_head by_bytes name at.rest parts.1)

      no_more : Contains (name ∷ at.rest) other → ⊥
      no_more behind = ⊎_elim
          (λ here. not_less name (subst (λ (n : List ℕ). by_bytes n name ≡ Less) (one_of name other here.0 here.1 here.2) less))
          (λ later. not_both_less other less (All-contains (λ x. by_bytes name x ≡ Less) at.rest other all_behind later))
          (Contains-append_cases (name ∷ []) at.rest other behind)
