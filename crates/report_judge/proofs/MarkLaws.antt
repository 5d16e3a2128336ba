-- The marks that are told of each record, one more at a time.
use Rattle.std.proofs.Common.{ℕ, ◌≡◌, ◌+◌, ◌<◌, ◌≤◌, List, [], ◌∷◌, ◌++◌, ◌⊎◌, inl, inr, length, take, get_or, sym, subst, subst₂, arith}
use Rattle.std.proofs.lemmas.Bool.{cases_lt}
use Rattle.std.proofs.lemmas.List.{get_or_append_left, get_or_push, get_or-take}
use Rattle.journal_history.specs.declared.record.Record.{Record}
use Rattle.journal_history.specs.declared.mark.Mark.{Mark}
use Rattle.mesh.specs.Matches.{AreWithin}
use Rattle.mesh_judge.specs.Plans.{GoesBy, AreCalled}

abbrev pub IsServed : ℕ → List Record → List Mark → Type 0
IsServed nodes rs marks = AreWithin nodes rs → AreCalled [] rs → GoesBy marks rs

-- each of the first records by its marks
abbrev pub AreServed : ℕ → List (List Record) → List (List Mark) → ℕ → Type 0
AreServed nodes records plan count = (c : ℕ) → c < count → IsServed nodes (get_or records c []) (get_or plan c [])

pub served_more : (nodes i : ℕ) (records : List (List Record)) (plan : List (List Mark)) (rs : List Record) (marks : List Mark) → length plan ≡ i → rs ≡ get_or records i []
    → IsServed nodes rs marks → AreServed nodes records plan i → AreServed nodes records (plan ++ marks ∷ []) (i + 1)
served_more nodes i records plan rs marks size is one all c less = by (cases_lt c i)
  where
    by : (c < i) ⊎ (i ≤ c) → IsServed nodes (get_or records c []) (get_or (plan ++ marks ∷ []) c [])
    by (inl low) = subst (IsServed nodes (get_or records c [])) (sym (get_or_append_left plan (marks ∷ []) [] c (omega (arith, low, size)))) (all c low)
    by (inr high) =
        let at : i ≡ c = omega (arith, less, high) in
        subst (λ (k : ℕ). IsServed nodes (get_or records k []) (get_or (plan ++ marks ∷ []) k [])) at (subst₂ (IsServed nodes) is (sym (get_or_push plan marks [] i size)) one)

-- of all but the last
pub all_served : (nodes count : ℕ) (records actors : List (List Record)) (plan : List (List Mark)) → actors ≡ take count records → length plan ≤ count → AreServed nodes actors plan (length plan)
    → AreServed nodes records plan (length plan)
all_served nodes count records actors plan is few all c less =
    subst (λ (rs : List Record). IsServed nodes rs (get_or plan c [])) (get_or-take count records c [] (omega (arith, less, few)))
    (subst (λ (l : List (List Record)). IsServed nodes (get_or l c []) (get_or plan c [])) is (all c less))
