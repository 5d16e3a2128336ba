-- Histories as projections of a trace, one line more; and lists with one element changed.
use Rattle.std.proofs.Common.{◌≡◌, ℕ, zero, suc, ◌+◌, ◌<◌, List, [], ◌∷◌, ◌++◌, refl, ap, ◌∙◌, arith, set, get_or}
use Rattle.journal_history.specs.Moving.{Placed}
use Rattle.mesh.proofs.Tied.{history_at, history_off}
use Rattle.play_model.specs.Plays.{history_of, histories_from}

pub set_set : {A : Type 0} (l : List A) (i : ℕ) (x y : A) → set (set l i x) i y ≡ set l i y
set_set [] i x y = refl
set_set (a ∷ l) zero x y = refl
set_set (a ∷ l) (suc i) x y = ap (λ m. a ∷ m) (set_set l i x y)

histories_above : (k n : ℕ) (xs : List Placed) (x : Placed) → x.node < k → histories_from k n (xs ++ x ∷ []) ≡ histories_from k n xs
unfolding histories_from
histories_above k zero xs x l = refl
histories_above k (suc n) xs x l =
    let a : history_of k (xs ++ x ∷ []) ≡ history_of k xs = history_off k xs x (λ e. absurd (omega (arith, l, e))) in
    let b : histories_from (k + 1) n (xs ++ x ∷ []) ≡ histories_from (k + 1) n xs = histories_above (k + 1) n xs x (omega (arith, l)) in
    ap (λ h. h ∷ histories_from (k + 1) n (xs ++ x ∷ [])) a ∙ ap (λ hs. history_of k xs ∷ hs) b

-- a line after the lines of its node
pub histories_snoc : (k n i : ℕ) (xs : List Placed) (x : Placed) → x.node ≡ k + i → i < n
    → histories_from k n (xs ++ x ∷ []) ≡ set (histories_from k n xs) i (get_or (histories_from k n xs) i [] ++ x.line ∷ [])
unfolding histories_from
histories_snoc k zero i xs x e l = absurd (omega (arith, l))
histories_snoc k (suc n) zero xs x e l =
    let same : x.node ≡ k = omega (arith, e) in
    ap (λ h. h ∷ histories_from (k + 1) n (xs ++ x ∷ [])) (history_at k xs x same)
    ∙ ap (λ hs. (history_of k xs ++ x.line ∷ []) ∷ hs) (histories_above (k + 1) n xs x (omega (arith, same)))
histories_snoc k (suc n) (suc i) xs x e l =
    ap (λ h. h ∷ histories_from (k + 1) n (xs ++ x ∷ [])) (history_off k xs x (λ same. absurd (omega (arith, e, same))))
    ∙ ap (λ hs. history_of k xs ∷ hs) (histories_snoc (k + 1) n i xs x (omega (arith, e)) (omega (arith, l)))
