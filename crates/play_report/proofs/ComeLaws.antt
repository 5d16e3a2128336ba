-- Bytes that are expected.
use Rattle.std.proofs.Common.{ℕ, ◌≡◌, ◌≢◌, ◌+◌, ◌⊎◌, Bool, true, false, List, [], ◌∷◌, ◌++◌, length, take, refl, sym, ◌∙◌, ap, arith, inl, inr, append-nil, length-append}
use Rattle.std.proofs.Math.Seq.{take-append_seam}
use Rattle.play_report.specs.Comes.{comes}

-- bytes with another front don't begin with the piece
pub begin_otherwise : (bytes piece front later : List ℕ) → front ≡ take (length piece) bytes → front ≢ piece → bytes ≡ piece ++ later → ⊥
begin_otherwise bytes piece front later f other e = other (f ∙ ap (take (length piece)) e ∙ take-append_seam piece later)

-- all came
pub are_same : (bytes text rest : List ℕ) (same : Bool) → comes true bytes same rest text → (same ≡ true) × (rest ≡ []) → bytes ≡ text
are_same bytes text rest same h all = (h.0 all.0).1 ∙ ap (λ (x : List ℕ). text ++ x) all.1 ∙ append-nil text

-- not all came, or other ones
pub are_other : (bytes text rest : List ℕ) (same : Bool) → comes true bytes same rest text → (same ≡ true → rest ≢ []) → bytes ≡ text → ⊥
are_other bytes text rest true h some e = some refl (no_more text rest (sym e ∙ (h.0 refl).1))
  where
    no_more : (text rest : List ℕ) → text ≡ text ++ rest → rest ≡ []
    no_more text [] p = refl
    no_more text (n ∷ rest) p = let q : length text ≡ length text + length (n ∷ rest) = ap length p ∙ length-append text (n ∷ rest) in absurd (omega (arith, q))
are_other bytes text rest false h some e = by (h.1 refl)
  where
    by : (true ≡ false) ⊎ ((later : List ℕ) → bytes ≢ text ++ later) → ⊥
    by (inl p) = absurd (cc p)
    by (inr other) = other [] (e ∙ sym (append-nil text))
