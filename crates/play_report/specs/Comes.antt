-- A text that comes piece by piece, where bytes are expected.
use Rattle.std.specs.Prelude.{ℕ, ◌≡◌, ◌≢◌, ◌⊎◌, Bool, true, false, List, [], ◌∷◌, ◌++◌}
use Rattle.std.proofs.Common.{refl, sym, ap, ◌∙◌, inl, inr, append_assoc}

-- From the one state to the other these bytes came. All so far were as expected now: then they were
-- before, and these were the next. Else they weren't before, or these weren't the next.
abbrev pub comes : Bool → List ℕ → Bool → List ℕ → List ℕ → Type 0
comes before rest now left bytes =
    (now ≡ true → (before ≡ true) × (rest ≡ bytes ++ left)) × (now ≡ false → (before ≡ false) ⊎ ((later : List ℕ) → rest ≢ bytes ++ later))

pub comes_none : (same : Bool) (rest : List ℕ) → comes same rest same rest []
comes_none same rest = ((λ e. (e, refl)), (λ e. inl e))

append_same : (a x y : List ℕ) → a ++ x ≡ a ++ y → x ≡ y
append_same [] x y e = e
append_same (n ∷ a) x y e = append_same a x y (let p : a ++ x ≡ a ++ y = cc e in p)

pub comes_more : (s : Bool) (x : List ℕ) (t : Bool) (y : List ℕ) (u : Bool) (z a b : List ℕ) → comes s x t y a → comes t y u z b → comes s x u z (a ++ b)
comes_more s x t y u z a b p q = (all, parted)
  where
    all : u ≡ true → (s ≡ true) × (x ≡ (a ++ b) ++ z)
    all e =
        let second = q.0 e in
        let first = p.0 second.0 in
        (first.0, first.1 ∙ ap (λ (r : List ℕ). a ++ r) second.1 ∙ sym (append_assoc a b z))

    at_first : ((s ≡ false) ⊎ ((later : List ℕ) → x ≢ a ++ later)) → (s ≡ false) ⊎ ((later : List ℕ) → x ≢ (a ++ b) ++ later)
    at_first (inl e) = inl e
    at_first (inr other) = inr (λ later is. other (b ++ later) (is ∙ append_assoc a b later))

    at_second : ((later : List ℕ) → y ≢ b ++ later) → (v : Bool) → v ≡ t → (s ≡ false) ⊎ ((later : List ℕ) → x ≢ (a ++ b) ++ later)
    at_second other true e =
        let first = p.0 (sym e) in
        inr (λ later is. other later (append_same a y (b ++ later) (sym first.1 ∙ is ∙ append_assoc a b later)))
    at_second other false e = at_first (p.1 (sym e))

    at_either : ((t ≡ false) ⊎ ((later : List ℕ) → y ≢ b ++ later)) → (s ≡ false) ⊎ ((later : List ℕ) → x ≢ (a ++ b) ++ later)
    at_either (inl e) = at_first (p.1 e)
    at_either (inr other) = at_second other t refl

    parted : u ≡ false → (s ≡ false) ⊎ ((later : List ℕ) → x ≢ (a ++ b) ++ later)
    parted e = at_either (q.1 e)
