-- Edits with consecutive txids.
use Rattle.std.proofs.Common.{◌≡◌, ℕ, zero, suc, ◌+◌, ◌-◌, ◌<◌, ◌≤◌, List, [], ◌∷◌, ◌++◌, length, drop, refl, ap, sym, subst, ◌∙◌, arith, length-append, length-drop}
use Rattle.std.proofs.lemmas.List.{drop_all, drop-drop}
use Rattle.std.specs.Prelude.{Bool, true, false, ◌==◌, nat_le, if◌then◌else◌, ◌↔◌, Option, Some, None, IsSome, IsNone, IfSome}
use Rattle.std.proofs.lemmas.Bool.Decides.{nat_tests}
use Rattle.disk_recent.specs.Edits.{Edit, Follows, bodies_of, kept_edits, last_txid, number_edits, IsStored, since, size_of, stored_bytes}

pub size_of-numbered : (t : ℕ) (bs : List (List ℕ)) → size_of (number_edits t bs) ≡ length (stored_bytes bs)
size_of-numbered t [] = refl
size_of-numbered t (b ∷ bs) = omega (arith, size_of-numbered (t + 1) bs, length-append b (stored_bytes bs))

pub length-numbered : (t : ℕ) (bs : List (List ℕ)) → length (number_edits t bs) ≡ length bs
length-numbered t [] = refl
length-numbered t (b ∷ bs) = ap suc (length-numbered (t + 1) bs)

pub bodies_of-numbered : (t : ℕ) (bs : List (List ℕ)) → bodies_of (number_edits t bs) ≡ bs
bodies_of-numbered t [] = refl
bodies_of-numbered t (b ∷ bs) = ap (λ (l : List (List ℕ)). b ∷ l) (bodies_of-numbered (t + 1) bs)

pub numbered-append : (t : ℕ) (xs ys : List (List ℕ)) → number_edits t (xs ++ ys) ≡ number_edits t xs ++ number_edits (t + length xs) ys
numbered-append t [] ys = let e : t ≡ t + 0 = omega arith in ap (λ (n : ℕ). number_edits n ys) e
numbered-append t (x ∷ xs) ys =
    ap (λ (es : List Edit). record { txid = t; body = x } ∷ es) (numbered-append (t + 1) xs ys
    ∙ (let e : (t + 1) + length xs ≡ t + length (x ∷ xs) = omega arith in ap (λ (n : ℕ). number_edits (t + 1) xs ++ number_edits n ys) e))

pub numbered-push : (t : ℕ) (bs : List (List ℕ)) (b : List ℕ) → number_edits t (bs ++ b ∷ []) ≡ number_edits t bs ++ record { txid = t + length bs; body = b } ∷ []
numbered-push t bs b = numbered-append t bs (b ∷ [])

pub numbered-drops : (k t : ℕ) (bs : List (List ℕ)) → drop k (number_edits t bs) ≡ number_edits (t + k) (drop k bs)
numbered-drops zero t bs = let e : t ≡ t + 0 = omega arith in ap (λ (n : ℕ). number_edits n bs) e
numbered-drops (suc k) t [] = refl
numbered-drops (suc k) t (b ∷ bs) = let e : t + 1 + k ≡ t + suc k = omega arith in numbered-drops k (t + 1) bs ∙ ap (λ (n : ℕ). number_edits n (drop k bs)) e

pub follows-numbered : (t : ℕ) (bs : List (List ℕ)) (n : ℕ) → 0 < length bs → Follows (number_edits t bs) n → n ≡ t + length bs
follows-numbered t [] n h f = absurd (omega arith)
follows-numbered t (b ∷ []) n h f = f
follows-numbered t (b ∷ c ∷ bs) n h f = follows-numbered (t + 1) (c ∷ bs) n (omega arith) f ∙ omega arith

pub last-numbered : (t : ℕ) (bs : List (List ℕ)) → 0 < length bs → last_txid (number_edits t bs) ≡ Some (t + (length bs - 1))
last-numbered t [] h = absurd (omega arith)
last-numbered t (b ∷ []) h = let e : t ≡ t + 0 = omega arith in ap (λ (k : ℕ). Some k) e
last-numbered t (b ∷ c ∷ bs) h =
    let e : t + 1 + (length (c ∷ bs) - 1) ≡ t + (length (b ∷ c ∷ bs) - 1) = omega arith in
    last-numbered (t + 1) (c ∷ bs) (omega arith) ∙ ap (λ (k : ℕ). Some k) e

pub follows-drop : (es : List Edit) (t : ℕ) → Follows es t → Follows (drop 1 es) t
follows-drop [] t f = f
follows-drop (e ∷ []) t f = tt
follows-drop (e ∷ d ∷ es) t f = f

-- the edits from a txid on
at_head : (c : Bool) (t n : ℕ) (b : List ℕ) (es : List Edit) → c ≡ (t == n) → t ≡ n → (if c then record { txid = t; body = b } ∷ es else since n es) ≡ record { txid = n; body = b } ∷ es
at_head true t n b es e same = ap (λ (k : ℕ). record { txid = k; body = b } ∷ es) same
at_head false t n b es e same = absurd (grind (arith, nat_tests))

past_head : (c : Bool) (t n : ℕ) (b : List ℕ) (es : List Edit) → c ≡ (t == n) → t < n → (if c then record { txid = t; body = b } ∷ es else since n es) ≡ since n es
past_head true t n b es e h = absurd (grind (arith, nat_tests))
past_head false t n b es e h = refl

none_dropped : (n k : ℕ) → number_edits n (drop k []) ≡ []
none_dropped n zero = refl
none_dropped n (suc k) = refl

since_gap : (t n : ℕ) (b : List ℕ) (bs : List (List ℕ)) (k : ℕ) → t ≤ n → n - t ≡ k
    → (t < n → since n (number_edits (t + 1) bs) ≡ number_edits n (drop (n - (t + 1)) bs))
    → since n (number_edits t (b ∷ bs)) ≡ number_edits n (drop k (b ∷ bs))
since_gap t n b bs zero h e on =
    let same : t ≡ n = omega arith in
    at_head (t == n) t n b (number_edits (t + 1) bs) refl same ∙ ap (λ (k : ℕ). record { txid = n; body = b } ∷ number_edits (k + 1) bs) same
since_gap t n b bs (suc k) h e on =
    let less : n - (t + 1) ≡ k = omega arith in
    past_head (t == n) t n b (number_edits (t + 1) bs) refl (omega arith) ∙ (on (omega arith) ∙ ap (λ (j : ℕ). number_edits n (drop j bs)) less)

pub since-numbered : (t : ℕ) (bs : List (List ℕ)) (n : ℕ) → t ≤ n → since n (number_edits t bs) ≡ number_edits n (drop (n - t) bs)
since-numbered t [] n h = sym (none_dropped n (n - t))
since-numbered t (b ∷ bs) n h = since_gap t n b bs (n - t) h refl (λ less. since-numbered (t + 1) bs n (omega arith))

-- the edits from a later txid on
pub since-on : (t : ℕ) (bs : List (List ℕ)) (n k : ℕ) → t ≤ n → since (n + k) (number_edits t bs) ≡ drop k (since n (number_edits t bs))
since-on t bs n k low =
    let e : n + k - t ≡ n - t + k = omega arith in
    since-numbered t bs (n + k) (omega arith) ∙ (ap (λ (j : ℕ). number_edits (n + k) (drop j bs)) e ∙ (ap (λ (l : List (List ℕ)). number_edits (n + k) l) (sym (drop-drop k (n - t) bs)) ∙
    (sym (numbered-drops k n (drop (n - t) bs)) ∙ ap (λ (es : List Edit). drop k es) (sym (since-numbered t bs n low)))))

before_head : (c : Bool) (t n : ℕ) (b : List ℕ) (es : List Edit) → c ≡ (t == n) → n < t → (if c then record { txid = t; body = b } ∷ es else since n es) ≡ since n es
before_head true t n b es e h = absurd (grind (arith, nat_tests))
before_head false t n b es e h = refl

pub since-before : (t : ℕ) (bs : List (List ℕ)) (n : ℕ) → n < t → since n (number_edits t bs) ≡ []
since-before t [] n h = refl
since-before t (b ∷ bs) n h = before_head (t == n) t n b (number_edits (t + 1) bs) refl h ∙ since-before (t + 1) bs n (omega arith)

-- what is kept
pub size_of-append : (es : List Edit) (e : Edit) → size_of (es ++ e ∷ []) ≡ size_of es + (length e.body + 2)
size_of-append [] e = omega arith
size_of-append (d ∷ es) e = omega (arith, size_of-append es e)

chosen_all : (c : Bool) (n most : ℕ) (xs ys : List Edit) → c ≡ nat_le n most → n ≤ most → (if c then xs else ys) ≡ xs
chosen_all true n most xs ys e h = refl
chosen_all false n most xs ys e h = absurd (grind (arith, nat_tests))

chosen_less : (c : Bool) (n most : ℕ) (xs ys : List Edit) → c ≡ nat_le n most → most < n → (if c then xs else ys) ≡ ys
chosen_less true n most xs ys e h = absurd (grind (arith, nat_tests))
chosen_less false n most xs ys e h = refl

-- the first goes where all are too many
pub kept_less : (most : ℕ) (es : List Edit) (e : Edit) → 0 < length es → most < size_of es + (length e.body + 2) → kept_edits most (drop 1 es ++ e ∷ []) ≡ kept_edits most (es ++ e ∷ [])
kept_less most [] e some h = absurd (omega arith)
kept_less most (d ∷ []) e some h = sym (chosen_less (nat_le (size_of (d ∷ e ∷ [])) most) (size_of (d ∷ e ∷ [])) most _ _ refl (omega arith))
kept_less most (d ∷ f ∷ es) e some h =
    sym (chosen_less (nat_le (size_of (d ∷ f ∷ (es ++ e ∷ []))) most) (size_of (d ∷ f ∷ (es ++ e ∷ []))) most _ _ refl (omega (arith, size_of-append es e)))

-- all are kept where they aren't too many
pub kept_all : (most : ℕ) (es : List Edit) (e : Edit) → (0 < length es → size_of es + (length e.body + 2) ≤ most) → kept_edits most (es ++ e ∷ []) ≡ es ++ e ∷ []
kept_all most [] e h = refl
kept_all most (d ∷ []) e h = chosen_all (nat_le (size_of (d ∷ e ∷ [])) most) (size_of (d ∷ e ∷ [])) most _ _ refl (omega (arith, h (omega arith)))
kept_all most (d ∷ f ∷ es) e h =
    chosen_all (nat_le (size_of (d ∷ f ∷ (es ++ e ∷ []))) most) (size_of (d ∷ f ∷ (es ++ e ∷ []))) most _ _ refl (omega (arith, h (omega arith), size_of-append es e))

-- without the first
pub dropped : (t u : ℕ) (bs : List (List ℕ)) → 0 < length bs → (1 < length bs → u ≡ t + 1) → number_edits u (drop 1 bs) ≡ drop 1 (number_edits t bs)
dropped t u [] some e = absurd (omega arith)
dropped t u (b ∷ []) some e = refl
dropped t u (b ∷ c ∷ bs) some e = ap (λ (k : ℕ). number_edits k (c ∷ bs)) (e (omega arith))

-- whether a txid is held, and what is told of it
module _ (t : ℕ) (bs : List (List ℕ)) (n : ℕ) where
  after : (d : ℕ) → length bs - (n - t) ≡ d → t ≤ n → (t ≤ n → n < t + length bs → ⊥) → since n (number_edits t bs) ≡ []
  after zero e low out = since-numbered t bs n low ∙ ap (λ (l : List (List ℕ)). number_edits n l) (drop_all (n - t) bs (omega arith))
  after (suc d) e low out = absurd (out low (omega arith))

  past : (d : ℕ) → t - n ≡ d → (t ≤ n → n < t + length bs → ⊥) → since n (number_edits t bs) ≡ []
  past zero e out = after (length bs - (n - t)) refl (omega arith) out
  past (suc d) e out = since-before t bs n (omega arith)

  here : t ≤ n → bodies_of (since n (number_edits t bs)) ≡ drop (n - t) bs
  here low = ap (λ (es : List Edit). bodies_of es) (since-numbered t bs n low) ∙ bodies_of-numbered n (drop (n - t) bs)

  some_there : t ≤ n → n < t + length bs → since n (number_edits t bs) ≡ [] → ⊥
  some_there low high e = omega (arith, ap (λ (es : List Edit). length es) (sym (since-numbered t bs n low) ∙ e), length-numbered n (drop (n - t) bs), length-drop (n - t) bs)

  pub none_held : {X : Type 0} (o : Option X) → (IsSome o ↔ ((t ≤ n) × (n < t + length bs))) → IsNone o ↔ (since n (number_edits t bs) ≡ [])
  none_held None h = (λ _. past (t - n) refl (λ low high. let e : false ≡ true = h.1 (low, high) in cc), λ _. refl)
  none_held (Some x) h = (λ e. cc, λ e. absurd (some_there (h.0 refl).0 (h.0 refl).1 e))

  pub run_held : {X : Type 0} (o : Option X) (P : X → List ℕ) → (IsSome o ↔ ((t ≤ n) × (n < t + length bs)))
      → IfSome o (λ x. IsStored (drop (n - t) bs) (P x)) → IfSome o (λ x. IsStored (bodies_of (since n (number_edits t bs))) (P x))
  run_held None P h e = tt
  run_held (Some x) P h e = subst (λ (l : List (List ℕ)). IsStored l (P x)) (sym (here (h.0 refl).0)) e
