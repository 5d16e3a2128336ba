-- Lists, beginnings and places.
use Rattle.std.proofs.Common.{◌≡◌, ◌≢◌, ◌⊎◌, ℕ, zero, suc, ◌+◌, ◌<◌, ◌≤◌, List, [], ◌∷◌, ◌++◌, length, set, Bool, true, false, eqb, eq-eqb, ne_eqb}
use Rattle.std.proofs.Common.{refl, sym, ap, ◌∙◌, subst, ⊎_elim, inl, inr, arith}
use Rattle.std.proofs.lemmas.List.{append_assoc}
use mathlib.Core.Option.{some, some-ne-none, some-injective}
use lib.ListN.{get_elem?}
use Rattle.play_threads.specs.declared.board.View.{View}
use Rattle.play_threads.specs.Board.{Begins, keep_if, places_from, places_of, turn, turns, AllAt}

pub begins_more : {A : Type 0} (xs ys zs : List A) → Begins xs ys → Begins xs (ys ++ zs)
begins_more xs ys zs b = (b.0 ++ zs, sym (append_assoc xs b.0 zs) ∙ ap (λ l. l ++ zs) b.1)

keep_if-append : (b : Bool) (n : ℕ) (xs ys : List ℕ) → keep_if b n (xs ++ ys) ≡ keep_if b n xs ++ ys
keep_if-append true n xs ys = refl
keep_if-append false n xs ys = refl

module _ {E : Type 0} where
  own_from : (by n : ℕ) (es : List (ℕ × E)) (x : E) → places_from by n (es ++ (by, x) ∷ []) ≡ places_from by n es ++ (n + length es) ∷ []
  own_from by n [] x = let q : n ≡ n + 0 = omega arith in subst (λ (b : Bool). keep_if b n [] ≡ (n + 0) ∷ []) (sym (eq-eqb by by refl)) (ap (λ (k : ℕ). k ∷ []) q)
  own_from by n (e ∷ es) x =
      let q : suc n + length es ≡ n + length (e ∷ es) = omega arith in
      ap (keep_if (eqb e.0 by) n) (own_from by (suc n) es x ∙ ap (λ (k : ℕ). places_from by (suc n) es ++ k ∷ []) q)
      ∙ keep_if-append (eqb e.0 by) n (places_from by (suc n) es) ((n + length (e ∷ es)) ∷ [])

  pub own_place : (by : ℕ) (es : List (ℕ × E)) (x : E) → places_of by (es ++ (by, x) ∷ []) ≡ places_of by es ++ length es ∷ []
  own_place by es x = let q : 0 + length es ≡ length es = omega arith in own_from by 0 es x ∙ ap (λ (k : ℕ). places_of by es ++ k ∷ []) q

  else_from : (by c n : ℕ) (es : List (ℕ × E)) (x : E) → c ≢ by → places_from by n (es ++ (c, x) ∷ []) ≡ places_from by n es
  else_from by c n [] x ne = ap (λ (b : Bool). keep_if b n []) (ne_eqb c by ne)
  else_from by c n (e ∷ es) x ne = ap (keep_if (eqb e.0 by) n) (else_from by c (suc n) es x ne)

  pub else_place : (by c : ℕ) (es : List (ℕ × E)) (x : E) → c ≢ by → places_of by (es ++ (c, x) ∷ []) ≡ places_of by es
  else_place by c es x ne = else_from by c 0 es x ne

  pub turns_set : (vs : List (View E)) (i : ℕ) (v w : View E) → get_elem? vs i ≡ some v → turns (set vs i w) + turn v.stage ≡ turns vs + turn w.stage
  turns_set [] i v w e = absurd (some-ne-none v (sym e))
  turns_set (x ∷ xs) zero v w e = let s : turn x.stage ≡ turn v.stage = ap (λ (y : View E). turn y.stage) (some-injective x v e) in let a : ℕ =
      turn x.stage in let b : ℕ = turn v.stage in let s' : a ≡ b = s in omega arith
  turns_set (x ∷ xs) (suc i) v w e = let h = turns_set xs i v w e in omega arith

  pub turns_few : (vs : List (View E)) → turns vs ≤ length vs
  turns_few [] = omega arith
  turns_few (v ∷ vs) = let h = turns_few vs in let k = one v in omega arith
    where
      open_turn : (st : Rattle.play_threads.specs.declared.board.Stage.Stage) → turn st ≤ 1
      open_turn st = search arith

      one : (v : View E) → turn v.stage ≤ 1
      one v = open_turn v.stage

  pub turns_snoc : (vs : List (View E)) (w : View E) → turns (vs ++ w ∷ []) ≡ turns vs + turn w.stage
  turns_snoc [] w = omega arith
  turns_snoc (v ∷ vs) w = let h = turns_snoc vs w in omega arith

pub at_less : {A : Type 0} (l : List A) (i : ℕ) (a : A) → get_elem? l i ≡ some a → i < length l
at_less [] i a e = absurd (some-ne-none a (sym e))
at_less (x ∷ xs) zero a e = omega arith
at_less (x ∷ xs) (suc i) a e = let h = at_less xs i a e in omega arith

pub at_end : {A : Type 0} (l : List A) (a b : A) (j : ℕ) → get_elem? (l ++ a ∷ []) j ≡ some b → (get_elem? l j ≡ some b) ⊎ ((j ≡ length l) × (a ≡ b))
at_end [] a b zero e = inr (refl, some-injective a b e)
at_end [] a b (suc j) e = absurd (some-ne-none b (sym e))
at_end (x ∷ xs) a b zero e = inl e
at_end (x ∷ xs) a b (suc j) e = ⊎_elim (λ (h : get_elem? xs j ≡ some b). inl h) (λ (h : (j ≡ length xs) × (a ≡ b)). inr (let q = h.0 in omega arith, h.1)) (at_end xs a b j e)

pub all_push : {G : Type 0} (P : ℕ → G → Type 0) (gs : List G) (g : G) (n : ℕ) → AllAt P gs → length gs ≡ n → P n g → AllAt P (gs ++ g ∷ [])
all_push {G} P gs g n all is mine k h e =
    ⊎_elim (λ (old : get_elem? gs k ≡ some h). all k h old) (λ (x : (k ≡ length gs) × (g ≡ h)). subst (λ (y : ℕ × G). P y.0 y.1) (λ i. (sym (x.0 ∙ is) i, x.1 i)) mine) (at_end gs g h k e)
