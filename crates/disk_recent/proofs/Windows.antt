-- Windows of a list of places, and what a write over it leaves of them.
use Rattle.std.proofs.Common.{◌≡◌, ℕ, ◌+◌, ◌-◌, ◌<◌, ◌≤◌, List, [], ◌∷◌, ◌++◌, length, get_or, set, take, drop, ap, sym, ◌∙◌, append_assoc, arith, length-append, length-drop, length-take}
use Rattle.std.specs.Prelude.{map, Option, Some, None}
use Rattle.std.proofs.lemmas.List.{take-append-drop, take_at, drop_at, take-take, drop-drop, drop-take, take-append-le, drop-append-le, length-map, map-append, set_at, drop_more}
use Rattle.disk_recent.specs.Places.{put_at}

pub length-put : (cs : List (Option ℕ)) (at : ℕ) (xs : List ℕ) → at + length xs ≤ length cs → length (put_at cs at xs) ≡ length cs
length-put cs at xs h =
    omega (
      arith,
      length-append (take at cs) (map Some xs ++ drop (at + length xs) cs),
      length-append (map Some xs) (drop (at + length xs) cs),
      length-take at cs,
      length-map xs (λ (x : ℕ). Some x),
      length-drop (at + length xs) cs,
    )

-- one more byte
pub put_more : (cs : List (Option ℕ)) (at : ℕ) (xs : List ℕ) (x : ℕ) → at + length xs < length cs → set (put_at cs at xs) (at + length xs) (Some x) ≡ put_at cs at (xs ++ x ∷ [])
put_more cs at xs x h =
    let before : List (Option ℕ) = take at cs ++ map Some xs in
    let long : length before ≡ at + length xs = omega (arith, length-append (take at cs) (map Some xs), length-take at cs, length-map xs (λ (x : ℕ). Some x)) in
    let opened : drop (at + length xs) cs ≡ get_or cs (at + length xs) None ∷ drop (at + length xs + 1) cs = drop_more cs (at + length xs) None h in
    let here : put_at cs at xs ≡ before ++ get_or cs (at + length xs) None ∷ drop (at + length xs + 1) cs = rw opened (sym (append_assoc (take at cs) (map Some xs) _)) in
    let there : before ++ Some x ∷ drop (at + length xs + 1) cs ≡ put_at cs at (xs ++ x ∷ []) =
    let n : at + length (xs ++ x ∷ []) ≡ at + length xs + 1 = omega (arith, length-append xs (x ∷ [])) in
    rw (n, map-append (λ (y : ℕ). Some y) xs (x ∷ [])) (append_assoc (take at cs) (map Some xs) _ ∙ ap (λ l. take at cs ++ l) (sym (append_assoc (map Some xs) (Some x ∷ []) _))) in
    ap (λ (l : List (Option ℕ)). set l (at + length xs) (Some x)) here ∙ set_at before (get_or cs (at + length xs) None) (drop (at + length xs + 1) cs) (Some x) (at + length xs) long ∙ there

module _ (cs : List (Option ℕ)) (at : ℕ) (xs : List ℕ) (fits : at + length xs ≤ length cs) where
  abbrev Q : List (Option ℕ)
  Q = map Some xs

  abbrev D : List (Option ℕ)
  D = drop (at + length xs) cs

  length-Q : length Q ≡ length xs
  length-Q = length-map xs (λ (x : ℕ). Some x)

  length-P : length (take at cs) ≡ at
  length-P = omega (arith, length-take at cs)

  -- what was written
  pub window_at : take (length xs) (drop at (put_at cs at xs)) ≡ map Some xs
  window_at = ap (λ l. take (length xs) l) (drop_at (take at cs) (Q ++ D) at length-P) ∙ take_at Q D (length xs) length-Q

  -- a window before it
  pub window_before : (from n : ℕ) → from + n ≤ at → take n (drop from (put_at cs at xs)) ≡ take n (drop from cs)
  window_before from n h =
      let m : ℕ = at - from in
      let e : at ≡ from + m = omega arith in
      let cut : drop from (take at cs) ≡ take m (drop from cs) = ap (λ k. drop from (take k cs)) e ∙ drop-take from m cs in
      let long : n ≤ length (drop from (take at cs)) = omega (arith, length-P, length-drop from (take at cs)) in
      ap (λ l. take n l) (drop-append-le from (take at cs) (Q ++ D) (omega (arith, length-P)))
      ∙ (take-append-le n (drop from (take at cs)) (Q ++ D) long ∙ (ap (λ l. take n l) cut ∙ take-take n m (drop from cs) (omega arith)))

  -- a window after it
  pub window_after : (from n : ℕ) → at + length xs ≤ from → take n (drop from (put_at cs at xs)) ≡ take n (drop from cs)
  window_after from n h =
      let p : ℕ = at + length xs in let j : ℕ = from - p in
      let e : from ≡ p + j = omega arith in
      let same : put_at cs at xs ≡ (take at cs ++ Q) ++ D = sym (append_assoc (take at cs) Q D) in
      let long : length (take at cs ++ Q) ≡ p = length-append (take at cs) Q ∙ omega (arith, length-P, length-Q) in
      let on : drop from (put_at cs at xs) ≡ drop from cs =
      ap (λ k. drop k (put_at cs at xs)) e ∙ (sym (drop-drop j p (put_at cs at xs))
      ∙ (ap (λ l. drop j (drop p l)) same ∙ (ap (λ l. drop j l) (drop_at (take at cs ++ Q) D p long)
      ∙ (drop-drop j p cs ∙ ap (λ k. drop k cs) (sym e))))) in
      ap (λ l. take n l) on

-- written on
pub put_put : (cs : List (Option ℕ)) (at : ℕ) (xs ys : List ℕ) → at + length xs + length ys ≤ length cs → put_at (put_at cs at xs) (at + length xs) ys ≡ put_at cs at (xs ++ ys)
put_put cs at xs ys h =
    let P : List (Option ℕ) = take at cs in let E : List (Option ℕ) = drop (at + length xs) cs in
    let before : List (Option ℕ) = P ++ map Some xs in
    let long : length before ≡ at + length xs = omega (arith, length-append P (map Some xs), length-take at cs, length-map xs (λ (x : ℕ). Some x)) in
    let same : put_at cs at xs ≡ before ++ E = sym (append_assoc P (map Some xs) E) in
    let front : take (at + length xs) (put_at cs at xs) ≡ before = ap (λ l. take (at + length xs) l) same ∙ take_at before E (at + length xs) long in
    let back : drop (at + length xs + length ys) (put_at cs at xs) ≡ drop (at + length xs + length ys) cs =
    sym (drop-drop (length ys) (at + length xs) (put_at cs at xs)) ∙
    (ap (λ l. drop (length ys) (drop (at + length xs) l)) same ∙
    (ap (λ l. drop (length ys) l) (drop_at before E (at + length xs) long) ∙ drop-drop (length ys) (at + length xs) cs)) in
    let n : at + length (xs ++ ys) ≡ at + length xs + length ys = omega (arith, length-append xs ys) in
    let D' : List (Option ℕ) = drop (at + length xs + length ys) cs in
    let whole : before ++ (map Some ys ++ D') ≡ put_at cs at (xs ++ ys) =
    rw (n, map-append (λ (y : ℕ). Some y) xs ys) (append_assoc P (map Some xs) (map Some ys ++ D') ∙ ap (λ l. P ++ l) (sym (append_assoc (map Some xs) (map Some ys) D'))) in
    ap (λ l. l ++ (map Some ys ++ drop (at + length xs + length ys) (put_at cs at xs))) front ∙ (ap (λ l. before ++ (map Some ys ++ l)) back ∙ whole)
