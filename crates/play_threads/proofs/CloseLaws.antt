-- Gates closed one after the other, each with the row of its seats.
use Rattle.std.proofs.Common.{◌≡◌, ℕ, zero, suc, ◌+◌, ◌<◌, List, [], ◌∷◌, ◌++◌, length, map, replicate, drop, refl, sym, ap, ◌∙◌, subst, arith, get_or}
use Rattle.std.proofs.lemmas.List.{length-map, map-append, get_or_default}
use Rattle.std.proofs.Math.ListN.{get_or-map}
use Rattle.atomic_table.specs.Seated.{TableId}
use Rattle.journal_history.specs.declared.history_line.HistoryLine.{HistoryLine}
use Rattle.play_threads.specs.Board.{AllAt}
use Rattle.play_threads.proofs.Histories.{all_push, at_less}
use Rattle.play_threads.specs.Seated.{Seat}
use Rattle.play_threads.specs.Gates.{dealt, fresh_seat, row_at, AreOf, IsLeft}
use Rattle.play_threads.proofs.GateLaws.{map_compose, map_dealt, none_none, dealt_count, row_is, elem_map, of_length, columns_long, row_seats}

-- ## What is left of a list
drop_first : {A : Type 0} (l : List A) (i : ℕ) (x : A) → get_or (drop i l) 0 x ≡ get_or l i x
drop_first l zero x = refl
drop_first [] (suc i) x = refl
drop_first (y ∷ l) (suc i) x = drop_first l i x

drop_next : {A : Type 0} (l : List A) (i : ℕ) → drop 1 (drop i l) ≡ drop (i + 1) l
drop_next l zero = refl
drop_next [] (suc i) = let e : suc i + 1 ≡ suc (i + 1) = omega arith in ap (λ k. drop k []) (sym e)
drop_next (y ∷ l) (suc i) = let e : suc i + 1 ≡ suc (i + 1) = omega arith in drop_next l i ∙ ap (λ k. drop k (y ∷ l)) (sym e)

drop_some : {A : Type 0} (l : List A) (i : ℕ) → i < length l → 0 < length (drop i l)
drop_some [] i h = absurd (omega (arith, h))
drop_some (y ∷ l) zero h = omega arith
drop_some (y ∷ l) (suc i) h = drop_some l i (omega (arith, h))

pub first_left : {A : Type 0} (all left : List A) (i : ℕ) (x : A) → left ≡ drop i all → x ≡ get_or left 0 x → x ≡ get_or all i x
first_left all left i x e is = is ∙ ap (λ z. get_or z 0 x) e ∙ drop_first all i x

pub rest_left : {A : Type 0} (all left rest : List A) (i : ℕ) → left ≡ drop i all → rest ≡ drop 1 left → rest ≡ drop (i + 1) all
rest_left all left rest i e is = is ∙ ap (drop 1) e ∙ drop_next all i

pub some_left : {A : Type 0} (all left : List A) (i : ℕ) → left ≡ drop i all → i < length all → 0 < length left
some_left all left i e h = subst (λ z. 0 < length z) (sym e) (drop_some all i h)

-- ## What fits the gate
pub at_map : {A X : Type 0} (f : A → X) (l : List A) (i : ℕ) (a : A) (d : X) → i < length l → a ≡ get_or l i a → f a ≡ get_or (map f l) i d
at_map f l i a d h is = ap f is ∙ sym (get_or-map f l i a) ∙ get_or_default (map f l) i (f a) d (let n = length-map l f in omega (arith, h, n))

pub same_long : {A B X : Type 0} (f : A → X) (g : B → X) (xs : List A) (ys : List B) → map f xs ≡ map g ys → length xs ≡ length ys
same_long f g xs ys e = sym (length-map xs f) ∙ ap length e ∙ length-map ys g

pub both_fit : {A B X : Type 0} (f : A → X) (g : B → X) (xs : List A) (ys : List B) (i : ℕ) (a : A) (b : B) → map f xs ≡ map g ys → i < length ys → a ≡ get_or xs i a → b ≡ get_or ys i b → f a ≡ g b
both_fit f g xs ys i a b e h is at =
    let n = length-map xs f in
    let m = length-map ys g in
    let l : length (map f xs) ≡ length (map g ys) = ap length e in
    at_map f xs i a (g b) (omega (arith, h, n, m, l)) is ∙ ap (λ z. get_or z i (g b)) e ∙ sym (at_map g ys i b (g b) h at)

same_in : {A : Type 0} (n i : ℕ) (x d : A) → i < n → get_or (replicate n x) i d ≡ x
same_in zero i x d h = absurd (omega (arith, h))
same_in (suc n) zero x d h = refl
same_in (suc n) (suc i) x d h = same_in n i x d (omega (arith, h))

pub many_is : {A : Type 0} (f : A → ℕ) (l : List A) (n m i : ℕ) (a : A) → map f l ≡ replicate n m → i < n → a ≡ get_or l i a → f a ≡ m
many_is f l n m i a e h is = ap f is ∙ sym (get_or-map f l i a) ∙ ap (λ z. get_or z i (f a)) e ∙ same_in n i m (f a) h

-- ## The row of the gate
pub dealt_for : {V A : Type 0} (f : V → List A) (rows : List V) (cs : List (List A)) (n m : ℕ) → n ≡ m → map f rows ≡ dealt (replicate n []) cs → map f rows ≡ dealt (replicate m []) cs
dealt_for f rows cs n m e h = h ∙ ap (λ k. dealt (replicate k []) cs) e

pub alike_more : {A B X : Type 0} (f : A → X) (g : B → X) (xs : List A) (ys : List B) (a : A) (b : B) → map f xs ≡ map g ys → f a ≡ g b → map f (xs ++ a ∷ []) ≡ map g (ys ++ b ∷ [])
alike_more f g xs ys a b e h = map-append f xs (a ∷ []) ∙ ap (λ l. l ++ f a ∷ []) e ∙ ap (λ x. map g ys ++ x ∷ []) h ∙ sym (map-append g ys (b ∷ []))

module _ {V S : Type 0} (items : V → List S) (seat : S → Seat) where
  abbrev pub shown : V → List Seat
  shown v = map seat (items v)

  rows_shown : (rows columns : List V) (m : ℕ) → map items rows ≡ dealt (replicate m []) (map items columns) → map shown rows ≡ dealt (replicate m []) (map shown columns)
  rows_shown rows columns m e =
      sym (map_compose items (map seat) rows) ∙ ap (map (map seat)) e ∙ map_dealt seat (replicate m []) (map items columns)
      ∙ ap (λ z. dealt z (map (map seat) (map items columns))) (none_none seat m) ∙ ap (dealt (replicate m [])) (map_compose items (map seat) columns)

  pub column_long : (tables : List TableId) (columns : List V) → ((k : ℕ) (c : List Seat) → k < length columns → AreOf tables k (get_or (map shown columns) k c)) → (i : ℕ) (d : V) → i < length columns
      → length (items (get_or columns i d)) ≡ length tables
  column_long tables columns own i d l =
      sym (length-map (items (get_or columns i d)) seat) ∙ ap length (sym (get_or-map shown columns i d)) ∙ of_length tables i (get_or (map shown columns) i (shown d)) (own i (shown d) l)

  module _ (tables : List TableId) (rows columns : List V) (dealt_so : map items rows ≡ dealt (replicate (length tables) []) (map items columns))
      (own : (k : ℕ) (c : List Seat) → k < length columns → AreOf tables k (get_or (map shown columns) k c)) where
    many : length (map shown columns) ≡ length columns
    many = length-map columns shown

    theirs : (k : ℕ) (c : List Seat) → k < length (map shown columns) → AreOf tables k (get_or (map shown columns) k c)
    theirs k c l = let n = many in own k c (omega (arith, l, n))

    pub rows_long : length rows ≡ length tables
    rows_long = dealt_count items rows (length tables) (map items columns) dealt_so

    pub the_row : (i : ℕ) (d : Seat) (row : V) → i < length tables → row ≡ get_or rows i row → shown row ≡ row_at i d (map shown columns)
    the_row i d row l is =
        let n = rows_long in
        at_map shown rows i row [] (omega (arith, l, n)) is
        ∙ row_is (map shown rows) (map shown columns) (length tables) i d (rows_shown rows columns (length tables) dealt_so) l (columns_long tables (map shown columns) theirs)

    pub row_long : (i : ℕ) (t : TableId) (row : V) → i < length tables → row ≡ get_or rows i row → length (items row) ≡ length columns
    row_long i t row l is =
        sym (length-map (items row) seat) ∙ ap length (the_row i (fresh_seat 0 t) row l is) ∙ length-map (map shown columns) (λ (c : List Seat). get_or c i (fresh_seat 0 t)) ∙ many

    pub row_own : (i : ℕ) (t : TableId) (row : V) → i < length tables → row ≡ get_or rows i row → t ≡ get_or tables i t → AllAt (λ k s. ((seat s).table ≡ t) × ((seat s).caller ≡ k)) (items row)
    row_own i t row l is at k s here =
        row_seats tables (map shown columns) theirs i (fresh_seat 0 t) (shown row) k (seat s) t l (the_row i (fresh_seat 0 t) row l is) (elem_map seat (items row) k s here) at

    pub left_more : (hs : List (List HistoryLine)) (h : List HistoryLine) (i : ℕ) (row : V) → i < length tables → row ≡ get_or rows i row → length hs ≡ i → IsLeft (shown row) h
        → AllAt (λ j x. IsLeft (get_or (map shown rows) j []) x) hs → AllAt (λ j x. IsLeft (get_or (map shown rows) j []) x) (hs ++ h ∷ [])
    left_more hs h i row l is n left all =
        let m = rows_long in
        all_push (λ j x. IsLeft (get_or (map shown rows) j []) x) hs h i all n (subst (λ r. IsLeft r h) (at_map shown rows i row [] (omega (arith, l, m)) is) left)

    pub left_all : (hs : List (List HistoryLine)) → length hs ≡ length tables → AllAt (λ j x. IsLeft (get_or (map shown rows) j []) x) hs → (d : Seat)
        → AllAt (λ j x. IsLeft (row_at j d (map shown columns)) x) hs
    left_all hs n all d i h at =
        let b = at_less hs i h at in
        subst (λ r. IsLeft r h) (row_is (map shown rows) (map shown columns) (length tables) i d (rows_shown rows columns (length tables) dealt_so)
        (omega (arith, b, n)) (columns_long tables (map shown columns) theirs)) (all i h at)
