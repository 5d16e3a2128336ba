-- Rows dealt to columns; seats before the first call; a gate that is closed.
use Rattle.std.proofs.Common.{◌≡◌, ℕ, zero, suc, ◌+◌, ◌<◌, ◌≤◌, List, [], ◌∷◌, ◌++◌, length, map, refl, sym, ap, ◌∙◌, set, get_or, arith, replicate}
use Rattle.std.proofs.Common.{◌⊎◌, inl, inr, Bool, true, false, cond, filter, ◌==◌, append-nil, append_assoc}
use Rattle.std.proofs.lemmas.List.{length-map, length-replicate, map-set, map-append, get_or_default}
use mathlib.Core.Option.{some}
use lib.ListN.{get_elem?}
use Rattle.atomic_table.specs.Seated.{TableId}
use Rattle.journal_history.specs.declared.history_line.HistoryLine.{HistoryLine}
use Rattle.mesh.specs.Matches.{lines_of, CallersWithin}
use Rattle.mesh.proofs.Lists.{cond_true, same_test}
use Rattle.play_threads.specs.Board.{Begins, places_of}
use Rattle.play_threads.proofs.Histories.{at_less}
use Rattle.play_threads.specs.Entries.{Entry, entries_of, own_lines, line_of as line_in}
use Rattle.play_threads.proofs.SeatLaws.{not_acted}
use Rattle.play_threads.specs.Seated.{Seat, seat_of}
use Rattle.std.proofs.Math.ListN.{get_or-map}
use Rattle.play_threads.specs.Gates.{zip_snoc, dealt, fresh_seat, fresh_row, fresh_columns, row_at, AreOf}
use Rattle.run_safety.proofs.Slots.{get_replicate}

pub zip_none : {A : Type 0} (cs : List (List A)) → zip_snoc cs [] ≡ cs
zip_none [] = refl
zip_none (c ∷ cs) = refl

pub zip_length : {A : Type 0} (cs : List (List A)) (xs : List A) → length (zip_snoc cs xs) ≡ length cs
zip_length [] xs = refl
zip_length (c ∷ cs) [] = refl
zip_length (c ∷ cs) (x ∷ xs) = ap suc (zip_length cs xs)

-- one more of the row
pub zip_more : {A : Type 0} (cs : List (List A)) (xs : List A) (x : A) (c : List A) → length xs < length cs → c ≡ get_or (zip_snoc cs xs) (length xs) c
    → zip_snoc cs (xs ++ x ∷ []) ≡ set (zip_snoc cs xs) (length xs) (c ++ x ∷ [])
zip_more [] xs x c h e = absurd (omega (arith, h))
zip_more (d ∷ cs) [] x c h e = ap (λ l. (l ++ x ∷ []) ∷ zip_snoc cs []) (sym e) ∙ ap (λ l. (c ++ x ∷ []) ∷ l) (zip_none cs)
zip_more (d ∷ cs) (y ∷ xs) x c h e = ap (λ l. (d ++ y ∷ []) ∷ l) (zip_more cs xs x c (omega (arith, h)) e)

pub zip_first : {A : Type 0} (cs : List (List A)) → cs ≡ zip_snoc cs []
zip_first cs = sym (zip_none cs)

pub columns_count : {V A : Type 0} (f : V → List A) (cols : List V) (cs : List (List A)) (xs : List A) → map f cols ≡ zip_snoc cs xs → length cols ≡ length cs
columns_count f cols cs xs e = sym (length-map cols f) ∙ ap length e ∙ zip_length cs xs

pub zip_next : {V A : Type 0} (f : V → List A) (cols : List V) (v u : V) (cs : List (List A)) (xs : List A) (x : A) (k : ℕ) → k ≡ length xs
    → k < length cols → v ≡ get_or cols k v → f u ≡ f v ++ x ∷ []
    → map f cols ≡ zip_snoc cs xs → map f (set cols k u) ≡ zip_snoc cs (xs ++ x ∷ [])
zip_next f cols v u cs xs x k at h is more e =
    let n = columns_count f cols cs xs e in
    let there : f v ≡ get_or (zip_snoc cs xs) (length xs) (f v) = ap f is ∙ sym (get_or-map f cols k v) ∙ ap (λ l. get_or l k (f v)) e ∙ ap (λ i. get_or (zip_snoc cs xs) i (f v)) at in
    map-set f cols k u ∙ ap (λ l. set l k (f u)) e ∙ ap (λ y. set (zip_snoc cs xs) k y) more ∙ ap (λ i. set (zip_snoc cs xs) i (f v ++ x ∷ [])) at
    ∙ sym (zip_more cs xs x (f v) (omega (arith, at, h, n)) there)

pub replicate_more : {A : Type 0} (n : ℕ) (x : A) → replicate (n + 1) x ≡ replicate n x ++ x ∷ []
replicate_more zero x = refl
replicate_more (suc n) x = let e : suc n + 1 ≡ suc (n + 1) = omega arith in ap (λ k. replicate k x) e ∙ ap (λ l. x ∷ l) (replicate_more n x)

pub more_yielded : {A B : Type 0} (ys : List A) (y : A) (x : B) → replicate (length (ys ++ y ∷ [])) x ≡ replicate (length ys) x ++ x ∷ []
more_yielded [] y x = refl
more_yielded (z ∷ ys) y x = ap (λ l. x ∷ l) (more_yielded ys y x)

-- ## Seats before the first call
pub map_compose : {A B C : Type 0} (f : A → B) (g : B → C) (l : List A) → map g (map f l) ≡ map (λ x. g (f x)) l
map_compose f g [] = refl
map_compose f g (x ∷ l) = ap (λ z. g (f x) ∷ z) (map_compose f g l)

pub map_zip : {A B : Type 0} (f : A → B) (cs : List (List A)) (xs : List A) → map (map f) (zip_snoc cs xs) ≡ zip_snoc (map (map f) cs) (map f xs)
map_zip f [] xs = refl
map_zip f (c ∷ cs) [] = refl
map_zip f (c ∷ cs) (x ∷ xs) = ap (λ l. l ∷ map (map f) (zip_snoc cs xs)) (map-append f c (x ∷ [])) ∙ ap (λ l. (map f c ++ f x ∷ []) ∷ l) (map_zip f cs xs)

zip_fresh : (k n : ℕ) (ts : List TableId) (t : TableId) → zip_snoc (fresh_columns k n ts) (fresh_row k n t) ≡ fresh_columns k n (ts ++ t ∷ [])
zip_fresh k zero ts t = refl
zip_fresh k (suc n) ts t = ap (λ l. l ∷ zip_snoc (fresh_columns (suc k) n ts) (fresh_row (suc k) n t)) (sym (map-append (fresh_seat k) ts (t ∷ [])))
    ∙ ap (λ l. map (fresh_seat k) (ts ++ t ∷ []) ∷ l) (zip_fresh (suc k) n ts t)

pub fresh_none : (k n : ℕ) → replicate n [] ≡ fresh_columns k n []
fresh_none k zero = refl
fresh_none k (suc n) = ap (λ l. [] ∷ l) (fresh_none (suc k) n)

pub none_none : {A B : Type 0} (f : A → B) (n : ℕ) → map (map f) (replicate n []) ≡ replicate n []
none_none f zero = refl
none_none f (suc n) = ap (λ l. [] ∷ l) (none_none f n)

pub row_fresh : {G : Type 0} (f : G → Seat) (row : List G) (k n : ℕ) (t : TableId) → length row ≡ n
    → ((i : ℕ) (g : G) → get_elem? row i ≡ some g → f g ≡ fresh_seat (k + i) t) → map f row ≡ fresh_row k n t
row_fresh f [] k zero t e h = refl
row_fresh f [] k (suc n) t e h = absurd (omega (arith, e))
row_fresh f (g ∷ row) k zero t e h = absurd (omega (arith, e))
row_fresh f (g ∷ row) k (suc n) t e h =
    let here : k + 0 ≡ k = omega arith in
    ap (λ s. s ∷ map f row) (h 0 g refl ∙ ap (λ j. fresh_seat j t) here)
    ∙ ap (λ l. fresh_seat k t ∷ l) (row_fresh f row (suc k) n t (omega (arith, e)) (λ i x at. h (suc i) x at ∙ (let m : k + suc i ≡ suc k + i = omega arith in ap (λ j. fresh_seat j t) m)))

pub seat_fresh : (table t : TableId) (caller k : ℕ) (seen : List Entry) → table ≡ t → caller ≡ k → seen ≡ [] → seat_of table caller seen ≡ fresh_seat k t
unfolding lines_of
seat_fresh table t caller k seen a b e = ap (λ x. seat_of x caller seen) a ∙ ap (λ x. seat_of t x seen) b ∙ ap (seat_of t k) e

module _ {V G : Type 0} (items : V → List G) (f : G → Seat) where
  pub columns_first : (cols : List V) (n : ℕ) → map items cols ≡ replicate n [] → map (λ v. map f (items v)) cols ≡ fresh_columns 0 n []
  columns_first cols n e = sym (map_compose items (map f) cols) ∙ ap (map (map f)) e ∙ none_none f n ∙ fresh_none 0 n

  pub columns_next : (old new : List V) (row : List G) (n : ℕ) (ts : List TableId) (t : TableId) → map items new ≡ zip_snoc (map items old) row → map f row ≡ fresh_row 0 n t
      → map (λ v. map f (items v)) old ≡ fresh_columns 0 n ts → map (λ v. map f (items v)) new ≡ fresh_columns 0 n (ts ++ t ∷ [])
  columns_next old new row n ts t e r h =
      sym (map_compose items (map f) new) ∙ ap (map (map f)) e ∙ map_zip f (map items old) row
      ∙ ap (λ l. zip_snoc l (map f row)) (map_compose items (map f) old ∙ h) ∙ ap (zip_snoc (fresh_columns 0 n ts)) r ∙ zip_fresh 0 n ts t

fresh_length : (k n : ℕ) (ts : List TableId) → length (fresh_columns k n ts) ≡ n
fresh_length k zero ts = refl
fresh_length k (suc n) ts = ap suc (fresh_length (suc k) n ts)

pub columns_many : {V : Type 0} (shown : V → List Seat) (cols : List V) (n : ℕ) (ts : List TableId) → map shown cols ≡ fresh_columns 0 n ts → length cols ≡ n
columns_many shown cols n ts e = sym (length-map cols shown) ∙ ap length e ∙ fresh_length 0 n ts

-- ## A gate that is closed
le_or_above : (a b : ℕ) → (a ≤ b) ⊎ (b + 1 ≤ a)
le_or_above zero b = inl (omega arith)
le_or_above (suc a) zero = inr (omega arith)
le_or_above (suc a) (suc b) = elim (le_or_above a b) [ inl l ↦ inl (omega (arith, l)) | inr l ↦ inr (omega (arith, l)) ]

lines_back : (hs : List HistoryLine) → map line_in (entries_of hs) ≡ hs
lines_back [] = refl
lines_back (h ∷ hs) = ap (λ l. h ∷ l) (lines_back hs)

own_back : (k : ℕ) (hs : List HistoryLine) → own_lines k (entries_of hs) ≡ lines_of k hs
own_back k hs = ap (lines_of k) (lines_back hs)

pub closed_own : (k caller : ℕ) (seen : List Entry) (hs : List HistoryLine) (places : List ℕ) → caller ≡ k → places_of caller seen ≡ places
    → Begins seen (entries_of hs) → places_of k (entries_of hs) ≡ places
    → own_lines caller seen ≡ lines_of k hs
closed_own k caller seen hs places is p b q =
    let p2 : places_of k seen ≡ places = ap (λ j. places_of j seen) (sym is) ∙ p in
    ap (λ j. own_lines j seen) is ∙ sym (not_acted k seen (entries_of hs) places places p2 q b refl) ∙ own_back k hs

own_none : (k : ℕ) → own_lines k [] ≡ []
unfolding lines_of
own_none k = refl

closed_none : (k : ℕ) (hs : List HistoryLine) → places_of k (entries_of hs) ≡ [] → lines_of k hs ≡ []
closed_none k hs q = sym (own_back k hs) ∙ not_acted k [] (entries_of hs) [] [] refl q (entries_of hs, refl) refl ∙ own_none k

pub none_above : (operator : ℕ) (hs : List HistoryLine) → ((k : ℕ) → operator + 1 ≤ k → lines_of k hs ≡ []) → CallersWithin operator hs
unfolding CallersWithin lines_of
none_above operator [] h = tt
none_above operator (x ∷ hs) h = (own, none_above operator hs (λ k l. unfold lines_of in tail k (x.caller == k) (h k l)))
  where
    tail : (k : ℕ) (b : Bool) → cond b (x ∷ filter (λ (y : HistoryLine). y.caller == k) hs) (filter (λ (y : HistoryLine). y.caller == k) hs) ≡ [] → filter (λ (y : HistoryLine). y.caller == k) hs ≡ []
    tail k true e = absurd (cc e)
    tail k false e = e

    here : operator + 1 ≤ x.caller → ⊥
    here l = some (sym (cond_true (x.caller == x.caller) (x ∷ filter (λ (y : HistoryLine). y.caller == x.caller) hs)
        (filter (λ (y : HistoryLine). y.caller == x.caller) hs) (same_test x.caller x.caller refl)) ∙ h x.caller l)
      where
        some : x ∷ filter (λ (y : HistoryLine). y.caller == x.caller) hs ≡ [] → ⊥
        some e = cc e

    own : x.caller ≤ operator
    own = elim (le_or_above x.caller operator) [ inl l ↦ l | inr l ↦ absurd (here l) ]

pub closed_callers : (seats operator : ℕ) (hs : List HistoryLine) → seats ≡ operator + 1 → ((k : ℕ) → seats ≤ k → places_of k (entries_of hs) ≡ []) → CallersWithin operator hs
closed_callers seats operator hs e h = none_above operator hs (λ k l. closed_none k hs (h k (omega (arith, e, l))))

-- ## The row of a gate
pub dealt_more : {A : Type 0} (cs rows : List (List A)) (row : List A) → dealt cs (rows ++ row ∷ []) ≡ zip_snoc (dealt cs rows) row
dealt_more cs [] row = refl
dealt_more cs (r ∷ rows) row = dealt_more (zip_snoc cs r) rows row

pub dealt_length : {A : Type 0} (cs rows : List (List A)) → length (dealt cs rows) ≡ length cs
dealt_length cs [] = refl
dealt_length cs (r ∷ rows) = dealt_length (zip_snoc cs r) rows ∙ zip_length cs r

pub dealt_count : {V A : Type 0} (f : V → List A) (rows : List V) (m : ℕ) (cs : List (List A)) → map f rows ≡ dealt (replicate m []) cs → length rows ≡ m
dealt_count f rows m cs e = sym (length-map rows f) ∙ ap length e ∙ dealt_length (replicate m []) cs ∙ length-replicate m []

zip_at : {A : Type 0} (cs : List (List A)) (row : List A) (i : ℕ) (c : List A) (x : A) → i < length cs → i < length row → get_or (zip_snoc cs row) i c ≡ get_or cs i c ++ get_or row i x ∷ []
zip_at [] row i c x l h = absurd (omega (arith, l))
zip_at (d ∷ cs) [] i c x l h = absurd (omega (arith, h))
zip_at (d ∷ cs) (y ∷ row) zero c x l h = refl
zip_at (d ∷ cs) (y ∷ row) (suc i) c x l h = zip_at cs row i c x (omega (arith, l)) (omega (arith, h))

dealt_at : {A : Type 0} (cs rows : List (List A)) (i : ℕ) (c : List A) (x : A) → i < length cs
    → ((k : ℕ) (d : List A) → k < length rows → i < length (get_or rows k d))
    → get_or (dealt cs rows) i c ≡ get_or cs i c ++ map (λ r. get_or r i x) rows
dealt_at cs [] i c x l h = sym (append-nil (get_or cs i c))
dealt_at cs (r ∷ rows) i c x l h =
    let n = zip_length cs r in
    dealt_at (zip_snoc cs r) rows i c x (omega (arith, l, n)) (λ k d m. h (suc k) d (omega (arith, m)))
    ∙ ap (λ z. z ++ map (λ q. get_or q i x) rows) (zip_at cs r i c x l (h 0 r (omega arith)))
    ∙ append_assoc (get_or cs i c) (get_or r i x ∷ []) (map (λ q. get_or q i x) rows)

pub map_dealt : {A B : Type 0} (f : A → B) (cs rows : List (List A)) → map (map f) (dealt cs rows) ≡ dealt (map (map f) cs) (map (map f) rows)
map_dealt f cs [] = refl
map_dealt f cs (r ∷ rows) = map_dealt f (zip_snoc cs r) rows ∙ ap (λ l. dealt l (map (map f) rows)) (map_zip f cs r)

row_from : (rows columns : List (List Seat)) (m i : ℕ) (d : Seat) (none : List Seat) → none ≡ [] → rows ≡ dealt (replicate m none) columns → i < m
    → ((k : ℕ) (c : List Seat) → k < length columns → length (get_or columns k c) ≡ m)
    → get_or rows i none ≡ row_at i d columns
row_from rows columns m i d none is e l long =
    let n : length (replicate m none) ≡ m = length-replicate m none in
    ap (λ z. get_or z i none) e ∙ dealt_at (replicate m none) columns i none d (omega (arith, l, n))
    (λ k c h. let q = long k c h in omega (arith, l, q)) ∙ ap (λ z. z ++ row_at i d columns) (get_replicate m i none ∙ is)

pub row_is : (rows columns : List (List Seat)) (m i : ℕ) (d : Seat) → rows ≡ dealt (replicate m []) columns → i < m
    → ((k : ℕ) (c : List Seat) → k < length columns → length (get_or columns k c) ≡ m) → get_or rows i [] ≡ row_at i d columns
row_is rows columns m i d e l long = row_from rows columns m i d [] refl e l long

-- ## The elements of a list
pub element : {A : Type 0} (l : List A) (k : ℕ) → k < length l → (s : A) × (get_elem? l k ≡ some s)
element [] k h = absurd (omega (arith, h))
element (x ∷ xs) zero h = (x, refl)
element (x ∷ xs) (suc k) h = element xs k (omega (arith, h))

pub is_element : {A : Type 0} (l : List A) (k : ℕ) (s d : A) → get_elem? l k ≡ some s → get_or l k d ≡ s
is_element [] k s d e = absurd (cc e)
is_element (x ∷ xs) zero s d e = cc e
is_element (x ∷ xs) (suc k) s d e = is_element xs k s d e

pub elem_map : {A B : Type 0} (f : A → B) (l : List A) (k : ℕ) (s : A) → get_elem? l k ≡ some s → get_elem? (map f l) k ≡ some (f s)
elem_map f [] k s e = absurd (cc e)
elem_map f (x ∷ l) zero s e = let same : x ≡ s = cc e in ap (λ y. some (f y)) same
elem_map f (x ∷ l) (suc k) s e = elem_map f l k s e

pub row_left : {G : Type 0} (seat : G → Seat) (seats : List G) (hs : List HistoryLine) (k : ℕ) (d : Seat) → k < length (map seat seats)
    → ((s : G) → get_elem? seats k ≡ some s → (seat s).own ≡ lines_of k hs)
    → (get_or (map seat seats) k d).own ≡ lines_of k hs
row_left seat seats hs k d l own =
    let n = length-map seats seat in
    let e = element seats k (omega (arith, l, n)) in
    ap (λ (x : Seat). x.own) (is_element (map seat seats) k (seat e.0) d (elem_map seat seats k e.0 e.1)) ∙ own e.0 e.1

-- ## The seats of a row
pub of_length : (tables : List TableId) (c : ℕ) (seats : List Seat) → AreOf tables c seats → length seats ≡ length tables
of_length tables c seats h = sym (length-map seats (λ (x : Seat). x.table)) ∙ ap length h.gates

module _ (tables : List TableId) (columns : List (List Seat)) (own : (k : ℕ) (c : List Seat) → k < length columns → AreOf tables k (get_or columns k c)) where
  pub columns_long : (k : ℕ) (c : List Seat) → k < length columns → length (get_or columns k c) ≡ length tables
  columns_long k c l = of_length tables k (get_or columns k c) (own k c l)

  -- the seat of a caller in the row of a gate
  at_row : (i k : ℕ) (d s : Seat) → k < length columns → get_or (row_at i d columns) k s ≡ get_or (get_or columns k []) i d
  at_row i k d s l = get_or_default (row_at i d columns) k s (get_or [] i d)
      (let n = length-map columns (λ (c : List Seat). get_or c i d) in omega (arith, l, n))
      ∙ get_or-map (λ (c : List Seat). get_or c i d) columns k []

  pub row_seats : (i : ℕ) (d : Seat) (row : List Seat) (k : ℕ) (s : Seat) (t : TableId) → i < length tables → row ≡ row_at i d columns → get_elem? row k ≡ some s → t ≡ get_or tables i t
      → (s.table ≡ t) × (s.caller ≡ k)
  row_seats i d row k s t l e at is =
      let m : length row ≡ length columns = ap length e ∙ length-map columns (λ (c : List Seat). get_or c i d) in
      let b : k < length row = at_less row k s at in
      let kk : k < length columns = omega (arith, b, m) in
      let c : List Seat = get_or columns k [] in
      let n : length c ≡ length tables = columns_long k [] kk in
      let there : i < length c = omega (arith, l, n) in
      let same : s ≡ get_or c i d = sym (is_element row k s s at) ∙ ap (λ z. get_or z k s) e ∙ at_row i k d s kk in (
        ap (λ (x : Seat). x.table) same ∙ sym (get_or-map (λ (x : Seat). x.table) c i d) ∙ ap (λ z. get_or z i d.table) (own k [] kk).gates ∙ get_or_default tables i d.table t l ∙ sym is,
        ap (λ (x : Seat). x.caller) same ∙ (own k [] kk).callers i d there,
      )
