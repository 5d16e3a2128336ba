-- What a client's seat has seen of the client's own calls.
use Rattle.std.proofs.Common.{ℕ, suc, ◌≡◌, ◌+◌, ◌==◌, Bool, true, false, List, [], ◌∷◌, ◌++◌, length, refl, sym, ap, ◌∙◌, arith, append-nil, length-append, eq-eqb}
use Rattle.play_threads.specs.Board.{Begins, keep_if, places_from, places_of, Adds}
use Rattle.play_threads.proofs.Histories.{own_place}
use Rattle.pipe_serve.specs.Trails.{Call, Line, keep_call, calls_of}

keep_append : (b : Bool) (c : Call) (xs ys : List Call) → keep_call b c (xs ++ ys) ≡ keep_call b c xs ++ ys
keep_append true c xs ys = refl
keep_append false c xs ys = refl

calls_append : (k : ℕ) (xs ys : List Line) → calls_of k (xs ++ ys) ≡ calls_of k xs ++ calls_of k ys
calls_append k [] ys = refl
calls_append k (x ∷ xs) ys = ap (keep_call (x.0 == k) x.1) (calls_append k xs ys) ∙ keep_append (x.0 == k) x.1 (calls_of k xs) (calls_of k ys)

-- as many as their places
keep_count : (b : Bool) (n : ℕ) (ns : List ℕ) (c : Call) (cs : List Call) → length ns ≡ length cs → length (keep_if b n ns) ≡ length (keep_call b c cs)
keep_count true n ns c cs e = ap suc e
keep_count false n ns c cs e = e

count_from : (k n : ℕ) (es : List Line) → length (places_from k n es) ≡ length (calls_of k es)
count_from k n [] = refl
count_from k n (e ∷ es) = keep_count (e.0 == k) n (places_from k (suc n) es) e.1 (calls_of k es) (count_from k (suc n) es)

none_of : (cs : List Call) → length cs ≡ 0 → cs ≡ []
none_of [] e = refl
none_of (c ∷ cs) e = absurd (omega (arith, e))

pub calls_none : (k : ℕ) (log : List Line) → places_of k log ≡ [] → calls_of k log ≡ []
calls_none k log e = none_of (calls_of k log) (sym (count_from k 0 log) ∙ ap length e)

-- no place more, so no call more
none_more : (k : ℕ) (xs ys : List Line) → length (places_of k (xs ++ ys)) ≡ length (places_of k xs) → calls_of k (xs ++ ys) ≡ calls_of k xs
none_more k xs ys e =
    let all : calls_of k (xs ++ ys) ≡ calls_of k xs ++ calls_of k ys = calls_append k xs ys in
    let a = count_from k 0 (xs ++ ys) in
    let b = count_from k 0 xs in
    let n : length (calls_of k (xs ++ ys)) ≡ length (calls_of k xs) + length (calls_of k ys) = ap length all ∙ length-append (calls_of k xs) (calls_of k ys) in
    let none : length (calls_of k ys) ≡ 0 = omega (arith, a, b, n, e) in
    all ∙ ap (λ (l : List Call). calls_of k xs ++ l) (none_of (calls_of k ys) none) ∙ append-nil (calls_of k xs)

pub calls_same : (k : ℕ) (seen log : List Line) → Begins seen log → places_of k log ≡ places_of k seen → calls_of k log ≡ calls_of k seen
calls_same k seen log b e = ap (calls_of k) (sym b.1) ∙ none_more k seen b.0 (ap (λ (l : List Line). length (places_of k l)) b.1 ∙ ap length e)

own_kept : (k : ℕ) (c : Call) → keep_call (k == k) c [] ≡ c ∷ []
own_kept k c = ap (λ (x : Bool). keep_call x c []) (eq-eqb k k refl)

pub calls_added : (k : ℕ) (x : Call) (seen seen2 : List Line) (places places2 : List ℕ) → places_of k seen ≡ places → places_of k seen2 ≡ places2 → Adds seen places (k, x) seen2 places2
    → calls_of k seen2 ≡ calls_of k seen ++ x ∷ []
calls_added k x seen seen2 places places2 p q a =
    let zs : List Line = seen ++ a.0 in
    let here : places_of k (zs ++ (k, x) ∷ []) ≡ places ++ length zs ∷ [] = ap (places_of k) (sym a.1) ∙ q ∙ a.2 in
    let one : length (places_of k (zs ++ (k, x) ∷ [])) ≡ length (places_of k zs) + 1 = ap length (own_place k zs x) ∙ length-append (places_of k zs) (length zs ∷ []) in
    let grown : length (places_of k (zs ++ (k, x) ∷ [])) ≡ length places + 1 = ap length here ∙ length-append places (length zs ∷ []) in
    let before : length (places_of k seen) ≡ length places = ap length p in
    let same : length (places_of k zs) ≡ length (places_of k seen) = omega (arith, one, grown, before) in
    ap (calls_of k) a.1 ∙ calls_append k zs ((k, x) ∷ []) ∙ (λ i. none_more k seen a.0 same i ++ own_kept k x i)

-- the seat answered
pub seat_added : (k k2 : ℕ) (x : Call) (seen seen2 : List Line) (places places2 : List ℕ) → k2 ≡ k → places_of k seen ≡ places → places_of k2 seen2 ≡ places2
    → Adds seen places (k, x) seen2 places2 → calls_of k2 seen2 ≡ calls_of k seen ++ x ∷ []
seat_added k k2 x seen seen2 places places2 e p q a =
    ap (λ (n : ℕ). calls_of n seen2) e ∙ calls_added k x seen seen2 places places2 p (ap (λ (n : ℕ). places_of n seen2) (sym e) ∙ q) a
