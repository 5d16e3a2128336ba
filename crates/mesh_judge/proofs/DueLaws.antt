-- How many copies are due, a line more: a call adds those that its marks want, and a copy takes
-- one.
use Rattle.std.proofs.Common.{◌≡◌, ◌≢◌, ℕ, zero, suc, ◌+◌, ◌-◌, ◌≤◌, ◌==◌, List, [], ◌∷◌, ◌++◌, Bool, true, false, cond, Option, Some, None, length, refl, sym, ap, ◌∙◌, subst, arith, append-nil, inl, inr, ◌⊎◌}
use Rattle.std.specs.Prelude.{slice_get, ◌&&◌}
use Rattle.std.specs.List.{count_by}
use Rattle.std.proofs.lemmas.Bool.{cond-true, cond-false, cases_eq, eq-eqb, ne_eqb}
use Rattle.journal_core.specs.declared.request.Request.{Request}
use Rattle.writer_core.proofs.RoundLaws.{count_cons}
use Rattle.journal_history.specs.Same.{same_request}
use Rattle.journal_history.specs.declared.record.Record.{Record}
use Rattle.journal_history.specs.declared.record.Record.TheVariants.{Call, Late}
use Rattle.journal_history.specs.declared.record.Told.{Told}
use Rattle.journal_history.specs.declared.mark.Mark.{Mark}
use Rattle.journal_history.specs.declared.mark.MarkKind.TheVariants as kind
use Rattle.run_safety.proofs.Oks.{get_append_right}
use Rattle.mesh.specs.Marks.{same_kind, calls_to, next_number, asked_in, is_request, is_late_of, marked_late, is_copy_of, copies_of}
use Rattle.mesh.proofs.CallLists.{calls_append}
use Rattle.mesh.proofs.CopyLaws.{one_if, count_same, one_more}
use Rattle.mesh_judge.specs.Keys.{is_ask}
use Rattle.mesh_judge.specs.Marking.{is_late_at}
use Rattle.mesh_judge.proofs.KeyLaws.{ask_turned}

-- ## Lists with one item more
get_past : {A : Type 0} (xs : List A) (i : ℕ) → length xs ≤ i → slice_get xs i ≡ None
get_past [] i h = refl
get_past (x ∷ xs) zero h = absurd (omega (arith, h))
get_past (x ∷ xs) (suc i) h = get_past xs i (omega (arith, h))

get_other : {A : Type 0} (xs : List A) (x : A) (i : ℕ) → i ≢ length xs → slice_get (xs ++ x ∷ []) i ≡ slice_get xs i
get_other [] x zero h = absurd (h refl)
get_other [] x (suc i) h = refl
get_other (y ∷ ys) x zero h = refl
get_other (y ∷ ys) x (suc i) h = get_other ys x i (λ e. h (omega (arith, e)))

-- ## What a call asked, after one more line
-- the line is no call to this node
asked_still : (i j : ℕ) (before : List Record) (r : Record) → calls_to i (r ∷ []) ≡ [] → asked_in i j (before ++ r ∷ []) ≡ asked_in i j before
unfolding asked_in
asked_still i j before r none =
    ap (λ (l : List Request). cond (j == 0) None (slice_get l (j - 1)))
    (calls_append i before (r ∷ []) ∙ ap (λ (l : List Request). calls_to i before ++ l) none ∙ append-nil (calls_to i before))

-- it is one, and the number isn't its
asked_other : (k j : ℕ) (q : Request) (before : List Record) (r : Record) → calls_to k (r ∷ []) ≡ q ∷ [] → j ≢ next_number k before → asked_in k j (before ++ r ∷ []) ≡ asked_in k j before
unfolding asked_in
asked_other k j q before r own off =
    ap (λ (l : List Request). cond (j == 0) None (slice_get l (j - 1))) (calls_append k before (r ∷ []) ∙ ap (λ (l : List Request). calls_to k before ++ l) own) ∙ by (cases_eq j 0)
  where
    by : (j ≡ 0) ⊎ (j ≢ 0) → cond (j == 0) None (slice_get (calls_to k before ++ q ∷ []) (j - 1)) ≡ cond (j == 0) None (slice_get (calls_to k before) (j - 1))
    by (inl e) = cond-true (j == 0) None (slice_get (calls_to k before ++ q ∷ []) (j - 1)) (eq-eqb j 0 e) ∙ sym (cond-true (j == 0) None (slice_get (calls_to k before) (j - 1)) (eq-eqb j 0 e))
    by (inr some) = ap (λ (o : Option Request). cond (j == 0) None o) (get_other (calls_to k before) q (j - 1) (λ e. off (omega (arith, e, some))))

-- the number is its
pub asked_new : (k : ℕ) (q : Request) (before : List Record) (r : Record) → calls_to k (r ∷ []) ≡ q ∷ []
    → (asked_in k (next_number k before) before ≡ None) × (asked_in k (next_number k before) (before ++ r ∷ []) ≡ Some q)
unfolding asked_in
asked_new k q before r own =
    let some : (next_number k before == 0) ≡ false = ne_eqb (next_number k before) 0 (λ e. omega (arith, e)) in
    let at : next_number k before - 1 ≡ length (calls_to k before) + 0 = omega arith in (
      cond-false (next_number k before == 0) None (slice_get (calls_to k before) (next_number k before - 1)) some
          ∙ get_past (calls_to k before) (next_number k before - 1) (omega (arith, at)),
      cond-false (next_number k before == 0) None (slice_get (calls_to k (before ++ r ∷ [])) (next_number k before - 1)) some
          ∙ ap (λ (l : List Request). slice_get l (next_number k before - 1)) (calls_append k before (r ∷ []) ∙ ap (λ (l : List Request). calls_to k before ++ l) own)
          ∙ ap (λ (i : ℕ). slice_get (calls_to k before ++ q ∷ []) i) at ∙ get_append_right (calls_to k before) (q ∷ []) 0 q refl,
    )

-- ## A mark, after one more call
pub none_of : (a b : Bool) → (a && (b && false)) ≡ false
none_of true true = refl
none_of true false = refl
none_of false b = refl

-- what the call asked stays
same_mark : (node : ℕ) (r : Request) (xs ys : List Record) (k n : ℕ) (y : Bool) (m : Mark) → asked_in m.node m.number ys ≡ asked_in m.node m.number xs
    → is_late_at k n m ≡ false → one_if (is_late_of node r ys m) ≡ one_if (is_late_of node r xs m) + one_if (is_late_at k n m && y)
unfolding is_late_of is_request
same_mark node r xs ys k n y m e off =
    let f : one_if (is_late_of node r ys m) ≡ one_if (is_late_of node r xs m) =
    ap (λ (o : Option Request). one_if (same_kind m.kind kind.Late && ((m.node == node) && is_request r o))) e in
    let g : one_if (is_late_at k n m && y) ≡ 0 = ap (λ (b : Bool). one_if (b && y)) off in
    omega (arith, f, g)

-- the mark is of this call
new_mark : (node k n : ℕ) (q r : Request) (xs ys : List Record) (m : Mark) → m.node ≡ k → m.number ≡ n → asked_in m.node m.number xs ≡ None → asked_in m.node m.number ys ≡ Some q
    → one_if (is_late_of node r ys m) ≡ one_if (is_late_of node r xs m) + one_if (is_late_at k n m && is_ask k q node r)
unfolding is_late_of is_request
new_mark node k n q r xs ys m at is none some =
    let f : one_if (is_late_of node r xs m) ≡ 0 =
    ap one_if (ap (λ (o : Option Request). same_kind m.kind kind.Late && ((m.node == node) && is_request r o)) none ∙ none_of (same_kind m.kind kind.Late) (m.node == node)) in
    let g : is_late_of node r ys m ≡ (same_kind m.kind kind.Late && is_ask k q node r) =
    ap (λ (o : Option Request). same_kind m.kind kind.Late && ((m.node == node) && is_request r o)) some ∙ ap (λ (i : ℕ). same_kind m.kind kind.Late && ((i == node) && same_request q r)) at in
    let h : is_late_at k n m ≡ same_kind m.kind kind.Late = whole (same_kind m.kind kind.Late) (m.node == k) (m.number == n) (eq-eqb m.node k at) (eq-eqb m.number n is) in
    let one : one_if (is_late_of node r ys m) ≡ one_if (same_kind m.kind kind.Late && is_ask k q node r) = ap one_if g in
    let other : one_if (is_late_at k n m && is_ask k q node r) ≡ one_if (same_kind m.kind kind.Late && is_ask k q node r) = ap (λ (b : Bool). one_if (b && is_ask k q node r)) h in
    omega (arith, f, one, other)
  where
    whole : (a b c : Bool) → b ≡ true → c ≡ true → (a && (b && c)) ≡ a
    whole true b c e f = ap (λ (x : Bool). x && c) e ∙ f
    whole false b c e f = refl

pub late_off : (k n : ℕ) (m : Mark) → (m.node ≢ k) ⊎ (m.number ≢ n) → is_late_at k n m ≡ false
late_off k n m off = by (same_kind m.kind kind.Late) (m.node == k) (m.number == n) (tested off)
  where
    tested : (m.node ≢ k) ⊎ (m.number ≢ n) → ((m.node == k) ≡ false) ⊎ ((m.number == n) ≡ false)
    tested (inl a) = inl (ne_eqb m.node k a)
    tested (inr a) = inr (ne_eqb m.number n a)

    by : (a b c : Bool) → (b ≡ false) ⊎ (c ≡ false) → (a && (b && c)) ≡ false
    by false b c e = refl
    by true b c (inl e) = ap (λ (x : Bool). x && c) e
    by true true c (inr e) = e
    by true false c (inr e) = refl

pub own_call : (k : ℕ) (q : Request) (t : Told) → calls_to k (Call k q t ∷ []) ≡ q ∷ []
unfolding calls_to
own_call k q t = cond-true (k == k) (q ∷ []) [] (eq-eqb k k refl)

pub other_call : (i k : ℕ) (q : Request) (t : Told) → i ≢ k → calls_to i (Call k q t ∷ []) ≡ []
unfolding calls_to
other_call i k q t off = cond-false (k == i) (q ∷ []) [] (ne_eqb k i (λ e. off (sym e)))

mark_step : (node k : ℕ) (q r : Request) (t : Told) (before : List Record) (m : Mark)
    → one_if (is_late_of node r (before ++ Call k q t ∷ []) m) ≡ one_if (is_late_of node r before m) + one_if (is_late_at k (next_number k before) m && is_ask k q node r)
mark_step node k q r t before m = by (cases_eq m.node k) (cases_eq m.number (next_number k before))
  where
    new : (asked_in k (next_number k before) before ≡ None) × (asked_in k (next_number k before) (before ++ Call k q t ∷ []) ≡ Some q)
    new = asked_new k q before (Call k q t) (own_call k q t)

    at_call : (xs : List Record) (o : Option Request) → m.node ≡ k → m.number ≡ next_number k before → asked_in k (next_number k before) xs ≡ o → asked_in m.node m.number xs ≡ o
    at_call xs o a b e = ap (λ (i : ℕ). asked_in i m.number xs) a ∙ ap (λ (j : ℕ). asked_in k j xs) b ∙ e

    by : (m.node ≡ k) ⊎ (m.node ≢ k) → (m.number ≡ next_number k before) ⊎ (m.number ≢ next_number k before)
        → one_if (is_late_of node r (before ++ Call k q t ∷ []) m) ≡ one_if (is_late_of node r before m) + one_if (is_late_at k (next_number k before) m && is_ask k q node r)
    by (inl a) (inl b) = new_mark node k (next_number k before) q r before (before ++ Call k q t ∷ []) m a b (at_call before None a b new.0) (at_call (before ++ Call k q t ∷ []) (Some q) a b new.1)
    by (inl a) (inr b) = same_mark node r before (before ++ Call k q t ∷ []) k (next_number k before) (is_ask k q node r) m
        (subst (λ (i : ℕ). asked_in i m.number (before ++ Call k q t ∷ []) ≡ asked_in i m.number before) (sym a) (asked_other k m.number q before (Call k q t) (own_call k q t) b))
        (late_off k (next_number k before) m (inr b))
    by (inr a) b = same_mark node r before (before ++ Call k q t ∷ []) k (next_number k before) (is_ask k q node r) m
        (asked_still m.node m.number before (Call k q t) (other_call m.node k q t a)) (late_off k (next_number k before) m (inl a))

-- ## All marks, after one more line
sums : (p s q : Mark → Bool) (plan : List Mark) → ((m : Mark) → one_if (q m) ≡ one_if (p m) + one_if (s m)) → count_by q plan ≡ count_by p plan + count_by s plan
sums p s q [] h = omega arith
sums p s q (m ∷ plan) h = omega (arith, h m, sums p s q plan h, count_cons q m plan, count_cons p m plan, count_cons s m plan)

only_where : (p : Mark → Bool) (y : Bool) (plan : List Mark) → count_by (λ m. p m && y) plan ≡ cond y (count_by p plan) 0
only_where p true [] = refl
only_where p false [] = refl
only_where p true (m ∷ plan) =
    let here : one_if (p m && true) ≡ one_if (p m) = ap one_if (kept (p m)) in
    omega (arith, here, only_where p true plan, count_cons (λ (x : Mark). p x && true) m plan, count_cons p m plan)
  where
    kept : (b : Bool) → (b && true) ≡ b
    kept true = refl
    kept false = refl
only_where p false (m ∷ plan) =
    let here : one_if (p m && false) ≡ 0 = ap one_if (none (p m)) in
    omega (arith, here, only_where p false plan, count_cons (λ (x : Mark). p x && false) m plan)
  where
    none : (b : Bool) → (b && false) ≡ false
    none true = refl
    none false = refl

pub marked_call : (plan : List Mark) (node k : ℕ) (q r : Request) (t : Told) (before : List Record)
    → marked_late plan node r (before ++ Call k q t ∷ []) ≡ marked_late plan node r before + cond (is_ask node r k q) (count_by (is_late_at k (next_number k before)) plan) 0
marked_call plan node k q r t before =
    let s : Mark → Bool = λ m. is_late_at k (next_number k before) m && is_ask k q node r in
    let all : marked_late plan node r (before ++ Call k q t ∷ []) ≡ marked_late plan node r before + count_by s plan =
    sums (is_late_of node r before) s (is_late_of node r (before ++ Call k q t ∷ [])) plan (λ m. mark_step node k q r t before m) in
    all ∙ ap (λ (x : ℕ). marked_late plan node r before + x)
    (only_where (is_late_at k (next_number k before)) (is_ask k q node r) plan ∙ ap (λ (b : Bool). cond b (count_by (is_late_at k (next_number k before)) plan) 0) (ask_turned k node q r))

-- no call
pub marked_stays : (plan : List Mark) (node : ℕ) (r : Request) (before : List Record) (x : Record) → ((k : ℕ) → calls_to k (x ∷ []) ≡ [])
    → marked_late plan node r (before ++ x ∷ []) ≡ marked_late plan node r before
unfolding is_late_of
marked_stays plan node r before x none = count_same (is_late_of node r (before ++ x ∷ [])) (is_late_of node r before) plan
    (λ m has. ap (λ (o : Option Request). same_kind m.kind kind.Late && ((m.node == node) && is_request r o)) (asked_still m.node m.number before x (none m.node)))

pub copies_more : (node k : ℕ) (q r : Request) (before : List Record) → copies_of node r (before ++ Late k q ∷ []) ≡ copies_of node r before + one_if (is_ask node r k q)
unfolding is_copy_of
copies_more node k q r before = one_more (is_copy_of node r) before (Late k q) (is_ask node r k q) (ask_turned k node q r)
