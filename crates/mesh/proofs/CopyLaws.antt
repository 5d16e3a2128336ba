-- How often calls are marked to be copied, and how often they were: a line more, a mark more; and
-- the call that a late copy is of.
use Rattle.std.proofs.Common.{◌≡◌, ℕ, ◌+◌, ◌-◌, ◌<◌, List, [], ◌∷◌, ◌++◌, Bool, true, false, cond, Contains, Option, Some, None, refl, sym, ap, ◌∙◌, subst, arith}
use Rattle.std.specs.Prelude.{◌≢◌, ◌&&◌, ◌==◌, slice_get}
use Rattle.std.specs.List.{count_by}
use Rattle.std.proofs.lemmas.Bool.{and_parts, cond_both, cond-false, eqb-true, eqb-false, ne_eqb}
use Rattle.std.proofs.lemmas.List.Sums.{sum_by_push}
use Rattle.journal_core.specs.declared.request.Request.{Request}
use Rattle.writer_core.proofs.RoundLaws.{count_cons}
use Rattle.journal_history.specs.Same.{same_request}
use Rattle.journal_history.proofs.SameLaws.{request_same}
use Rattle.journal_history.specs.declared.record.Record.{Record}
use Rattle.journal_history.specs.declared.mark.Mark.{Mark}
use Rattle.journal_history.specs.declared.mark.MarkKind.{MarkKind}
use Rattle.journal_history.specs.declared.mark.MarkKind.TheVariants as kind
use Rattle.run_safety.proofs.Values.{get_append_left}
use Rattle.mesh.specs.Marks.{mark, same_kind, calls_to, Asked, asked_in, is_request, is_late_of, marked_late, IsCopy}
use Rattle.mesh.proofs.Lists.{contains_head, contains_tail}
use Rattle.mesh.proofs.CallLists.{calls_append}
use Rattle.mesh.proofs.MarkTests.{kind_is}

-- ## Counts
abbrev pub one_if : Bool → ℕ
one_if b = cond b 1 0

pub count_same : {A : Type 0} (p q : A → Bool) (xs : List A) → ((x : A) → Contains xs x → p x ≡ q x) → count_by p xs ≡ count_by q xs
count_same p q [] h = refl
count_same p q (x ∷ xs) h =
    let here : one_if (p x) ≡ one_if (q x) = ap one_if (h x (contains_head x xs x refl)) in
    let rest : count_by p xs ≡ count_by q xs = count_same p q xs (λ y g. h y (contains_tail x xs y g)) in
    omega (arith, here, rest, count_cons p x xs, count_cons q x xs)

pub one_more : {A : Type 0} (p : A → Bool) (xs : List A) (x : A) (b : Bool) → p x ≡ b → count_by p (xs ++ x ∷ []) ≡ count_by p xs + one_if b
one_more {A} p xs x b e = sum_by_push (λ (y : A). cond (p y) 1 0) xs x ∙ ap (λ (z : Bool). count_by p xs + one_if z) e

pub none_more : {A : Type 0} (p : A → Bool) (xs : List A) (x : A) → p x ≡ false → count_by p (xs ++ x ∷ []) ≡ count_by p xs
none_more p xs x e = let h : count_by p (xs ++ x ∷ []) ≡ count_by p xs + 0 = one_more p xs x false e in omega (arith, h)

some_counted : {A : Type 0} (p : A → Bool) (xs : List A) → 0 < count_by p xs → (x : A) × Contains xs x × (p x ≡ true)
some_counted p [] h = absurd (omega (arith, h))
some_counted {A} p (x ∷ xs) h = by (p x) refl (λ g. some_counted p xs g)
  where
    by : (b : Bool) → p x ≡ b → (0 < count_by p xs → (y : A) × Contains xs y × (p y ≡ true)) → (y : A) × Contains (x ∷ xs) y × (p y ≡ true)
    by true e go = (x, contains_head x xs x refl, e)
    by false e go =
        let here : one_if (p x) ≡ 0 = ap one_if e in
        let y = go (omega (arith, h, here, count_cons p x xs)) in (y.0, contains_tail x xs y.0 y.1, y.2)

-- ## Calls of a longer record
pub asked_known : (k n : ℕ) (q : Request) (rs : List Record) → Asked k n q rs → asked_in k n rs ≡ Some q
unfolding asked_in
asked_known k n q rs h = cond-false (n == 0) None (slice_get (calls_to k rs) (n - 1)) (ne_eqb n 0 (λ e. omega (arith, e, h.0))) ∙ h.1

pub known_asked : (k n : ℕ) (q : Request) (rs : List Record) → asked_in k n rs ≡ Some q → Asked k n q rs
unfolding asked_in
known_asked k n q rs e = cond_both (n == 0) None (slice_get (calls_to k rs) (n - 1)) (λ o. o ≡ Some q → Asked k n q rs)
    (λ t f. absurd (cc f)) (λ t f. (let some : n ≢ 0 = eqb-false n 0 t in omega (arith, some), f)) e

pub asked_in_more : (k n : ℕ) (q : Request) (xs ys : List Record) → asked_in k n xs ≡ Some q → asked_in k n (xs ++ ys) ≡ Some q
asked_in_more k n q xs ys e =
    let a : Asked k n q xs = known_asked k n q xs e in
    asked_known k n q (xs ++ ys) (a.0, ap (λ (l : List Request). slice_get l (n - 1)) (calls_append k xs ys) ∙ get_append_left (calls_to k xs) (calls_to k ys) (n - 1) q a.1)

-- the late marks are of calls that were made
abbrev pub AreAsked : List Mark → List Record → Type 0
AreAsked marks past = (k n : ℕ) → Contains marks (mark k n kind.Late) → (q : Request) × Asked k n q past

late_whole : (m : Mark) → same_kind m.kind kind.Late ≡ true → m ≡ mark m.node m.number kind.Late
late_whole m e = ap (λ (z : MarkKind). mark m.node m.number z) (kind_is m.kind kind.Late e)

-- a mark of a call that was made is of the same request as the record grows
still : (marks : List Mark) (past : List Record) (x : Record) (node : ℕ) (r : Request) → AreAsked marks past → (m : Mark) → Contains marks m
    → is_late_of node r (past ++ x ∷ []) m ≡ is_late_of node r past m
unfolding is_late_of
still marks past x node r late m has = by (same_kind m.kind kind.Late) refl
  where
    by : (b : Bool) → same_kind m.kind kind.Late ≡ b
        → (b && ((m.node == node) && is_request r (asked_in m.node m.number (past ++ x ∷ [])))) ≡ (b && ((m.node == node) && is_request r (asked_in m.node m.number past)))
    by false e = refl
    by true e =
        let g : (q : Request) × Asked m.node m.number q past = late m.node m.number (subst (λ (z : Mark). Contains marks z) (late_whole m e) has) in
        let a : asked_in m.node m.number past ≡ Some g.0 = asked_known m.node m.number g.0 past g.1 in
        let b : asked_in m.node m.number (past ++ x ∷ []) ≡ Some g.0 = asked_in_more m.node m.number g.0 past (x ∷ []) a in
        ap (λ (o : Option Request). (m.node == node) && is_request r o) (b ∙ sym a)

pub marks_still : (marks : List Mark) (past : List Record) (x : Record) (node : ℕ) (r : Request) → AreAsked marks past
    → marked_late marks node r (past ++ x ∷ []) ≡ marked_late marks node r past
marks_still marks past x node r late = count_same (is_late_of node r (past ++ x ∷ [])) (is_late_of node r past) marks (λ m has. still marks past x node r late m has)

-- ## One mark
pub not_late : (x : Mark) (past : List Record) (node : ℕ) (r : Request) → x.kind ≢ kind.Late → is_late_of node r past x ≡ false
unfolding is_late_of
not_late x past node r off = by (same_kind x.kind kind.Late) refl
  where
    by : (b : Bool) → same_kind x.kind kind.Late ≡ b → (b && ((x.node == node) && is_request r (asked_in x.node x.number past))) ≡ false
    by true e = absurd (off (kind_is x.kind kind.Late e))
    by false e = refl

-- a late mark of a call that was made
pub late_of_call : (k i : ℕ) (q : Request) (past : List Record) (node : ℕ) (r : Request) → asked_in k i past ≡ Some q
    → is_late_of node r past (mark k i kind.Late) ≡ ((k == node) && same_request q r)
unfolding is_late_of same_kind is_request
late_of_call k i q past node r e = ap (λ (o : Option Request). (k == node) && is_request r o) e

-- ## The call that a late copy is of
request_in : (r : Request) (o : Option Request) → is_request r o ≡ true → o ≡ Some r
unfolding is_request
request_in r None e = absurd (cc e)
request_in r (Some q) e = ap (λ (z : Request). Some z) (request_same q r e)

late_parts : (node : ℕ) (r : Request) (before : List Record) (m : Mark) → is_late_of node r before m ≡ true
    → (same_kind m.kind kind.Late ≡ true) × ((m.node == node) ≡ true) × (asked_in m.node m.number before ≡ Some r)
unfolding is_late_of
late_parts node r before m e =
    let p = and_parts (same_kind m.kind kind.Late) ((m.node == node) && is_request r (asked_in m.node m.number before)) e in
    let o = and_parts (m.node == node) (is_request r (asked_in m.node m.number before)) p.1 in
    (p.0, o.0, request_in r (asked_in m.node m.number before) o.1)

pub copy_named : (plan : List Mark) (before : List Record) (node : ℕ) (r : Request) → IsCopy plan before node r
    → (number : ℕ) × Contains plan (mark node number kind.Late) × Asked node number r before
copy_named plan before node r h = named (some_counted (is_late_of node r before) plan (omega (arith, h)))
  where
    named : (m : Mark) × Contains plan m × (is_late_of node r before m ≡ true) → (number : ℕ) × Contains plan (mark node number kind.Late) × Asked node number r before
    named x =
        let p = late_parts node r before x.0 x.2 in
        let at : x.0.node ≡ node = eqb-true x.0.node node p.1 in
        let whole : x.0 ≡ mark node x.0.number kind.Late = late_whole x.0 p.0 ∙ ap (λ (k : ℕ). mark k x.0.number kind.Late) at in
        (x.0.number, subst (λ (z : Mark). Contains plan z) whole x.1, subst (λ (k : ℕ). Asked k x.0.number r before) at (known_asked x.0.node x.0.number r before p.2))

-- ## A copy that may come may come as the plan grows
pub copy_planned : (plan : List Mark) (x : Mark) (before : List Record) (node : ℕ) (r : Request) → IsCopy plan before node r → IsCopy (plan ++ x ∷ []) before node r
copy_planned plan x before node r h =
    let more : marked_late (plan ++ x ∷ []) node r before ≡ marked_late plan node r before + one_if (is_late_of node r before x) =
    one_more (is_late_of node r before) plan x (is_late_of node r before x) refl in omega (arith, h, more)
