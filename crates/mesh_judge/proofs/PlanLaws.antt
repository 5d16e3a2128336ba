-- The marks that a record tells, line by line; and what a record keeps that goes by any.
use Rattle.std.proofs.Common.{◌≡◌, ◌≢◌, ℕ, zero, suc, ◌+◌, ◌*◌, ◌-◌, ◌<◌, ◌≤◌, ◌^◌, List, [], ◌∷◌, ◌++◌, Bool, true, false, cond, Contains, Some, length, refl}
use Rattle.std.proofs.Common.{sym, ap, ◌∙◌, subst, arith, get_or, set, inl, inr, ◌⊎◌, append-nil, append_assoc, replicate}
use Rattle.std.specs.Prelude.{slice_get}
use Rattle.std.specs.List.{count_by}
use Rattle.std.specs.Str.{bytes_eq}
use Rattle.std.proofs.lemmas.Bool.{cases_eq}
use Rattle.std.proofs.lemmas.List.{length-replicate, get_or-replicate}
use Rattle.std.proofs.lemmas.List.Sums.{sum_by-append, count_by-le-length}
use Rattle.std.proofs.lemmas.List.Folds.{sum_by-replicate}
use Rattle.std.proofs.lemmas.List.Elements.{Contains-get_or, Contains-push_cases, Contains-append_cases, Contains-append_left, Contains-append_right}
use Rattle.std.proofs.lemmas.Option.{slice_get_within, get_or_from_slice_get}
use Rattle.journal_core.specs.declared.request.Request.{Request}
use Rattle.writer_core.proofs.RoundLaws.{count_cons}
use Rattle.journal_history.specs.declared.node_ask.NodeAsk.{NodeAsk}
use Rattle.journal_history.specs.declared.record.Record.{Record}
use Rattle.journal_history.specs.declared.record.Record.TheVariants.{Call, Late, Operator, Outcome}
use Rattle.journal_history.specs.declared.record.Told.{Told}
use Rattle.journal_history.specs.declared.record.Told.TheVariants as told
use Rattle.journal_history.specs.declared.mark.Mark.{Mark}
use Rattle.journal_history.specs.declared.mark.MarkKind.{MarkKind}
use Rattle.journal_history.specs.declared.mark.MarkKind.TheVariants as kind
use Rattle.mesh.specs.Marks.{mark, calls_to, next_number, is_late_of, marked_late, is_copy_of, copies_of, IsAsMarked, IsCopy, IsMarked}
use Rattle.mesh.proofs.Lists.{contains_none, contains_only, contains_head, contains_tail}
use Rattle.mesh.proofs.CallLists.{calls_append}
use Rattle.mesh.proofs.CopyLaws.{one_if, none_more, copy_named, not_late, late_of_call}
use Rattle.play_calls.proofs.MarkLaws.{IsLater, more_marks, marked_snoc}
use Rattle.mesh_judge.specs.declared.counts.Counts.{Counts}
use Rattle.mesh_judge.specs.declared.plans.ToldCalls.{ToldCalls}
use Rattle.mesh_judge.specs.Keys.{is_ask, ask_key, count_of}
use Rattle.mesh_judge.specs.Marking.{is_late_at}
use Rattle.mesh_judge.specs.Plans.{GoesBy, IsCalled, AreCalled, loss_marks, KnowsCopies, TellsMarks}
use Rattle.mesh_judge.proofs.KeyLaws.{ask_decided, ask_turned, ask_tested}
use Rattle.mesh_judge.proofs.DueLaws.{asked_new, late_off, own_call, other_call, marked_call, marked_stays, copies_more}
use Rattle.mesh_judge.proofs.MarkLaws.{calls_fit, next_add, next_stays, number_at, number_stays, number_more, none_called}

-- ## What a record keeps that goes by any marks
got : (xs : List Request) (i : ℕ) (x : Request) → slice_get xs i ≡ Some x → Contains xs x
got xs i x e = subst (λ (y : Request). Contains xs y) (get_or_from_slice_get xs i x x e) (Contains-get_or xs i x (slice_get_within xs i x e))

called_by : (plan : List Mark) (before : List Record) (k : ℕ) (r : Request) → IsCopy plan before k r → Contains (calls_to k before) r
called_by plan before k r h = let named = copy_named plan before k r h in got (calls_to k before) (named.0 - 1) r named.2.1

calls_told : (plan : List Mark) (before rs : List Record) → IsMarked plan before rs → AreCalled before rs
unfolding IsMarked AreCalled
calls_told plan before [] h = tt
calls_told plan before (Call k q t ∷ rs) h = (tt, calls_told plan (before ++ Call k q t ∷ []) rs h.1)
calls_told plan before (Late k q ∷ rs) h = (called_by plan before k q h.0, calls_told plan (before ++ Late k q ∷ []) rs h.1)
calls_told plan before (Operator k a d ∷ rs) h = (tt, calls_told plan (before ++ Operator k a d ∷ []) rs h)
calls_told plan before (Outcome x ∷ rs) h = (tt, calls_told plan (before ++ Outcome x ∷ []) rs h)

pub called : (plan : List Mark) (rs : List Record) → GoesBy plan rs → AreCalled [] rs
called plan rs h = calls_told plan [] rs h.0

-- ## One line more
pub called_more : (before rs : List Record) (r : Record) → AreCalled before rs → IsCalled (before ++ rs) r → AreCalled before (rs ++ r ∷ [])
unfolding AreCalled
called_more before [] r h c = (subst (λ (l : List Record). IsCalled l r) (append-nil before) c, tt)
called_more before (x ∷ rs) r h c = (h.0, called_more (before ++ x ∷ []) rs r h.1 (subst (λ (l : List Record). IsCalled l r) (sym (append_assoc before (x ∷ []) rs)) c))

pub called_less : (before rs : List Record) (r : Record) → AreCalled before (rs ++ r ∷ []) → AreCalled before rs × IsCalled (before ++ rs) r
unfolding AreCalled
called_less before [] r h = (tt, subst (λ (l : List Record). IsCalled l r) (sym (append-nil before)) h.0)
called_less before (x ∷ rs) r h =
    let g = called_less (before ++ x ∷ []) rs r h.1 in
    ((h.0, g.0), subst (λ (l : List Record). IsCalled l r) (append_assoc before (x ∷ []) rs) g.1)

-- ## Counts
count_append : {A : Type 0} (p : A → Bool) (xs ys : List A) → count_by p (xs ++ ys) ≡ count_by p xs + count_by p ys
count_append p xs ys = sum_by-append (λ x. cond (p x) 1 0) xs ys

count_none : {A : Type 0} (p : A → Bool) (xs : List A) → ((x : A) → Contains xs x → p x ≡ false) → count_by p xs ≡ 0
count_none p [] h = refl
count_none p (x ∷ xs) h =
    let here : one_if (p x) ≡ 0 = ap one_if (h x (contains_head x xs x refl)) in
    let rest = count_none p xs (λ y c. h y (contains_tail x xs y c)) in
    omega (arith, here, rest, count_cons p x xs)

times_one : (n : ℕ) (b : Bool) → n * one_if b ≡ cond b n 0
times_one n true = omega arith
times_one n false = omega arith

count_same_items : {A : Type 0} (p : A → Bool) (n : ℕ) (x : A) → count_by p (replicate n x) ≡ cond (p x) n 0
count_same_items p n x = sum_by-replicate (λ y. cond (p y) 1 0) n x ∙ times_one n (p x)

-- ## Copies of the whole record
pub no_copies : (copies : Counts) → ((key : List ℕ) → count_of copies key ≡ 0) → KnowsCopies [] copies
no_copies copies none node r = none (ask_key node r)

pub copy_counted : (before : List Record) (k : ℕ) (q : Request) (old new : Counts)
    → ((node : ℕ) (r : Request) → count_of new (ask_key node r) ≡ count_of old (ask_key node r) + one_if (is_ask node r k q)) → KnowsCopies before old → KnowsCopies (before ++ Late k q ∷ []) new
copy_counted before k q old new more h node r = let a = more node r in let b = h node r in omega (arith, a, b, copies_more node k q r before)

pub copy_passed : (before : List Record) (x : Record) (copies : Counts) → ((k : ℕ) (q : Request) → is_copy_of k q x ≡ false) → KnowsCopies before copies → KnowsCopies (before ++ x ∷ []) copies
copy_passed before x copies other h node r = h node r ∙ sym (none_more (is_copy_of node r) before x (other node r))

pub call_passed : (before : List Record) (k : ℕ) (q : Request) (t : Told) (copies : Counts) → KnowsCopies before copies → KnowsCopies (before ++ Call k q t ∷ []) copies
unfolding is_copy_of
call_passed before k q t copies h = copy_passed before (Call k q t) copies (λ i r. refl) h

pub operator_passed : (before : List Record) (k : ℕ) (ask : NodeAsk) (done : Bool) (copies : Counts) → KnowsCopies before copies → KnowsCopies (before ++ Operator k ask done ∷ []) copies
unfolding is_copy_of
operator_passed before k ask done copies h = copy_passed before (Operator k ask done) copies (λ i r. refl) h

pub outcome_passed : (before : List Record) (text : List ℕ) (copies : Counts) → KnowsCopies before copies → KnowsCopies (before ++ Outcome text ∷ []) copies
unfolding is_copy_of
outcome_passed before text copies h = copy_passed before (Outcome text) copies (λ i r. refl) h

-- there are no more than lines
pub copies_room : (before : List Record) (copies : Counts) (node : ℕ) (r : Request) → KnowsCopies before copies → length before + 1 < 2 ^ 64 → count_of copies (ask_key node r) + 1 < 2 ^ 64
copies_room before copies node r h few = let e = h node r in omega (arith, e, count_by-le-length (is_copy_of node r) before, few)

-- the count of one request to a node is set
pub ask_set : (old new : Counts) (key : List ℕ) (node n : ℕ) (p : Request) → key ≡ ask_key node p → ((q : List ℕ) → count_of new q ≡ cond (bytes_eq q key) n (count_of old q))
    → (k : ℕ) (r : Request) → count_of new (ask_key k r) ≡ cond (is_ask k r node p) n (count_of old (ask_key k r))
ask_set old new key node n p is set k r =
    set (ask_key k r) ∙ ap (λ (b : Bool). cond b n (count_of old (ask_key k r))) (ap (λ (x : List ℕ). bytes_eq (ask_key k r) x) is ∙ ask_tested k node r p)

-- no copy has no mark
pub none_taken : (unmarked : Counts) (node : ℕ) (p : Request) → count_of unmarked (ask_key node p) ≡ 0
    → (k : ℕ) (r : Request) → count_of unmarked (ask_key k r) ≡ cond (is_ask k r node p) 0 (count_of unmarked (ask_key k r))
none_taken unmarked node p e k r = by (is_ask k r node p) refl
  where
    by : (b : Bool) → is_ask k r node p ≡ b → count_of unmarked (ask_key k r) ≡ cond b 0 (count_of unmarked (ask_key k r))
    by false f = refl
    by true f =
        let same = (ask_decided k node r p).0 f in
        ap (λ (i : ℕ). count_of unmarked (ask_key i r)) same.0 ∙ ap (λ (x : Request). count_of unmarked (ask_key node x)) same.1 ∙ e

-- ## The marks of a call
abbrev call_marks : ℕ → ℕ → Told → ℕ → List Mark
call_marks k n t copies = loss_marks k n t ++ replicate copies (mark k n kind.Late)

same_items : {A : Type 0} (n : ℕ) (x y : A) → Contains (replicate n x) y → x ≡ y
same_items zero x y c = absurd (contains_none y c)
same_items (suc n) x y c = by (Contains-append_cases (x ∷ []) (replicate n x) y c) (same_items n x y)
  where
    by : Contains (x ∷ []) y ⊎ Contains (replicate n x) y → (Contains (replicate n x) y → x ≡ y) → x ≡ y
    by (inl g) rest = contains_only x y g
    by (inr g) rest = rest g

loss_of : (k n : ℕ) (t : Told) (m : Mark) → Contains (loss_marks k n t) m → (m.node ≡ k) × (m.number ≡ n) × (m.kind ≢ kind.Late)
loss_of k n told.Dropped m c =
    let e = contains_only (mark k n kind.Dropped) m c in
    (sym (ap (λ (x : Mark). x.node) e), sym (ap (λ (x : Mark). x.number) e), λ f. (let g : kind.Dropped ≡ kind.Late = ap (λ (x : Mark). x.kind) e ∙ f in cc g))
loss_of k n told.Muted m c =
    let e = contains_only (mark k n kind.Muted) m c in
    (sym (ap (λ (x : Mark). x.node) e), sym (ap (λ (x : Mark). x.number) e), λ f. (let g : kind.Muted ≡ kind.Late = ap (λ (x : Mark). x.kind) e ∙ f in cc g))
loss_of k n (told.Reply reply) m c = absurd (contains_none m c)
loss_of k n told.Silent m c = absurd (contains_none m c)

-- each is of this call
of_call : (k n : ℕ) (t : Told) (copies : ℕ) (m : Mark) → Contains (call_marks k n t copies) m → (m.node ≡ k) × (m.number ≡ n)
of_call k n t copies m c = by (Contains-append_cases (loss_marks k n t) (replicate copies (mark k n kind.Late)) m c)
  where
    by : Contains (loss_marks k n t) m ⊎ Contains (replicate copies (mark k n kind.Late)) m → (m.node ≡ k) × (m.number ≡ n)
    by (inl g) = let e = loss_of k n t m g in (e.0, e.1)
    by (inr g) = let e = same_items copies (mark k n kind.Late) m g in (sym (ap (λ (x : Mark). x.node) e), sym (ap (λ (x : Mark). x.number) e))

-- a mark that isn't late is of its loss
of_loss : (k n : ℕ) (t : Told) (copies : ℕ) (m : Mark) → m.kind ≢ kind.Late → Contains (call_marks k n t copies) m → Contains (loss_marks k n t) m
of_loss k n t copies m off c = by (Contains-append_cases (loss_marks k n t) (replicate copies (mark k n kind.Late)) m c)
  where
    by : Contains (loss_marks k n t) m ⊎ Contains (replicate copies (mark k n kind.Late)) m → Contains (loss_marks k n t) m
    by (inl g) = g
    by (inr g) = let e = same_items copies (mark k n kind.Late) m g in absurd (off (sym (ap (λ (x : Mark). x.kind) e)))

-- the call is told as its loss marks it
loss_told : (k n : ℕ) (t : Told) → (Contains (loss_marks k n t) (mark k n kind.Dropped) → t ≡ told.Dropped) × (Contains (loss_marks k n t) (mark k n kind.Muted) → t ≡ told.Muted)
loss_told k n told.Dropped = (λ c. refl, λ c. (let e : kind.Dropped ≡ kind.Muted = ap (λ (x : Mark). x.kind) (contains_only (mark k n kind.Dropped) (mark k n kind.Muted) c) in cc e))
loss_told k n told.Muted = (λ c. (let e : kind.Muted ≡ kind.Dropped = ap (λ (x : Mark). x.kind) (contains_only (mark k n kind.Muted) (mark k n kind.Dropped) c) in cc e), λ c. refl)
loss_told k n (told.Reply reply) = (λ c. absurd (contains_none (mark k n kind.Dropped) c), λ c. absurd (contains_none (mark k n kind.Muted) c))
loss_told k n told.Silent = (λ c. absurd (contains_none (mark k n kind.Dropped) c), λ c. absurd (contains_none (mark k n kind.Muted) c))

dropped_marked : (k n : ℕ) (t : Told) → t ≡ told.Dropped → Contains (loss_marks k n t) (mark k n kind.Dropped)
dropped_marked k n t e = subst (λ (x : Told). Contains (loss_marks k n x) (mark k n kind.Dropped)) (sym e) (contains_head (mark k n kind.Dropped) [] (mark k n kind.Dropped) refl)

muted_marked : (k n : ℕ) (t : Told) → t ≡ told.Muted → Contains (loss_marks k n t) (mark k n kind.Muted)
muted_marked k n t e = subst (λ (x : Told). Contains (loss_marks k n x) (mark k n kind.Muted)) (sym e) (contains_head (mark k n kind.Muted) [] (mark k n kind.Muted) refl)

-- ## All marks after a call
abbrev Earlier : List Mark → List Record → Type 0
Earlier plan before = (m : Mark) → Contains plan m → m.number < next_number m.node before

-- the marks so far aren't of the next call
not_next : (plan : List Mark) (before : List Record) (m : Mark) (k : ℕ) → Earlier plan before → m.node ≡ k → m.number ≡ next_number k before → Contains plan m → ⊥
not_next plan before m k early at is c =
    let low = early m c in let same : next_number m.node before ≡ next_number k before = ap (λ (i : ℕ). next_number i before) at in omega (arith, low, is, same)

as_told : (plan : List Mark) (before : List Record) (k : ℕ) (t : Told) (copies : ℕ) → Earlier plan before
    → IsAsMarked (plan ++ call_marks k (next_number k before) t copies) k (next_number k before) t
as_told plan before k t copies early = (
  (λ e. put kind.Dropped (dropped_marked k n t e), λ c. (loss_told k n t).0 (own kind.Dropped (λ (e : kind.Dropped ≡ kind.Late). cc e) c)),
  λ off. (λ e. put kind.Muted (muted_marked k n t e), λ c. (loss_told k n t).1 (own kind.Muted (λ (e : kind.Muted ≡ kind.Late). cc e) c)),
)
  where
    n : ℕ
    n = next_number k before

    put : (kd : MarkKind) → Contains (loss_marks k n t) (mark k n kd) → Contains (plan ++ call_marks k n t copies) (mark k n kd)
    put kd c = Contains-append_right plan (call_marks k n t copies) (mark k n kd) (Contains-append_left (loss_marks k n t) (replicate copies (mark k n kind.Late)) (mark k n kd) c)

    own : (kd : MarkKind) → kd ≢ kind.Late → Contains (plan ++ call_marks k n t copies) (mark k n kd) → Contains (loss_marks k n t) (mark k n kd)
    own kd off c = by (Contains-append_cases plan (call_marks k n t copies) (mark k n kd) c)
      where
        by : Contains plan (mark k n kd) ⊎ Contains (call_marks k n t copies) (mark k n kd) → Contains (loss_marks k n t) (mark k n kd)
        by (inl g) = absurd (not_next plan before (mark k n kd) k early refl refl g)
        by (inr g) = of_loss k n t copies (mark k n kd) off g

-- what went by the marks so far goes by all
still_marked : (plan ms : List Mark) (before : List Record) (k : ℕ) → ((m : Mark) → Contains ms m → (m.node ≡ k) × (m.number ≡ next_number k before))
    → IsMarked plan [] before → IsMarked (plan ++ ms) [] before
unfolding IsLater
still_marked plan [] before k own h = subst (λ (p : List Mark). IsMarked p [] before) (sym (append-nil plan)) h
still_marked plan (m ∷ ms) before k own h =
    subst (λ (p : List Mark). IsMarked p [] before) (append_assoc plan (m ∷ []) ms)
    (still_marked (plan ++ m ∷ []) ms before k (λ x c. own x (contains_tail m ms x c)) (more_marks plan m [] before (later (own m (contains_head m ms m refl))) h))
  where
    later : (m.node ≡ k) × (m.number ≡ next_number k before) → IsLater m before
    later e =
        let same : length (calls_to m.node before) ≡ length (calls_to k before) = ap (λ (i : ℕ). length (calls_to i before)) e.0 in
        inr (omega (arith, same, e.1))

-- the late marks of the call are of what it asked
late_marks_of : (k : ℕ) (q : Request) (t : Told) (copies node : ℕ) (r : Request) (before : List Record)
    → marked_late (call_marks k (next_number k before) t copies) node r (before ++ Call k q t ∷ []) ≡ cond (is_ask node r k q) copies 0
late_marks_of k q t copies node r before =
    let n = next_number k before in
    let after = before ++ Call k q t ∷ [] in
    let losses : count_by (is_late_of node r after) (loss_marks k n t) ≡ 0 =
    count_none (is_late_of node r after) (loss_marks k n t) (λ m c. not_late m after node r (loss_of k n t m c).2) in
    let one : is_late_of node r after (mark k n kind.Late) ≡ is_ask node r k q =
    late_of_call k n q after node r (asked_new k q before (Call k q t) (own_call k q t)).1 ∙ ask_turned k node q r in
    let lates : count_by (is_late_of node r after) (replicate copies (mark k n kind.Late)) ≡ cond (is_ask node r k q) copies 0 =
    count_same_items (is_late_of node r after) copies (mark k n kind.Late) ∙ ap (λ (b : Bool). cond b copies 0) one in
    let both = count_append (is_late_of node r after) (loss_marks k n t) (replicate copies (mark k n kind.Late)) in
    omega (arith, losses, lates, both)

-- those so far are of no more than before
late_so_far : (plan : List Mark) (k : ℕ) (q : Request) (t : Told) (node : ℕ) (r : Request) (before : List Record) → Earlier plan before
    → marked_late plan node r (before ++ Call k q t ∷ []) ≡ marked_late plan node r before
late_so_far plan k q t node r before early =
    let none : count_by (is_late_at k (next_number k before)) plan ≡ 0 = count_none (is_late_at k (next_number k before)) plan off in
    let same : cond (is_ask node r k q) (count_by (is_late_at k (next_number k before)) plan) 0 ≡ 0 = ap (λ (n : ℕ). cond (is_ask node r k q) n 0) none ∙ nought (is_ask node r k q) in
    omega (arith, same, marked_call plan node k q r t before)
  where
    nought : (b : Bool) → (let z : ℕ = 0 in cond b z z ≡ z)
    nought true = refl
    nought false = refl

    off : (m : Mark) → Contains plan m → is_late_at k (next_number k before) m ≡ false
    off m c = late_off k (next_number k before) m (by (cases_eq m.node k))
      where
        by : (m.node ≡ k) ⊎ (m.node ≢ k) → (m.node ≢ k) ⊎ (m.number ≢ next_number k before)
        by (inl at) = inr (λ is. not_next plan before m k early at is c)
        by (inr away) = inl away

call_goes : (plan : List Mark) (before : List Record) (k : ℕ) (q : Request) (t : Told) → IsAsMarked plan k (next_number k before) t → IsMarked plan before (Call k q t ∷ [])
unfolding IsMarked
call_goes plan before k q t a = (a, tt)

copy_goes : (plan : List Mark) (before : List Record) (k : ℕ) (q : Request) → IsCopy plan before k q → IsMarked plan before (Late k q ∷ [])
unfolding IsMarked
copy_goes plan before k q a = (a, tt)

pub call_tells : (nodes node number copies : ℕ) (all before : List Record) (q : Request) (t : Told) (plan marks : List Mark) (old new : ToldCalls) → (1 ≤ node) × (node ≤ nodes)
    → number ≡ get_or old.next.items (node - 1) number → new.next.items ≡ set old.next.items (node - 1) (number + 1) → copies ≡ count_of old.unmarked (ask_key node q)
    → ((k : ℕ) (r : Request) → count_of new.unmarked (ask_key k r) ≡ cond (is_ask k r node q) 0 (count_of old.unmarked (ask_key k r)))
    → marks ≡ plan ++ call_marks node number t copies → TellsMarks nodes all before plan old → TellsMarks nodes all (before ++ Call node q t ∷ []) marks new
call_tells nodes node number copies all before q t plan marks old new low is grown count rest told h =
    subst (λ (p : List Mark). TellsMarks nodes all (before ++ Call node q t ∷ []) p new) (sym (told ∙ ap (λ (n : ℕ). plan ++ call_marks node n t copies) num)) (record {
      next = next_add nodes node number before q t old.next.items new.next.items low is grown h.next;
      earlier = λ m c. early m (Contains-append_cases plan ms m c);
      marked = λ c.
          marked_snoc (plan ++ ms) [] before (Call node q t)
          (still_marked plan ms before node (λ m g. of_call node (next_number node before) t copies m g) (h.marked (called_less [] before (Call node q t) c).0))
          (call_goes (plan ++ ms) before node q t (as_told plan before node t copies h.earlier));
      copied = λ k r. copied k r (h.copied k r) (rest k r);
      asked = λ k r c. asked k r (cases_eq node k) c;
    })
  where
    num : number ≡ next_number node before
    num = number_at nodes node number before old.next.items low is h.next

    ms : List Mark
    ms = call_marks node (next_number node before) t copies

    longer : (i : ℕ) → next_number i before ≤ next_number i (before ++ Call node q t ∷ [])
    longer i = by (cases_eq node i)
      where
        by : (node ≡ i) ⊎ (node ≢ i) → next_number i before ≤ next_number i (before ++ Call node q t ∷ [])
        by (inl e) = omega (arith, number_more i node before q t e)
        by (inr off) = omega (arith, number_stays i before (Call node q t) (other_call i node q t (λ e. off (sym e))))

    early : (m : Mark) → Contains plan m ⊎ Contains ms m → m.number < next_number m.node (before ++ Call node q t ∷ [])
    early m (inl c) = let e = h.earlier m c in omega (arith, e, longer m.node)
    early m (inr c) =
        let e = of_call node (next_number node before) t copies m c in
        let same : next_number m.node before ≡ next_number node before = ap (λ (i : ℕ). next_number i before) e.0 in
        omega (arith, e.1, same, number_more m.node node before q t (sym e.0))

    count_at : (k : ℕ) (r : Request) → is_ask k r node q ≡ true → count_of old.unmarked (ask_key k r) ≡ copies
    count_at k r e =
        let same = (ask_decided k node r q).0 e in
        ap (λ (i : ℕ). count_of old.unmarked (ask_key i r)) same.0 ∙ ap (λ (x : Request). count_of old.unmarked (ask_key node x)) same.1 ∙ sym count

    copied : (k : ℕ) (r : Request) → marked_late plan k r before + count_of old.unmarked (ask_key k r) ≡ copies_of k r all
        → count_of new.unmarked (ask_key k r) ≡ cond (is_ask k r node q) 0 (count_of old.unmarked (ask_key k r))
        → marked_late (plan ++ ms) k r (before ++ Call node q t ∷ []) + count_of new.unmarked (ask_key k r) ≡ copies_of k r all
    copied k r was left = by (is_ask k r node q) refl
      where
        both : marked_late (plan ++ ms) k r (before ++ Call node q t ∷ []) ≡ marked_late plan k r before + cond (is_ask k r node q) copies 0
        both =
            let a = count_append (is_late_of k r (before ++ Call node q t ∷ [])) plan ms in
            let b = late_so_far plan node q t k r before h.earlier in
            let c = late_marks_of node q t copies k r before in
            omega (arith, a, b, c)

        by : (b : Bool) → is_ask k r node q ≡ b → marked_late (plan ++ ms) k r (before ++ Call node q t ∷ []) + count_of new.unmarked (ask_key k r) ≡ copies_of k r all
        by true e =
            let x : cond (is_ask k r node q) copies 0 ≡ copies = ap (λ (b : Bool). cond b copies 0) e in
            let y : count_of new.unmarked (ask_key k r) ≡ 0 = left ∙ ap (λ (b : Bool). cond b 0 (count_of old.unmarked (ask_key k r))) e in
            omega (arith, both, x, y, count_at k r e, was)
        by false e =
            let x : cond (is_ask k r node q) copies 0 ≡ 0 = ap (λ (b : Bool). cond b copies 0) e in
            let y : count_of new.unmarked (ask_key k r) ≡ count_of old.unmarked (ask_key k r) = left ∙ ap (λ (b : Bool). cond b 0 (count_of old.unmarked (ask_key k r))) e in
            omega (arith, both, x, y, was)

    -- what is left of a request that was asked before
    kept : (k : ℕ) (r : Request) → Contains (calls_to k before) r → count_of new.unmarked (ask_key k r) ≡ 0
    kept k r c = rest k r ∙ by (is_ask k r node q) (h.asked k r c)
      where
        by : (b : Bool) → count_of old.unmarked (ask_key k r) ≡ 0 → cond b 0 (count_of old.unmarked (ask_key k r)) ≡ 0
        by true e = refl
        by false e = e

    asked : (k : ℕ) (r : Request) → (node ≡ k) ⊎ (node ≢ k) → Contains (calls_to k (before ++ Call node q t ∷ [])) r → count_of new.unmarked (ask_key k r) ≡ 0
    asked k r (inr off) c =
        kept k r (subst (λ (l : List Request). Contains l r)
        (calls_append k before (Call node q t ∷ []) ∙ ap (λ (l : List Request). calls_to k before ++ l) (other_call k node q t (λ e. off (sym e))) ∙ append-nil (calls_to k before)) c)
    asked k r (inl at) c = by (Contains-push_cases (calls_to k before) q r (subst (λ (l : List Request). Contains l r) own c))
      where
        own : calls_to k (before ++ Call node q t ∷ []) ≡ calls_to k before ++ q ∷ []
        own = calls_append k before (Call node q t ∷ [])
            ∙ ap (λ (l : List Request). calls_to k before ++ l) (ap (λ (i : ℕ). calls_to k (Call i q t ∷ [])) at ∙ own_call k q t)

        by : Contains (calls_to k before) r ⊎ (q ≡ r) → count_of new.unmarked (ask_key k r) ≡ 0
        by (inl g) = kept k r g
        by (inr e) = rest k r ∙ ap (λ (b : Bool). cond b 0 (count_of old.unmarked (ask_key k r))) ((ask_decided k node r q).1 (sym at, sym e))

-- ## Lines that are no calls
stays : (nodes : ℕ) (all before : List Record) (x : Record) (plan : List Mark) (calls : ToldCalls) → ((k : ℕ) → calls_to k (x ∷ []) ≡ [])
    → (IsCalled before x → IsMarked plan before (x ∷ [])) → TellsMarks nodes all before plan calls → TellsMarks nodes all (before ++ x ∷ []) plan calls
stays nodes all before x plan calls none goes h = record {
  next = next_stays nodes before x calls.next.items none h.next;
  earlier = λ m c. (let e = h.earlier m c in omega (arith, e, number_stays m.node before x (none m.node)));
  marked = λ c. (let g = called_less [] before x c in marked_snoc plan [] before x (h.marked g.0) (goes g.1));
  copied = λ k r. (let e = h.copied k r in omega (arith, e, marked_stays plan k r before x none));
  asked = λ k r c. h.asked k r (subst (λ (l : List Request). Contains l r)
      (calls_append k before (x ∷ []) ∙ ap (λ (l : List Request). calls_to k before ++ l) (none k) ∙ append-nil (calls_to k before)) c);
}

pub late_tells : (nodes : ℕ) (all before rest : List Record) (node : ℕ) (q : Request) (plan : List Mark) (calls : ToldCalls) → all ≡ before ++ Late node q ∷ rest
    → TellsMarks nodes all before plan calls → TellsMarks nodes all (before ++ Late node q ∷ []) plan calls
unfolding calls_to
late_tells nodes all before rest node q plan calls whole h = stays nodes all before (Late node q) plan calls (λ k. refl) (λ c. copy_goes plan before node q (is_copy c)) h
  where
    here : copies_of node q (before ++ Late node q ∷ []) ≡ copies_of node q before + 1
    here = copies_more node node q q before ∙ ap (λ (b : Bool). copies_of node q before + one_if b) ((ask_decided node node q q).1 (refl, refl))

    is_copy : Contains (calls_to node before) q → IsCopy plan before node q
    is_copy c =
        let left = h.asked node q c in
        let both = h.copied node q in
        let split : copies_of node q all ≡ copies_of node q (before ++ Late node q ∷ []) + copies_of node q rest =
        ap (copies_of node q) (whole ∙ sym (append_assoc before (Late node q ∷ []) rest)) ∙ count_append (is_copy_of node q) (before ++ Late node q ∷ []) rest in
        omega (arith, left, both, split, here)

pub operator_tells : (nodes : ℕ) (all before : List Record) (node : ℕ) (ask : NodeAsk) (done : Bool) (plan : List Mark) (calls : ToldCalls)
    → TellsMarks nodes all before plan calls → TellsMarks nodes all (before ++ Operator node ask done ∷ []) plan calls
unfolding calls_to IsMarked
operator_tells nodes all before node ask done plan calls h = stays nodes all before (Operator node ask done) plan calls (λ k. refl) (λ c. tt) h

pub outcome_tells : (nodes : ℕ) (all before : List Record) (text : List ℕ) (plan : List Mark) (calls : ToldCalls)
    → TellsMarks nodes all before plan calls → TellsMarks nodes all (before ++ Outcome text ∷ []) plan calls
unfolding calls_to IsMarked
outcome_tells nodes all before text plan calls h = stays nodes all before (Outcome text) plan calls (λ k. refl) (λ c. tt) h

-- ## From the first line to the last
pub told_begins : (nodes : ℕ) (all : List Record) (calls : ToldCalls) → calls.next.items ≡ replicate nodes 1 → KnowsCopies all calls.unmarked → TellsMarks nodes all [] [] calls
unfolding calls_to IsMarked
told_begins nodes all calls first copies = record {
  next = record { count = ap length first ∙ length-replicate nodes 1; next = λ i less. ap (λ l. get_or l i 0) first ∙ get_or-replicate nodes i 1 0 less };
  earlier = λ m c. absurd (contains_none m c);
  marked = λ c. tt;
  copied = λ k r. (let e = copies k r in omega (arith, e, none_called [] k r));
  asked = λ k r c. absurd (contains_none r c);
}

pub next_room : (nodes i most : ℕ) (all before : List Record) (plan : List Mark) (calls : ToldCalls) → i < length calls.next.items → length before + 2 ≤ most → TellsMarks nodes all before plan calls
    → get_or calls.next.items i 0 + 1 ≤ most
next_room nodes i most all before plan calls low fits h =
    let low2 : i < nodes = omega (arith, low, h.next.count) in
    let is = h.next.next i low2 in let fit = calls_fit (i + 1) before in omega (arith, is, fit, fits)

pub told_ends : (nodes : ℕ) (rs : List Record) (plan : List Mark) (calls : ToldCalls) → TellsMarks nodes rs rs plan calls → AreCalled [] rs → GoesBy plan rs
told_ends nodes rs plan calls h c = (h.marked c, λ k r. (let e = h.copied k r in omega (arith, e)))
