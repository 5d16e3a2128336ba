-- No number of a node passes 2 ^ 62: its promise, its committed txids, and the ends of its
-- segments.
use Rattle.std.proofs.Common.{◌≡◌, ℕ, zero, suc, ◌+◌, ◌≤◌, ◌⊎◌, inl, inr, max, List, [], ◌∷◌, ◌++◌, Bool, true, false, cond, ◌||◌, refl, sym, ap}
use Rattle.std.proofs.Common.{subst, arith, length, take, length-append, Option, Some, None, nat_lt, map, filter}
use Rattle.std.specs.List.{list_any}
use Rattle.std.proofs.lemmas.Bool.{ltb-false, cases_eq}
use Rattle.journal_core.specs.Views.{HeadView, last_txid}
use Rattle.journal_core.specs.Limits.{head_of, numbers_of, max_number, limit_of}
use Rattle.journal_core.specs.Segments.{find_segment, has_edit, end_of}
use Rattle.journal_core.specs.Effects.{Effect, Promise, WriterEpoch, Commit, NewSegment, Append, Replace, MakeFinal, Remove, after_effect, after_effects}
use Rattle.journal_core.specs.Step.{front_refused, unless_limited, refused_at_once, fronted, front_effects, row_effects, node_step, effects_of, may_go}
use Rattle.journal_core.specs.declared.segment.Segment.{Segment}
use Rattle.journal_core.specs.declared.node_state.NodeState.{NodeState}
use Rattle.journal_core.specs.declared.request.Request.{Request}
use Rattle.journal_core.specs.declared.request.Request.TheVariants as request
use Rattle.journal_core.specs.declared.refusal.Refusal.TheVariants as refusal
use Rattle.journal_history.specs.Entries.{Move, Answer, Stop, Kill, Restart, Entry, after_move, node_after}
use Rattle.journal_core.proofs.Steps.{Acted, at_once, by_row, done, acted, test_passed}
use Rattle.journal_core.proofs.SegmentLists.{find-start}
use Rattle.run_safety.proofs.Slots.{none≢some, some_same, true≢false}
use Rattle.journal_core.proofs.Changes.{Change, same, created, grown, made_final, replaced, removed}
use Rattle.journal_core.proofs.FrontLaws.{limit_passed as limits_none}
use Rattle.run_safety.proofs.Along.{Changes, entry_change, node_here, node_elsewhere}

-- ## What is past the limits isn't taken
pub limit_passed : (s : NodeState) (r : Request) → refused_at_once s r ≡ None → limit_of r ≡ None
limit_passed s r e = limits_none (limit_of r) (front_refused s (head_of r)) (test_passed s.up (unless_limited (limit_of r) (front_refused s (head_of r))) refusal.Down e)

abbrev pub AllSmall : List ℕ → Type 0
AllSmall [] = Unit {0}
AllSmall (n ∷ ns) = (n ≤ max_number) × AllSmall ns

any_small : (ns : List ℕ) → list_any (λ n. nat_lt max_number n) ns ≡ false → AllSmall ns
any_small [] e = tt
any_small (n ∷ ns) e = by (nat_lt max_number n) refl e (λ f. any_small ns f)
  where
    by : (b : Bool) → nat_lt max_number n ≡ b → (b || list_any (λ m. nat_lt max_number m) ns) ≡ false → (list_any (λ m. nat_lt max_number m) ns ≡ false → AllSmall ns) → (n ≤ max_number) × AllSmall ns
    by true is f rest = true≢false f
    by false is f rest = (ltb-false max_number n is, rest f)

first_limit : (b : Bool) (x : ℕ) (o : Option ℕ) → cond b (Some x) o ≡ None → b ≡ false
first_limit true x o e = none≢some x (sym e)
first_limit false x o e = refl

pub numbers_small : (r : Request) → limit_of r ≡ None → AllSmall (numbers_of r)
unfolding limit_of
numbers_small r e = any_small (numbers_of r) (first_limit (list_any (λ n. nat_lt max_number n) (numbers_of r)) max_number _ e)

pub head_small : (r : Request) (h : HeadView) → head_of r ≡ Some h → AllSmall (numbers_of r) → (h.epoch ≤ max_number) × (h.committed ≤ max_number)
head_small request.State h e a = none≢some h e
head_small (request.NewEpoch epoch) h e a = none≢some h e
head_small (request.Read from) h e a = none≢some h e
head_small request.Manifest h e a = none≢some h e
head_small (request.Start head start) h e a = let is : head ≡ h = some_same e in subst (λ (x : HeadView). (x.epoch ≤ max_number) × (x.committed ≤ max_number)) is (a.1.0, a.1.1.1.0)
head_small (request.Journal head start batch) h e a = let is : head ≡ h = some_same e in subst (λ (x : HeadView). (x.epoch ≤ max_number) × (x.committed ≤ max_number)) is (a.1.1.1.0, a.1.1.1.1.1.0)
head_small (request.Finalize head start end) h e a = let is : head ≡ h = some_same e in subst (λ (x : HeadView). (x.epoch ≤ max_number) × (x.committed ≤ max_number)) is (a.1.1.0, a.1.1.1.1.0)
head_small (request.Prepare head start) h e a = let is : head ≡ h = some_same e in subst (λ (x : HeadView). (x.epoch ≤ max_number) × (x.committed ≤ max_number)) is (a.1.0, a.1.1.1.0)
head_small (request.Fetch head start from) h e a = let is : head ≡ h = some_same e in subst (λ (x : HeadView). (x.epoch ≤ max_number) × (x.committed ≤ max_number)) is (a.1.1.0, a.1.1.1.1.0)
head_small (request.Accept head batch) h e a = let is : head ≡ h = some_same e in subst (λ (x : HeadView). (x.epoch ≤ max_number) × (x.committed ≤ max_number)) is (a.1.1.0, a.1.1.1.1.0)
head_small (request.Purge head min) h e a = let is : head ≡ h = some_same e in subst (λ (x : HeadView). (x.epoch ≤ max_number) × (x.committed ≤ max_number)) is (a.1.0, a.1.1.1.0)

-- ## Effects keep the numbers small
abbrev pub Small : NodeState → Type 0
Small s = (s.promised ≤ max_number) × (s.known ≤ max_number) × (s.committed ≤ max_number)

abbrev IsSmall : Effect → Type 0
IsSmall (Promise epoch) = epoch ≤ max_number
IsSmall (Commit txid) = txid ≤ max_number
IsSmall _ = Unit {0}

abbrev AreSmall : List Effect → Type 0
AreSmall [] = Unit {0}
AreSmall (e ∷ es) = IsSmall e × AreSmall es

one_small : (s : NodeState) (e : Effect) → Small s → IsSmall e → Small (after_effect s e)
one_small s (Promise epoch) h i = (i, h.1, h.2)
one_small s (WriterEpoch epoch) h i = h
one_small s (Commit txid) h i = (h.0, h.1, i)
one_small s (NewSegment start epoch) h i = h
one_small s (Append start bodies) h i = h
one_small s (Replace epoch batch) h i = h
one_small s (MakeFinal start) h i = h
one_small s (Remove start) h i = h

take_small : (k : ℕ) (s : NodeState) (es : List Effect) → Small s → AreSmall es → Small (after_effects s (take k es))
unfolding after_effects
take_small zero s es h a = h
take_small (suc k) s [] h a = h
take_small (suc k) s (e ∷ es) h a = take_small k (after_effect s e) es (one_small s e h a.0) a.1

all_small : (s : NodeState) (es : List Effect) → Small s → AreSmall es → Small (after_effects s es)
unfolding after_effects
all_small s [] h a = h
all_small s (e ∷ es) h a = all_small (after_effect s e) es (one_small s e h a.0) a.1

if_small : (b : Bool) (es : List Effect) → AreSmall es → AreSmall (cond b es [])
if_small true es a = a
if_small false es a = tt

if_not : (b : Bool) (es : List Effect) → AreSmall es → AreSmall (cond b [] es)
if_not true es a = tt
if_not false es a = a

append_small : (xs ys : List Effect) → AreSmall xs → AreSmall ys → AreSmall (xs ++ ys)
append_small [] ys a b = b
append_small (x ∷ xs) ys a b = (a.0, append_small xs ys a.1 b)

removes_small : (gs : List Segment) → AreSmall (map (λ g. Remove g.start) gs)
removes_small [] = tt
removes_small (g ∷ gs) = (tt, removes_small gs)

row_small : (s : NodeState) (r : Request) → Small s → AllSmall (numbers_of r) → AreSmall (row_effects s r)
row_small s request.State h a = tt
row_small s (request.NewEpoch epoch) h a = (a.0, tt)
row_small s (request.Start head start) h a = append_small _ (NewSegment start head.epoch ∷ []) (if_not _ (WriterEpoch head.epoch ∷ []) (tt, tt)) (tt, tt)
row_small s (request.Journal head start batch) h a = (tt, tt)
row_small s (request.Finalize head start end) h a = append_small _ _ (if_not _ (MakeFinal start ∷ []) (tt, tt)) (if_small (nat_lt s.committed s.known) (Commit s.known ∷ []) (h.1, tt))
row_small s (request.Prepare head start) h a = tt
row_small s (request.Fetch head start from) h a = tt
row_small s (request.Accept head batch) h a = if_not _ (Replace head.epoch batch ∷ []) (tt, tt)
row_small s (request.Purge head min) h a = removes_small (filter (may_go s head.committed min) s.segments)
row_small s (request.Read from) h a = tt
row_small s request.Manifest h a = tt

front_small : (s : NodeState) (o : Option HeadView) → ((h : HeadView) → o ≡ Some h → h.epoch ≤ max_number) → AreSmall (front_effects s o)
front_small s None f = tt
front_small s (Some h) f = if_small (nat_lt s.promised h.epoch) (Promise h.epoch ∷ []) (f h refl, tt)

fronted_small : (s : NodeState) (r : Request) → Small s → AllSmall (numbers_of r) → Small (fronted s r)
fronted_small s r h a = by (head_of r) refl
  where
    by : (o : Option HeadView) → head_of r ≡ o → Small (fronted s r)
    by None e = (rw e h.0, rw e h.1, h.2)
    by (Some x) e =
        let b : (x.epoch ≤ max_number) × (x.committed ≤ max_number) = head_small r x e a in
        let p : max s.promised x.epoch ≤ max_number = omega (arith, h.0, b.0) in
        let k : max s.known x.committed ≤ max_number = omega (arith, h.1, b.1) in
        (rw e p, rw e k, h.2)

small_answered : (s : NodeState) (r : Request) → Small s → Acted s r → Small (node_step s r).state
small_answered s r h (at_once x a n e) = subst Small (sym (ap (λ z. z.state) n)) h
small_answered s r h (by_row x a b n e) = subst Small (sym (ap (λ z. z.state) n)) (fronted_small s r h (numbers_small r (limit_passed s r a)))
small_answered s r h (done a b n e) =
    let small : AllSmall (numbers_of r) = numbers_small r (limit_passed s r a) in
    let f : Small (fronted s r) = fronted_small s r h small in
    subst Small (sym (ap (λ z. z.state) n)) (all_small (fronted s r) (row_effects (fronted s r) r) f (row_small (fronted s r) r f small))

small_effects : (s : NodeState) (r : Request) → Small s → Acted s r → AreSmall (effects_of s r)
small_effects s r h (at_once x a n e) = subst AreSmall (sym e) tt
small_effects s r h (by_row x a b n e) = subst AreSmall (sym e) (front_small s (head_of r) (λ z is. (head_small r z is (numbers_small r (limit_passed s r a))).0))
small_effects s r h (done a b n e) =
    let small : AllSmall (numbers_of r) = numbers_small r (limit_passed s r a) in
    subst AreSmall (sym e) (append_small (front_effects s (head_of r)) (row_effects (fronted s r) r)
    (front_small s (head_of r) (λ z is. (head_small r z is small).0)) (row_small (fronted s r) r (fronted_small s r h small) small))

small_moved : (s : NodeState) (m : Move) → Small s → Small (after_move s m)
small_moved s (Answer caller way r reply) h = small_answered s r h (acted s r)
small_moved s (Stop caller late r keep) h = let t : Small (after_effects s (take keep (effects_of s r))) = take_small keep s (effects_of s r) h (small_effects s r h (acted s r)) in (t.0, t.2, t.2)
small_moved s Kill h = (h.0, h.2, h.2)
small_moved s Restart h = (h.0, h.2, h.2)

pub small_after : (i : ℕ) (past : List Entry) → Small (node_after i past)
unfolding node_after
small_after i [] = (omega arith, omega arith, omega arith)
small_after i (e ∷ past) = by (cases_eq e.node i) (small_after i past)
  where
    by : (e.node ≡ i) ⊎ (e.node ≡ i → ⊥) → Small (node_after i past) → Small (node_after i (e ∷ past))
    by (inl is) h = subst Small (sym (node_here i e past is)) (small_moved (node_after i past) e.move h)
    by (inr off) h = subst Small (sym (node_elsewhere i e past off)) h

-- ## And the ends of segments
abbrev pub EndSmall : Option Segment → Type 0
EndSmall None = Unit {0}
EndSmall (Some g) = has_edit g ≡ true → end_of g ≤ max_number

change_end : (s : NodeState) (r : Request) (m : ℕ) (o new : Option Segment) → Change s r m o new → limit_of r ≡ None → ((g : Segment) → o ≡ Some g → g.start ≡ m) → EndSmall o → EndSmall new
change_end s r m o new same limit at h = h
change_end s r m o new (created h q n) limit at p = λ e. true≢false (sym e)
change_end s r m (Some g) new (grown h b q header f first) limit at p =
    let small : AllSmall (numbers_of r) = numbers_small r limit in
    let mine : AllSmall (numbers_of (request.Journal h m b)) = subst (λ (x : Request). AllSmall (numbers_of x)) q small in
    let l : last_txid b ≤ max_number = mine.1.1.0 in
    let start : g.start ≡ m = at g refl in
    let len : length (g.bodies ++ b.bodies) ≡ length g.bodies + length b.bodies = length-append g.bodies b.bodies in
    λ e. omega (arith, l, start, len, first)
change_end s r m (Some g) new (made_final h l q edit f header ends) limit at p = p
change_end s r m o new (replaced h b q first f) limit at p =
    let mine : AllSmall (numbers_of (request.Accept h b)) = subst (λ (x : Request). AllSmall (numbers_of x)) q (numbers_small r limit) in
    let l : last_txid b ≤ max_number = mine.1.0 in
    λ e. l
change_end s r m (Some g) new (removed h l q newer le shut) limit at p = tt

pub ends_after : (i m : ℕ) (past : List Entry) → EndSmall (find_segment m (node_after i past).segments)
unfolding node_after find_segment
ends_after i m [] = tt
ends_after i m (e ∷ past) = by (entry_change i e past m) (ends_after i m past)
  where
    by : (find_segment m (node_after i (e ∷ past)).segments ≡ find_segment m (node_after i past).segments) ⊎ Changes i e past m → EndSmall (find_segment m (node_after i past).segments)
        → EndSmall (find_segment m (node_after i (e ∷ past)).segments)
    by (inl f) h = subst EndSmall (sym f) h
    by (inr c) h =
        change_end (node_after i past) c.by.request m (find_segment m (node_after i past).segments) (find_segment m (node_after i (e ∷ past)).segments) c.by.change
        (limit_passed (node_after i past) c.by.request c.by.passed) (λ g is. find-start m (node_after i past).segments g is) h
