-- An actor's index of its calls and of its marks goes along with its record.
use Rattle.std.proofs.Common.{◌≡◌, ◌≢◌, ℕ, ◌+◌, ◌-◌, ◌<◌, ◌≤◌, ◌==◌, ◌&&◌, ◌||◌, zero, suc, nat_lt, List, [], ◌∷◌, ◌++◌, length, map, Bool, true}
use Rattle.std.proofs.Common.{false, cond, refl, sym, ap, ◌∙◌, subst, Option, Some, None, set, get_or, arith, inl, inr, append-nil, slice_get}
use Rattle.std.specs.Ordering.{nat_cmp, is_eq}
use Rattle.std.specs.declared.cmp.Ordering.TheVariants.{Less, Equal, Greater}
use Rattle.std.specs.BTreeSet.{BTreeSet, Updates, contains}
use Rattle.std.proofs.lemmas.Bool.Decides.{eqb_tells, nat_tests}
use Rattle.std.proofs.lemmas.List.{length-set, length-append, length-map, map-append, get_or-set_same, get_or-set_other, get_or_append_left}
use Rattle.std.proofs.Math.Seq.{get_or-append_seam}
use Rattle.std.proofs.Math.Arith.{lt_of_le-ne}
use Rattle.std.proofs.lemmas.List.Folds.{list_any-append}
use Rattle.journal_core.specs.declared.request.Request.{Request}
use Rattle.journal_history.specs.declared.record.Record.{Record}
use Rattle.journal_history.specs.declared.record.Record.TheVariants.{Call, Late, Operator, Outcome}
use Rattle.journal_history.specs.declared.record.Told.{Told}
use Rattle.journal_history.specs.declared.node_ask.NodeAsk.{NodeAsk}
use Rattle.journal_history.specs.declared.mark.Mark.{Mark}
use Rattle.journal_history.specs.declared.mark.MarkKind.{MarkKind}
use Rattle.journal_history.specs.declared.mark.MarkKind.TheVariants as kind
use Rattle.run_safety.proofs.Values.{get_append_left}
use Rattle.mesh.specs.Marks.{calls_to, next_number, mark, same_kind, is_marked}
use Rattle.mesh.proofs.Lists.{same_test, other_test}
use Rattle.mesh.proofs.CallLists.{calls_append}
use Rattle.play_calls.specs.declared.calls_to.CallsTo.{CallsTo}
use Rattle.play_calls.specs.Deliveries.{Delivery, Delivered, ReplyLost, NotDelivered, delivery}
use Rattle.play_calls.specs.Indexes.{asked_of, asked_at, IsIndex, AreIndexes}

-- ## One mark more
cmp_eq : (x y : ℕ) → is_eq (nat_cmp x y) ≡ (x == y)
cmp_eq x y = by (nat_lt x y) (x == y) refl refl
  where
    by : (a b : Bool) → nat_lt x y ≡ a → (x == y) ≡ b → is_eq (cond a Less (cond b Equal Greater)) ≡ b
    by true true l e = absurd (grind (arith, nat_tests, l, e))
    by true false l e = refl
    by false true l e = refl
    by false false l e = refl

join_own : (b x : Bool) → cond b true x ≡ (x || ((true && (b && true)) || false))
join_own true true = refl
join_own true false = refl
join_own false true = refl
join_own false false = refl

join_other : (b x : Bool) → (x || ((true && (b && false)) || false)) ≡ x
join_other true true = refl
join_other true false = refl
join_other false true = refl
join_other false false = refl

join_none : (b x : Bool) → (x || ((false && b) || false)) ≡ x
join_none true true = refl
join_none true false = refl
join_none false true = refl
join_none false false = refl

-- a mark more: what it is of, and what it says
marked_more : (marks : List Mark) (k : ℕ) (node n q : ℕ) (a b : MarkKind)
    → is_marked (marks ++ mark node n a ∷ []) k q b ≡ (is_marked marks k q b || (((node == k) && ((n == q) && same_kind a b)) || false))
unfolding is_marked
marked_more marks k node n q a b = list_any-append (λ m. (m.node == k) && ((m.number == q) && same_kind m.kind b)) marks (mark node n a ∷ [])

own_mark : (marks : List Mark) (node n q : ℕ) (a b : MarkKind) → is_marked (marks ++ mark node n a ∷ []) node q b ≡ (is_marked marks node q b || ((true && ((n == q) && same_kind a b)) || false))
own_mark marks node n q a b = marked_more marks node node n q a b ∙ ap (λ x. is_marked marks node q b || ((x && ((n == q) && same_kind a b)) || false)) (same_test node node refl)

other_mark : (marks : List Mark) (k node n q : ℕ) (a b : MarkKind) → node ≢ k → is_marked (marks ++ mark node n a ∷ []) k q b ≡ is_marked marks k q b
other_mark marks k node n q a b e =
    marked_more marks k node n q a b
    ∙ ap (λ x. is_marked marks k q b || ((x && ((n == q) && same_kind a b)) || false)) (other_test node k e)
    ∙ join_none ((n == q) && same_kind a b) (is_marked marks k q b)

-- ## Places of calls
asked_more : (past more : List Record) (i : ℕ) (r : Request) → asked_at past i ≡ Some r → asked_at (past ++ more) i ≡ Some r
asked_more past more i r h = by (slice_get past i) refl h
  where
    by : (o : Option Record) → slice_get past i ≡ o → asked_of o ≡ Some r → asked_at (past ++ more) i ≡ Some r
    by (Some line) e g = ap asked_of (get_append_left past more i line e) ∙ g
    by None e g = absurd (cc g)

asked_heads : (f : ℕ → Option Request) (i : ℕ) (is : List ℕ) (r : Request) (rs : List Request) → map f (i ∷ is) ≡ map (λ r. Some r) (r ∷ rs) → (f i ≡ Some r) × (map f is ≡ map (λ r. Some r) rs)
asked_heads f i is r rs e = (cc e, cc e)

-- the places stay as the record grows
places_more : (past more : List Record) (is : List ℕ) (rs : List Request) → map (asked_at past) is ≡ map (λ r. Some r) rs → map (asked_at (past ++ more)) is ≡ map (λ r. Some r) rs
places_more past more [] [] e = refl
places_more past more [] (r ∷ rs) e = absurd (cc e)
places_more past more (i ∷ is) [] e = absurd (cc e)
places_more past more (i ∷ is) (r ∷ rs) e =
    let h = asked_heads (asked_at past) i is r rs e in
    let a : asked_at (past ++ more) i ≡ Some r = asked_more past more i r h.0 in
    let b : map (asked_at (past ++ more)) is ≡ map (λ r. Some r) rs = places_more past more is rs h.1 in
    cc

behind : (past : List Record) (x : Record) → slice_get (past ++ x ∷ []) (length past) ≡ Some x
behind [] x = refl
behind (y ∷ past) x = behind past x

-- what the call at one place of the list asked
abbrev asked_there : (ℕ → Option Request) → Option ℕ → Option Request
asked_there f (Some i) = f i
asked_there f None = None

found_request : (f : ℕ → Option Request) (is : List ℕ) (rs : List Request) (n : ℕ) → map f is ≡ map (λ r. Some r) rs → slice_get rs n ≡ asked_there f (slice_get is n)
found_request f [] [] n e = refl
found_request f [] (r ∷ rs) n e = absurd (cc e)
found_request f (i ∷ is) [] n e = absurd (cc e)
found_request f (i ∷ is) (r ∷ rs) zero e = sym (asked_heads f i is r rs e).0
found_request f (i ∷ is) (r ∷ rs) (suc n) e = found_request f is rs n (asked_heads f i is r rs e).1

pub earlier_none : (node n : ℕ) (past : List Record) (marks : List Mark) (c : CallsTo) → slice_get c.places.items n ≡ None → IsIndex node past marks c → None ≡ slice_get (calls_to node past) n
earlier_none node n past marks c e h = sym (found_request (asked_at past) c.places.items (calls_to node past) n h.requests ∙ ap (asked_there (asked_at past)) e)

pub earlier_some : (node n place : ℕ) (past : List Record) (marks : List Mark) (c : CallsTo) (o : Option Request)
    → slice_get c.places.items n ≡ Some place → o ≡ asked_at past place → IsIndex node past marks c
    → o ≡ slice_get (calls_to node past) n
earlier_some node n place past marks c o e is h = is ∙ sym (found_request (asked_at past) c.places.items (calls_to node past) n h.requests ∙ ap (asked_there (asked_at past)) e)

-- ## One node's calls
pub drop_index : (node n : ℕ) (past : List Record) (marks : List Mark) (c : CallsTo) (s : BTreeSet ℕ) → Updates nat_cmp c.dropped s n true → IsIndex node past marks c
    → IsIndex node past (marks ++ mark node n kind.Dropped ∷ []) (record c { dropped = s })
unfolding same_kind
drop_index node n past marks c s u h =
    record {
      requests = h.requests;
      dropped = λ q.
          u.0 q
          ∙ ap (λ b. cond b true (contains nat_cmp c.dropped q)) (cmp_eq n q)
          ∙ ap (λ x. cond (n == q) true x) (h.dropped q)
          ∙ join_own (n == q) (is_marked marks node q kind.Dropped)
          ∙ sym (own_mark marks node n q kind.Dropped kind.Dropped);
      muted = λ q. h.muted q ∙ sym (own_mark marks node n q kind.Dropped kind.Muted ∙ join_other (n == q) (is_marked marks node q kind.Muted));
    }

pub mute_index : (node n : ℕ) (past : List Record) (marks : List Mark) (c : CallsTo) (s : BTreeSet ℕ) → Updates nat_cmp c.muted s n true → IsIndex node past marks c
    → IsIndex node past (marks ++ mark node n kind.Muted ∷ []) (record c { muted = s })
unfolding same_kind
mute_index node n past marks c s u h =
    record {
      requests = h.requests;
      dropped = λ q. h.dropped q ∙ sym (own_mark marks node n q kind.Muted kind.Dropped ∙ join_other (n == q) (is_marked marks node q kind.Dropped));
      muted = λ q.
          u.0 q
          ∙ ap (λ b. cond b true (contains nat_cmp c.muted q)) (cmp_eq n q)
          ∙ ap (λ x. cond (n == q) true x) (h.muted q)
          ∙ join_own (n == q) (is_marked marks node q kind.Muted)
          ∙ sym (own_mark marks node n q kind.Muted kind.Muted);
    }

one_call : (node : ℕ) (r : Request) (told : Told) → calls_to node (Call node r told ∷ []) ≡ r ∷ []
unfolding calls_to
one_call node r told = ap (λ b. cond b (r ∷ []) []) (same_test node node refl)

-- the requests of the calls to this node, where the record is longer by lines that are no calls to
-- it
longer : (k : ℕ) (past more : List Record) (is : List ℕ) → calls_to k more ≡ [] → map (asked_at past) is ≡ map (λ r. Some r) (calls_to k past)
    → map (asked_at (past ++ more)) is ≡ map (λ r. Some r) (calls_to k (past ++ more))
longer k past more is none h =
    places_more past more is (calls_to k past) h
    ∙ ap (λ rs. map (λ r. Some r) rs) (sym (calls_append k past more ∙ ap (λ xs. calls_to k past ++ xs) none ∙ append-nil (calls_to k past)))

-- one more call to it
called_places : (node : ℕ) (past : List Record) (told : Told) (r : Request) (is : List ℕ) → map (asked_at past) is ≡ map (λ r. Some r) (calls_to node past)
    → map (asked_at (past ++ Call node r told ∷ [])) (is ++ length past ∷ []) ≡ map (λ r. Some r) (calls_to node (past ++ Call node r told ∷ []))
called_places node past told r is h =
    let line : List Record = Call node r told ∷ [] in
    map-append (asked_at (past ++ line)) is (length past ∷ [])
    ∙ ap (λ xs. xs ++ asked_at (past ++ line) (length past) ∷ []) (places_more past line is (calls_to node past) h)
    ∙ ap (λ o. map (λ r. Some r) (calls_to node past) ++ asked_of o ∷ []) (behind past (Call node r told))
    ∙ sym (map-append (λ r. Some r) (calls_to node past) (r ∷ []))
    ∙ ap (λ rs. map (λ r. Some r) rs) (sym (calls_append node past line ∙ ap (λ xs. calls_to node past ++ xs) (one_call node r told)))

pub push_index : (node place : ℕ) (past : List Record) (marks : List Mark) (told : Told) (r : Request) (c d : CallsTo)
    → d.places.items ≡ c.places.items ++ place ∷ [] → d.dropped ≡ c.dropped → d.muted ≡ c.muted
    → place ≡ length past → IsIndex node past marks c → IsIndex node (past ++ Call node r told ∷ []) marks d
push_index node place past marks told r c d e f g is h =
    record {
      requests = ap (λ xs. map (asked_at (past ++ Call node r told ∷ [])) xs) (e ∙ ap (λ i. c.places.items ++ i ∷ []) is) ∙ called_places node past told r c.places.items h.requests;
      dropped = λ q. ap (λ s. contains nat_cmp s q) f ∙ h.dropped q;
      muted = λ q. ap (λ s. contains nat_cmp s q) g ∙ h.muted q;
    }

-- how the next call goes
goes : (node n : ℕ) (past : List Record) (marks : List Mark) (c : CallsTo) → n ≡ length c.places.items + 1 → IsIndex node past marks c → n ≡ next_number node past
goes node n past marks c e h =
    e ∙ ap (λ m. m + 1) (sym (length-map c.places.items (asked_at past)) ∙ ap (λ xs. length xs) h.requests ∙ length-map (calls_to node past) (λ r. Some r))

pub places_number : (node : ℕ) (past : List Record) (marks : List Mark) (c : CallsTo) → IsIndex node past marks c → length c.places.items + 1 ≡ next_number node past
places_number node past marks c h = goes node (length c.places.items + 1) past marks c refl h

abbrev by_tests : Bool → Bool → Delivery
by_tests a b = cond a NotDelivered (cond b ReplyLost Delivered)

pub goes_by : (a b : Bool) (node n : ℕ) (past : List Record) (marks : List Mark) (c : CallsTo) → n ≡ length c.places.items + 1 → contains nat_cmp c.dropped n ≡ a → contains nat_cmp c.muted n ≡ b
    → IsIndex node past marks c → by_tests a b ≡ delivery marks node (next_number node past)
unfolding delivery
goes_by a b node n past marks c e f g h =
    ap (λ x. by_tests x b) (sym f ∙ h.dropped n)
    ∙ ap (λ x. by_tests (is_marked marks node n kind.Dropped) x) (sym g ∙ h.muted n)
    ∙ ap (λ m. by_tests (is_marked marks node m kind.Dropped) (is_marked marks node m kind.Muted)) (goes node n past marks c e h)

-- a call that isn't delivered, whatever else is marked
pub goes_dropped : (node n : ℕ) (past : List Record) (marks : List Mark) (c : CallsTo) → n ≡ length c.places.items + 1 → contains nat_cmp c.dropped n ≡ true → IsIndex node past marks c
    → NotDelivered ≡ delivery marks node (next_number node past)
goes_dropped node n past marks c e f h = goes_by true (contains nat_cmp c.muted n) node n past marks c e f refl h

-- ## All nodes' calls
abbrev Keeps : List Record → List Mark → List Record → List Mark → ℕ → Type 0
Keeps past marks past2 marks2 i = (y : CallsTo) → IsIndex (i + 1) past marks y → IsIndex (i + 1) past2 marks2 y

set_indexes : (past past2 : List Record) (marks marks2 : List Mark) (calls : List CallsTo) (i : ℕ) (x : CallsTo) → i < length calls → AreIndexes past marks calls
    → IsIndex (i + 1) past2 marks2 x → ((j : ℕ) → (j ≡ i → ⊥) → Keeps past marks past2 marks2 j) → AreIndexes past2 marks2 (set calls i x)
set_indexes past past2 marks marks2 calls i x l all own others j d m =
    let n : length (set calls i x) ≡ length calls = length-set calls i x in
    elim (eqb_tells j i) [
      | inl same ↦
          let Q : CallsTo → Type 0 = λ y. IsIndex (j + 1) past2 marks2 y in
          let R : ℕ → Type 0 = λ k. IsIndex (k + 1) past2 marks2 x in
          subst Q (sym (ap (λ k. get_or (set calls i x) k d) same.1 ∙ get_or-set_same calls i x d l)) (subst R (sym same.1) own)
      | inr other ↦
          let Q : CallsTo → Type 0 = λ y. IsIndex (j + 1) past2 marks2 y in
          subst Q (sym (get_or-set_other calls i j x d other.1)) (others j other.1 (get_or calls j d) (all j d (omega (arith, m, n))))
    ]

same_indexes : (past past2 : List Record) (marks marks2 : List Mark) (calls : List CallsTo) → AreIndexes past marks calls
    → ((j : ℕ) → Keeps past marks past2 marks2 j) → AreIndexes past2 marks2 calls
same_indexes past past2 marks marks2 calls all keeps j d m = keeps j (get_or calls j d) (all j d m)

-- the calls to one node
pub at_place : (past : List Record) (marks : List Mark) (calls : List CallsTo) (node : ℕ) (x : CallsTo) → 1 ≤ node → node ≤ length calls → AreIndexes past marks calls
    → x ≡ get_or calls (node - 1) x → IsIndex node past marks x
at_place past marks calls node x low high all is =
    let e : (node - 1) + 1 ≡ node = omega (arith, low) in
    let P : CallsTo → Type 0 = λ y. IsIndex ((node - 1) + 1) past marks y in
    let Q : ℕ → Type 0 = λ k. IsIndex k past marks x in
    subst Q e (subst P (sym is) (all (node - 1) x (omega (arith, low, high))))

abbrev at_own : ℕ → List Record → List Mark → CallsTo → Type 0
at_own node past marks y = IsIndex ((node - 1) + 1) past marks y

own_at : (node : ℕ) (past : List Record) (marks : List Mark) (y : CallsTo) → 1 ≤ node → IsIndex node past marks y → at_own node past marks y
own_at node past marks y low h =
    let e : node ≡ (node - 1) + 1 = omega (arith, low) in
    let P : ℕ → Type 0 = λ k. IsIndex k past marks y in
    subst P e h

not_own : (j node : ℕ) → 1 ≤ node → (j ≡ node - 1 → ⊥) → node ≢ j + 1
not_own j node low n e = n (omega (arith, low, e))

other_call : (k node : ℕ) (r : Request) (told : Told) → node ≢ k → calls_to k (Call node r told ∷ []) ≡ []
unfolding calls_to
other_call k node r told n = ap (λ b. cond b (r ∷ []) []) (other_test node k n)

pub call_indexes : (past : List Record) (marks : List Mark) (calls : List CallsTo) (node place : ℕ) (r : Request) (told : Told) (x y : CallsTo)
    → 1 ≤ node → node ≤ length calls → AreIndexes past marks calls → x ≡ get_or calls (node - 1) x
    → ((k : ℕ) (ps : List Record) (ms : List Mark) (q : Request) (t : Told) → place ≡ length ps → IsIndex k ps ms x → IsIndex k (ps ++ Call k q t ∷ []) ms y) → place ≡ length past
    → AreIndexes (past ++ Call node r told ∷ []) marks (set calls (node - 1) y)
call_indexes past marks calls node place r told x y low high all is push there =
    set_indexes past (past ++ Call node r told ∷ []) marks marks calls (node - 1) y (omega (arith, low, high)) all
    (own_at node (past ++ Call node r told ∷ []) marks y low (push node past marks r told there (at_place past marks calls node x low high all is)))
    (λ j n z h. record {
      requests = longer (j + 1) past (Call node r told ∷ []) z.places.items (other_call (j + 1) node r told (not_own j node low n))
          h.requests;
      dropped = h.dropped;
      muted = h.muted;
    })

pub mark_indexes : (past : List Record) (marks : List Mark) (calls : List CallsTo) (node n : ℕ) (a : MarkKind) (x y : CallsTo) → 1 ≤ node → node ≤ length calls
    → AreIndexes past marks calls → x ≡ get_or calls (node - 1) x → ((k : ℕ) (ps : List Record) (ms : List Mark) → IsIndex k ps ms x → IsIndex k ps (ms ++ mark k n a ∷ []) y)
    → AreIndexes past (marks ++ mark node n a ∷ []) (set calls (node - 1) y)
mark_indexes past marks calls node n a x y low high all is put =
    set_indexes past past marks (marks ++ mark node n a ∷ []) calls (node - 1) y (omega (arith, low, high)) all
    (own_at node past (marks ++ mark node n a ∷ []) y low (put node past marks (at_place past marks calls node x low high all is)))
    (λ j m z h. record {
      requests = h.requests;
      dropped = λ q. h.dropped q ∙ sym (other_mark marks (j + 1) node n q a kind.Dropped (not_own j node low m));
      muted = λ q. h.muted q ∙ sym (other_mark marks (j + 1) node n q a kind.Muted (not_own j node low m));
    })

-- a result is no call
no_result : (k : ℕ) (text : List ℕ) → calls_to k (Outcome text ∷ []) ≡ []
unfolding calls_to
no_result k text = refl

pub say_indexes : (past : List Record) (marks : List Mark) (calls : List CallsTo) (text : List ℕ) → AreIndexes past marks calls → AreIndexes (past ++ Outcome text ∷ []) marks calls
say_indexes past marks calls text all =
    same_indexes past (past ++ Outcome text ∷ []) marks marks calls all
    (λ j y h. record { requests = longer (j + 1) past (Outcome text ∷ []) y.places.items (no_result (j + 1) text) h.requests; dropped = h.dropped; muted = h.muted })

-- nor is what the operator does
no_operation : (k node : ℕ) (ask : NodeAsk) (done : Bool) → calls_to k (Operator node ask done ∷ []) ≡ []
unfolding calls_to
no_operation k node ask done = refl

pub operate_indexes : (past : List Record) (marks : List Mark) (calls : List CallsTo) (node : ℕ) (ask : NodeAsk) (done : Bool)
    → AreIndexes past marks calls → AreIndexes (past ++ Operator node ask done ∷ []) marks calls
operate_indexes past marks calls node ask done all =
    same_indexes past (past ++ Operator node ask done ∷ []) marks marks calls all
    (λ j y h. record { requests = longer (j + 1) past (Operator node ask done ∷ []) y.places.items (no_operation (j + 1) node ask done) h.requests; dropped = h.dropped; muted = h.muted })

-- a copy is no call, and its mark loses none
no_copy : (k node : ℕ) (r : Request) → calls_to k (Late node r ∷ []) ≡ []
unfolding calls_to
no_copy k node r = refl

late_mark : (marks : List Mark) (k node n q : ℕ) → (is_marked (marks ++ mark node n kind.Late ∷ []) k q kind.Dropped ≡ is_marked marks k q kind.Dropped)
    × (is_marked (marks ++ mark node n kind.Late ∷ []) k q kind.Muted ≡ is_marked marks k q kind.Muted)
unfolding same_kind
late_mark marks k node n q = (
  marked_more marks k node n q kind.Late kind.Dropped ∙ none (node == k) (n == q) (is_marked marks k q kind.Dropped),
  marked_more marks k node n q kind.Late kind.Muted ∙ none (node == k) (n == q) (is_marked marks k q kind.Muted),
)
  where
    none : (a b x : Bool) → (x || ((a && (b && false)) || false)) ≡ x
    none true b x = join_other b x
    none false b x = join_none (b && false) x

pub copy_indexes : (past : List Record) (marks : List Mark) (calls : List CallsTo) (node n : ℕ) (r : Request) → AreIndexes past marks calls
    → AreIndexes (past ++ Late node r ∷ []) (marks ++ mark node n kind.Late ∷ []) calls
copy_indexes past marks calls node n r all =
    same_indexes past (past ++ Late node r ∷ []) marks (marks ++ mark node n kind.Late ∷ []) calls all
    (λ j y h. record {
      requests = longer (j + 1) past (Late node r ∷ []) y.places.items (no_copy (j + 1) node r) h.requests;
      dropped = λ q. h.dropped q ∙ sym (late_mark marks (j + 1) node n q).0;
      muted = λ q. h.muted q ∙ sym (late_mark marks (j + 1) node n q).1;
    })

-- ## No calls
pub record AreNone (calls : List CallsTo) (n : ℕ) : Type 0 where
  pub count : length calls ≡ n
  pub each : (i : ℕ) (d : CallsTo) → i < n → IsIndex (i + 1) [] [] (get_or calls i d)

pub more_none : (calls : List CallsTo) (n : ℕ) (x : CallsTo) → AreNone calls n → ((node : ℕ) → IsIndex node [] [] x) → AreNone (calls ++ x ∷ []) (n + 1)
more_none calls n x h new =
    let e : length calls ≡ n = h.count in
    record {
      count = length-append calls (x ∷ []) ∙ ap (λ m. m + 1) e;
      each = λ i d l. elim (eqb_tells i n) [
        | inl same ↦
            let P : CallsTo → Type 0 = λ y. IsIndex (i + 1) [] [] y in
            subst P (sym (ap (λ k. get_or (calls ++ x ∷ []) k d) (same.1 ∙ sym e) ∙ get_or-append_seam calls x [] d)) (new (i + 1))
        | inr other ↦
            let m : i < n = lt_of_le-ne (omega (arith, l)) other.1 in
            let P : CallsTo → Type 0 = λ y. IsIndex (i + 1) [] [] y in
            subst P (sym (get_or_append_left calls (x ∷ []) d i (omega (arith, m, e)))) (h.each i d m)
      ];
    }
