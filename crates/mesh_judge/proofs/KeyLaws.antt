-- A request to a node is read back from its key; and how often lists were counted after one more.
use Rattle.std.proofs.Common.{◌≡◌, ℕ, zero, suc, ◌+◌, ◌-◌, ◌<◌, ◌==◌, ◌⊎◌, inl, inr, List, [], ◌∷◌, ◌++◌, Bool, true, false, cond, Option, Some, refl, sym, ap, ◌∙◌, arith, get_or, drop, length, Decides}
use Rattle.std.specs.Prelude.{Vec, ◌&&◌, if◌then◌else◌, unwrap_or}
use Rattle.std.specs.Ordering.{is_eq, nat_cmp, match_ordering}
use Rattle.std.specs.declared.cmp.Ordering.{Ordering}
use Rattle.std.specs.declared.cmp.Ordering.TheVariants.{Less, Equal, Greater}
use Rattle.std.specs.Cmp.Lexicographic.{slice_cmp}
use Rattle.std.specs.BTreeMap.{insert_entry}
use Rattle.std.specs.Map.{lookup}
use Rattle.std.specs.declared.alloc.Global.{Global}
use Rattle.std.specs.Str.{bytes_eq}
use Rattle.std.proofs.lemmas.Bool.{true≢false, and_parts, and_from, eqb-true, eq-eqb}
use Rattle.std.proofs.lemmas.Bool.Decides.{same_from_decides}
use Rattle.std.proofs.lemmas.Slice.Eq.{bytes_eq-Decides}
use Rattle.std.proofs.lemmas.List.{nil_from_length}
use Rattle.std.proofs.lemmas.Map.Text.{is_eq-slice_cmp}
use Rattle.journal_core.specs.Views.{HeadView, BatchView}
use Rattle.journal_core.specs.declared.request.Request.{Request}
use Rattle.journal_core.specs.declared.request.Request.TheVariants as request
use Rattle.journal_history.specs.Same.{same_request}
use Rattle.mesh.proofs.CopyLaws.{one_if}
use Rattle.mesh_judge.specs.declared.counts.Counts.{Counts}
use Rattle.mesh_judge.specs.Keys.{body_key, bodies_key, request_key, ask_key, call_key, is_ask, count_of}
use Rattle.mesh_judge.proofs.LineLaws.{requests_decided}

-- ## Reading back
abbrev begin_with : ℕ → List (List ℕ) → List (List ℕ)
begin_with byte [] = []
begin_with byte (body ∷ bodies) = (byte ∷ body) ∷ bodies

abbrev bodies_back : List ℕ → List (List ℕ)
bodies_back [] = []
bodies_back (zero ∷ xs) = [] ∷ bodies_back xs
bodies_back (suc byte ∷ xs) = begin_with byte (bodies_back xs)

body_read : (body xs : List ℕ) → bodies_back (body_key body ++ xs) ≡ body ∷ bodies_back xs
body_read [] xs = refl
body_read (byte ∷ bytes) xs = ap (begin_with byte) (body_read bytes xs)

bodies_read : (bodies : List (List ℕ)) → bodies_back (bodies_key bodies) ≡ bodies
bodies_read [] = refl
bodies_read (body ∷ bodies) = body_read body (bodies_key bodies) ∙ ap (λ (l : List (List ℕ)). body ∷ l) (bodies_read bodies)

abbrev at : List ℕ → ℕ → ℕ
at xs i = get_or xs i 0

abbrev head_back : List ℕ → HeadView
head_back xs = record { epoch = at xs 1; serial = at xs 2; committed = at xs 3 }

abbrev batch_back : ℕ → List ℕ → BatchView
batch_back i xs = record { first = at xs i; bodies = bodies_back (drop (i + 1) xs) }

abbrev request_back : List ℕ → Request
request_back xs =
    if at xs 0 == 0 then request.State
    else if at xs 0 == 1 then request.NewEpoch (at xs 1)
    else if at xs 0 == 2 then request.Start (head_back xs) (at xs 4)
    else if at xs 0 == 3 then request.Journal (head_back xs) (at xs 4) (batch_back 5 xs)
    else if at xs 0 == 4 then request.Finalize (head_back xs) (at xs 4) (at xs 5)
    else if at xs 0 == 5 then request.Prepare (head_back xs) (at xs 4)
    else if at xs 0 == 6 then request.Fetch (head_back xs) (at xs 4) (at xs 5)
    else if at xs 0 == 7 then request.Accept (head_back xs) (batch_back 4 xs)
    else if at xs 0 == 8 then request.Purge (head_back xs) (at xs 4)
    else if at xs 0 == 9 then request.Read (at xs 1)
    else request.Manifest

request_read : (r : Request) → request_back (request_key r) ≡ r
request_read request.State = refl
request_read (request.NewEpoch epoch) = refl
request_read (request.Start head start) = refl
request_read (request.Journal head start batch) = ap (λ bodies. request.Journal head start (record { first = batch.first; bodies = bodies })) (bodies_read batch.bodies)
request_read (request.Finalize head start end) = refl
request_read (request.Prepare head start) = refl
request_read (request.Fetch head start from) = refl
request_read (request.Accept head batch) = ap (λ bodies. request.Accept head (record { first = batch.first; bodies = bodies })) (bodies_read batch.bodies)
request_read (request.Purge head min) = refl
request_read (request.Read from) = refl
request_read request.Manifest = refl

-- so equal keys are of one node and one request
key_is : (k n : ℕ) (r q : Request) → ask_key k r ≡ ask_key n q → (k ≡ n) × (r ≡ q)
key_is k n r q e = (ap (λ xs. at xs 0) e, sym (request_read r) ∙ ap (λ xs. request_back (drop 1 xs)) e ∙ request_read q)

pub ask_decided : (k n : ℕ) (r q : Request) → Decides (is_ask k r n q) ((k ≡ n) × (r ≡ q))
ask_decided k n r q = (
  λ e. let p = and_parts (k == n) (same_request r q) e in (eqb-true k n p.0, (requests_decided r q).0 p.1),
  λ h. and_from (k == n) (same_request r q) (eq-eqb k n h.0) ((requests_decided r q).1 h.1),
)

keys_decided : (k n : ℕ) (r q : Request) → Decides (bytes_eq (ask_key k r) (ask_key n q)) ((k ≡ n) × (r ≡ q))
keys_decided k n r q =
    let d = bytes_eq-Decides (ask_key k r) (ask_key n q) in
    (λ e. key_is k n r q (d.0 e), λ h. d.1 (ap (λ x. ask_key x r) h.0 ∙ ap (ask_key n) h.1))

-- both ask the same, whichever comes first
pub ask_turned : (k n : ℕ) (r q : Request) → is_ask k r n q ≡ is_ask n q k r
ask_turned k n r q =
    let a = ask_decided k n r q in let b = ask_decided n k q r in
    same_from_decides (is_ask k r n q) (is_ask n q k r) a (λ e. (let h = b.0 e in (sym h.0, sym h.1)), λ h. b.1 (sym h.0, sym h.1))

pub ask_tested : (k n : ℕ) (r q : Request) → bytes_eq (ask_key k r) (ask_key n q) ≡ is_ask k r n q
ask_tested k n r q = same_from_decides (bytes_eq (ask_key k r) (ask_key n q)) (is_ask k r n q) (keys_decided k n r q) (ask_decided k n r q)

-- a call is read back from its key
call_is : (k n i j : ℕ) → call_key k i ≡ call_key n j → (k ≡ n) × (i ≡ j)
call_is k n i j e = (ap (λ xs. at xs 0) e, ap (λ xs. at xs 1) e)

pub call_tested : (k n i j : ℕ) → bytes_eq (call_key k i) (call_key n j) ≡ ((n == k) && (j == i))
call_tested k n i j =
    let d = bytes_eq-Decides (call_key k i) (call_key n j) in
    same_from_decides (bytes_eq (call_key k i) (call_key n j)) ((n == k) && (j == i)) (λ e. call_is k n i j (d.0 e), λ h. d.1 (ap (λ x. call_key x i) h.0 ∙ ap (λ x. call_key n x) h.1))
    (λ e. (let p = and_parts (n == k) (j == i) e in (sym (eqb-true n k p.0), sym (eqb-true j i p.1))), λ h. and_from (n == k) (j == i) (eq-eqb n k (sym h.0)) (eq-eqb j i (sym h.1)))

-- ## One list is counted anew
swapped : {X : Type 0} (a b : Bool) (u v o : Option X) → (b ≡ true → a ≡ true → ⊥) → cond a u (cond b v o) ≡ cond b v (cond a u o)
swapped true true u v o apart = absurd (apart refl refl)
swapped true false u v o apart = refl
swapped false true u v o apart = refl
swapped false false u v o apart = refl

replaced : {X : Type 0} (a b : Bool) (u v o : Option X) → a ≡ b → cond a v o ≡ cond b v (cond a u o)
replaced true true u v o e = refl
replaced true false u v o e = absurd (true≢false e)
replaced false true u v o e = absurd (true≢false (sym e))
replaced false false u v o e = refl

lookup_more : {K X : Type 0} (cmp : K → K → Ordering) (test : K → Bool) (k : K) (v : X) → ((x : K) → cmp k x ≡ Equal → test x ≡ test k)
    → ((x : K) → test k ≡ true → test x ≡ true → is_eq (cmp k x) ≡ true) → (es : List (K × X)) → lookup test (insert_entry cmp es k v) ≡ cond (test k) (Some v) (lookup test es)
lookup_more cmp test k v alike equal [] = refl
lookup_more {K} {X} cmp test k v alike equal (x ∷ xs) = by (cmp k x.0) refl (lookup_more cmp test k v alike equal xs)
  where
    by : (o : Ordering) → cmp k x.0 ≡ o → lookup test (insert_entry cmp xs k v) ≡ cond (test k) (Some v) (lookup test xs)
        → lookup test (match_ordering o ((k, v) ∷ x ∷ xs) ((x.0, v) ∷ xs) (x ∷ insert_entry cmp xs k v)) ≡ cond (test k) (Some v) (cond (test x.0) (Some x.1) (lookup test xs))
    by Less e h = refl
    by Equal e h = replaced (test x.0) (test k) (Some x.1) (Some v) (lookup test xs) (alike x.0 e)
    by Greater e h =
        ap (λ (o : Option X). cond (test x.0) (Some x.1) o) h
        ∙ swapped (test x.0) (test k) (Some x.1) (Some v) (lookup test xs) (λ s t. true≢false (sym (equal x.0 s t) ∙ ap is_eq e))

abbrev key_cmp : Vec ℕ Global → Vec ℕ Global → Ordering
key_cmp x y = slice_cmp nat_cmp x.items y.items

abbrev finds : List ℕ → Vec ℕ Global → Bool
finds q x = is_eq (slice_cmp nat_cmp q x.items)

found_or : (a b : Bool) (n : ℕ) (o : Option ℕ) → a ≡ b → unwrap_or (cond a (Some n) o) 0 ≡ (if b then n else unwrap_or o 0)
found_or true true n o e = refl
found_or true false n o e = absurd (true≢false e)
found_or false true n o e = absurd (true≢false (sym e))
found_or false false n o e = refl

pub count_set : (old new : Counts) (key : Vec ℕ Global) (n : ℕ) → new.counts.entries ≡ insert_entry key_cmp old.counts.entries key n
    → (q : List ℕ) → count_of new q ≡ (if bytes_eq q key.items then n else count_of old q)
count_set old new key n grown q =
    ap (λ (es : List (Vec ℕ Global × ℕ)). unwrap_or (lookup (finds q) es) 0) grown ∙ ap (λ (o : Option ℕ). unwrap_or o 0) (lookup_more key_cmp (finds q) key n alike equal old.counts.entries)
    ∙ found_or (finds q key) (bytes_eq q key.items) n (lookup (finds q) old.counts.entries) (is_eq-slice_cmp q key.items)
  where
    same_key : (x y : List ℕ) → is_eq (slice_cmp nat_cmp x y) ≡ true → x ≡ y
    same_key x y e = (bytes_eq-Decides x y).0 (sym (is_eq-slice_cmp x y) ∙ e)

    alike : (x : Vec ℕ Global) → key_cmp key x ≡ Equal → finds q x ≡ finds q key
    alike x e = ap (λ (l : List ℕ). is_eq (slice_cmp nat_cmp q l)) (sym (same_key key.items x.items (ap is_eq e)))

    equal : (x : Vec ℕ Global) → finds q key ≡ true → finds q x ≡ true → is_eq (key_cmp key x) ≡ true
    equal x s t = is_eq-slice_cmp key.items x.items ∙ (bytes_eq-Decides key.items x.items).1 (sym (same_key q key.items s) ∙ same_key q x.items t)

-- ## One request is counted anew
at_key : (old new : Counts) (key : List ℕ) (node n : ℕ) (p : Request) → key ≡ ask_key node p → ((q : List ℕ) → count_of new q ≡ cond (bytes_eq q key) n (count_of old q)) → (k : ℕ) (r : Request)
    → ((is_ask k r node p ≡ true) × (count_of new (ask_key k r) ≡ n) × (count_of old (ask_key k r) ≡ count_of old (ask_key node p)))
    ⊎ ((is_ask k r node p ≡ false) × (count_of new (ask_key k r) ≡ count_of old (ask_key k r)))
at_key old new key node n p is set k r = by (is_ask k r node p) refl
  where
    test : bytes_eq (ask_key k r) key ≡ is_ask k r node p
    test = ap (λ (x : List ℕ). bytes_eq (ask_key k r) x) is ∙ ask_tested k node r p

    by : (b : Bool) → is_ask k r node p ≡ b
        → ((is_ask k r node p ≡ true) × (count_of new (ask_key k r) ≡ n) × (count_of old (ask_key k r) ≡ count_of old (ask_key node p)))
        ⊎ ((is_ask k r node p ≡ false) × (count_of new (ask_key k r) ≡ count_of old (ask_key k r)))
    by true e =
        let same = (ask_decided k node r p).0 e in
        inl (
          e,
          set (ask_key k r) ∙ ap (λ (b : Bool). cond b n (count_of old (ask_key k r))) (test ∙ e),
          ap (λ (i : ℕ). count_of old (ask_key i r)) same.0 ∙ ap (λ (x : Request). count_of old (ask_key node x)) same.1,
        )
    by false e = inr (e, set (ask_key k r) ∙ ap (λ (b : Bool). cond b n (count_of old (ask_key k r))) (test ∙ e))

-- nothing was counted in a map without entries
pub none_counted : (counts : Counts) → length counts.counts.entries ≡ 0 → (key : List ℕ) → count_of counts key ≡ 0
none_counted counts e key = ap (λ (es : List (Vec ℕ Global × ℕ)). unwrap_or (lookup (finds key) es) 0) (nil_from_length counts.counts.entries e)

-- no more copies are due
pub none_added : (due : Counts) (node count : ℕ) (p : Request) → count ≡ 0 → (k : ℕ) (r : Request) → count_of due (ask_key k r) ≡ count_of due (ask_key k r) + cond (is_ask k r node p) count 0
none_added due node count p e k r = by (is_ask k r node p)
  where
    by : (b : Bool) → count_of due (ask_key k r) ≡ count_of due (ask_key k r) + cond b count 0
    by true = omega (arith, e)
    by false = omega arith

pub due_added : (old new : Counts) (key : List ℕ) (node before count : ℕ) (p : Request) → key ≡ ask_key node p → before ≡ count_of old key
    → ((q : List ℕ) → count_of new q ≡ cond (bytes_eq q key) (before + count) (count_of old q))
    → (k : ℕ) (r : Request) → count_of new (ask_key k r) ≡ count_of old (ask_key k r) + cond (is_ask k r node p) count 0
due_added old new key node before count p is was set k r = by (at_key old new key node (before + count) p is set k r)
  where
    had : before ≡ count_of old (ask_key node p)
    had = was ∙ ap (count_of old) is

    by : ((is_ask k r node p ≡ true) × (count_of new (ask_key k r) ≡ before + count) × (count_of old (ask_key k r) ≡ count_of old (ask_key node p)))
        ⊎ ((is_ask k r node p ≡ false) × (count_of new (ask_key k r) ≡ count_of old (ask_key k r)))
        → count_of new (ask_key k r) ≡ count_of old (ask_key k r) + cond (is_ask k r node p) count 0
    by (inl x) = let c : cond (is_ask k r node p) count 0 ≡ count = ap (λ (b : Bool). cond b count 0) x.0 in omega (arith, c, x.1, x.2, had)
    by (inr x) = let c : cond (is_ask k r node p) count 0 ≡ 0 = ap (λ (b : Bool). cond b count 0) x.0 in omega (arith, c, x.1)

pub due_taken : (old new : Counts) (key : List ℕ) (node before : ℕ) (p : Request) → key ≡ ask_key node p → before ≡ count_of old key → 0 < count_of old (ask_key node p)
    → ((q : List ℕ) → count_of new q ≡ cond (bytes_eq q key) (before - 1) (count_of old q))
    → (k : ℕ) (r : Request) → count_of new (ask_key k r) + cond (is_ask k r node p) 1 0 ≡ count_of old (ask_key k r)
due_taken old new key node before p is was some set k r = by (at_key old new key node (before - 1) p is set k r)
  where
    had : before ≡ count_of old (ask_key node p)
    had = was ∙ ap (count_of old) is

    by : ((is_ask k r node p ≡ true) × (count_of new (ask_key k r) ≡ before - 1) × (count_of old (ask_key k r) ≡ count_of old (ask_key node p)))
        ⊎ ((is_ask k r node p ≡ false) × (count_of new (ask_key k r) ≡ count_of old (ask_key k r)))
        → count_of new (ask_key k r) + cond (is_ask k r node p) 1 0 ≡ count_of old (ask_key k r)
    by (inl x) = let c : cond (is_ask k r node p) 1 0 ≡ 1 = ap one_if x.0 in omega (arith, c, x.1, x.2, had, some)
    by (inr x) = let c : cond (is_ask k r node p) 1 0 ≡ 0 = ap one_if x.0 in omega (arith, c, x.1)
