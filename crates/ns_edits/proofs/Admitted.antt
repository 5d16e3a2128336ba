-- What an admitted edit may rely on: the tests that it passed, one by one.
use Rattle.std.proofs.Common.{◌≡◌, ℕ, ◌≤◌, List, [], ◌∷◌, ◌++◌, Bool, true, false, cond, refl, sym, ap, ◌∙◌, append_assoc, Option, Some, None, IsSome, arith, ◌==◌}
use Rattle.std.specs.Prelude.{not, ◌||◌, is_some, nat_lt}
use Rattle.std.specs.List.{AllByRecursion}
use Rattle.std.proofs.lemmas.Bool.Decides.{nat_tests}
use Rattle.std.proofs.lemmas.List.{append-nil}
use Rattle.edit_ops.specs.declared.call.Call.{Call}
use Rattle.edit_ops.specs.declared.op.Op.{Op}
use Rattle.edit_ops.specs.Fields.{IsGood}
use Rattle.edit_ops.specs.Records.{EditView, fields_of, call_fields}
use Rattle.ns_tree.specs.declared.inode.Inode.{Inode}
use Rattle.ns_tree.specs.declared.inode.Row.{Row}
use Rattle.ns_tree.specs.Path.{stem, path_of_stem, has_slash, before_last_slash, parent_of, is_path, is_root}
use Rattle.ns_tree.specs.Space.{Space, is_dir, is_dir_there, find, txid_of}
use Rattle.ns_tree.proofs.Parents.{Below, below_root}
use Rattle.ns_edits.specs.declared.refusal.AdmitRefusal.{AdmitRefusal}
use Rattle.ns_edits.specs.declared.refusal.AdmitRefusal.TheVariants.{NoParent, Exists, Missing, NotDirectory, Root, BadName, BadNumber, RepeatedCall}
use Rattle.ns_edits.specs.Admit.{Refusal, first, refused_if, bad_path, bad_permission, bad_replication, bad_block_size, ancestor}
use Rattle.ns_edits.specs.Admit.{ancestors, finds, has_parent, refused_there, admit_op, repeated_at, repeated, refused_first, admit_of}
use Rattle.std.proofs.lemmas.Bool.{or_parts}

-- ## Tests that were passed
pub none≢some : {B : Type 0} (r : AdmitRefusal) → ◌≡◌ {A = Refusal} None (Some r) → B
none≢some r e = absurd (cc e)

abbrev pub AllPassed : List Refusal → Type 0
AllPassed [] = Unit {0}
AllPassed (t ∷ ts) = (t ≡ None) × AllPassed ts

pub all_passed : (ts : List Refusal) → first ts ≡ None → AllPassed ts
all_passed [] e = tt
all_passed (None ∷ ts) e = (refl, all_passed ts e)
all_passed (Some r ∷ ts) e = none≢some r (sym e)

pub not_refused : (b : Bool) (r : AdmitRefusal) → refused_if b r ≡ None → b ≡ false
not_refused true r e = none≢some r (sym e)
not_refused false r e = refl

pub is_so : (b : Bool) (r : AdmitRefusal) → refused_if (not b) r ≡ None → b ≡ true
is_so true r e = refl
is_so false r e = none≢some r (sym e)

pub not_there : (r : AdmitRefusal) (o : Option Inode) → refused_there r o ≡ None → o ≡ None
not_there r None e = refl
not_there r (Some i) e = none≢some r (sym e)

pub permission_fits : (n : ℕ) → bad_permission n ≡ None → n ≤ 1023
permission_fits n e = let t : nat_lt 1023 n ≡ false = not_refused (nat_lt 1023 n) BadNumber e in grind (arith, nat_tests, t)

pub replication_fits : (n : ℕ) → bad_replication n ≡ None → (1 ≤ n) × (n ≤ 512)
replication_fits n e =
    let t : (nat_lt n 1 ≡ false) × (nat_lt 512 n ≡ false) = or_parts (nat_lt n 1) (nat_lt 512 n) (not_refused (nat_lt n 1 || nat_lt 512 n) BadNumber e) in
    (let low : nat_lt n 1 ≡ false = t.0 in grind (arith, nat_tests, low), let high : nat_lt 512 n ≡ false = t.1 in grind (arith, nat_tests, high))

pub block_fits : (n : ℕ) → bad_block_size n ≡ None → (1 ≤ n) × (n ≤ 1099511627776)
block_fits n e =
    let t : (nat_lt n 1 ≡ false) × (nat_lt 1099511627776 n ≡ false) = or_parts (nat_lt n 1) (nat_lt 1099511627776 n) (not_refused (nat_lt n 1 || nat_lt 1099511627776 n) BadNumber e) in
    (let low : nat_lt n 1 ≡ false = t.0 in grind (arith, nat_tests, low), let high : nat_lt 1099511627776 n ≡ false = t.1 in grind (arith, nat_tests, high))

-- a walk over the ancestors that met nothing: the parent is a directory
pub ancestor_is : (r : AdmitRefusal) (o : Option Inode) → ancestor r o ≡ None → is_dir_there o ≡ true
ancestor_is r None e = none≢some r (sym e)
ancestor_is r (Some i) e = is_so (is_dir i) NotDirectory e

pub parent_met : (r : AdmitRefusal) (xs : List Row) (so_far rest : List ℕ) → ancestors r xs so_far rest ≡ None → has_slash rest ≡ true
    → is_dir_there (find (path_of_stem (so_far ++ before_last_slash rest)) xs) ≡ true
parent_met r xs so_far [] e s = absurd (cc s)
parent_met r xs so_far (b ∷ bs) e s = by (b == 47) refl e (has_slash bs) refl (λ f g. parent_met r xs (so_far ++ b ∷ []) bs f g)
  where
    Goal : Bool → Type 0
    Goal c = is_dir_there (find (path_of_stem (so_far ++ cond c (b ∷ before_last_slash bs) [])) xs) ≡ true

    deeper : (ancestors r xs (so_far ++ b ∷ []) bs ≡ None → has_slash bs ≡ true
        → is_dir_there (find (path_of_stem ((so_far ++ b ∷ []) ++ before_last_slash bs)) xs) ≡ true) → ancestors r xs (so_far ++ b ∷ []) bs ≡ None
        → has_slash bs ≡ true → Goal true
    deeper go f g = ap (λ (l : List ℕ). is_dir_there (find (path_of_stem l) xs)) (sym (append_assoc so_far (b ∷ []) (before_last_slash bs))) ∙ go f g

    by : (z : Bool) → (b == 47) ≡ z → cond z (first (ancestor r (find (path_of_stem so_far) xs) ∷ ancestors r xs (so_far ++ b ∷ []) bs ∷ []))
        (ancestors r xs (so_far ++ b ∷ []) bs) ≡ None → (c : Bool) → has_slash bs ≡ c
        → (ancestors r xs (so_far ++ b ∷ []) bs ≡ None → has_slash bs ≡ true → is_dir_there (find (path_of_stem ((so_far ++ b ∷ []) ++ before_last_slash bs)) xs) ≡ true) → Goal c
    by true is e true g go = let p : AllPassed (ancestor r (find (path_of_stem so_far) xs) ∷ ancestors r xs (so_far ++ b ∷ []) bs ∷ []) =
        all_passed (ancestor r (find (path_of_stem so_far) xs) ∷ ancestors r xs (so_far ++ b ∷ []) bs ∷ []) e in deeper go p.1.0 g
    by true is e false g go = let p : AllPassed (ancestor r (find (path_of_stem so_far) xs) ∷ ancestors r xs (so_far ++ b ∷ []) bs ∷ []) =
        all_passed (ancestor r (find (path_of_stem so_far) xs) ∷ ancestors r xs (so_far ++ b ∷ []) bs ∷ []) e in ap
        (λ (l : List ℕ). is_dir_there (find (path_of_stem l) xs)) (append-nil so_far) ∙ ancestor_is r (find (path_of_stem so_far) xs) p.0
    by false is e true g go = deeper go e g
    by false is e false g go = absurd (cc (sym s ∙ (ap (λ (z : Bool). z || has_slash bs) is ∙ g)))

pub has_parent_is : (p : List ℕ) (xs : List Row) → is_path p ≡ true → has_parent p xs ≡ None → (is_root p ≡ false) × (is_dir_there (find (parent_of p) xs) ≡ true)
has_parent_is p xs path e =
    let t : AllPassed (refused_if (is_root p) Root ∷ ancestors NoParent xs [] (stem p) ∷ []) = all_passed (refused_if (is_root p) Root ∷ ancestors NoParent xs [] (stem p) ∷ []) e in
    let not_root : is_root p ≡ false = not_refused (is_root p) Root t.0 in
    let b : Below p = below_root p path not_root in
    let walked : ancestors NoParent xs [] p ≡ None = ap (ancestors NoParent xs []) (sym (ap stem b.is ∙ sym b.is)) ∙ t.1.0 in
    (not_root, parent_met NoParent xs [] p walked b.slash)

-- ## What is there, and where something can stand
pub is_there : (p : List ℕ) (xs : List Row) → finds p xs ≡ None → IsSome (find p xs)
is_there p xs e =
    let t : AllPassed (ancestors Missing xs [] (stem p) ∷ refused_if (not (is_some (find p xs))) Missing ∷ []) =
    all_passed (ancestors Missing xs [] (stem p) ∷ refused_if (not (is_some (find p xs))) Missing ∷ []) e in
    is_so (is_some (find p xs)) Missing t.1.0

-- a path at which nothing stands, under a directory
pub record CanStand (p : List ℕ) (xs : List Row) : Type 0 where
  pub path : is_path p ≡ true
  pub below : is_root p ≡ false
  pub parent : is_dir_there (find (parent_of p) xs) ≡ true
  pub absent : find p xs ≡ None

pub can_stand : (p : List ℕ) (xs : List Row) → bad_path p ≡ None → has_parent p xs ≡ None → refused_there Exists (find p xs) ≡ None → CanStand p xs
can_stand p xs path parent absent =
    let is : is_path p ≡ true = is_so (is_path p) BadName path in
    let h : (is_root p ≡ false) × (is_dir_there (find (parent_of p) xs) ≡ true) = has_parent_is p xs is parent in
    record { path = is; below = h.0; parent = h.1; absent = not_there Exists (find p xs) absent }

-- ## Fields of edits
pub good_by : (call : Option Call) (op : Op) → AllByRecursion IsGood (call_fields call ++ fields_of op) → AllByRecursion IsGood (fields_of op)
good_by None op g = g
good_by (Some c) op g = g.1.1

-- ## The edit, and its call
pub op_admitted : (s : Space) (e : EditView) → admit_of s e ≡ None → admit_op e.op s.pairs ≡ None
unfolding admit_of
op_admitted s e a = by (repeated e.call s.calls) a
  where
    by : (r : Refusal) → refused_first r (admit_op e.op s.pairs) ≡ None → admit_op e.op s.pairs ≡ None
    by None a = a
    by (Some x) a = none≢some x (sym a)

first_none : (a b : Refusal) → refused_first a b ≡ None → a ≡ None
first_none None b e = refl
first_none (Some r) b e = e

at_none : (o : Option ℕ) → repeated_at o ≡ None → o ≡ None
at_none None e = refl
at_none (Some t) e = none≢some (RepeatedCall t) (sym e)

-- its call isn't in the retry list
pub call_is_new : (s : Space) (x : EditView) (call : Call) → admit_of s x ≡ None → x.call ≡ Some call → txid_of call s.calls ≡ None
unfolding admit_of
call_is_new s x call a is =
    at_none (txid_of call s.calls)
    (ap (λ (o : Option Call). repeated o s.calls) (sym is) ∙ first_none (repeated x.call s.calls) (admit_op x.op s.pairs) a)
