-- What the code of the readers needs: lists of values, keys in their order, and the front of an
-- object.
use Rattle.std.proofs.Common.{Bor, ◌≡◌, ◌≢◌, ℕ, zero, suc, ◌+◌, ◌^◌, ◌<◌, ◌≤◌, Bool, true, false, List, [], ◌∷◌, ◌++◌, length, map, drop}
use Rattle.std.proofs.Common.{drop-cons, get_or, cond, Option, Some, None, Result, Ok, Err, codes, refl, sym, ap, subst, ◌∙◌, arith, append_assoc}
use Rattle.std.proofs.Common.{append-nil}
use Rattle.std.specs.Prelude.{option_map, option_and_then, ok_or}
use Rattle.std.proofs.lemmas.Bool.{le-leb, lt-leb}
use Rattle.serde_json.specs.Data.{Data, string}
use Rattle.serde_json.specs.Events.{items_len, members_len}
use Rattle.serde_json.specs.Find.{get, as_array, as_object}
use Rattle.serde_json.specs.View.{view, items_view, members_view}
use Rattle.serde_json.proofs.Views.{Entry, items_len-items_view, members_len-members_view}
use Rattle.serde_json.specs.declared.value.Value.{Value}
use Rattle.edit_ops.specs.declared.kind.OpKind.{OpKind}
use Rattle.edit_ops.specs.Kinds.{is_mark}
use Rattle.edit_ops.specs.Grammar.{MayCall}
use Rattle.list_back.specs.Members.{IsOrdered}
use Rattle.edit_ops.specs.declared.call.Call.{Call}
use Rattle.edit_ops.specs.Fields.{client, call_number}
use Rattle.edit_ops.specs.declared.op.Op.{Op}
use Rattle.edit_ops.specs.Records.{EditView, kind_of, fields_of, call_fields}
use Rattle.edit_ops.specs.Sources.{fields_read}
use Rattle.edit_codec.specs.OpRead.{op_read}
use Rattle.edit_ops.specs.Keys.{keys, call_keys, op_name}
use Rattle.list_back.specs.Values.{Left, bad_object, next_value, few, list_in, object_group}
use Rattle.list_back.specs.Objects.{IsReadObject, IsReadOp, IsReadCall, IsReadEdit, HasFront, member_count}
use Rattle.list_back.proofs.Entries.{same_op_name, op_held, op_missed, call_held, call_missed, edit_is, edit_of}
use Rattle.list_back.proofs.Readings.{begun, same_read}
use Rattle.list_back.specs.declared.bad_object.BadObject.{BadObject}
use Rattle.edit_ops.specs.declared.field_fault.ReadError.{ReadError}
use Rattle.edit_ops.specs.declared.field_fault.ReadError.TheVariants as errors
use Rattle.edit_ops.specs.Sources.{Fails, Gives}

-- ## What a reading gave

pub ok_found : {A : Type 0} (o : Option A) (x : A) → ok_or o bad_object ≡ Ok x → o ≡ Some x
ok_found None x e = absurd cc
ok_found (Some y) x e = let same : y ≡ x = same_read y x e in ap (λ (z : _). Some z) same

pub err_found : {A : Type 0} (o : Option A) (f : BadObject) → ok_or o bad_object ≡ Err f → (o ≡ None) × (bad_object ≡ f)
err_found None f e = (refl, cc)
err_found (Some y) f e = absurd cc

-- ## The value at the next key

drop_keys : (i : ℕ) (keys : List (Bor (List ℕ))) → drop i (map (λ key. key.now) keys) ≡ map (λ key. key.now) (drop i keys)
drop_keys zero keys = refl
drop_keys (suc i) [] = refl
drop_keys (suc i) (k ∷ keys) = drop_keys i keys

keys_at : (i : ℕ) (keys : List (Bor (List ℕ))) (d : Bor (List ℕ)) → i < length keys → drop i (map (λ key. key.now) keys) ≡ (get_or keys i d).now ∷ drop (i + 1) (map (λ key. key.now) keys)
keys_at i keys d h =
    let after : suc i ≡ i + 1 = omega arith in
    drop_keys i keys ∙ ap (λ (ks : List (Bor (List ℕ))). map (λ key. key.now) ks) (drop-cons keys i d h)
    ∙ ap (λ (ks : List (List ℕ)). (get_or keys i d).now ∷ ks) (sym (drop_keys (suc i) keys) ∙ ap (λ (n : ℕ). drop n (map (λ key. key.now) keys)) after)

pub value_found : (d v : Data) (i : ℕ) (keys : List (Bor (List ℕ))) (other : Bor (List ℕ)) → i < length keys → Some v ≡ get (get_or keys i other).now d
    → next_value d (drop i (map (λ key. key.now) keys)) ≡ Ok (v, drop (i + 1) (map (λ key. key.now) keys))
value_found d v i keys other h e =
    let rest = drop (i + 1) (map (λ key. key.now) keys) in
    ap (next_value d) (keys_at i keys other h) ∙ ap (λ (o : Option Data). ok_or (option_map (λ x. (x, drop (i + 1) (map (λ key. key.now) keys))) o) bad_object) (sym e)

pub no_value : (d : Data) (i : ℕ) (keys : List (Bor (List ℕ))) (other : Bor (List ℕ)) → i < length keys → None ≡ get (get_or keys i other).now d
    → next_value d (drop i (map (λ key. key.now) keys)) ≡ Err bad_object
no_value d i keys other h e =
    ap (next_value d) (keys_at i keys other h) ∙ ap (λ (o : Option Data). ok_or (option_map (λ x. (x, drop (i + 1) (map (λ key. key.now) keys))) o) bad_object) (sym e)

-- ## Values of a list, from the front

pub value_here : (vs : List Value) (i : ℕ) (v : Value) → i < length vs → v ≡ get_or vs i v → drop i vs ≡ v ∷ drop (i + 1) vs
value_here vs i v h is = let after : suc i ≡ i + 1 = omega arith in drop-cons vs i v h ∙ (λ j. sym is j ∷ drop (after j) vs)

pub few_here : (d : Data) (vs : List Value) → Some (items_view vs) ≡ as_array d → length vs ≤ 65535 → Some (items_view vs) ≡ option_and_then few (as_array d)
few_here d vs e h =
    let count : items_len (items_view vs) ≤ 65535 = omega (arith, h, items_len-items_view vs) in
    ap (λ (b : Bool). cond b (Some (items_view vs)) None) (sym (le-leb (items_len (items_view vs)) 65535 count)) ∙ ap (option_and_then few) e

pub too_many : (d : Data) (vs : List Value) → Some (items_view vs) ≡ as_array d → 65535 < length vs → None ≡ option_and_then few (as_array d)
too_many d vs e h =
    let count : 65535 < items_len (items_view vs) = omega (arith, h, items_len-items_view vs) in
    ap (λ (b : Bool). cond b (Some (items_view vs)) None) (sym (lt-leb (items_len (items_view vs)) 65535 count)) ∙ ap (option_and_then few) e

pub members_counted : (d : Data) (es : List Entry) (n : ℕ) → n ≡ length es → Some (members_view es) ≡ as_object d → Some n ≡ option_map members_len (as_object d)
members_counted d es n is e = ap (λ (m : ℕ). Some m) (is ∙ sym (members_len-members_view es)) ∙ ap (option_map members_len) e

abbrev pub put_front : {A : Type 0} → List A → Option (List A) → Option (List A)
put_front xs o = option_map (λ ys. xs ++ ys) o

module _ {A : Type 0} (f : Data → Option A) where
  abbrev pub ListedFrom : List Value → List A → ℕ → Type 0
  ListedFrom vs xs i = list_in f (items_view vs) ≡ put_front xs (list_in f (items_view (drop i vs)))

  nothing_before : (o : Option (List A)) → o ≡ put_front [] o
  nothing_before None = refl
  nothing_before (Some ys) = refl

  pub list_begins : (vs : List Value) → ListedFrom vs [] 0
  list_begins vs = nothing_before (list_in f (items_view vs))

  regroup : (xs : List A) (x : A) (o : Option (List A)) → put_front xs (option_map (λ ys. x ∷ ys) o) ≡ put_front (xs ++ x ∷ []) o
  regroup xs x None = refl
  regroup xs x (Some ys) = ap (λ (zs : List A). Some zs) (sym (append_assoc xs (x ∷ []) ys))

  at_front : (vs : List Value) (i : ℕ) (v : Value) → drop i vs ≡ v ∷ drop (i + 1) vs
      → list_in f (items_view (drop i vs)) ≡ option_and_then (λ x. option_map (λ ys. x ∷ ys) (list_in f (items_view (drop (i + 1) vs)))) (f (view v))
  at_front vs i v e = ap (λ (ws : List Value). list_in f (items_view ws)) e

  pub list_goes_on : (vs : List Value) (xs : List A) (i : ℕ) (v : Value) (x : A) → drop i vs ≡ v ∷ drop (i + 1) vs → f (view v) ≡ Some x → ListedFrom vs xs i → ListedFrom vs (xs ++ x ∷ []) (i + 1)
  list_goes_on vs xs i v x e is from =
      from ∙ ap (put_front xs) (at_front vs i v e ∙ ap (λ (o : Option A). option_and_then (λ y. option_map (λ ys. y ∷ ys) (list_in f (items_view (drop (i + 1) vs)))) o) is)
      ∙ regroup xs x (list_in f (items_view (drop (i + 1) vs)))

  pub list_stops : (vs : List Value) (xs : List A) (i : ℕ) (v : Value) → drop i vs ≡ v ∷ drop (i + 1) vs → f (view v) ≡ None → ListedFrom vs xs i → list_in f (items_view vs) ≡ None
  list_stops vs xs i v e is from =
      from ∙ ap (put_front xs) (at_front vs i v e ∙ ap (λ (o : Option A). option_and_then (λ y. option_map (λ ys. y ∷ ys) (list_in f (items_view (drop (i + 1) vs)))) o) is)

  all_gone : (vs : List Value) (i : ℕ) → length vs ≤ i → drop i vs ≡ []
  all_gone [] zero h = refl
  all_gone [] (suc i) h = refl
  all_gone (v ∷ vs) zero h = absurd (omega arith)
  all_gone (v ∷ vs) (suc i) h = all_gone vs i (omega arith)

  pub list_ends : (vs : List Value) (xs : List A) (i : ℕ) → length vs ≤ i → ListedFrom vs xs i → list_in f (items_view vs) ≡ Some xs
  list_ends vs xs i h from =
      from ∙ ap (λ (ws : List Value). put_front xs (list_in f (items_view ws))) (all_gone vs i h) ∙ ap (λ (zs : List A). Some zs) (append-nil xs)

-- ## The front

same_kind : (k l : OpKind) (d : Data) → get (codes "op") d ≡ Some (string (op_name k)) → get (codes "op") d ≡ Some (string (op_name l)) → k ≡ l
same_kind k l d a b =
    let some : Some (string (op_name k)) ≡ Some (string (op_name l)) = sym a ∙ b in
    let names : op_name k ≡ op_name l = cc in
    same_op_name k l names

-- an object with a member more or less than an edit of its kind has
module _ (txid n : ℕ) (kind k : OpKind) (with_call : Bool) (d : Data) (told : get (codes "op") d ≡ Some (string (op_name kind)))
    (count : option_map members_len (as_object d) ≡ Some n) (plain : n ≢ member_count kind false) (f : HasFront txid k with_call d) where
  counted : n ≡ member_count kind with_call
  counted =
      let some : Some n ≡ Some (member_count k with_call) = sym count ∙ f.count in
      let is : n ≡ member_count k with_call = cc in
      is ∙ ap (λ (l : OpKind). member_count l with_call) (same_kind k kind d f.op told)

  may : MayCall kind with_call
  may = subst (λ (l : OpKind). MayCall l with_call) (same_kind k kind d f.op told) f.may_call

  pub not_marked : is_mark kind ≡ true → ⊥
  not_marked mark = by with_call counted may
    where
      by : (b : Bool) → n ≡ member_count kind b → MayCall kind b → ⊥
      by false is may = plain is
      by true is may = absurd cc

  pub not_counted : n ≢ member_count kind true → ⊥
  not_counted other = by with_call counted
    where
      by : (b : Bool) → n ≡ member_count kind b → ⊥
      by false is = plain is
      by true is = other is

pub not_there : (txid : ℕ) (k : OpKind) (with_call : Bool) (d : Data) → option_map members_len (as_object d) ≡ None → HasFront txid k with_call d → ⊥
not_there txid k with_call d none f = let e = sym none ∙ f.count in absurd cc

pub list_fails : {A : Type 0} (f : Data → Option A) (vs : List Value) (xs : List A) (i : ℕ) (v : Value) (e : ReadError BadObject)
    → drop i vs ≡ v ∷ drop (i + 1) vs → Fails e (ok_or (f (view v)) bad_object) → ListedFrom f vs xs i
    → Fails e (ok_or (list_in f (items_view vs)) bad_object)
list_fails f vs xs i v errors.Memory here fails from = tt
list_fails f vs xs i v (errors.Fault g) here fails from =
    let r = err_found (f (view v)) g fails in
    ap (λ (o : Option (List _)). ok_or o bad_object) (list_stops f vs xs i v here r.0 from) ∙ ap (λ (w : BadObject). Err w) r.1

pub list_ok : {A : Type 0} (f : Data → Option A) (vs : List Value) (xs : List A) (i : ℕ) → length vs ≤ i → ListedFrom f vs xs i → ok_or (list_in f (items_view vs)) bad_object ≡ Ok xs
list_ok f vs xs i h from = ap (λ (o : Option (List _)). ok_or o bad_object) (list_ends f vs xs i h from)

-- ## What was read is what there is

pub call_gives : (d : Data) (ks : List (List ℕ)) (after : Left) (r : Result Call (ReadError BadObject)) → ks ≡ call_keys
    → Gives (λ call. (call_fields (Some call), after)) r (fields_read object_group (client ∷ call_number ∷ []) (begun d ks)) → IsReadCall d r
call_gives d ks after (Ok call) are is = call_held d ks call after are is
call_gives d ks after (Err e) are is = call_missed d ks e are is

pub op_gives : (kind : OpKind) (d : Data) (ks : List (List ℕ)) (after : Left) (r : Result Op (ReadError BadObject)) → ks ≡ keys kind
    → Gives (λ op. ((kind_of op, fields_of op), after)) r (op_read object_group kind (begun d ks)) → IsReadOp kind d r
op_gives kind d ks after (Ok op) are is = op_held kind d ks op after are is
op_gives kind d ks after (Err e) are is = op_missed kind d ks e are is

pub object_gives : (txid : ℕ) (kind : OpKind) (with_call b : Bool) (d : Data) (r : Result EditView (ReadError BadObject)) → txid ≤ 2 ^ 62
    → IsOrdered d → HasFront txid kind with_call d → with_call ≡ b → IsReadEdit kind b d r → IsReadObject txid d r
object_gives txid kind with_call b d (Ok e) small ordered front is read = edit_is txid kind b d e small ordered (subst (λ (c : Bool). HasFront txid kind c d) is front) read
object_gives txid kind with_call b d (Err errors.Memory) small ordered front is read = tt
object_gives txid kind with_call b d (Err (errors.Fault f)) small ordered front is read = λ e o. read e (edit_of txid kind b e d small (subst (λ (c : Bool). HasFront txid kind c d) is front) o)
