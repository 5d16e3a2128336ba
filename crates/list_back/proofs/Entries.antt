-- The edit that is read of an object is the one whose object it is.
use Rattle.std.proofs.Common.{◌≡◌, ℕ, ◌≤◌, ◌^◌, List, [], ◌∷◌, ◌++◌, length, map, Bool, true, false, cond, Option, Some, None, Ok, Err, refl, sym, ap, subst, ◌∙◌, arith}
use Rattle.std.specs.Prelude.{option_map, is_some}
use Rattle.std.specs.List.{AllByRecursion}
use Rattle.std.specs.Str.{bytes_eq}
use Rattle.serde_json.specs.Data.{Data, Members, unsigned, null, boolean, number, string, array, object}
use Rattle.serde_json.specs.Events.{members_len}
use Rattle.serde_json.specs.Find.{as_object}
use Rattle.serde_json.specs.Read.{of_json}
use Rattle.list_text.specs.Values.{number_of}
use Rattle.list_back.specs.Members.{put_all, IsOrdered}
use Rattle.list_back.proofs.Found.{AreIn, all_found, all_in, all_counted}
use Rattle.edit_ops.specs.declared.call.Call.{Call}
use Rattle.edit_ops.specs.declared.field_fault.ReadError.{ReadError}
use Rattle.edit_ops.specs.declared.field_fault.ReadError.TheVariants as errors
use Rattle.edit_ops.specs.Fields.{Field, client, call_number, IsGood}
use Rattle.edit_ops.specs.Rules.{Matches}
use Rattle.edit_ops.specs.Sources.{Fails}
use Rattle.edit_ops.specs.Sources.{fields_read}
use Rattle.edit_ops.specs.declared.kind.OpKind.{OpKind}
use Rattle.edit_ops.specs.declared.kind.OpKind.TheVariants as kinds
use Rattle.edit_ops.specs.declared.op.Op.{Op}
use Rattle.edit_ops.specs.Records.{EditView, kind_of, fields_of, layout, call_fields, called}
use Rattle.edit_ops.specs.Grammar.{IsEdit, MayCall}
use Rattle.edit_ops.specs.Words.{name}
use Rattle.edit_ops.proofs.EditLaws.{op_matches, same_edit}
use Rattle.edit_codec.specs.OpRead.{op_read}
use Rattle.edit_codec.proofs.OpReads.{op_is_read, op_fails}
use Rattle.list_oev.specs.Entries.{entry}
use Rattle.list_back.specs.declared.bad_object.BadObject.{BadObject}
use Rattle.edit_ops.specs.Keys.{keys, call_keys, op_name}
use Rattle.list_back.specs.Values.{Left, object_group}
use Rattle.list_back.specs.Rows.{Row, HasRows, edit_rows, op_rows, call_rows, rows_of, field_jsons, as_data}
use Rattle.list_back.specs.Objects.{IsObject, HasOp, IsReadOp, HasCall, IsReadCall, HasEdit, IsReadEdit, HasFront, member_count}
use Rattle.list_back.proofs.Rows.{read_row, edit_apart, rows_counted, as_many}
use Rattle.list_back.proofs.Sound.{entry_reads, number_reads, as_is}
use Rattle.list_back.proofs.Readings.{CountsLast, begun, Read, same_read, fields_held, held_fields}

-- ## The fields of what an edit does

counts_last : (kind : OpKind) → CountsLast (layout kind)
counts_last kinds.Add = ((λ c. absurd c), ((λ c. absurd c), ((λ c. absurd c), ((λ c. absurd c), ((λ c. absurd c), ((λ c. absurd c), ((λ c. absurd c), ((λ c. absurd c), tt))))))))
counts_last kinds.RenameOld = ((λ c. absurd c), ((λ c. absurd c), ((λ c. absurd c), tt)))
counts_last kinds.Delete = ((λ c. absurd c), ((λ c. absurd c), tt))
counts_last kinds.Mkdir = ((λ c. absurd c), ((λ c. absurd c), ((λ c. absurd c), ((λ c. absurd c), ((λ c. absurd c), tt)))))
counts_last kinds.SetReplication = ((λ c. absurd c), ((λ c. absurd c), tt))
counts_last kinds.SetPermissions = ((λ c. absurd c), ((λ c. absurd c), tt))
counts_last kinds.SetOwner = ((λ c. absurd c), ((λ c. absurd c), ((λ c. absurd c), tt)))
counts_last kinds.Close = ((λ c. absurd c), ((λ c. absurd c), ((λ c. absurd c), ((λ c. refl), tt))))
counts_last kinds.Times = ((λ c. absurd c), ((λ c. absurd c), ((λ c. absurd c), tt)))
counts_last kinds.SetQuota = ((λ c. absurd c), ((λ c. absurd c), ((λ c. absurd c), tt)))
counts_last kinds.Rename = ((λ c. absurd c), ((λ c. absurd c), ((λ c. absurd c), ((λ c. absurd c), tt))))
counts_last kinds.ConcatDelete = ((λ c. absurd c), ((λ c. absurd c), ((λ c. refl), tt)))
counts_last kinds.EndLogSegment = tt
counts_last kinds.StartLogSegment = tt

pub op_held : (kind : OpKind) (d : Data) (ks : List (List ℕ)) (op : Op) (rest : Left) → ks ≡ keys kind
    → op_read object_group kind (begun d ks) ≡ Ok ((kind_of op, fields_of op), rest) → HasOp kind d op
op_held kind d ks op rest are e =
    let r = op_is_read object_group kind (begun d ks) (kind_of op) (fields_of op) rest e in
    let h = fields_held (layout kind) d ks (fields_of op) rest (counts_last kind) r.0 in
    let same : ks ≡ keys (kind_of op) = are ∙ ap keys (sym r.1) in
    record { kind_is = r.1; good = h.0; rows = subst (λ (names : List (List ℕ)). HasRows d (rows_of names (field_jsons (fields_of op)))) same h.1 }

there_read : (kind : OpKind) (d : Data) (ks : List (List ℕ)) (op : Op) → ks ≡ keys kind → HasOp kind d op → fields_read object_group (layout kind) (begun d ks) ≡ Ok (fields_of op, begun d [])
there_read kind d ks op are h =
    let matches : Matches (layout kind) (fields_of op) [] = subst (λ (k : OpKind). Matches (layout k) (fields_of op) []) h.kind_is (op_matches op h.good) in
    let same : keys (kind_of op) ≡ ks = ap keys h.kind_is ∙ sym are in
    let rows : HasRows d (rows_of ks (field_jsons (fields_of op))) = subst (λ (names : List (List ℕ)). HasRows d (rows_of names (field_jsons (fields_of op)))) same h.rows in
    held_fields (layout kind) d ks (fields_of op) (counts_last kind) (ap length are ∙ as_many kind) h.good matches rows

pub op_missed : (kind : OpKind) (d : Data) (ks : List (List ℕ)) (e : ReadError BadObject) → ks ≡ keys kind → Fails e (op_read object_group kind (begun d ks)) → IsReadOp kind d (Err e)
op_missed kind d ks errors.Memory are fails = tt
op_missed kind d ks (errors.Fault f) are fails = λ op h.
    let no = op_fails object_group kind (begun d ks) (errors.Fault f) fails in
    let yes = there_read kind d ks op are h in
    absurd (cc (no, yes))

-- ## The fields of a call

pub call_held : (d : Data) (ks : List (List ℕ)) (call : Call) (rest : Left) → ks ≡ call_keys
    → fields_read object_group (client ∷ call_number ∷ []) (begun d ks) ≡ Ok (call_fields (Some call), rest) → HasCall d call
call_held d ks call rest are e =
    let h = fields_held (client ∷ call_number ∷ []) d ks (call_fields (Some call)) rest ((λ c. absurd c), ((λ c. absurd c), tt)) e in
    record { good = h.0; rows = subst (λ (names : List (List ℕ)). HasRows d (rows_of names (field_jsons (call_fields (Some call))))) are h.1 }

pub call_missed : (d : Data) (ks : List (List ℕ)) (e : ReadError BadObject) → ks ≡ call_keys → Fails e (fields_read object_group (client ∷ call_number ∷ []) (begun d ks)) → IsReadCall d (Err e)
unfolding call_keys
call_missed d ks errors.Memory are fails = tt
call_missed d ks (errors.Fault f) are fails = λ call h.
    let rows : HasRows d (rows_of ks (field_jsons (call_fields (Some call)))) = subst (λ (names : List (List ℕ)). HasRows d (rows_of names (field_jsons (call_fields (Some call))))) (sym are) h.rows in
    let yes = held_fields (client ∷ call_number ∷ []) d ks (call_fields (Some call)) ((λ c. absurd c), ((λ c. absurd c), tt)) (ap length are) h.good (refl, h.good.0, (refl, h.good.1.0, refl)) rows in
    absurd (cc (fails, yes))

-- ## An edit with its call

rows_append : (d : Data) (xs ys : List Row) → HasRows d xs → HasRows d ys → HasRows d (xs ++ ys)
rows_append d [] ys h k = k
rows_append d (x ∷ xs) ys h k = (h.0, rows_append d xs ys h.1 k)

pub plain_edit : (kind : OpKind) (d : Data) (op : Op) → HasOp kind d op → HasEdit kind false d (record { op = op; call = None })
plain_edit kind d op h = record { kind_is = h.kind_is; called_is = refl; edit = record { fields = h.good; call = tt }; rows = h.rows }

pub no_plain_edit : (kind : OpKind) (d : Data) (e : ReadError BadObject) → IsReadOp kind d (Err e) → IsReadEdit kind false d (Err e)
no_plain_edit kind d errors.Memory none = tt
no_plain_edit kind d (errors.Fault f) none = λ e h. none e.op (by e.call e.op h.kind_is h.called_is h.edit h.rows)
  where
    by : (call : Option Call) (op : Op) → kind_of op ≡ kind → is_some call ≡ false → IsEdit (record { op = op; call = call }) → HasRows d (call_rows call ++ op_rows op) → HasOp kind d op
    by None op is none edit rows = record { kind_is = is; good = edit.fields; rows = rows }
    by (Some call) op is none edit rows = absurd cc

pub called_edit : (kind : OpKind) (d : Data) (call : Call) (op : Op) → MayCall kind true → HasCall d call → HasOp kind d op → HasEdit kind true d (record { op = op; call = Some call })
called_edit kind d call op may c h = record {
  kind_is = h.kind_is;
  called_is = refl;
  edit = record { fields = (c.good.0, (c.good.1.0, h.good)); call = subst (λ (k : OpKind). MayCall k true) (sym h.kind_is) may };
  rows = rows_append d (call_rows (Some call)) (op_rows op) c.rows h.rows;
}

two_parts : (d : Data) (xs ys : List Row) → HasRows d (xs ++ ys) → HasRows d xs × HasRows d ys
two_parts d [] ys h = (tt, h)
two_parts d (x ∷ xs) ys h = let r = two_parts d xs ys h.1 in ((h.0, r.0), r.1)

record Both (kind : OpKind) (d : Data) (e : EditView) : Type 0 where
  call : Call
  called : HasCall d call
  op : HasOp kind d e.op

both_parts : (kind : OpKind) (d : Data) (call : Option Call) (op : Op) → kind_of op ≡ kind → is_some call ≡ true
    → IsEdit (record { op = op; call = call }) → HasRows d (call_rows call ++ op_rows op) → Both kind d (record { op = op; call = call })
both_parts kind d None op is some edit rows = absurd cc
both_parts kind d (Some call) op is some edit rows =
    let r = two_parts d (call_rows (Some call)) (op_rows op) rows in
    record { call = call; called = record { good = (edit.fields.0, (edit.fields.1.0, tt)); rows = r.0 }; op = record { kind_is = is; good = edit.fields.1.1; rows = r.1 } }

pub no_call : (kind : OpKind) (d : Data) (e : ReadError BadObject) → IsReadCall d (Err e) → IsReadEdit kind true d (Err e)
no_call kind d errors.Memory none = tt
no_call kind d (errors.Fault f) none = λ e h. let b = both_parts kind d e.call e.op h.kind_is h.called_is h.edit h.rows in none b.call b.called

pub no_called_op : (kind : OpKind) (d : Data) (e : ReadError BadObject) → IsReadOp kind d (Err e) → IsReadEdit kind true d (Err e)
no_called_op kind d errors.Memory none = tt
no_called_op kind d (errors.Fault f) none = λ e h. let b = both_parts kind d e.call e.op h.kind_is h.called_is h.edit h.rows in none e.op b.op

-- ## A name tells the kind

named : List ℕ → OpKind
named s = cond (bytes_eq s (name kinds.Add)) kinds.Add (cond (bytes_eq s (name kinds.RenameOld)) kinds.RenameOld
    (cond (bytes_eq s (name kinds.Delete)) kinds.Delete (cond (bytes_eq s (name kinds.Mkdir)) kinds.Mkdir
    (cond (bytes_eq s (name kinds.SetReplication)) kinds.SetReplication
    (cond (bytes_eq s (name kinds.SetPermissions)) kinds.SetPermissions
    (cond (bytes_eq s (name kinds.SetOwner)) kinds.SetOwner (cond (bytes_eq s (name kinds.Close)) kinds.Close
    (cond (bytes_eq s (name kinds.Times)) kinds.Times (cond (bytes_eq s (name kinds.SetQuota)) kinds.SetQuota
    (cond (bytes_eq s (name kinds.Rename)) kinds.Rename (cond (bytes_eq s (name kinds.ConcatDelete)) kinds.ConcatDelete
    (cond (bytes_eq s (name kinds.EndLogSegment)) kinds.EndLogSegment (kinds.StartLogSegment)))))))))))))

named_again : (kind : OpKind) → named (name kind) ≡ kind
unfolding named name
named_again kinds.Add = refl
named_again kinds.RenameOld = refl
named_again kinds.Delete = refl
named_again kinds.Mkdir = refl
named_again kinds.SetReplication = refl
named_again kinds.SetPermissions = refl
named_again kinds.SetOwner = refl
named_again kinds.Close = refl
named_again kinds.Times = refl
named_again kinds.SetQuota = refl
named_again kinds.Rename = refl
named_again kinds.ConcatDelete = refl
named_again kinds.EndLogSegment = refl
named_again kinds.StartLogSegment = refl

same_name : (k l : OpKind) → name k ≡ name l → k ≡ l
same_name k l e = sym (named_again k) ∙ ap named e ∙ named_again l

tail_of : List ℕ → List ℕ
tail_of [] = []
tail_of (b ∷ bs) = bs

pub same_op_name : (k l : OpKind) → op_name k ≡ op_name l → k ≡ l
unfolding tail_of
same_op_name k l e = same_name k l (ap (λ (s : List ℕ). tail_of (tail_of (tail_of s))) e)

same_count : (kind : OpKind) (c b : Bool) → member_count kind c ≡ member_count kind b → c ≡ b
same_count kind false false e = refl
same_count kind false true e = absurd (omega (arith, e))
same_count kind true false e = absurd (omega (arith, e))
same_count kind true true e = refl

pub one_kind : (txid : ℕ) (k l : OpKind) (c b : Bool) (d : Data) → HasFront txid k c d → HasFront txid l b d → (k ≡ l) × (c ≡ b)
one_kind txid k l c b d f g =
    let some : Some (string (op_name k)) ≡ Some (string (op_name l)) = sym f.op ∙ g.op in
    let names : op_name k ≡ op_name l = cc in
    let is : k ≡ l = same_op_name k l names in
    let counts : Some (member_count k c) ≡ Some (member_count l b) = sym f.count ∙ g.count in
    let many : member_count k c ≡ member_count l b = cc in
    (is, same_count l c b (ap (λ (kind : OpKind). member_count kind c) (sym is) ∙ many))

-- ## An object with these members

are_in : (ms : Members) (rows : List Row) → HasRows (object ms) rows → AreIn ms (map read_row rows)
are_in ms [] h = tt
are_in ms (row ∷ rows) h = (h.0, are_in ms rows h.1)

in_are : (ms : Members) (rows : List Row) → AreIn ms (map read_row rows) → HasRows (object ms) rows
in_are ms [] h = tt
in_are ms (row ∷ rows) h = (h.0, in_are ms rows h.1)

mapped_length : (rows : List Row) → length (map read_row rows) ≡ length rows
mapped_length [] = refl
mapped_length (row ∷ rows) = omega (arith, mapped_length rows)

txid_data : (txid : ℕ) → txid ≤ 2 ^ 62 → as_data (number_of txid) ≡ number (unsigned txid)
txid_data txid small = as_is (number_of txid) (number (unsigned txid)) (number_reads txid (omega (arith, small)))

all_rows : (txid : ℕ) (kind : OpKind) (with_call : Bool) (d : Data) (e : EditView) → txid ≤ 2 ^ 62 → HasFront txid kind with_call d → HasEdit kind with_call d e → HasRows d (edit_rows txid e)
all_rows txid kind with_call d e small f h = (
  f.op ∙ ap (λ (k : OpKind). Some (string (op_name k))) (sym h.kind_is),
  (f.txid_is ∙ ap (λ (v : Data). Some v) (sym (txid_data txid small)), h.rows),
)

object_by : (txid : ℕ) (kind : OpKind) (with_call : Bool) (d : Data) (e : EditView) → txid ≤ 2 ^ 62 → IsOrdered d
    → option_map members_len (as_object d) ≡ Some (member_count kind with_call) → HasEdit kind with_call d e → HasRows d (edit_rows txid e)
    → of_json (entry txid e) ≡ Some d
object_by txid kind with_call null e small ordered count h rows = absurd cc
object_by txid kind with_call (boolean b) e small ordered count h rows = absurd cc
object_by txid kind with_call (number n) e small ordered count h rows = absurd cc
object_by txid kind with_call (string s) e small ordered count h rows = absurd cc
object_by txid kind with_call (array ds) e small ordered count h rows = absurd cc
object_by txid kind with_call (object ms) e small ordered count h rows =
    let counted : members_len ms ≡ member_count kind with_call = cc in
    let many : member_count (kind_of e.op) (called e) ≡ member_count kind with_call = λ i. member_count (h.kind_is i) (h.called_is i) in
    let len : members_len ms ≡ length (map read_row (edit_rows txid e)) = counted ∙ sym many ∙ sym (rows_counted txid e) ∙ sym (mapped_length (edit_rows txid e)) in
    let same = all_found (map read_row (edit_rows txid e)) ms ordered len (edit_apart txid e) (are_in ms (edit_rows txid e) rows) in
    entry_reads txid e h.edit small ∙ ap (λ (ns : Members). Some (object ns)) (sym same)

pub edit_is : (txid : ℕ) (kind : OpKind) (with_call : Bool) (d : Data) (e : EditView) → txid ≤ 2 ^ 62 → IsOrdered d → HasFront txid kind with_call d → HasEdit kind with_call d e → IsObject txid e d
edit_is txid kind with_call d e small ordered f h = record { edit = h.edit; read = object_by txid kind with_call d e small ordered f.count h (all_rows txid kind with_call d e small f h) }

-- ## The object of an edit

abbrev pub object_of_edit : ℕ → EditView → Data
object_of_edit txid e = object (put_all (map read_row (edit_rows txid e)))

pub object_is : (txid : ℕ) (e : EditView) (d : Data) → txid ≤ 2 ^ 62 → IsObject txid e d → d ≡ object_of_edit txid e
object_is txid e d small is =
    let some : Some d ≡ Some (object_of_edit txid e) = sym is.read ∙ entry_reads txid e is.edit small in
    cc

rows_there : (txid : ℕ) (e : EditView) → HasRows (object_of_edit txid e) (edit_rows txid e)
rows_there txid e = in_are (put_all (map read_row (edit_rows txid e))) (edit_rows txid e) (all_in (map read_row (edit_rows txid e)) (edit_apart txid e))

may_call : (e : EditView) → IsEdit e → MayCall (kind_of e.op) (called e)
may_call e is = is.call

front_at : (txid : ℕ) (e : EditView) → txid ≤ 2 ^ 62 → IsEdit e → HasFront txid (kind_of e.op) (called e) (object_of_edit txid e)
front_at txid e small is =
    let rows = rows_there txid e in
    let count : members_len (put_all (map read_row (edit_rows txid e))) ≡ member_count (kind_of e.op) (called e) =
    all_counted (map read_row (edit_rows txid e)) (edit_apart txid e) ∙ mapped_length (edit_rows txid e) ∙ rows_counted txid e in
    record {
      op = rows.0;
      txid_is = rows.1.0 ∙ ap (λ (v : Data). Some v) (txid_data txid small);
      may_call = may_call e is;
      count = ap (λ (n : ℕ). Some n) count;
    }

edit_at : (txid : ℕ) (e : EditView) → IsEdit e → HasEdit (kind_of e.op) (called e) (object_of_edit txid e) e
edit_at txid e is = record { kind_is = refl; called_is = refl; edit = is; rows = (rows_there txid e).1.1 }

pub front_of : (txid : ℕ) (e : EditView) (d : Data) → txid ≤ 2 ^ 62 → IsObject txid e d → HasFront txid (kind_of e.op) (called e) d
front_of txid e d small is = subst (λ (x : Data). HasFront txid (kind_of e.op) (called e) x) (sym (object_is txid e d small is)) (front_at txid e small is.edit)

pub edit_of : (txid : ℕ) (kind : OpKind) (with_call : Bool) (e : EditView) (d : Data) → txid ≤ 2 ^ 62 → HasFront txid kind with_call d → IsObject txid e d → HasEdit kind with_call d e
edit_of txid kind with_call e d small f is =
    let same = one_kind txid (kind_of e.op) kind (called e) with_call d (front_of txid e d small is) f in
    let here : HasEdit (kind_of e.op) (called e) d e = subst (λ (x : Data). HasEdit (kind_of e.op) (called e) x e) (sym (object_is txid e d small is)) (edit_at txid e is.edit) in
    record { kind_is = same.0; called_is = same.1; edit = here.edit; rows = here.rows }

-- ## An object is that of one edit

fields_same : (r : Read) (fs gs : List Field) (left : Left) → r ≡ Ok (fs, left) → r ≡ Ok (gs, left) → fs ≡ gs
fields_same r fs gs left x y = let same = same_read (fs, left) (gs, left) (sym x ∙ y) in λ i. (same i).0

same_call : (d : Data) (a b : Option Call) (xs ys : List Row) (opa opb : Op) → is_some a ≡ is_some b → IsEdit (record { op = opa; call = a })
    → IsEdit (record { op = opb; call = b }) → HasRows d (call_rows a ++ xs) → HasRows d (call_rows b ++ ys) → call_fields a ≡ call_fields b
unfolding call_keys
same_call d None None xs ys opa opb same ea eb ra rb = refl
same_call d None (Some c) xs ys opa opb same ea eb ra rb = absurd cc
same_call d (Some c) None xs ys opa opb same ea eb ra rb = absurd cc
same_call d (Some c) (Some b) xs ys opa opb same ea eb ra rb =
    let x = held_fields (client ∷ call_number ∷ []) d call_keys (call_fields (Some c)) ((λ z. absurd z), ((λ z. absurd z), tt)) refl
    (ea.fields.0, (ea.fields.1.0, tt)) (refl, ea.fields.0, (refl, ea.fields.1.0, refl)) (two_parts d (call_rows (Some c)) xs ra).0 in
    let y = held_fields (client ∷ call_number ∷ []) d call_keys (call_fields (Some b)) ((λ z. absurd z), ((λ z. absurd z), tt)) refl
    (eb.fields.0, (eb.fields.1.0, tt)) (refl, eb.fields.0, (refl, eb.fields.1.0, refl)) (two_parts d (call_rows (Some b)) ys rb).0 in
    fields_same _ (call_fields (Some c)) (call_fields (Some b)) (begun d []) x y

good_op : (call : Option Call) (fs : List Field) → AllByRecursion IsGood (call_fields call ++ fs) → AllByRecursion IsGood fs
good_op None fs h = h
good_op (Some call) fs h = h.1.1

has_op : (kind : OpKind) (d : Data) (e : EditView) → kind_of e.op ≡ kind → IsEdit e → HasRows d (call_rows e.call ++ op_rows e.op) → HasOp kind d e.op
has_op kind d e is edit rows = record { kind_is = is; good = good_op e.call (fields_of e.op) edit.fields; rows = (two_parts d (call_rows e.call) (op_rows e.op) rows).1 }

pub one_object : (txid : ℕ) (a b : EditView) (d : Data) → txid ≤ 2 ^ 62 → IsObject txid a d → IsObject txid b d → a ≡ b
one_object txid a b d small x y =
    let kind = kind_of a.op in
    let front = front_of txid a d small x in
    let p = edit_of txid (kind_of a.op) (called a) a d small front x in
    let q = edit_of txid (kind_of a.op) (called a) b d small front y in
    let fa = there_read (kind_of a.op) d (keys (kind_of a.op)) a.op refl (has_op (kind_of a.op) d a p.kind_is x.edit p.rows) in
    let fb = there_read (kind_of a.op) d (keys (kind_of a.op)) b.op refl (has_op (kind_of a.op) d b q.kind_is y.edit q.rows) in
    let ops = fields_same _ (fields_of a.op) (fields_of b.op) (begun d []) fa fb in
    let calls : call_fields a.call ≡ call_fields b.call = same_call d a.call b.call (op_rows a.op) (op_rows b.op) a.op b.op (sym q.called_is) x.edit y.edit p.rows q.rows in
    same_edit a b (sym q.kind_is) (sym q.called_is) (λ i. calls i ++ ops i)
