-- The members of the listing's object are the rows of the edit, in another order.
use Rattle.std.proofs.Common.{◌≡◌, ◌≢◌, ℕ, List, [], ◌∷◌, ◌++◌, length, map, Bool, true, false, ◌&&◌, Option, Some, None, codes, refl, sym, ap, ◌∙◌, arith}
use Rattle.std.specs.Prelude.{not}
use Rattle.std.specs.List.{AllByRecursion, list_all}
use Rattle.std.specs.Str.{bytes_eq}
use Rattle.std.proofs.lemmas.Bool.{and_parts, true≢false}
use Rattle.std.proofs.lemmas.Slice.Eq.{bytes_eq-Decides}
use Rattle.json.proofs.Printed.Utf8.{are_ascii}
use Rattle.json.specs.Json.{Json, string}
use Rattle.list_text.specs.Values.{number_of, array_of}
use Rattle.serde_json.specs.Data.{no_members}
use Rattle.list_back.specs.Members.{Member, put_all, put_onto, AreApart}
use Rattle.edit_ops.specs.declared.call.Call.{Call}
use Rattle.edit_ops.specs.declared.kind.OpKind.{OpKind}
use Rattle.edit_ops.specs.declared.kind.OpKind.TheVariants as kinds
use Rattle.edit_ops.specs.declared.op.Op.{Op}
use Rattle.edit_ops.specs.declared.op.Op.TheVariants.{Add, RenameOld, Delete, Mkdir, SetReplication, SetPermissions, SetOwner, Close, Times, SetQuota}
use Rattle.edit_ops.specs.declared.op.Op.TheVariants.{Rename, ConcatDelete, EndLogSegment, StartLogSegment}
use Rattle.edit_ops.specs.Fields.{path, Text_, Number_}
use Rattle.edit_ops.specs.Records.{EditView, kind_of, layout, called}
use Rattle.edit_ops.specs.Words.{name}
use Rattle.list_oev.specs.Entries.{call_members, members}
use Rattle.edit_ops.specs.Keys.{keys, call_keys}
use Rattle.list_back.specs.Objects.{member_count}
use Rattle.list_back.specs.Rows.{Row, field_json, op_rows, edit_rows, as_data}

abbrev pub read_row : Row → Member
read_row row = (row.0, as_data row.1)

-- ## Keys that differ

abbrev is_apart : List ℕ → List (List ℕ) → Bool
is_apart k [] = true
is_apart k (l ∷ ls) = not (bytes_eq l k) && is_apart k ls

abbrev are_apart : List (List ℕ) → Bool
are_apart [] = true
are_apart (k ∷ ks) = is_apart k ks && are_apart ks

differs : (b : Bool) (l k : List ℕ) → bytes_eq l k ≡ b → not b ≡ true → l ≢ k
differs true l k is h = absurd (true≢false (sym h))
differs false l k is h = λ e. true≢false (sym ((bytes_eq-Decides l k).1 e) ∙ is)

key_of : Row → List ℕ
key_of row = row.0

all_apart : (k : List ℕ) (rows : List Row) → is_apart k (map (λ row. row.0) rows) ≡ true → AllByRecursion (λ p. p.0 ≢ k) (map read_row rows)
all_apart k [] h = tt
all_apart k (row ∷ rows) h = let p = and_parts _ _ h in (differs (bytes_eq row.0 k) row.0 k refl p.0, all_apart k rows p.1)

rows_apart : (rows : List Row) → are_apart (map (λ row. row.0) rows) ≡ true → AreApart (map read_row rows)
rows_apart [] h = tt
rows_apart (row ∷ rows) h = let p = and_parts _ _ h in (all_apart row.0 rows p.0, rows_apart rows p.1)

-- ## The keys of an edit

abbrev all_keys : OpKind → Bool → List (List ℕ)
all_keys kind false = codes "op" ∷ codes "txid" ∷ keys kind
all_keys kind true = codes "op" ∷ codes "txid" ∷ (call_keys ++ keys kind)

keys_apart : (kind : OpKind) (with_call : Bool) → are_apart (all_keys kind with_call) ≡ true
unfolding keys call_keys
keys_apart kinds.Add false = refl
keys_apart kinds.Add true = refl
keys_apart kinds.RenameOld false = refl
keys_apart kinds.RenameOld true = refl
keys_apart kinds.Delete false = refl
keys_apart kinds.Delete true = refl
keys_apart kinds.Mkdir false = refl
keys_apart kinds.Mkdir true = refl
keys_apart kinds.SetReplication false = refl
keys_apart kinds.SetReplication true = refl
keys_apart kinds.SetPermissions false = refl
keys_apart kinds.SetPermissions true = refl
keys_apart kinds.SetOwner false = refl
keys_apart kinds.SetOwner true = refl
keys_apart kinds.Close false = refl
keys_apart kinds.Close true = refl
keys_apart kinds.Times false = refl
keys_apart kinds.Times true = refl
keys_apart kinds.SetQuota false = refl
keys_apart kinds.SetQuota true = refl
keys_apart kinds.Rename false = refl
keys_apart kinds.Rename true = refl
keys_apart kinds.ConcatDelete false = refl
keys_apart kinds.ConcatDelete true = refl
keys_apart kinds.EndLogSegment false = refl
keys_apart kinds.EndLogSegment true = refl
keys_apart kinds.StartLogSegment false = refl
keys_apart kinds.StartLogSegment true = refl

-- each field has a key
op_keys : (op : Op) → map (λ row. row.0) (op_rows op) ≡ keys (kind_of op)
unfolding keys
op_keys (Add p r m a b s u g) = refl
op_keys (RenameOld s d t) = refl
op_keys (Delete p t) = refl
op_keys (Mkdir p t s u g) = refl
op_keys (SetReplication p r) = refl
op_keys (SetPermissions p s) = refl
op_keys (SetOwner p u g) = refl
op_keys (Close p m a ls) = refl
op_keys (Times p m a) = refl
op_keys (SetQuota p n s) = refl
op_keys (Rename s d t o) = refl
op_keys (ConcatDelete p t ss) = refl
op_keys EndLogSegment = refl
op_keys StartLogSegment = refl

edit_keys_by : (txid : ℕ) (op : Op) (call : Option Call) → map (λ row. row.0) (edit_rows txid (record { op = op; call = call })) ≡ all_keys (kind_of op) (called (record { op = op; call = call }))
unfolding call_keys
edit_keys_by txid op None = ap (λ (ks : List (List ℕ)). codes "op" ∷ codes "txid" ∷ ks) (op_keys op)
edit_keys_by txid op (Some call) = ap (λ (ks : List (List ℕ)). codes "op" ∷ codes "txid" ∷ codes "clientid" ∷ codes "callid" ∷ ks) (op_keys op)

edit_keys : (txid : ℕ) (e : EditView) → map (λ row. row.0) (edit_rows txid e) ≡ all_keys (kind_of e.op) (called e)
edit_keys txid e = edit_keys_by txid e.op e.call

pub edit_apart : (txid : ℕ) (e : EditView) → AreApart (map read_row (edit_rows txid e))
edit_apart txid e = rows_apart (edit_rows txid e) (ap are_apart (edit_keys txid e) ∙ keys_apart (kind_of e.op) (called e))

length-keys : (rows : List Row) → length (map (λ row. row.0) rows) ≡ length rows
length-keys [] = refl
length-keys (row ∷ rows) = omega (arith, length-keys rows)

keys_counted : (kind : OpKind) (with_call : Bool) → length (all_keys kind with_call) ≡ member_count kind with_call
unfolding call_keys
keys_counted kind false = omega arith
keys_counted kind true = omega arith

pub rows_counted : (txid : ℕ) (e : EditView) → length (edit_rows txid e) ≡ member_count (kind_of e.op) (called e)
rows_counted txid e = sym (length-keys (edit_rows txid e)) ∙ ap length (edit_keys txid e) ∙ keys_counted (kind_of e.op) (called e)

pub as_many : (kind : OpKind) → length (keys kind) ≡ length (layout kind)
unfolding keys
as_many kinds.Add = refl
as_many kinds.RenameOld = refl
as_many kinds.Delete = refl
as_many kinds.Mkdir = refl
as_many kinds.SetReplication = refl
as_many kinds.SetPermissions = refl
as_many kinds.SetOwner = refl
as_many kinds.Close = refl
as_many kinds.Times = refl
as_many kinds.SetQuota = refl
as_many kinds.Rename = refl
as_many kinds.ConcatDelete = refl
as_many kinds.EndLogSegment = refl
as_many kinds.StartLogSegment = refl

-- ## The order of the listing

numbers_same : (ns : List ℕ) → map number_of ns ≡ map field_json (map Number_ ns)
numbers_same [] = refl
numbers_same (n ∷ ns) = ap (λ (js : List Json). number_of n ∷ js) (numbers_same ns)

paths_same : (ps : List (List ℕ)) → map string ps ≡ map field_json (map (Text_ path) ps)
paths_same [] = refl
paths_same (p ∷ ps) = ap (λ (js : List Json). string p ∷ js) (paths_same ps)

abbrev close_members : ℕ → List ℕ → ℕ → ℕ → List Json → Option Call → List Row
close_members txid p m a js call =
    (codes "atime", number_of a) ∷ (call_members call ++ ((codes "lengths", array_of js) ∷ (codes "mtime", number_of m) ∷
    (codes "op", string (codes "OP_CLOSE")) ∷ (codes "path", string p) ∷ (codes "txid", number_of txid) ∷ []))

abbrev concat_members : ℕ → List ℕ → ℕ → List Json → Option Call → List Row
concat_members txid p t js call =
    call_members call ++ ((codes "op", string (codes "OP_CONCAT_DELETE")) ∷ (codes "sources", array_of js) ∷ (codes "target", string p) ∷
    (codes "time", number_of t) ∷ (codes "txid", number_of txid) ∷ [])

rows_same_by : (txid : ℕ) (op : Op) (call : Option Call) → put_onto (map read_row (members txid (record { op = op; call = call }))) no_members ≡
    put_all (map read_row (edit_rows txid (record { op = op; call = call })))
unfolding keys call_keys name
rows_same_by txid (Add p r m a b s u g) None = refl
rows_same_by txid (Add p r m a b s u g) (Some call) = refl
rows_same_by txid (RenameOld s d t) None = refl
rows_same_by txid (RenameOld s d t) (Some call) = refl
rows_same_by txid (Delete p t) None = refl
rows_same_by txid (Delete p t) (Some call) = refl
rows_same_by txid (Mkdir p t s u g) None = refl
rows_same_by txid (Mkdir p t s u g) (Some call) = refl
rows_same_by txid (SetReplication p r) None = refl
rows_same_by txid (SetReplication p r) (Some call) = refl
rows_same_by txid (SetPermissions p s) None = refl
rows_same_by txid (SetPermissions p s) (Some call) = refl
rows_same_by txid (SetOwner p u g) None = refl
rows_same_by txid (SetOwner p u g) (Some call) = refl
rows_same_by txid (Close p m a ls) None = ap (λ (js : List Json). put_onto (map read_row (close_members txid p m a js None)) no_members) (numbers_same ls)
rows_same_by txid (Close p m a ls) (Some call) = ap (λ (js : List Json). put_onto (map read_row (close_members txid p m a js (Some call))) no_members) (numbers_same ls)
rows_same_by txid (Times p m a) None = refl
rows_same_by txid (Times p m a) (Some call) = refl
rows_same_by txid (SetQuota p n s) None = refl
rows_same_by txid (SetQuota p n s) (Some call) = refl
rows_same_by txid (Rename s d t o) None = refl
rows_same_by txid (Rename s d t o) (Some call) = refl
rows_same_by txid (ConcatDelete p t ss) None = ap (λ (js : List Json). put_onto (map read_row (concat_members txid p t js None)) no_members) (paths_same ss)
rows_same_by txid (ConcatDelete p t ss) (Some call) = ap (λ (js : List Json). put_onto (map read_row (concat_members txid p t js (Some call))) no_members) (paths_same ss)
rows_same_by txid EndLogSegment None = refl
rows_same_by txid EndLogSegment (Some call) = refl
rows_same_by txid StartLogSegment None = refl
rows_same_by txid StartLogSegment (Some call) = refl

pub rows_same : (txid : ℕ) (e : EditView) → put_onto (map read_row (members txid e)) no_members ≡ put_all (map read_row (edit_rows txid e))
rows_same txid e = rows_same_by txid e.op e.call

-- the listing's keys are ASCII
keys_ascii_by : (txid : ℕ) (op : Op) (call : Option Call) → list_all (λ m. are_ascii m.0) (members txid (record { op = op; call = call })) ≡ true
keys_ascii_by txid (Add p r m a b s u g) None = refl
keys_ascii_by txid (Add p r m a b s u g) (Some call) = refl
keys_ascii_by txid (RenameOld s d t) None = refl
keys_ascii_by txid (RenameOld s d t) (Some call) = refl
keys_ascii_by txid (Delete p t) None = refl
keys_ascii_by txid (Delete p t) (Some call) = refl
keys_ascii_by txid (Mkdir p t s u g) None = refl
keys_ascii_by txid (Mkdir p t s u g) (Some call) = refl
keys_ascii_by txid (SetReplication p r) None = refl
keys_ascii_by txid (SetReplication p r) (Some call) = refl
keys_ascii_by txid (SetPermissions p s) None = refl
keys_ascii_by txid (SetPermissions p s) (Some call) = refl
keys_ascii_by txid (SetOwner p u g) None = refl
keys_ascii_by txid (SetOwner p u g) (Some call) = refl
keys_ascii_by txid (Close p m a ls) None = refl
keys_ascii_by txid (Close p m a ls) (Some call) = refl
keys_ascii_by txid (Times p m a) None = refl
keys_ascii_by txid (Times p m a) (Some call) = refl
keys_ascii_by txid (SetQuota p n s) None = refl
keys_ascii_by txid (SetQuota p n s) (Some call) = refl
keys_ascii_by txid (Rename s d t o) None = refl
keys_ascii_by txid (Rename s d t o) (Some call) = refl
keys_ascii_by txid (ConcatDelete p t ss) None = refl
keys_ascii_by txid (ConcatDelete p t ss) (Some call) = refl
keys_ascii_by txid EndLogSegment None = refl
keys_ascii_by txid EndLogSegment (Some call) = refl
keys_ascii_by txid StartLogSegment None = refl
keys_ascii_by txid StartLogSegment (Some call) = refl

pub keys_ascii : (txid : ℕ) (e : EditView) → list_all (λ m. are_ascii m.0) (members txid e) ≡ true
keys_ascii txid e = keys_ascii_by txid e.op e.call
