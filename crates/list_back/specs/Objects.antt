-- Which values of JSON are the objects of edits, as the listing gives them.
use Rattle.std.specs.Prelude.{◌≡◌, ℕ, ◌+◌, ◌++◌, length, codes, Some, option_map, Bool, true, false, Result, Ok, Err}
use Rattle.std.specs.List.{AllByRecursion}
use Rattle.serde_json.specs.Data.{Data, unsigned, number, string}
use Rattle.serde_json.specs.Events.{members_len}
use Rattle.serde_json.specs.Find.{get, as_object}
use Rattle.serde_json.specs.Read.{of_json}
use Rattle.edit_ops.specs.declared.call.Call.{Call}
use Rattle.edit_ops.specs.declared.field_fault.ReadError.{ReadError}
use Rattle.edit_ops.specs.declared.field_fault.ReadError.TheVariants as errors
use Rattle.edit_ops.specs.Fields.{IsGood}
use Rattle.edit_ops.specs.declared.kind.OpKind.{OpKind}
use Rattle.edit_ops.specs.declared.op.Op.{Op}
use Rattle.edit_ops.specs.Records.{EditView, kind_of, fields_of, call_fields, called}
use Rattle.edit_ops.specs.Grammar.{IsEdit, MayCall}
use Rattle.list_oev.specs.Entries.{entry}
use Rattle.list_back.specs.declared.bad_object.BadObject.{BadObject}
use Rattle.edit_ops.specs.Keys.{keys, op_name}
use Rattle.list_back.specs.Rows.{HasRows, op_rows, call_rows}

-- The value is what is read of the object that the listing has for the edit at the txid: the
-- object's keys and no others, each with its value. So a number is one of digits alone, and of
-- equal keys of a text the last counts.
pub record IsObject (txid : ℕ) (e : EditView) (d : Data) : Type 0 where
  pub edit : IsEdit e
  pub read : of_json (entry txid e) ≡ Some d

-- a right answer for a value: the edit whose object it is, or there is none; lack of memory is one
-- everywhere
abbrev pub IsReadObject : ℕ → Data → Result EditView (ReadError BadObject) → Type 0
IsReadObject txid d (Ok e) = IsObject txid e d
IsReadObject txid d (Err errors.Memory) = Unit {0}
IsReadObject txid d (Err (errors.Fault f)) = (e : EditView) → IsObject txid e d → ⊥

-- the object has the members of what an edit of this kind does
pub record HasOp (kind : OpKind) (d : Data) (op : Op) : Type 0 where
  pub kind_is : kind_of op ≡ kind
  pub good : AllByRecursion IsGood (fields_of op)
  pub rows : HasRows d (op_rows op)

abbrev pub IsReadOp : OpKind → Data → Result Op (ReadError BadObject) → Type 0
IsReadOp kind d (Ok op) = HasOp kind d op
IsReadOp kind d (Err errors.Memory) = Unit {0}
IsReadOp kind d (Err (errors.Fault f)) = (op : Op) → HasOp kind d op → ⊥

-- the object has the members of a call
pub record HasCall (d : Data) (call : Call) : Type 0 where
  pub good : AllByRecursion IsGood (call_fields (Some call))
  pub rows : HasRows d (call_rows (Some call))

abbrev pub IsReadCall : Data → Result Call (ReadError BadObject) → Type 0
IsReadCall d (Ok call) = HasCall d call
IsReadCall d (Err errors.Memory) = Unit {0}
IsReadCall d (Err (errors.Fault f)) = (call : Call) → HasCall d call → ⊥

-- how many members an object has of an edit of this kind, with a call or without
abbrev pub member_count : OpKind → Bool → ℕ
member_count kind false = 2 + length (keys kind)
member_count kind true = 4 + length (keys kind)

-- the object has the members of an edit of this kind, with a call or without, beside `op` and
-- `txid`
pub record HasEdit (kind : OpKind) (with_call : Bool) (d : Data) (e : EditView) : Type 0 where
  pub kind_is : kind_of e.op ≡ kind
  pub called_is : called e ≡ with_call
  pub edit : IsEdit e
  pub rows : HasRows d (call_rows e.call ++ op_rows e.op)

abbrev pub IsReadEdit : OpKind → Bool → Data → Result EditView (ReadError BadObject) → Type 0
IsReadEdit kind with_call d (Ok e) = HasEdit kind with_call d e
IsReadEdit kind with_call d (Err errors.Memory) = Unit {0}
IsReadEdit kind with_call d (Err (errors.Fault f)) = (e : EditView) → HasEdit kind with_call d e → ⊥

-- what the object tells of its edit before the fields: the kind, the txid, and by how many members
-- it has whether a client called
pub record HasFront (txid : ℕ) (kind : OpKind) (with_call : Bool) (d : Data) : Type 0 where
  pub op : get (codes "op") d ≡ Some (string (op_name kind))
  pub txid_is : get (codes "txid") d ≡ Some (number (unsigned txid))
  pub may_call : MayCall kind with_call
  pub count : option_map members_len (as_object d) ≡ Some (member_count kind with_call)
