-- The fields of each kind of edit, and the record of an edit.
use Rattle.std.specs.Prelude.{ℕ, ◌+◌, List, [], ◌∷◌, ◌++◌, length, map, Option, Some, None, Bool, true, false, is_some}
use Rattle.std.specs.List.{flat_map}
use Rattle.edit_ops.specs.declared.kind.OpKind.{OpKind}
use Rattle.edit_ops.specs.declared.kind.OpKind.TheVariants as kinds
use Rattle.edit_ops.specs.declared.op.Op.{Op}
use Rattle.edit_ops.specs.declared.op.Op.TheVariants.{Add, RenameOld, Delete, Mkdir, SetReplication, SetPermissions, SetOwner, Close, Times, SetQuota}
use Rattle.edit_ops.specs.declared.op.Op.TheVariants.{Rename, ConcatDelete, EndLogSegment, StartLogSegment}
use Rattle.edit_ops.specs.declared.call.Call.{Call}
use Rattle.edit_ops.specs.Kinds.{code}
use Rattle.edit_ops.specs.Fields.{Kind, Field, path, owner, new_owner, replication, permission, numbers, paths, text, small, number, flag, client}
use Rattle.edit_ops.specs.Fields.{call_number, Text_, Small_, Number_, Flag_, Client_, Call_, field_bytes}

-- what contracts see of an edit
pub record EditView : Type 0 where
  pub op : Op
  pub call : Option Call

abbrev pub kind_of : Op → OpKind
kind_of (Add p r m a b s u g) = kinds.Add
kind_of (RenameOld s d t) = kinds.RenameOld
kind_of (Delete p t) = kinds.Delete
kind_of (Mkdir p t s u g) = kinds.Mkdir
kind_of (SetReplication p r) = kinds.SetReplication
kind_of (SetPermissions p s) = kinds.SetPermissions
kind_of (SetOwner p u g) = kinds.SetOwner
kind_of (Close p m a ls) = kinds.Close
kind_of (Times p m a) = kinds.Times
kind_of (SetQuota p n s) = kinds.SetQuota
kind_of (Rename s d t o) = kinds.Rename
kind_of (ConcatDelete p t ss) = kinds.ConcatDelete
kind_of EndLogSegment = kinds.EndLogSegment
kind_of StartLogSegment = kinds.StartLogSegment

-- the fields of an edit in their order
abbrev pub fields_of : Op → List Field
fields_of (Add p r m a b s u g) = Text_ path p ∷ Small_ replication r ∷ Number_ m ∷ Number_ a ∷ Number_ b ∷ Small_ permission s ∷ Text_ owner u ∷ Text_ owner g ∷ []
fields_of (RenameOld s d t) = Text_ path s ∷ Text_ path d ∷ Number_ t ∷ []
fields_of (Delete p t) = Text_ path p ∷ Number_ t ∷ []
fields_of (Mkdir p t s u g) = Text_ path p ∷ Number_ t ∷ Small_ permission s ∷ Text_ owner u ∷ Text_ owner g ∷ []
fields_of (SetReplication p r) = Text_ path p ∷ Small_ replication r ∷ []
fields_of (SetPermissions p s) = Text_ path p ∷ Small_ permission s ∷ []
fields_of (SetOwner p u g) = Text_ path p ∷ Text_ new_owner u ∷ Text_ new_owner g ∷ []
fields_of (Close p m a ls) = Text_ path p ∷ Number_ m ∷ Number_ a ∷ Small_ numbers (length ls) ∷ map Number_ ls
fields_of (Times p m a) = Text_ path p ∷ Number_ m ∷ Number_ a ∷ []
fields_of (SetQuota p n s) = Text_ path p ∷ Number_ n ∷ Number_ s ∷ []
fields_of (Rename s d t o) = Text_ path s ∷ Text_ path d ∷ Number_ t ∷ Flag_ o ∷ []
fields_of (ConcatDelete p t ss) = Text_ path p ∷ Number_ t ∷ Small_ paths (length ss) ∷ map (Text_ path) ss
fields_of EndLogSegment = []
fields_of StartLogSegment = []

-- the kinds of those fields; a count is followed by as many fields more
abbrev pub layout : OpKind → List Kind
layout kinds.Add = text path ∷ small replication ∷ number ∷ number ∷ number ∷ small permission ∷ text owner ∷ text owner ∷ []
layout kinds.RenameOld = text path ∷ text path ∷ number ∷ []
layout kinds.Delete = text path ∷ number ∷ []
layout kinds.Mkdir = text path ∷ number ∷ small permission ∷ text owner ∷ text owner ∷ []
layout kinds.SetReplication = text path ∷ small replication ∷ []
layout kinds.SetPermissions = text path ∷ small permission ∷ []
layout kinds.SetOwner = text path ∷ text new_owner ∷ text new_owner ∷ []
layout kinds.Close = text path ∷ number ∷ number ∷ small numbers ∷ []
layout kinds.Times = text path ∷ number ∷ number ∷ []
layout kinds.SetQuota = text path ∷ number ∷ number ∷ []
layout kinds.Rename = text path ∷ text path ∷ number ∷ flag ∷ []
layout kinds.ConcatDelete = text path ∷ number ∷ small paths ∷ []
layout kinds.EndLogSegment = []
layout kinds.StartLogSegment = []

-- the kinds of the fields of a record, with a call or without
abbrev pub full_layout : OpKind → Bool → List Kind
full_layout kind false = layout kind
full_layout kind true = client ∷ call_number ∷ layout kind

-- the fields of a call stand before those of its edit, whose code is then 64 higher
abbrev pub call_fields : Option Call → List Field
call_fields None = []
call_fields (Some call) = Client_ call.client ∷ Call_ call.number ∷ []

abbrev pub opcode : OpKind → Bool → ℕ
opcode kind false = code kind
opcode kind true = code kind + 64

abbrev pub called : EditView → Bool
called e = is_some e.call

abbrev pub edit_fields : EditView → List Field
edit_fields e = call_fields e.call ++ fields_of e.op

-- the record of an edit: its opcode, and its fields one after the other
abbrev pub record_of : EditView → List ℕ
record_of e = opcode (kind_of e.op) (called e) ∷ flat_map field_bytes (edit_fields e)
