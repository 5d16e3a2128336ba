-- The edit that the fields of a record tell.
use Rattle.std.specs.Prelude.{ℕ, List, [], drop, map, slice_index_or, Some, None, Bool, true, false}
use Rattle.edit_ops.specs.declared.kind.OpKind.{OpKind}
use Rattle.edit_ops.specs.declared.kind.OpKind.TheVariants as kinds
use Rattle.edit_ops.specs.declared.op.Op.{Op}
use Rattle.edit_ops.specs.declared.op.Op.TheVariants.{Add, RenameOld, Delete, Mkdir, SetReplication, SetPermissions, SetOwner, Close, Times, SetQuota}
use Rattle.edit_ops.specs.declared.op.Op.TheVariants.{Rename, ConcatDelete, EndLogSegment, StartLogSegment}
use Rattle.edit_ops.specs.Fields.{Field, Text_, Small_, Number_, Flag_, Client_, Call_}
use Rattle.edit_ops.specs.Records.{EditView}

-- ## What a field holds
abbrev pub text_in : Field → List ℕ
text_in (Text_ t bytes) = bytes
text_in (Client_ bytes) = bytes
text_in (Small_ s n) = []
text_in (Number_ n) = []
text_in (Flag_ b) = []
text_in (Call_ n) = []

abbrev pub number_in : Field → ℕ
number_in (Text_ t bytes) = 0
number_in (Client_ bytes) = 0
number_in (Small_ s n) = n
number_in (Number_ n) = n
number_in (Flag_ b) = 0
number_in (Call_ n) = n

abbrev pub flag_in : Field → Bool
flag_in (Flag_ b) = b
flag_in (Text_ t bytes) = false
flag_in (Client_ bytes) = false
flag_in (Small_ s n) = false
flag_in (Number_ n) = false
flag_in (Call_ n) = false

abbrev pub at : ℕ → List Field → Field
at i fields = slice_index_or fields i (Number_ 0)

-- ## The edit of a kind with these fields
unfoldable pub op_from : OpKind → List Field → Op
op_from kinds.Add f = Add (text_in (at 0 f)) (number_in (at 1 f)) (number_in (at 2 f)) (number_in (at 3 f)) (number_in (at 4 f)) (number_in (at 5 f)) (text_in (at 6 f)) (text_in (at 7 f))
op_from kinds.RenameOld f = RenameOld (text_in (at 0 f)) (text_in (at 1 f)) (number_in (at 2 f))
op_from kinds.Delete f = Delete (text_in (at 0 f)) (number_in (at 1 f))
op_from kinds.Mkdir f = Mkdir (text_in (at 0 f)) (number_in (at 1 f)) (number_in (at 2 f)) (text_in (at 3 f)) (text_in (at 4 f))
op_from kinds.SetReplication f = SetReplication (text_in (at 0 f)) (number_in (at 1 f))
op_from kinds.SetPermissions f = SetPermissions (text_in (at 0 f)) (number_in (at 1 f))
op_from kinds.SetOwner f = SetOwner (text_in (at 0 f)) (text_in (at 1 f)) (text_in (at 2 f))
op_from kinds.Close f = Close (text_in (at 0 f)) (number_in (at 1 f)) (number_in (at 2 f)) (map number_in (drop 4 f))
op_from kinds.Times f = Times (text_in (at 0 f)) (number_in (at 1 f)) (number_in (at 2 f))
op_from kinds.SetQuota f = SetQuota (text_in (at 0 f)) (number_in (at 1 f)) (number_in (at 2 f))
op_from kinds.Rename f = Rename (text_in (at 0 f)) (text_in (at 1 f)) (number_in (at 2 f)) (flag_in (at 3 f))
op_from kinds.ConcatDelete f = ConcatDelete (text_in (at 0 f)) (number_in (at 1 f)) (map text_in (drop 3 f))
op_from kinds.EndLogSegment f = EndLogSegment
op_from kinds.StartLogSegment f = StartLogSegment

unfoldable pub edit_from : OpKind → Bool → List Field → EditView
edit_from kind false f = record { op = op_from kind f; call = None }
edit_from kind true f = record { op = op_from kind (drop 2 f); call = Some (record { client = text_in (at 0 f); number = number_in (at 1 f) }) }
