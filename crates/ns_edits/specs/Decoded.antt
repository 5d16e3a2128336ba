-- The edit whose record some bytes are, as a function: the opcode tells the kind, and the fields
-- are read in order.
use Rattle.std.specs.Prelude.{ℕ, ◌-◌, ◌==◌, List, [], ◌∷◌, Option, Some, None, Result, Ok, Err, Bool, true, false, nat_lt, if◌then◌else◌}
use Rattle.edit_ops.specs.declared.kind.OpKind.{OpKind}
use Rattle.edit_ops.specs.declared.kind.OpKind.TheVariants as kinds
use Rattle.edit_ops.specs.declared.field_fault.FieldFault.{FieldFault}
use Rattle.edit_ops.specs.Fields.{Field}
use Rattle.edit_ops.specs.Records.{EditView, full_layout}
use Rattle.edit_ops.specs.Reading.{fields_at}
pub use Rattle.edit_ops.specs.FromFields.{text_in, number_in, flag_in, at}
unfoldable pub use Rattle.edit_ops.specs.FromFields.{op_from, edit_from}

-- ## The kind with this code
pub record Opcode : Type 0 where
  pub kind : OpKind
  pub called : Bool

abbrev pub known : Bool → OpKind → Option Opcode
known called kind = Some (record { kind = kind; called = called })

abbrev pub edit_kind : Bool → ℕ → Option Opcode
edit_kind called code =
    if code == 0 then known called kinds.Add
    else if code == 1 then known called kinds.RenameOld
    else if code == 2 then known called kinds.Delete
    else if code == 3 then known called kinds.Mkdir
    else if code == 4 then known called kinds.SetReplication
    else if code == 7 then known called kinds.SetPermissions
    else if code == 8 then known called kinds.SetOwner
    else if code == 9 then known called kinds.Close
    else if code == 13 then known called kinds.Times
    else if code == 14 then known called kinds.SetQuota
    else if code == 15 then known called kinds.Rename
    else if code == 16 then known called kinds.ConcatDelete
    else None

-- a mark of a segment has no call
unfoldable pub opcode_of : ℕ → Option Opcode
opcode_of byte =
    if byte == 23 then known false kinds.EndLogSegment
    else if byte == 24 then known false kinds.StartLogSegment
    else if nat_lt byte 64 then edit_kind false byte
    else edit_kind true (byte - 64)

-- ## A body
abbrev pub whole : OpKind → Bool → List Field → List ℕ → Option EditView
whole kind called fields [] = Some (edit_from kind called fields)
whole kind called fields (byte ∷ rest) = None

abbrev pub read_whole : OpKind → Bool → Result (List Field × List ℕ) FieldFault → Option EditView
read_whole kind called (Ok read) = whole kind called read.0 read.1
read_whole kind called (Err fault) = None

abbrev pub decoded_as : Option Opcode → List ℕ → Option EditView
decoded_as None bytes = None
decoded_as (Some o) bytes = read_whole o.kind o.called (fields_at (full_layout o.kind o.called) bytes)

-- the edit of a body, or none where it doesn't decode
unfoldable pub decoded : List ℕ → Option EditView
decoded [] = None
decoded (byte ∷ bytes) = decoded_as (opcode_of byte) bytes
