-- What is read of a source of fields where those of an edit of a kind are to be.
use Rattle.std.specs.Prelude.{List, Result, Ok}
use Rattle.edit_ops.specs.declared.kind.OpKind.{OpKind}
use Rattle.edit_ops.specs.Fields.{Kind, Field}
use Rattle.edit_ops.specs.Records.{layout}
use Rattle.edit_ops.specs.Sources.{◌>>=◌, fields_read}

-- the fields of an edit of this kind
unfoldable pub op_read : {L W : Type 0} → (Kind → L → Result (List Field × L) W) → OpKind → L → Result ((OpKind × List Field) × L) W
op_read group kind left = do
  fields ← fields_read group (layout kind) left
  Ok ((kind, fields.0), fields.1)
