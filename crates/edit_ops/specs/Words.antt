-- The first words of edits.
use Rattle.std.specs.Prelude.{ℕ, List, codes}
use Rattle.edit_ops.specs.declared.kind.OpKind.{OpKind}
use Rattle.edit_ops.specs.declared.kind.OpKind.TheVariants as kinds

-- the first word of an edit in a script
unfoldable pub verb : OpKind → List ℕ
verb kinds.Add = codes "add"
verb kinds.RenameOld = codes "mv"
verb kinds.Delete = codes "delete"
verb kinds.Mkdir = codes "mkdir"
verb kinds.SetReplication = codes "setrep"
verb kinds.SetPermissions = codes "chmod"
verb kinds.SetOwner = codes "setowner"
verb kinds.Close = codes "close"
verb kinds.Times = codes "times"
verb kinds.SetQuota = codes "quota"
verb kinds.Rename = codes "rename"
verb kinds.ConcatDelete = codes "concat"
verb kinds.EndLogSegment = codes "end"
verb kinds.StartLogSegment = codes "start"

-- the name of the kind, the first word of an edit in a listing
unfoldable pub name : OpKind → List ℕ
name kinds.Add = codes "ADD"
name kinds.RenameOld = codes "RENAME_OLD"
name kinds.Delete = codes "DELETE"
name kinds.Mkdir = codes "MKDIR"
name kinds.SetReplication = codes "SET_REPLICATION"
name kinds.SetPermissions = codes "SET_PERMISSIONS"
name kinds.SetOwner = codes "SET_OWNER"
name kinds.Close = codes "CLOSE"
name kinds.Times = codes "TIMES"
name kinds.SetQuota = codes "SET_QUOTA"
name kinds.Rename = codes "RENAME"
name kinds.ConcatDelete = codes "CONCAT_DELETE"
name kinds.EndLogSegment = codes "END_LOG_SEGMENT"
name kinds.StartLogSegment = codes "START_LOG_SEGMENT"
