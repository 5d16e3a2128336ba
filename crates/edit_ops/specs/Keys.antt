-- The keys of the fields of each kind of edit in the listing as JSON, and what its member `op`
-- says.
use Rattle.std.specs.Prelude.{ℕ, List, [], ◌∷◌, ◌++◌, codes}
use Rattle.edit_ops.specs.declared.kind.OpKind.{OpKind}
use Rattle.edit_ops.specs.declared.kind.OpKind.TheVariants as kinds
use Rattle.edit_ops.specs.Words.{name}

-- in the order of the kind's fields
unfoldable pub keys : OpKind → List (List ℕ)
keys kinds.Add = codes "path" ∷ codes "replication" ∷ codes "mtime" ∷ codes "atime" ∷ codes "blocksize" ∷ codes "permission" ∷ codes "user" ∷ codes "group" ∷ []
keys kinds.RenameOld = codes "src" ∷ codes "dst" ∷ codes "time" ∷ []
keys kinds.Delete = codes "path" ∷ codes "time" ∷ []
keys kinds.Mkdir = codes "path" ∷ codes "time" ∷ codes "permission" ∷ codes "user" ∷ codes "group" ∷ []
keys kinds.SetReplication = codes "path" ∷ codes "replication" ∷ []
keys kinds.SetPermissions = codes "path" ∷ codes "permission" ∷ []
keys kinds.SetOwner = codes "path" ∷ codes "user" ∷ codes "group" ∷ []
keys kinds.Close = codes "path" ∷ codes "mtime" ∷ codes "atime" ∷ codes "lengths" ∷ []
keys kinds.Times = codes "path" ∷ codes "mtime" ∷ codes "atime" ∷ []
keys kinds.SetQuota = codes "path" ∷ codes "nsquota" ∷ codes "dsquota" ∷ []
keys kinds.Rename = codes "src" ∷ codes "dst" ∷ codes "time" ∷ codes "overwrite" ∷ []
keys kinds.ConcatDelete = codes "target" ∷ codes "time" ∷ codes "sources" ∷ []
keys kinds.EndLogSegment = []
keys kinds.StartLogSegment = []

-- of a call's fields
unfoldable pub call_keys : List (List ℕ)
call_keys = codes "clientid" ∷ codes "callid" ∷ []

abbrev pub op_name : OpKind → List ℕ
op_name kind = codes "OP_" ++ name kind
