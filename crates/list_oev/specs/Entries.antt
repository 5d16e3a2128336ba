-- Edits as JSON: an object each, its keys in the order of their bytes.
use Rattle.std.specs.Prelude.{ℕ, ◌+◌, List, [], ◌∷◌, ◌++◌, map, codes, Bool, Option, Some, None}
use Rattle.std.specs.List.{flat_map}
use Rattle.json.specs.Json.{Json, boolean, string}
use Rattle.json.specs.Token.{Token}
use Rattle.json.specs.Tree.{json_tokens}
use Rattle.hex.specs.Hex.{encode_lower}
use Rattle.edit_ops.specs.declared.op.Op.{Op}
use Rattle.edit_ops.specs.declared.op.Op.TheVariants.{Add, RenameOld, Delete, Mkdir, SetReplication, SetPermissions, SetOwner, Close, Times, SetQuota}
use Rattle.edit_ops.specs.declared.op.Op.TheVariants.{Rename, ConcatDelete, EndLogSegment, StartLogSegment}
use Rattle.edit_ops.specs.declared.call.Call.{Call}
use Rattle.edit_ops.specs.Records.{EditView}
use Rattle.list_text.specs.Values.{number_of, array_of, object_of, json_line}

-- the members whose keys come before those of a call
abbrev pub early : Op → List (List ℕ × Json)
early (Add p r m a b s u g) = (codes "atime", number_of a) ∷ (codes "blocksize", number_of b) ∷ []
early (RenameOld s d t) = []
early (Delete p t) = []
early (Mkdir p t s u g) = []
early (SetReplication p r) = []
early (SetPermissions p s) = []
early (SetOwner p u g) = []
early (Close p m a ls) = (codes "atime", number_of a) ∷ []
early (Times p m a) = (codes "atime", number_of a) ∷ []
early (SetQuota p n s) = []
early (Rename s d t o) = []
early (ConcatDelete p t ss) = []
early EndLogSegment = []
early StartLogSegment = []

-- the number of a client's call, and the client as hexadecimal digits
abbrev pub call_members : Option Call → List (List ℕ × Json)
call_members None = []
call_members (Some call) = (codes "callid", number_of call.number) ∷ (codes "clientid", string (encode_lower call.client)) ∷ []

-- the members whose keys come after those of a call
abbrev pub late : ℕ → Op → List (List ℕ × Json)
late txid (Add p r m a b s u g) =
    (codes "group", string g) ∷ (codes "mtime", number_of m) ∷ (codes "op", string (codes "OP_ADD")) ∷ (codes "path", string p)
    ∷ (codes "permission", number_of s) ∷ (codes "replication", number_of r) ∷ (codes "txid", number_of txid) ∷ (codes "user", string u) ∷ []
late txid (RenameOld s d t) =
    (codes "dst", string d) ∷ (codes "op", string (codes "OP_RENAME_OLD")) ∷ (codes "src", string s) ∷ (codes "time", number_of t) ∷ (codes "txid", number_of txid) ∷ []
late txid (Delete p t) =
    (codes "op", string (codes "OP_DELETE")) ∷ (codes "path", string p) ∷ (codes "time", number_of t) ∷ (codes "txid", number_of txid) ∷ []
late txid (Mkdir p t s u g) =
    (codes "group", string g) ∷ (codes "op", string (codes "OP_MKDIR")) ∷ (codes "path", string p) ∷ (codes "permission", number_of s)
    ∷ (codes "time", number_of t) ∷ (codes "txid", number_of txid) ∷ (codes "user", string u) ∷ []
late txid (SetReplication p r) =
    (codes "op", string (codes "OP_SET_REPLICATION")) ∷ (codes "path", string p) ∷ (codes "replication", number_of r) ∷ (codes "txid", number_of txid) ∷ []
late txid (SetPermissions p s) =
    (codes "op", string (codes "OP_SET_PERMISSIONS")) ∷ (codes "path", string p) ∷ (codes "permission", number_of s) ∷ (codes "txid", number_of txid) ∷ []
late txid (SetOwner p u g) =
    (codes "group", string g) ∷ (codes "op", string (codes "OP_SET_OWNER")) ∷ (codes "path", string p) ∷ (codes "txid", number_of txid) ∷ (codes "user", string u) ∷ []
late txid (Close p m a ls) =
    (codes "lengths", array_of (map number_of ls)) ∷ (codes "mtime", number_of m) ∷ (codes "op", string (codes "OP_CLOSE")) ∷ (codes "path", string p)
    ∷ (codes "txid", number_of txid) ∷ []
late txid (Times p m a) =
    (codes "mtime", number_of m) ∷ (codes "op", string (codes "OP_TIMES")) ∷ (codes "path", string p) ∷ (codes "txid", number_of txid) ∷ []
late txid (SetQuota p n s) =
    (codes "dsquota", number_of s) ∷ (codes "nsquota", number_of n) ∷ (codes "op", string (codes "OP_SET_QUOTA")) ∷ (codes "path", string p)
    ∷ (codes "txid", number_of txid) ∷ []
late txid (Rename s d t o) =
    (codes "dst", string d) ∷ (codes "op", string (codes "OP_RENAME")) ∷ (codes "overwrite", boolean o) ∷ (codes "src", string s)
    ∷ (codes "time", number_of t) ∷ (codes "txid", number_of txid) ∷ []
late txid (ConcatDelete p t ss) =
    (codes "op", string (codes "OP_CONCAT_DELETE")) ∷ (codes "sources", array_of (map string ss)) ∷ (codes "target", string p)
    ∷ (codes "time", number_of t) ∷ (codes "txid", number_of txid) ∷ []
late txid EndLogSegment = (codes "op", string (codes "OP_END_LOG_SEGMENT")) ∷ (codes "txid", number_of txid) ∷ []
late txid StartLogSegment = (codes "op", string (codes "OP_START_LOG_SEGMENT")) ∷ (codes "txid", number_of txid) ∷ []

abbrev pub members : ℕ → EditView → List (List ℕ × Json)
members txid edit = early edit.op ++ (call_members edit.call ++ late txid edit.op)

abbrev pub entry : ℕ → EditView → Json
entry txid edit = object_of (members txid edit)

-- edits at consecutive txids, an object each
abbrev pub entries : ℕ → List EditView → List Json
entries txid [] = []
entries txid (edit ∷ edits) = entry txid edit ∷ entries (txid + 1) edits

-- one array on a line
abbrev pub entry_lines : ℕ → List EditView → List ℕ
entry_lines txid edits = json_line (array_of (entries txid edits))

-- the tokens of that array before its end
abbrev pub entry_tokens : ℕ → List EditView → List Token
entry_tokens txid edits = Token.begin_array ∷ flat_map json_tokens (entries txid edits)
