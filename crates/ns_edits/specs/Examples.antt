-- Worked logs: what they replay to.
use Rattle.std.specs.Prelude.{ℕ, true, false, List, [], ◌∷◌, ◌++◌, map, codes, replicate, Some, None}
use Rattle.edit_ops.specs.declared.call.Call.{Call}
use Rattle.edit_ops.specs.declared.op.Op.{Op}
use Rattle.edit_ops.specs.declared.op.Op.TheVariants.{Add, RenameOld, Delete, Mkdir, SetReplication, SetPermissions, SetOwner, Close, Times, SetQuota}
use Rattle.edit_ops.specs.declared.op.Op.TheVariants.{Rename, ConcatDelete, EndLogSegment, StartLogSegment}
use Rattle.edit_ops.specs.Records.{EditView, record_of}
use Rattle.ns_tree.specs.declared.inode.Inode.TheVariants.{Dir, File}
use Rattle.ns_tree.specs.declared.inode.Row.{Row}
use Rattle.ns_tree.specs.Space.{Space, pair}

abbrev pub plain : Op → EditView
plain op = record { op = op; call = None }

-- the log of these edits
abbrev pub log_of : List EditView → List (List ℕ)
log_of edits = map record_of edits

-- ## A file that is made, closed, renamed and given away
unfoldable pub known_edits : List EditView
known_edits =
    plain StartLogSegment
    ∷ plain (Mkdir (codes "/u") 10 493 (codes "hdfs") (codes "hdfs"))
    ∷ plain (Mkdir (codes "/u/x") 20 493 (codes "ann") (codes "ops"))
    ∷ plain (Add (codes "/u/x/f") 3 30 30 134217728 420 (codes "ann") (codes "ops"))
    ∷ plain (Close (codes "/u/x/f") 40 40 (1000 ∷ 2000 ∷ []))
    ∷ plain (Rename (codes "/u/x/f") (codes "/u/g") 50 false)
    ∷ plain (SetOwner (codes "/u/g") (codes "bob") [])
    ∷ plain (Delete (codes "/u/x") 60)
    ∷ plain EndLogSegment ∷ []

unfoldable pub known_rows : List Row
known_rows =
    pair (codes "/") (Dir 10 493 (codes "hdfs") (codes "supergroup") 0 0)
    ∷ pair (codes "/u") (Dir 60 493 (codes "hdfs") (codes "hdfs") 0 0)
    ∷ pair (codes "/u/g") (File 3 40 40 134217728 420 (codes "bob") (codes "ops") (1000 ∷ 2000 ∷ []) false)
    ∷ []

-- ## One edit of every kind
unfoldable pub every_edit : List EditView
every_edit =
    plain StartLogSegment
    ∷ plain (Mkdir (codes "/a") 10 493 (codes "u") (codes "g"))
    ∷ plain (Add (codes "/a/f") 3 20 21 1024 420 (codes "u") (codes "g"))
    ∷ plain (Close (codes "/a/f") 30 31 (1024 ∷ 7 ∷ []))
    ∷ plain (Add (codes "/e") 3 40 41 1024 420 (codes "u") (codes "g"))
    ∷ plain (Close (codes "/e") 50 51 (9 ∷ []))
    ∷ plain (RenameOld (codes "/e") (codes "/a") 60)
    ∷ plain (Rename (codes "/a/f") (codes "/h") 70 true)
    ∷ plain (ConcatDelete (codes "/h") 80 (codes "/a/e" ∷ []))
    ∷ plain (SetReplication (codes "/h") 2)
    ∷ plain (SetPermissions (codes "/h") 384)
    ∷ plain (SetOwner (codes "/h") [] (codes "ops"))
    ∷ plain (Times (codes "/h") 90 91)
    ∷ plain (SetQuota (codes "/") 5 6)
    ∷ plain (Delete (codes "/a") 75)
    ∷ plain EndLogSegment ∷ []

unfoldable pub every_rows : List Row
every_rows =
    pair (codes "/") (Dir 80 493 (codes "hdfs") (codes "supergroup") 5 6)
    ∷ pair (codes "/h") (File 2 90 91 1024 384 (codes "u") (codes "ops") (1024 ∷ 7 ∷ 9 ∷ []) false)
    ∷ []

-- ## A client that asks again
abbrev pub call_of : ℕ → Call
call_of number = record { client = replicate 15 0 ++ 170 ∷ []; number = number }

abbrev pub called : ℕ → Op → EditView
called number op = record { op = op; call = Some (call_of number) }

abbrev pub mkdir_u : ℕ → Op
mkdir_u time = Mkdir (codes "/u") time 493 (codes "u") (codes "g")

unfoldable pub called_edits : List EditView
called_edits =
    plain StartLogSegment ∷ called 7 (mkdir_u 10) ∷ plain StartLogSegment
    ∷ called 9 (Mkdir (codes "/v") 12 493 (codes "u") (codes "g")) ∷ []

unfoldable pub called_space : Space
called_space = record {
  pairs =
      pair (codes "/") (Dir 12 493 (codes "hdfs") (codes "supergroup") 0 0)
      ∷ pair (codes "/u") (Dir 10 493 (codes "u") (codes "g") 0 0)
      ∷ pair (codes "/v") (Dir 12 493 (codes "u") (codes "g") 0 0)
      ∷ [];
  calls = record { call = call_of 7; txid = 2 } ∷ record { call = call_of 9; txid = 4 } ∷ [];
}
