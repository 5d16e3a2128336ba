-- Which edits are admitted: of each kind of edit the first broken condition, or none.
use Rattle.std.specs.Prelude.{ℕ, ◌+◌, ◌-◌, ◌==◌, ◌&&◌, ◌||◌, Bool, true, false, not, nat_lt, nat_le, List, [], ◌∷◌, ◌++◌, length, Option, Some, None, is_some, if◌then◌else◌}
use Rattle.std.specs.List.{list_all, list_any}
use Rattle.edit_ops.specs.declared.call.Call.{Call}
use Rattle.edit_ops.specs.declared.op.Op.{Op}
use Rattle.edit_ops.specs.declared.op.Op.TheVariants.{Add, RenameOld, Delete, Mkdir, SetReplication, SetPermissions, SetOwner, Close, Times, SetQuota}
use Rattle.edit_ops.specs.declared.op.Op.TheVariants.{Rename, ConcatDelete, EndLogSegment, StartLogSegment}
use Rattle.edit_ops.specs.Records.{EditView}
use Rattle.ns_tree.specs.declared.inode.Inode.{Inode}
use Rattle.ns_tree.specs.declared.inode.Inode.TheVariants.{Dir, File}
use Rattle.ns_tree.specs.declared.inode.Noted.{Noted}
use Rattle.ns_tree.specs.declared.inode.Row.{Row}
use Rattle.ns_tree.specs.Path.{same_text, stem, path_of_stem, is_path, is_owner, is_root, is_at_or_under, has_slash}
use Rattle.ns_tree.specs.Space.{Space, is_dir, find, has_under, longest_under, txid_of}
use Rattle.ns_edits.specs.declared.refusal.AdmitRefusal.{AdmitRefusal}
use Rattle.ns_edits.specs.declared.refusal.AdmitRefusal.TheVariants.{NoParent, Exists, Missing, NotDirectory, NotFile, NotEmpty, UnderConstruction, Root, IntoItself, BadName, BadNumber, RepeatedCall}

-- ## Tests in order
abbrev pub Refusal : Type 0
Refusal = Option AdmitRefusal

-- the first refusal of some tests
abbrev pub first : List Refusal → Refusal
first [] = None
first (None ∷ tests) = first tests
first (Some refusal ∷ tests) = Some refusal

abbrev pub refused_if : Bool → AdmitRefusal → Refusal
refused_if true refusal = Some refusal
refused_if false refusal = None

-- ## Names and numbers
abbrev pub bad_path : List ℕ → Refusal
bad_path p = refused_if (not (is_path p)) BadName

abbrev pub bad_owner : List ℕ → Refusal
bad_owner name = refused_if (not (is_owner name)) BadName

-- a user or a group that may stay as it is
abbrev pub bad_new_owner : List ℕ → Refusal
bad_new_owner [] = None
bad_new_owner (b ∷ bs) = bad_owner (b ∷ bs)

abbrev pub bad_permission : ℕ → Refusal
bad_permission n = refused_if (nat_lt 1023 n) BadNumber

abbrev pub bad_replication : ℕ → Refusal
bad_replication n = refused_if (nat_lt n 1 || nat_lt 512 n) BadNumber

abbrev pub bad_block_size : ℕ → Refusal
bad_block_size n = refused_if (nat_lt n 1 || nat_lt 1099511627776 n) BadNumber

-- ## Walks from the root
-- what a walk meets at an ancestor
abbrev pub ancestor : AdmitRefusal → Option Inode → Refusal
ancestor absent None = Some absent
ancestor absent (Some inode) = refused_if (not (is_dir inode)) NotDirectory

-- over the proper ancestors of a path; `so_far` is the part before `rest`
abbrev pub ancestors : AdmitRefusal → List Row → List ℕ → List ℕ → Refusal
ancestors absent xs so_far [] = None
ancestors absent xs so_far (b ∷ rest) =
    if b == 47
    then first (ancestor absent (find (path_of_stem so_far) xs) ∷ ancestors absent xs (so_far ++ b ∷ []) rest ∷ [])
    else ancestors absent xs (so_far ++ b ∷ []) rest

-- the path is there
abbrev pub finds : List ℕ → List Row → Refusal
finds p xs = first (ancestors Missing xs [] (stem p) ∷ refused_if (not (is_some (find p xs))) Missing ∷ [])

-- its parent is there
abbrev pub has_parent : List ℕ → List Row → Refusal
has_parent p xs = first (refused_if (is_root p) Root ∷ ancestors NoParent xs [] (stem p) ∷ [])

-- ## What is there
abbrev pub refused_there : AdmitRefusal → Option Inode → Refusal
refused_there refusal None = None
refused_there refusal (Some inode) = Some refusal

abbrev pub refused_dir : AdmitRefusal → Option Inode → Refusal
refused_dir refusal None = None
refused_dir refusal (Some inode) = refused_if (is_dir inode) refusal

abbrev pub refused_file : AdmitRefusal → Option Inode → Refusal
refused_file refusal None = None
refused_file refusal (Some inode) = refused_if (not (is_dir inode)) refusal

abbrev pub is_open : Inode → Bool
is_open (Dir mtime permission user group names space) = false
is_open (File replication mtime atime block_size permission user group lengths under_construction) = under_construction

abbrev pub refused_open : Option Inode → Refusal
refused_open None = None
refused_open (Some inode) = refused_if (is_open inode) UnderConstruction

abbrev pub blocks_of : Option Inode → List ℕ
blocks_of (Some (File replication mtime atime block_size permission user group lengths under_construction)) = lengths
blocks_of _ = []

-- ## A file or a directory is made
abbrev pub admit_add : List ℕ → ℕ → ℕ → ℕ → List ℕ → List ℕ → List Row → Refusal
admit_add path replication block_size permission user group xs =
    first (bad_path path ∷ bad_owner user ∷ bad_owner group
    ∷ bad_permission permission ∷ bad_replication replication ∷ bad_block_size block_size
    ∷ has_parent path xs
    ∷ refused_there Exists (find path xs) ∷ [])

abbrev pub admit_mkdir : List ℕ → ℕ → List ℕ → List ℕ → List Row → Refusal
admit_mkdir path permission user group xs =
    first (bad_path path ∷ bad_owner user ∷ bad_owner group
    ∷ bad_permission permission
    ∷ has_parent path xs
    ∷ refused_there Exists (find path xs) ∷ [])

-- ## A file is closed with its blocks
abbrev pub are_within : ℕ → List ℕ → Bool
are_within size lengths = list_all (λ n. nat_le 1 n && nat_le n size) lengths

abbrev pub bad_blocks : List ℕ → Option Inode → Refusal
bad_blocks lengths (Some (File replication mtime atime block_size permission user group old under_construction)) = refused_if (not (are_within block_size lengths)) BadNumber
bad_blocks lengths _ = None

abbrev pub admit_close : List ℕ → List ℕ → List Row → Refusal
admit_close path lengths xs =
    first (bad_path path ∷ finds path xs ∷ refused_dir NotFile (find path xs) ∷ bad_blocks lengths (find path xs) ∷ [])

abbrev pub admit_delete : List ℕ → List Row → Refusal
admit_delete path xs = first (bad_path path ∷ refused_if (is_root path) Root ∷ finds path xs ∷ [])

-- ## A file or a directory is renamed
-- no moved path gets too long
abbrev pub bad_move : List ℕ → List ℕ → List Row → Refusal
bad_move src dst xs = refused_if (nat_lt 1000 (longest_under src xs - length src + length dst)) BadName

-- what comes after the last `/`
abbrev pub last_component : List ℕ → List ℕ
last_component [] = []
last_component (b ∷ bs) = if has_slash (b ∷ bs) then last_component bs else b ∷ bs

-- a directory that is there takes the source's last component
abbrev pub target_in : Option Inode → List ℕ → List ℕ → List ℕ
target_in None src dst = dst
target_in (Some inode) src dst = if is_dir inode then stem dst ++ 47 ∷ last_component src else dst

abbrev pub target_of : List ℕ → List ℕ → List Row → List ℕ
target_of src dst xs = target_in (find dst xs) src dst

abbrev pub admit_move : List ℕ → List ℕ → List Row → Refusal
admit_move src target xs = first (has_parent target xs ∷ refused_there Exists (find target xs) ∷ bad_move src target xs ∷ [])

abbrev pub admit_rename_old : List ℕ → List ℕ → List Row → Refusal
admit_rename_old src dst xs =
    first (bad_path src ∷ bad_path dst
    ∷ refused_if (is_root src) Root
    ∷ finds src xs
    ∷ refused_if (is_at_or_under src dst) IntoItself
    ∷ admit_move src (target_of src dst xs) xs ∷ [])

-- what stands against putting src over what is there
abbrev pub over : Bool → Option Inode → Option Inode → Bool → Refusal
over overwrite source None filled = None
over false source (Some old) filled = Some Exists
over true None (Some old) filled = None
over true (Some source) (Some old) filled =
    if is_dir source then (if is_dir old then refused_if filled NotEmpty else Some NotDirectory) else refused_if (is_dir old) NotFile

abbrev pub admit_rename : List ℕ → List ℕ → Bool → List Row → Refusal
admit_rename src dst overwrite xs =
    first (bad_path src ∷ bad_path dst
    ∷ refused_if (is_root src || is_root dst) Root
    ∷ finds src xs
    ∷ refused_if (is_at_or_under src dst) IntoItself
    ∷ has_parent dst xs
    ∷ over overwrite (find src xs) (find dst xs) (has_under dst xs)
    ∷ bad_move src dst xs ∷ [])

-- ## What is there is set
abbrev pub admit_set_replication : List ℕ → ℕ → List Row → Refusal
admit_set_replication path replication xs =
    first (bad_path path ∷ bad_replication replication ∷ finds path xs ∷ refused_dir NotFile (find path xs) ∷ [])

abbrev pub admit_set_permissions : List ℕ → ℕ → List Row → Refusal
admit_set_permissions path permission xs = first (bad_path path ∷ bad_permission permission ∷ finds path xs ∷ [])

abbrev pub admit_set_owner : List ℕ → List ℕ → List ℕ → List Row → Refusal
admit_set_owner path user group xs = first (bad_path path ∷ bad_new_owner user ∷ bad_new_owner group ∷ finds path xs ∷ [])

abbrev pub admit_times : List ℕ → List Row → Refusal
admit_times path xs = first (bad_path path ∷ finds path xs ∷ [])

abbrev pub admit_set_quota : List ℕ → List Row → Refusal
admit_set_quota path xs = first (bad_path path ∷ finds path xs ∷ refused_file NotDirectory (find path xs) ∷ [])

-- ## Files go after another one
abbrev pub is_one_of : List ℕ → List (List ℕ) → Bool
is_one_of p ps = list_any (same_text p) ps

-- a closed file
abbrev pub admit_part : List ℕ → List Row → Refusal
admit_part path xs = first (finds path xs ∷ refused_dir NotFile (find path xs) ∷ refused_open (find path xs) ∷ [])

-- the sources in order, after the target and those listed before
abbrev pub admit_sources : List (List ℕ) → List (List ℕ) → List Row → Refusal
admit_sources before [] xs = None
admit_sources before (source ∷ sources) xs =
    first (refused_if (is_one_of source before) IntoItself ∷ admit_part source xs ∷ admit_sources (source ∷ before) sources xs ∷ [])

abbrev pub blocks_at : List (List ℕ) → List Row → List ℕ
blocks_at [] xs = []
blocks_at (p ∷ ps) xs = blocks_of (find p xs) ++ blocks_at ps xs

abbrev pub no_source : List (List ℕ) → Bool
no_source [] = true
no_source (p ∷ ps) = false

abbrev pub bad_paths : List (List ℕ) → Refusal
bad_paths [] = None
bad_paths (p ∷ ps) = first (bad_path p ∷ bad_paths ps ∷ [])

abbrev pub admit_concat : List ℕ → List (List ℕ) → List Row → Refusal
admit_concat target sources xs =
    first (bad_path target ∷ bad_paths sources
    ∷ refused_if (no_source sources) BadNumber
    ∷ admit_part target xs
    ∷ admit_sources (target ∷ []) sources xs
    ∷ refused_if (nat_lt 65535 (length (blocks_at (target ∷ sources) xs))) BadNumber ∷ [])

-- ## An edit
unfoldable pub admit_op : Op → List Row → Refusal
admit_op (Add path replication mtime atime block_size permission user group) xs = admit_add path replication block_size permission user group xs
admit_op (Mkdir path time permission user group) xs = admit_mkdir path permission user group xs
admit_op (Close path mtime atime lengths) xs = admit_close path lengths xs
admit_op (Delete path time) xs = admit_delete path xs
admit_op (RenameOld src dst time) xs = admit_rename_old src dst xs
admit_op (Rename src dst time overwrite) xs = admit_rename src dst overwrite xs
admit_op (SetReplication path replication) xs = admit_set_replication path replication xs
admit_op (SetPermissions path permission) xs = admit_set_permissions path permission xs
admit_op (SetOwner path user group) xs = admit_set_owner path user group xs
admit_op (Times path mtime atime) xs = admit_times path xs
admit_op (SetQuota path names space) xs = admit_set_quota path xs
admit_op (ConcatDelete target time sources) xs = admit_concat target sources xs
admit_op EndLogSegment xs = None
admit_op StartLogSegment xs = None

abbrev pub repeated_at : Option ℕ → Refusal
repeated_at None = None
repeated_at (Some txid) = Some (RepeatedCall txid)

-- the call stands in the retry list
abbrev pub repeated : Option Call → List Noted → Refusal
repeated None calls = None
repeated (Some call) calls = repeated_at (txid_of call calls)

abbrev pub refused_first : Refusal → Refusal → Refusal
refused_first None other = other
refused_first (Some refusal) other = Some refusal

-- the first broken condition of an edit, or none
unfoldable pub admit_of : Space → EditView → Refusal
admit_of s e = refused_first (repeated e.call s.calls) (admit_op e.op s.pairs)
