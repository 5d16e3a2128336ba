-- What an edit that is admitted leaves.
use Rattle.std.specs.Prelude.{◌≡◌, ℕ, Bool, true, false, not, List, [], ◌∷◌, Option, Some, None}
use Rattle.std.specs.List.{AllByRecursion}
use Rattle.edit_ops.specs.declared.call.Call.{Call}
use Rattle.edit_ops.specs.declared.op.Op.{Op}
use Rattle.edit_ops.specs.declared.op.Op.TheVariants.{Add, RenameOld, Delete, Mkdir, SetReplication, SetPermissions, SetOwner, Close, Times, SetQuota}
use Rattle.edit_ops.specs.declared.op.Op.TheVariants.{Rename, ConcatDelete, EndLogSegment, StartLogSegment}
use Rattle.edit_ops.specs.Records.{EditView}
use Rattle.ns_tree.specs.declared.inode.Inode.{Inode}
use Rattle.ns_tree.specs.declared.inode.Inode.TheVariants.{Dir, File}
use Rattle.ns_tree.specs.declared.inode.Noted.{Noted}
use Rattle.ns_tree.specs.declared.inode.Row.{Row}
use Rattle.ns_tree.specs.Path.{parent_of, is_path, is_root, is_at_or_under}
use Rattle.ns_tree.specs.Space.{Space, is_dir, find, put, without, renamed, raise, change_at, noted}
use Rattle.ns_edits.specs.Admit.{target_of, blocks_at}

-- ## What is set
abbrev pub with_blocks : ℕ → ℕ → List ℕ → Inode → Inode
with_blocks mtime atime lengths (File replication m a block_size permission user group old under_construction) =
    File replication mtime atime block_size permission user group lengths false
with_blocks mtime atime lengths (Dir m permission user group names space) = Dir m permission user group names space

abbrev pub with_replication : ℕ → Inode → Inode
with_replication n (File replication mtime atime block_size permission user group lengths under_construction) =
    File n mtime atime block_size permission user group lengths under_construction
with_replication n (Dir mtime permission user group names space) = Dir mtime permission user group names space

abbrev pub with_permission : ℕ → Inode → Inode
with_permission n (File replication mtime atime block_size permission user group lengths under_construction) =
    File replication mtime atime block_size n user group lengths under_construction
with_permission n (Dir mtime permission user group names space) = Dir mtime n user group names space

-- an empty name leaves the old one
abbrev pub or_old : List ℕ → List ℕ → List ℕ
or_old [] old = old
or_old (b ∷ bs) old = b ∷ bs

abbrev pub with_owner : List ℕ → List ℕ → Inode → Inode
with_owner u g (File replication mtime atime block_size permission user group lengths under_construction) =
    File replication mtime atime block_size permission (or_old u user) (or_old g group) lengths under_construction
with_owner u g (Dir mtime permission user group names space) = Dir mtime permission (or_old u user) (or_old g group) names space

abbrev pub with_times : ℕ → ℕ → Inode → Inode
with_times m a (File replication mtime atime block_size permission user group lengths under_construction) =
    File replication m a block_size permission user group lengths under_construction
with_times m a (Dir mtime permission user group names space) = Dir m permission user group names space

abbrev pub with_quota : ℕ → ℕ → Inode → Inode
with_quota n d (Dir mtime permission user group names space) = Dir mtime permission user group n d
with_quota n d (File replication mtime atime block_size permission user group lengths under_construction) =
    File replication mtime atime block_size permission user group lengths under_construction

abbrev pub with_all_blocks : ℕ → List ℕ → Inode → Inode
with_all_blocks time all (File replication mtime atime block_size permission user group lengths under_construction) =
    File replication time atime block_size permission user group all under_construction
with_all_blocks time all (Dir mtime permission user group names space) = Dir mtime permission user group names space

-- ## Kind by kind
abbrev pub add_of : List ℕ → ℕ → ℕ → ℕ → ℕ → ℕ → List ℕ → List ℕ → List Row → List Row
add_of path replication mtime atime block_size permission user group xs =
    raise (parent_of path) mtime (put path (File replication mtime atime block_size permission user group [] true) xs)

abbrev pub mkdir_of : List ℕ → ℕ → ℕ → List ℕ → List ℕ → List Row → List Row
mkdir_of path time permission user group xs = raise (parent_of path) time (put path (Dir time permission user group 0 0) xs)

abbrev pub delete_of : List ℕ → ℕ → List Row → List Row
delete_of path time xs = raise (parent_of path) time (without path xs)

abbrev pub move_of : List ℕ → List ℕ → ℕ → List Row → List Row
move_of src dst time xs = raise (parent_of src) time (raise (parent_of dst) time (renamed src dst xs))

-- files that can go one after the other: each is there, and none is under or the same as one before
-- it
abbrev pub is_file_there : Option Inode → Bool
is_file_there None = false
is_file_there (Some inode) = not (is_dir inode)

pub record IsSource (p : List ℕ) (xs : List Row) : Type 0 where
  pub path : is_path p ≡ true
  pub below : is_root p ≡ false
  pub file : is_file_there (find p xs) ≡ true

abbrev pub AreSources : List (List ℕ) → List Row → Type 0
AreSources [] xs = Unit {0}
AreSources (p ∷ ps) xs = IsSource p xs × AllByRecursion (λ q. is_at_or_under p q ≡ false) ps × AreSources ps xs

-- the sources go, and their parents' mtime is raised
abbrev pub without_sources : List (List ℕ) → ℕ → List Row → List Row
without_sources [] time xs = xs
without_sources (p ∷ ps) time xs = without_sources ps time (raise (parent_of p) time (without p xs))

abbrev pub concat_of : List ℕ → ℕ → List (List ℕ) → List Row → List Row
concat_of target time sources xs =
    raise (parent_of target) time
    (without_sources sources time (change_at target (with_all_blocks time (blocks_at (target ∷ sources) xs)) xs))

unfoldable pub apply_op : Op → List Row → List Row
apply_op (Add path replication mtime atime block_size permission user group) xs = add_of path replication mtime atime block_size permission user group xs
apply_op (Mkdir path time permission user group) xs = mkdir_of path time permission user group xs
apply_op (Close path mtime atime lengths) xs = change_at path (with_blocks mtime atime lengths) xs
apply_op (Delete path time) xs = delete_of path time xs
apply_op (RenameOld src dst time) xs = move_of src (target_of src dst xs) time xs
apply_op (Rename src dst time overwrite) xs = move_of src dst time xs
apply_op (SetReplication path replication) xs = change_at path (with_replication replication) xs
apply_op (SetPermissions path permission) xs = change_at path (with_permission permission) xs
apply_op (SetOwner path user group) xs = change_at path (with_owner user group) xs
apply_op (Times path mtime atime) xs = change_at path (with_times mtime atime) xs
apply_op (SetQuota path names space) xs = change_at path (with_quota names space) xs
apply_op (ConcatDelete target time sources) xs = concat_of target time sources xs
apply_op EndLogSegment xs = xs
apply_op StartLogSegment xs = xs

-- nothing is added, so that to apply it takes no memory
abbrev pub is_free : Op → Bool
is_free (Delete path time) = true
is_free (SetReplication path replication) = true
is_free (SetPermissions path permission) = true
is_free (Times path mtime atime) = true
is_free (SetQuota path names space) = true
is_free EndLogSegment = true
is_free StartLogSegment = true
is_free _ = false

-- ## An edit at its txid: its call goes into the retry list
abbrev pub noted_if : Option Call → ℕ → List Noted → List Noted
noted_if None txid calls = calls
noted_if (Some call) txid calls = noted call txid calls

unfoldable pub apply_of : Space → EditView → ℕ → Space
apply_of s e txid = record { pairs = apply_op e.op s.pairs; calls = noted_if e.call txid s.calls }
