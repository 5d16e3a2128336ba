-- An image as bytes: a head, the inodes in the order of a walk, and in layout 2 the calls that are
-- remembered.
use Rattle.std.specs.Prelude.{ℕ, Bool, true, false, ◌==◌, List, [], ◌∷◌, ◌++◌, length, if◌then◌else◌}
use Rattle.std.specs.List.{flat_map}
use Rattle.std.specs.Int.{w16, w32, w64, to_be_bytes}
use Rattle.ns_tree.specs.declared.inode.Inode.{Inode}
use Rattle.ns_tree.specs.declared.inode.Inode.TheVariants.{Dir, File}
use Rattle.ns_tree.specs.declared.inode.Noted.{Noted}
use Rattle.ns_tree.specs.declared.inode.Row.{Row}
use Rattle.ns_tree.specs.Space.{Space}

-- `QJIM`
abbrev pub magic : ℕ
magic = 1363822925

-- a text stands after its length of two bytes
abbrev pub text_bytes : List ℕ → List ℕ
text_bytes text = to_be_bytes w16 (length text) ++ text

abbrev pub flag_byte : Bool → ℕ
flag_byte false = 0
flag_byte true = 1

-- whose an inode is
abbrev pub owner_bytes : ℕ → List ℕ → List ℕ → List ℕ
owner_bytes permission user group = to_be_bytes w16 permission ++ (text_bytes user ++ text_bytes group)

abbrev pub quota_bytes : ℕ → ℕ → List ℕ
quota_bytes names space = to_be_bytes w64 names ++ to_be_bytes w64 space

abbrev pub copies_bytes : ℕ → ℕ → ℕ → List ℕ
copies_bytes replication atime block_size = to_be_bytes w16 replication ++ (to_be_bytes w64 atime ++ to_be_bytes w64 block_size)

-- whether a file is under construction, and the lengths of its blocks after their count
abbrev pub blocks_bytes : Bool → List ℕ → List ℕ
blocks_bytes under_construction lengths = flag_byte under_construction ∷ (to_be_bytes w16 (length lengths) ++ flat_map (to_be_bytes w64) lengths)

-- an inode without its path: its kind, and the fields of that kind
abbrev pub inode_bytes : Inode → List ℕ
inode_bytes (Dir mtime permission user group names space) =
    0 ∷ (to_be_bytes w64 mtime ++ (owner_bytes permission user group ++ quota_bytes names space))
inode_bytes (File replication mtime atime block_size permission user group lengths under_construction) =
    1 ∷ (to_be_bytes w64 mtime ++ (owner_bytes permission user group ++ (copies_bytes replication atime block_size ++ blocks_bytes under_construction lengths)))

abbrev pub row_bytes : Row → List ℕ
row_bytes row = text_bytes row.path ++ inode_bytes row.inode

abbrev pub call_bytes : Noted → List ℕ
call_bytes noted = noted.call.client ++ (to_be_bytes w32 noted.call.number ++ to_be_bytes w64 noted.txid)

-- the calls after the inodes; layout 1 has none
abbrev pub calls_bytes : ℕ → List Noted → List ℕ
calls_bytes layout calls = if layout == 1 then [] else to_be_bytes w32 (length calls) ++ flat_map call_bytes calls

-- what stands before the inodes; the last number counts them
abbrev pub head_bytes : ℕ → ℕ → ℕ → List ℕ
head_bytes layout txid count = to_be_bytes w32 magic ++ (to_be_bytes w32 layout ++ (to_be_bytes w64 txid ++ to_be_bytes w32 count))

-- the image of a namespace at a txid, in this layout
abbrev pub image_bytes : ℕ → Space → ℕ → List ℕ
image_bytes layout space txid = head_bytes layout txid (length space.pairs) ++ (flat_map row_bytes space.pairs ++ calls_bytes layout space.calls)
