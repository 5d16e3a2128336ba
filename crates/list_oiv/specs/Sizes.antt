-- How many files there are of each size.
use Rattle.std.specs.Prelude.{◌≡◌, ℕ, ◌+◌, ◌*◌, ◌<◌, ◌≤◌, Bool, true, false, not, ◌==◌, nat_le, List, [], ◌∷◌, ◌++◌, length, sum, sum_by, count_by, get_or, codes, decimal, if◌then◌else◌}
use Rattle.std.specs.List.{flat_map}
use Rattle.ns_tree.specs.declared.inode.Inode.{Inode}
use Rattle.ns_tree.specs.declared.inode.Inode.TheVariants.{Dir, File}
use Rattle.ns_tree.specs.declared.inode.Row.{Row}
use Rattle.ns_tree.specs.Space.{is_dir, Each, IsInode}
use Rattle.list_oiv.specs.declared.tally.Tally.{Tally}

-- the first class whose limit the size doesn't exceed: 0, 1024, 1024^2, 1024^3 or 1024^4 bytes, or
-- more
abbrev pub class_of : ℕ → ℕ
class_of size =
    if nat_le size 0 then 0
    else if nat_le size 1024 then 1
    else if nat_le size 1048576 then 2
    else if nat_le size 1073741824 then 3
    else if nat_le size 1099511627776 then 4
    else 5

-- a file of this class
abbrev pub is_in : ℕ → Inode → Bool
is_in class (Dir mtime permission user group names space) = false
is_in class (File replication mtime atime block_size permission user group lengths under_construction) = class_of (sum lengths) == class

abbrev pub block_count : Inode → ℕ
block_count (Dir mtime permission user group names space) = 0
block_count (File replication mtime atime block_size permission user group lengths under_construction) = length lengths

abbrev pub byte_count : Inode → ℕ
byte_count (Dir mtime permission user group names space) = 0
byte_count (File replication mtime atime block_size permission user group lengths under_construction) = sum lengths

-- ## Of all rows
abbrev pub count_in : ℕ → List Row → ℕ
count_in class rows = count_by (λ row. is_in class row.inode) rows

abbrev pub file_count : List Row → ℕ
file_count rows = count_by (λ row. not (is_dir row.inode)) rows

abbrev pub directory_count : List Row → ℕ
directory_count rows = count_by (λ row. is_dir row.inode) rows

abbrev pub blocks_in_all : List Row → ℕ
blocks_in_all rows = sum_by (λ row. block_count row.inode) rows

abbrev pub bytes_in_all : List Row → ℕ
bytes_in_all rows = sum_by (λ row. byte_count row.inode) rows

-- words and numbers: each class by the limit of its sizes, and what there is in all; each file is
-- counted once, in its class
abbrev pub size_lines : List Row → List (List ℕ × ℕ)
size_lines rows =
    (codes "0", count_in 0 rows) ∷ (codes "1024", count_in 1 rows) ∷ (codes "1048576", count_in 2 rows) ∷ (codes "1073741824", count_in 3 rows)
    ∷ (codes "1099511627776", count_in 4 rows) ∷ (codes "more", count_in 5 rows) ∷ (codes "files", file_count rows) ∷ (codes "directories", directory_count rows)
    ∷ (codes "blocks", blocks_in_all rows) ∷ (codes "bytes", bytes_in_all rows) ∷ []

abbrev pub line : List ℕ × ℕ → List ℕ
line l = l.0 ++ 32 ∷ (decimal l.1 ++ 10 ∷ [])

abbrev pub sizes : List Row → List ℕ
sizes rows = flat_map line (size_lines rows)

-- ## What the code counts
pub record AreSizes (s : Tally) (rows : List Row) : Type 0 where
  pub classes : (class : ℕ) → class < 6 → get_or s.classes class 0 ≡ count_in class rows
  pub files : s.files ≡ file_count rows
  pub directories : s.directories ≡ directory_count rows
  pub blocks : s.blocks ≡ blocks_in_all rows
  pub bytes : s.bytes ≡ bytes_in_all rows

-- these inodes, each within its limits, are counted
pub record AreCounted (s : Tally) (rows : List Row) : Type 0 where
  pub sizes : AreSizes s rows
  pub inodes : Each (λ row. IsInode row.inode) rows

-- words and numbers, by what was counted: each class by the limit of its sizes, and what there is
-- in all
abbrev pub lines_of : Tally → List (List ℕ × ℕ)
lines_of s =
    (codes "0", get_or s.classes 0 0) ∷ (codes "1024", get_or s.classes 1 0) ∷ (codes "1048576", get_or s.classes 2 0) ∷ (codes "1073741824", get_or s.classes 3 0)
    ∷ (codes "1099511627776", get_or s.classes 4 0) ∷ (codes "more", get_or s.classes 5 0) ∷ (codes "files", s.files) ∷ (codes "directories", s.directories)
    ∷ (codes "blocks", s.blocks) ∷ (codes "bytes", s.bytes) ∷ []

abbrev pub one_if : Bool → ℕ
one_if true = 1
one_if false = 0

-- a directory more is counted
pub record CountsDirectory (s t : Tally) : Type 0 where
  pub classes : t.classes ≡ s.classes
  pub files : t.files ≡ s.files
  pub directories : t.directories ≡ s.directories + 1
  pub blocks : t.blocks ≡ s.blocks
  pub bytes : t.bytes ≡ s.bytes

-- a file of these blocks more is counted
pub record CountsFile (lengths : List ℕ) (s t : Tally) : Type 0 where
  pub classes : (class : ℕ) → class < 6 → get_or t.classes class 0 ≡ get_or s.classes class 0 + one_if (class_of (sum lengths) == class)
  pub files : t.files ≡ s.files + 1
  pub directories : t.directories ≡ s.directories
  pub blocks : t.blocks ≡ s.blocks + length lengths
  pub bytes : t.bytes ≡ s.bytes + sum lengths

-- counts of fewer than 2^32 inodes, each of at most 65,535 blocks of at most 2^40 bytes
pub record HasRoom (s : Tally) : Type 0 where
  pub classes : (class : ℕ) → class < 6 → get_or s.classes class 0 < 4294967296
  pub files : s.files < 4294967296
  pub directories : s.directories < 4294967296
  pub blocks : s.blocks ≤ 4294967296 * 65535
  pub bytes : s.bytes ≤ 4294967296 * (65535 * 1099511627776)
