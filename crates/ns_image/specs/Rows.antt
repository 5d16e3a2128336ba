-- Rows that are read one by one, each by the one before it, and what takes them.
use Rattle.std.specs.Prelude.{◌≡◌, ℕ, ◌+◌, ◌<◌, ◌≤◌, Bool, true, List, [], length, Result, Ok, Err, if◌then◌else◌}
use Rattle.std.specs.Ordering.{is_lt}
use Rattle.ns_tree.specs.declared.inode.Row.{Row}
use Rattle.ns_tree.specs.Path.{same_text, is_under, is_path, walk_cmp, parent_of}
use Rattle.ns_tree.specs.Space.{pair, find, is_dir_there, IsInode}
use Rattle.ns_tree.specs.Places.{IsTree}
use Rattle.ns_tree.specs.Last.{last_path, is_after_last, has_parent}
use Rattle.ns_image.specs.declared.image_cause.ImageCause.TheVariants.{Order, NoParent}
use Rattle.ns_image.specs.declared.image_fault.ImageFault.{ImageFault}
use Rattle.ns_image.specs.declared.image_fault.ReadError.{ReadError}
use Rattle.ns_image.specs.declared.answer.ReadImage.{ReadImage}
use Rattle.ns_image.specs.declared.answer.ReadImage.TheVariants.{Image, BadImage}
use Rattle.ns_image.specs.declared.answer.Unread.{Unread}
use Rattle.ns_image.specs.declared.answer.Unread.TheVariants.{BadBytes, OutOfMemory}
use Rattle.ns_image.specs.Reading.{◌>>=◌, Fails, wanted, path_at, inode_at}

-- a row that may stand after others
pub record MayStand (rows : List Row) (row : Row) : Type 0 where
  pub path : is_path row.path ≡ true
  pub short : length row.path ≤ 1000
  pub inode : IsInode row.inode
  pub last : is_after_last row.path rows ≡ true
  pub parent : has_parent row.path rows ≡ true

-- ## By the last row alone
-- rows of a namespace, of which the last has this path, and is a directory or not
pub record EndsAt (rows : List Row) (path : List ℕ) (directory : Bool) : Type 0 where
  pub tree : IsTree (record { pairs = rows; calls = [] })
  pub last : last_path rows ≡ path
  pub kind : is_dir_there (find path rows) ≡ directory

-- whether the directory that a later path stands in is there: it is the last row, or the last row
-- lies under it
abbrev pub is_above_last : List ℕ → List ℕ → Bool → Bool
is_above_last above last directory = if same_text above last then directory else is_under above last

-- the path of the next row
unfoldable pub path_after : List ℕ → Bool → List ℕ → Result (List ℕ × List ℕ) ImageFault
path_after last directory bytes = do
  path ← path_at bytes
  later ← wanted (is_lt (walk_cmp last path.0)) Order bytes path
  wanted (is_above_last (parent_of later.0) last directory) NoParent bytes later

-- the next row
unfoldable pub row_after : List ℕ → Bool → List ℕ → Result (Row × List ℕ) ImageFault
row_after last directory bytes = do
  path ← path_after last directory bytes
  inode ← inode_at path.1
  Ok (pair path.0 inode.0, inode.1)

-- ## What takes rows
-- it has taken rows, after which this one may stand; an image counts its rows in 32 bits
pub record MayTake {S : Type 0} (has_taken : S → List Row → Type 0) (sink : S) (row : Row) : Type 0 where
  pub rows : List Row
  pub taken : has_taken sink rows
  pub may : MayStand rows row
  pub few : length rows < 4294967295

-- it has taken rows that end so, and as many more may come
pub record HasTaken {S : Type 0} (has_taken : S → List Row → Type 0) (sink : S) (path : List ℕ) (directory : Bool) (more : ℕ) : Type 0 where
  pub rows : List Row
  pub taken : has_taken sink rows
  pub ends : EndsAt rows path directory
  pub few : length rows + more ≤ 4294967295

-- it has taken these rows, which end so, and this is left to be read
pub record IsNext {S : Type 0} (has_taken : S → List Row → Type 0) (sink : S) (path : List ℕ) (directory : Bool) (rest : List ℕ) (count : ℕ) (read : List Row × List ℕ) : Type 0 where
  pub left : read.1 ≡ rest
  pub taken : has_taken sink read.0
  pub ends : EndsAt read.0 path directory
  pub counted : length read.0 ≡ count

-- what a reader returned fits what this reading gives, unless memory ran out
abbrev pub GivesSome : {X Y : Type 0} → (X → Y → Type 0) → Result X ReadError → Result Y ImageFault → Type 0
GivesSome {X} {Y} Fits (Ok x) read = (y : Y) × (read ≡ Ok y) × Fits x y
GivesSome Fits (Err e) read = Fails e read

-- what has taken the rows of the image that the bytes are, or their first fault
abbrev pub HasRead : {S : Type 0} → (S → List Row → Type 0) → ReadImage → Result S Unread → Type 0
HasRead has_taken (Image space txid) (Ok sink) = has_taken sink space.pairs
HasRead has_taken (Image space txid) (Err (BadBytes place cause)) = ⊥
HasRead has_taken (Image space txid) (Err OutOfMemory) = Unit {0}
HasRead has_taken (BadImage at of) (Ok sink) = ⊥
HasRead has_taken (BadImage at of) (Err (BadBytes place cause)) = (place ≡ at) × (cause ≡ of)
HasRead has_taken (BadImage at of) (Err OutOfMemory) = Unit {0}
