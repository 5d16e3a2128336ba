-- Images from bytes, from left to right: what stands at the front and what is left, or the first
-- fault.
use Rattle.std.specs.Prelude.{◌≡◌, ℕ, zero, suc, ◌+◌, ◌-◌, ◌^◌, Bool, true, false, ◌&&◌, ◌==◌, nat_le, List, [], ◌∷◌, ◌++◌, length, take, drop, is_none, Result, Ok, Err, if◌then◌else◌}
use Rattle.std.specs.Int.{Width, w16, w32, w64, byte_len, from_be_bytes}
use Rattle.edit_ops.specs.declared.call.Call.{Call}
use Rattle.ns_tree.specs.declared.inode.Inode.{Inode}
use Rattle.ns_tree.specs.declared.inode.Inode.TheVariants.{Dir, File}
use Rattle.ns_tree.specs.declared.inode.Noted.{Noted}
use Rattle.ns_tree.specs.declared.inode.Row.{Row}
use Rattle.ns_tree.specs.Path.{is_path, is_root, is_owner}
use Rattle.ns_tree.specs.Space.{Space, pair, txid_of, most_calls}
use Rattle.ns_tree.specs.Last.{is_after_last, has_parent}
use Rattle.ns_image.specs.declared.image_cause.ImageCause.{ImageCause}
use Rattle.ns_image.specs.declared.image_cause.ImageCause.TheVariants.{Short, Magic, Layout, Field, Order, NoParent, Trailing}
use Rattle.ns_image.specs.declared.image_fault.ImageFault.{ImageFault}
use Rattle.ns_image.specs.declared.image_fault.ReadError.{ReadError}
use Rattle.ns_image.specs.declared.image_fault.ReadError.TheVariants as errors
use Rattle.ns_image.specs.declared.answer.ReadImage.{ReadImage}
use Rattle.ns_image.specs.declared.answer.ReadImage.TheVariants.{Image, BadImage}
use Rattle.ns_image.specs.Layouts.{magic}

infixl 10 ◌>>=◌
abbrev pub ◌>>=◌ : {A B : Type 0} → Result A ImageFault → (A → Result B ImageFault) → Result B ImageFault
(Ok x) >>= f = f x
(Err e) >>= f = Err e

-- what a reader returned, seen by view, is this reading, unless memory ran out
abbrev pub Fails : {Y : Type 0} → ReadError → Result Y ImageFault → Type 0
Fails errors.Memory read = Unit {0}
Fails (errors.Fault f) read = read ≡ Err f

abbrev pub Gives : {X Y : Type 0} → (X → Y) → Result X ReadError → Result Y ImageFault → Type 0
Gives view (Ok x) read = read ≡ Ok (view x)
Gives view (Err e) read = Fails e read

-- a reader found no memory
abbrev pub wants_memory : {X : Type 0} → Result X ReadError → Bool
wants_memory (Ok x) = false
wants_memory (Err errors.Memory) = true
wants_memory (Err (errors.Fault f)) = false

-- this is wrong with what stands at the front of these bytes
abbrev pub fault_at : ImageCause → List ℕ → ImageFault
fault_at cause bytes = record { left = length bytes; cause = cause }

-- what was read from these bytes has to be so
abbrev pub wanted : {A : Type 0} → Bool → ImageCause → List ℕ → A → Result A ImageFault
wanted good cause bytes x = if good then Ok x else Err (fault_at cause bytes)

-- ## Fields
-- a byte that isn't above the limit
unfoldable pub byte_at : ℕ → List ℕ → Result (ℕ × List ℕ) ImageFault
byte_at high [] = Err (fault_at Short [])
byte_at high (byte ∷ bytes) = wanted (nat_le byte high) Field (byte ∷ bytes) (byte, bytes)

-- a number of this width, whichever it is
unfoldable pub whole_at : Width → List ℕ → Result (ℕ × List ℕ) ImageFault
whole_at w bytes = wanted (nat_le (byte_len w) (length bytes)) Short bytes (from_be_bytes w (take (byte_len w) bytes), drop (byte_len w) bytes)

-- a number of this width from a least one to a greatest
unfoldable pub number_at : Width → ℕ → ℕ → ImageCause → List ℕ → Result (ℕ × List ℕ) ImageFault
number_at w low high cause bytes = do
  n ← whole_at w bytes
  wanted (nat_le low n.0 && nat_le n.0 high) cause bytes n

-- a text after its length; where not all of it is there, the fault is at its length
unfoldable pub text_at : List ℕ → Result (List ℕ × List ℕ) ImageFault
text_at bytes = do
  size ← whole_at w16 bytes
  wanted (nat_le size.0 (length size.1)) Short bytes (take size.0 size.1, drop size.0 size.1)

-- a path of at most 1,000 bytes
abbrev pub is_short_path : List ℕ → Bool
is_short_path path = is_path path && nat_le (length path) 1000

unfoldable pub path_at : List ℕ → Result (List ℕ × List ℕ) ImageFault
path_at bytes = do
  text ← text_at bytes
  wanted (is_short_path text.0) Field bytes text

unfoldable pub owner_at : List ℕ → Result (List ℕ × List ℕ) ImageFault
owner_at bytes = do
  text ← text_at bytes
  wanted (is_owner text.0) Field bytes text

-- a time, a quota: at most 2^62
abbrev pub amount_at : List ℕ → Result (ℕ × List ℕ) ImageFault
amount_at bytes = number_at w64 0 (2 ^ 62) Field bytes

-- a length in bytes: from 1 to 2^40
abbrev pub size_at : List ℕ → Result (ℕ × List ℕ) ImageFault
size_at bytes = number_at w64 1 (2 ^ 40) Field bytes

abbrev pub permission_at : List ℕ → Result (ℕ × List ℕ) ImageFault
permission_at bytes = number_at w16 0 1023 Field bytes

-- ## Items
-- so many steps, each from what the one before it made and left
unfoldable pub repeated : {S : Type 0} → (S → List ℕ → Result (S × List ℕ) ImageFault) → ℕ → S → List ℕ → Result (S × List ℕ) ImageFault
repeated step zero state bytes = Ok (state, bytes)
repeated step (suc count) state bytes = do
  next ← step state bytes
  repeated step count next.0 next.1

-- the lengths, with one more
unfoldable pub length_at : List ℕ → List ℕ → Result (List ℕ × List ℕ) ImageFault
length_at lengths bytes = do
  size ← size_at bytes
  Ok (lengths ++ size.0 ∷ [], size.1)

-- the lengths of a file's blocks after their count
unfoldable pub blocks_at : List ℕ → Result (List ℕ × List ℕ) ImageFault
blocks_at bytes = do
  count ← whole_at w16 bytes
  repeated length_at count.0 [] count.1

-- ## Inodes
unfoldable pub dir_at : List ℕ → Result (Inode × List ℕ) ImageFault
dir_at bytes = do
  mtime ← amount_at bytes
  permission ← permission_at mtime.1
  user ← owner_at permission.1
  group ← owner_at user.1
  names ← amount_at group.1
  space ← amount_at names.1
  Ok (Dir mtime.0 permission.0 user.0 group.0 names.0 space.0, space.1)

-- what a file has after its group, which stands after these
unfoldable pub file_after : ℕ → ℕ → List ℕ → List ℕ → List ℕ → Result (Inode × List ℕ) ImageFault
file_after mtime permission user group bytes = do
  replication ← number_at w16 1 512 Field bytes
  atime ← amount_at replication.1
  block_size ← size_at atime.1
  under_construction ← byte_at 1 block_size.1
  lengths ← blocks_at under_construction.1
  Ok (File replication.0 mtime atime.0 block_size.0 permission user group lengths.0 (under_construction.0 == 1), lengths.1)

unfoldable pub file_at : List ℕ → Result (Inode × List ℕ) ImageFault
file_at bytes = do
  mtime ← amount_at bytes
  permission ← permission_at mtime.1
  user ← owner_at permission.1
  group ← owner_at user.1
  file_after mtime.0 permission.0 user.0 group.0 group.1

-- the kind, and the fields of that kind
unfoldable pub inode_at : List ℕ → Result (Inode × List ℕ) ImageFault
inode_at bytes = do
  kind ← byte_at 1 bytes
  if kind.0 == 0 then dir_at kind.1 else file_at kind.1

-- the first inode: the root, which is a directory
unfoldable pub root_at : List ℕ → Result (Inode × List ℕ) ImageFault
root_at bytes = do
  path ← path_at bytes
  first ← wanted (is_root path.0) Order bytes path
  kind ← byte_at 0 first.1
  dir_at kind.1

-- another path: after the one before it, and in a directory that is there
unfoldable pub next_path_at : List Row → List ℕ → Result (List ℕ × List ℕ) ImageFault
next_path_at rows bytes = do
  path ← path_at bytes
  later ← wanted (is_after_last path.0 rows) Order bytes path
  wanted (has_parent later.0 rows) NoParent bytes later

-- the rows, with one more
unfoldable pub row_at : List Row → List ℕ → Result (List Row × List ℕ) ImageFault
row_at rows bytes = do
  path ← next_path_at rows bytes
  inode ← inode_at path.1
  Ok (rows ++ pair path.0 inode.0 ∷ [], inode.1)

unfoldable pub tree_at : List ℕ → Result (List Row × List ℕ) ImageFault
tree_at bytes = do
  count ← number_at w32 1 (2 ^ 32 - 1) Field bytes
  root ← root_at count.1
  repeated row_at (count.0 - 1) (pair (47 ∷ []) root.0 ∷ []) root.1

-- ## Calls
-- the txid of the last of the calls
abbrev pub last_txid : List Noted → ℕ
last_txid [] = 0
last_txid (n ∷ []) = n.txid
last_txid (n ∷ m ∷ ns) = last_txid (m ∷ ns)

unfoldable pub client_at : List ℕ → Result (List ℕ × List ℕ) ImageFault
client_at bytes = wanted (nat_le 16 (length bytes)) Short bytes (take 16 bytes, drop 16 bytes)

-- a call that isn't in the list
unfoldable pub new_call_at : List Noted → List ℕ → Result (Call × List ℕ) ImageFault
new_call_at calls bytes = do
  client ← client_at bytes
  number ← whole_at w32 client.1
  wanted (is_none (txid_of (record { client = client.0; number = number.0 }) calls)) Field bytes (record { client = client.0; number = number.0 }, number.1)

-- the calls, with one more, whose txid is above the last and at most the image's
unfoldable pub call_at : ℕ → List Noted → List ℕ → Result (List Noted × List ℕ) ImageFault
call_at txid calls bytes = do
  call ← new_call_at calls bytes
  at ← number_at w64 (last_txid calls + 1) txid Field call.1
  Ok (calls ++ record { call = call.0; txid = at.0 } ∷ [], at.1)

-- layout 1 has no calls
unfoldable pub calls_at : ℕ → ℕ → List ℕ → Result (List Noted × List ℕ) ImageFault
calls_at layout txid bytes =
    if layout == 1 then Ok ([], bytes)
    else (number_at w32 0 most_calls Field bytes >>= λ count. repeated (call_at txid) count.0 [] count.1)

-- ## Images
-- an image: its layout, the namespace and the txid
pub record Told : Type 0 where
  pub layout : ℕ
  pub space : Space
  pub txid : ℕ

-- the layout and the txid
unfoldable pub head_at : List ℕ → Result ((ℕ × ℕ) × List ℕ) ImageFault
head_at bytes = do
  first ← number_at w32 magic magic Magic bytes
  layout ← number_at w32 1 2 Layout first.1
  txid ← amount_at layout.1
  Ok ((layout.0, txid.0), txid.1)

-- all of the bytes are an image
unfoldable pub told : List ℕ → Result Told ImageFault
told bytes = do
  head ← head_at bytes
  tree ← tree_at head.1
  calls ← calls_at head.0.0 head.0.1 tree.1
  wanted (length calls.1 == 0) Trailing calls.1 (record { layout = head.0.0; space = record { pairs = tree.0; calls = calls.0 }; txid = head.0.1 })

-- ## The answer
-- a fault is told with its place, the first byte of the field
abbrev pub answer : ℕ → Result Told ImageFault → ReadImage
answer size (Ok image) = Image image.space image.txid
answer size (Err fault) = BadImage (size - fault.left) fault.cause

abbrev pub reading_of : List ℕ → ReadImage
reading_of bytes = answer (length bytes) (told bytes)
