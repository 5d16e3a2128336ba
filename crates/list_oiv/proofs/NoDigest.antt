-- No bytes of an image have a wrong digest: reading them never ends with that cause. And they begin
-- as one.
use Rattle.std.proofs.Common.{◌≡◌, ◌≢◌, ℕ, zero, suc, ◌-◌, ◌^◌, Bool, true, false, List, [], ◌∷◌, length, Result, Ok, Err, refl, ◌∙◌}
use Rattle.std.specs.Prelude.{◌==◌, nat_le, is_ok, if◌then◌else◌}
use Rattle.std.specs.Int.{Width, w16, w32, w64}
use Rattle.ns_tree.specs.declared.inode.Noted.{Noted}
use Rattle.ns_tree.specs.declared.inode.Row.{Row}
use Rattle.ns_tree.specs.Last.{is_after_last, has_parent}
use Rattle.ns_tree.specs.Space.{Space}
use Rattle.ns_image.specs.declared.image_cause.ImageCause.{ImageCause}
use Rattle.ns_image.specs.declared.image_cause.ImageCause.TheVariants.{Short, Magic, Layout, Field, Order, NoParent, Trailing, Digest}
use Rattle.ns_image.specs.declared.answer.ReadImage.TheVariants.{Image, BadImage}
use Rattle.ns_image.specs.Reading.{◌>>=◌, wanted, byte_at, whole_at, number_at, text_at, path_at, owner_at, amount_at, size_at, permission_at}
use Rattle.ns_image.specs.Reading.{repeated, length_at, blocks_at, dir_at, file_after, file_at, inode_at, root_at, next_path_at, row_at, tree_at}
use Rattle.ns_image.specs.Reading.{client_at, new_call_at, call_at, calls_at, head_at, Told, told, answer, reading_of}

-- what a reading ends with, where it fails
abbrev fault_type : {A F : Type 0} → Result A F → Type 0
fault_type {F = F} r = F

abbrev ImageFault : Type 0
ImageFault = fault_type (byte_at 0 [])

-- not that cause
abbrev IsOther : {A : Type 0} → Result A ImageFault → Type 0
IsOther (Ok x) = Unit {0}
IsOther (Err f) = f.cause ≢ Digest

then_other : {A B : Type 0} (m : Result A ImageFault) (f : A → Result B ImageFault) → IsOther m → ((x : A) → IsOther (f x)) → IsOther (m >>= f)
then_other (Ok x) f m k = k x
then_other (Err e) f m k = m

want_other : {A : Type 0} (good : Bool) (cause : ImageCause) (bytes : List ℕ) (x : A) → cause ≢ Digest → IsOther (wanted good cause bytes x)
want_other true cause bytes x h = tt
want_other false cause bytes x h = h

byte_other : (high : ℕ) (bytes : List ℕ) → IsOther (byte_at high bytes)
unfolding byte_at
byte_other high [] = λ e. cc
byte_other high (b ∷ bytes) = want_other (nat_le b high) Field (b ∷ bytes) (b, bytes) (λ e. cc)

whole_other : (w : Width) (bytes : List ℕ) → IsOther (whole_at w bytes)
unfolding whole_at
whole_other w bytes = want_other _ Short bytes _ (λ e. cc)

number_other : (w : Width) (low high : ℕ) (cause : ImageCause) (bytes : List ℕ) → cause ≢ Digest → IsOther (number_at w low high cause bytes)
unfolding number_at
number_other w low high cause bytes h = then_other (whole_at w bytes) _ (whole_other w bytes) (λ n. want_other _ cause bytes n h)

field_other : (w : Width) (low high : ℕ) (bytes : List ℕ) → IsOther (number_at w low high Field bytes)
field_other w low high bytes = number_other w low high Field bytes (λ e. cc)

text_other : (bytes : List ℕ) → IsOther (text_at bytes)
unfolding text_at
text_other bytes = then_other (whole_at w16 bytes) _ (whole_other w16 bytes) (λ n. want_other _ Short bytes _ (λ e. cc))

path_other : (bytes : List ℕ) → IsOther (path_at bytes)
unfolding path_at
path_other bytes = then_other (text_at bytes) _ (text_other bytes) (λ t. want_other _ Field bytes t (λ e. cc))

owner_other : (bytes : List ℕ) → IsOther (owner_at bytes)
unfolding owner_at
owner_other bytes = then_other (text_at bytes) _ (text_other bytes) (λ t. want_other _ Field bytes t (λ e. cc))

repeated_other : {S : Type 0} (step : S → List ℕ → Result (S × List ℕ) ImageFault) (count : ℕ) (state : S) (bytes : List ℕ)
    → ((s : S) (bs : List ℕ) → IsOther (step s bs)) → IsOther (repeated step count state bytes)
unfolding repeated
repeated_other step zero state bytes h = tt
repeated_other step (suc count) state bytes h = then_other (step state bytes) _ (h state bytes) (λ next. repeated_other step count next.0 next.1 h)

length_other : (lengths bytes : List ℕ) → IsOther (length_at lengths bytes)
unfolding length_at
length_other lengths bytes = then_other (size_at bytes) _ (field_other w64 1 (2 ^ 40) bytes) (λ size. tt)

blocks_other : (bytes : List ℕ) → IsOther (blocks_at bytes)
unfolding blocks_at
blocks_other bytes = then_other (whole_at w16 bytes) _ (whole_other w16 bytes) (λ count. repeated_other length_at count.0 [] count.1 length_other)

amount_other : (bytes : List ℕ) → IsOther (amount_at bytes)
amount_other bytes = field_other w64 0 (2 ^ 62) bytes

permission_other : (bytes : List ℕ) → IsOther (permission_at bytes)
permission_other bytes = field_other w16 0 1023 bytes

dir_other : (bytes : List ℕ) → IsOther (dir_at bytes)
unfolding dir_at
dir_other bytes =
    then_other (amount_at bytes) _ (amount_other bytes) (λ mtime. then_other (permission_at mtime.1) _ (permission_other mtime.1) (λ permission.
    then_other (owner_at permission.1) _ (owner_other permission.1) (λ user. then_other (owner_at user.1) _ (owner_other user.1) (λ group.
    then_other (amount_at group.1) _ (amount_other group.1) (λ names. then_other (amount_at names.1) _ (amount_other names.1) (λ space. tt))))))

after_other : (mtime permission : ℕ) (user group bytes : List ℕ) → IsOther (file_after mtime permission user group bytes)
unfolding file_after
after_other mtime permission user group bytes =
    then_other (number_at w16 1 512 Field bytes) _ (field_other w16 1 512 bytes) (λ replication. then_other (amount_at replication.1) _ (amount_other replication.1) (λ atime.
    then_other (size_at atime.1) _ (field_other w64 1 (2 ^ 40) atime.1) (λ block_size. then_other (byte_at 1 block_size.1) _ (byte_other 1 block_size.1) (λ unfinished.
    then_other (blocks_at unfinished.1) _ (blocks_other unfinished.1) (λ lengths. tt)))))

file_other : (bytes : List ℕ) → IsOther (file_at bytes)
unfolding file_at
file_other bytes =
    then_other (amount_at bytes) _ (amount_other bytes) (λ mtime. then_other (permission_at mtime.1) _ (permission_other mtime.1) (λ permission.
    then_other (owner_at permission.1) _ (owner_other permission.1) (λ user. then_other (owner_at user.1) _ (owner_other user.1) (λ group.
    after_other mtime.0 permission.0 user.0 group.0 group.1))))

kind_other : (is_dir : Bool) (bytes : List ℕ) → IsOther (if is_dir then dir_at bytes else file_at bytes)
kind_other true bytes = dir_other bytes
kind_other false bytes = file_other bytes

inode_other : (bytes : List ℕ) → IsOther (inode_at bytes)
unfolding inode_at
inode_other bytes = then_other (byte_at 1 bytes) _ (byte_other 1 bytes) (λ kind. kind_other (kind.0 == 0) kind.1)

root_other : (bytes : List ℕ) → IsOther (root_at bytes)
unfolding root_at
root_other bytes =
    then_other (path_at bytes) _ (path_other bytes) (λ path. then_other _ _ (want_other _ Order bytes path (λ e. cc)) (λ first.
    then_other (byte_at 0 first.1) _ (byte_other 0 first.1) (λ kind. dir_other kind.1)))

next_other : (rows : List Row) (bytes : List ℕ) → IsOther (next_path_at rows bytes)
unfolding next_path_at
next_other rows bytes =
    then_other (path_at bytes) _ (path_other bytes) (λ path.
    then_other (wanted (is_after_last path.0 rows) Order bytes path) (λ later. wanted (has_parent later.0 rows) NoParent bytes later)
    (want_other (is_after_last path.0 rows) Order bytes path (λ e. cc))
    (λ later. want_other (has_parent later.0 rows) NoParent bytes later (λ e. cc)))

row_other : (rows : List Row) (bytes : List ℕ) → IsOther (row_at rows bytes)
unfolding row_at
row_other rows bytes = then_other (next_path_at rows bytes) _ (next_other rows bytes) (λ path. then_other (inode_at path.1) _ (inode_other path.1) (λ inode. tt))

tree_other : (bytes : List ℕ) → IsOther (tree_at bytes)
unfolding tree_at
tree_other bytes =
    then_other (number_at w32 1 (2 ^ 32 - 1) Field bytes) _ (field_other w32 1 (2 ^ 32 - 1) bytes) (λ count. then_other (root_at count.1) _ (root_other count.1) (λ root.
    repeated_other row_at (count.0 - 1) _ root.1 row_other))

client_other : (bytes : List ℕ) → IsOther (client_at bytes)
unfolding client_at
client_other bytes = want_other _ Short bytes _ (λ e. cc)

new_call_other : (calls : List Noted) (bytes : List ℕ) → IsOther (new_call_at calls bytes)
unfolding new_call_at
new_call_other calls bytes =
    then_other (client_at bytes) _ (client_other bytes) (λ client. then_other (whole_at w32 client.1) _ (whole_other w32 client.1) (λ number. want_other _ Field bytes _ (λ e. cc)))

call_other : (txid : ℕ) (calls : List Noted) (bytes : List ℕ) → IsOther (call_at txid calls bytes)
unfolding call_at
call_other txid calls bytes =
    then_other (new_call_at calls bytes) _ (new_call_other calls bytes) (λ call. then_other (number_at w64 _ txid Field call.1) _ (field_other w64 _ txid call.1) (λ at. tt))

listed_other : (none : Bool) (txid : ℕ) (bytes : List ℕ)
    → IsOther (if none then Ok ([], bytes) else (number_at w32 0 1024 Field bytes >>= λ count. repeated (call_at txid) count.0 [] count.1))
listed_other true txid bytes = tt
listed_other false txid bytes =
    then_other (number_at w32 0 1024 Field bytes) _ (field_other w32 0 1024 bytes) (λ count. repeated_other (call_at txid) count.0 [] count.1 (call_other txid))

calls_other : (layout txid : ℕ) (bytes : List ℕ) → IsOther (calls_at layout txid bytes)
unfolding calls_at
calls_other layout txid bytes = listed_other (layout == 1) txid bytes

head_other : (bytes : List ℕ) → IsOther (head_at bytes)
unfolding head_at
head_other bytes =
    then_other _ _ (number_other w32 _ _ Magic bytes (λ e. cc)) (λ first. then_other _ _ (number_other w32 1 2 Layout first.1 (λ e. cc)) (λ layout.
    then_other (amount_at layout.1) _ (amount_other layout.1) (λ txid. tt)))

told_other : (bytes : List ℕ) → IsOther (told bytes)
unfolding told
told_other bytes =
    then_other (head_at bytes) _ (head_other bytes) (λ head. then_other (tree_at head.1) _ (tree_other head.1) (λ tree.
    then_other (calls_at head.0.0 head.0.1 tree.1) _ (calls_other head.0.0 head.0.1 tree.1) (λ calls. want_other _ Trailing calls.1 _ (λ e. cc))))

by_cause : (size : ℕ) (t : Result Told ImageFault) (place : ℕ) (cause : ImageCause) → IsOther t → BadImage place cause ≡ answer size t → cause ≢ Digest
by_cause size (Ok image) place cause h e = absurd cc
by_cause size (Err f) place cause h e = λ d. h (let same : f.cause ≡ cause = cc in same ∙ d)

-- the cause of bytes that are read isn't a digest
pub no_digest : (bytes : List ℕ) (place : ℕ) (cause : ImageCause) → BadImage place cause ≡ reading_of bytes → cause ≢ Digest
no_digest bytes place cause e = by_cause (length bytes) (told bytes) place cause (told_other bytes) e

begun_by : {A : Type 0} (head : Result A ImageFault) (f : A → Result Told ImageFault) (size : ℕ) (space : Space) (txid : ℕ) → answer size (head >>= f) ≡ Image space txid → is_ok head ≡ true
begun_by (Ok x) f size space txid e = refl
begun_by (Err fault) f size space txid e = absurd (cc e)

-- the bytes of an image begin as one
pub image_begun : (bytes : List ℕ) (space : Space) (txid : ℕ) → reading_of bytes ≡ Image space txid → is_ok (head_at bytes) ≡ true
unfolding told
image_begun bytes space txid e = begun_by (head_at bytes) _ (length bytes) space txid e
