-- Counts, as one row more comes, and that they have room.
use Rattle.std.proofs.Common.{◌≡◌, ℕ, suc, ◌+◌, ◌*◌, ◌<◌, ◌≤◌, Bool, true, false, cond, not, List, [], ◌∷◌, ◌++◌, length, get_or, set, sum, sum_by, count_by, refl, sym, ap, ◌∙◌, subst, arith}
use Rattle.std.specs.Prelude.{◌==◌}
use Rattle.std.specs.List.{flat_map}
use Rattle.std.proofs.lemmas.Bool.{eqb-true, eqb-false}
use Rattle.std.proofs.lemmas.List.{get_or-set_same, get_or-set_other}
use Rattle.std.proofs.lemmas.List.Sums.{sum_by-cons, sum_by_push, count_by-le-length}
use Rattle.ns_tree.specs.declared.inode.Inode.{Inode}
use Rattle.ns_tree.specs.declared.inode.Inode.TheVariants.{Dir, File}
use Rattle.ns_tree.specs.declared.inode.Row.{Row}
use Rattle.ns_tree.specs.Space.{is_dir, Each, AreLengths, IsInode}
use Rattle.ns_tree.proofs.Place.{each_map}
use Rattle.list_oiv.specs.declared.tally.Tally.{Tally}
use Rattle.list_oiv.specs.Sizes.{is_in, block_count, byte_count, one_if, count_in, size_lines, line, lines_of, sizes, AreSizes, CountsDirectory, CountsFile, HasRoom}

-- ---- one more

-- one number of a list is one more
pub bumped : (xs : List ℕ) (c k : ℕ) → c < length xs → get_or (set xs c (get_or xs c 0 + 1)) k 0 ≡ get_or xs k 0 + one_if (c == k)
bumped xs c k lt = by (c == k) refl
  where
    by : (t : Bool) → (c == k) ≡ t → get_or (set xs c (get_or xs c 0 + 1)) k 0 ≡ get_or xs k 0 + one_if t
    by true e = subst (λ (n : ℕ). get_or (set xs c (get_or xs c 0 + 1)) n 0 ≡ get_or xs n 0 + 1) (eqb-true c k e) (get_or-set_same xs c (get_or xs c 0 + 1) 0 lt)
    by false e = get_or-set_other xs c k (get_or xs c 0 + 1) 0 (λ h. eqb-false c k e (sym h)) ∙ omega arith

cond_is : (b : Bool) → cond b 1 0 ≡ one_if b
cond_is true = refl
cond_is false = refl

count_push : {X : Type 0} (p : X → Bool) (xs : List X) (x : X) → count_by p (xs ++ x ∷ []) ≡ count_by p xs + one_if (p x)
count_push p xs x = sum_by_push (λ y. cond (p y) 1 0) xs x ∙ ap (λ (n : ℕ). count_by p xs + n) (cond_is (p x))

-- an inode more is counted
pub record Counts (inode : Inode) (s t : Tally) : Type 0 where
  pub classes : (class : ℕ) → class < 6 → get_or t.classes class 0 ≡ get_or s.classes class 0 + one_if (is_in class inode)
  pub files : t.files ≡ s.files + one_if (not (is_dir inode))
  pub directories : t.directories ≡ s.directories + one_if (is_dir inode)
  pub blocks : t.blocks ≡ s.blocks + block_count inode
  pub bytes : t.bytes ≡ s.bytes + byte_count inode

pub row_counted : (s t : Tally) (row : Row) → Counts row.inode s t → (rows : List Row) → AreSizes s rows → AreSizes t (rows ++ row ∷ [])
row_counted s t row c rows a = record {
  classes = λ k lt. c.classes k lt ∙ (ap (λ (n : ℕ). n + one_if (is_in k row.inode)) (a.classes k lt) ∙ sym (count_push (λ (r : Row). is_in k r.inode) rows row));
  files = c.files ∙ (ap (λ (n : ℕ). n + one_if (not (is_dir row.inode))) a.files ∙ sym (count_push (λ (r : Row). not (is_dir r.inode)) rows row));
  directories = c.directories ∙ (ap (λ (n : ℕ). n + one_if (is_dir row.inode)) a.directories ∙ sym (count_push (λ (r : Row). is_dir r.inode) rows row));
  blocks = c.blocks ∙ (ap (λ (n : ℕ). n + block_count row.inode) a.blocks ∙ sym (sum_by_push (λ (r : Row). block_count r.inode) rows row));
  bytes = c.bytes ∙ (ap (λ (n : ℕ). n + byte_count row.inode) a.bytes ∙ sym (sum_by_push (λ (r : Row). byte_count r.inode) rows row));
}

same_number : (xs ys : List ℕ) (k : ℕ) → ys ≡ xs → get_or ys k 0 ≡ get_or xs k 0 + 0
same_number xs ys k e = ap (λ (z : List ℕ). get_or z k 0) e ∙ omega arith

pub directory_counts : (s t : Tally) (mtime permission : ℕ) (user group : List ℕ) (names space : ℕ) → CountsDirectory s t → Counts (Dir mtime permission user group names space) s t
directory_counts s t mtime permission user group names space c = record {
  classes = λ k lt. same_number s.classes t.classes k c.classes;
  files = c.files ∙ omega arith;
  directories = c.directories;
  blocks = c.blocks ∙ omega arith;
  bytes = c.bytes ∙ omega arith;
}

pub file_counts : (s t : Tally) (replication mtime atime block_size permission : ℕ) (user group lengths : List ℕ) (unfinished : Bool) → CountsFile lengths s t
    → Counts (File replication mtime atime block_size permission user group lengths unfinished) s t
file_counts s t replication mtime atime block_size permission user group lengths unfinished c = record {
  classes = c.classes;
  files = c.files;
  directories = c.directories ∙ omega arith;
  blocks = c.blocks;
  bytes = c.bytes;
}

-- ---- room

pub lengths_sum : (ls : List ℕ) → AreLengths ls → sum ls ≤ length ls * 1099511627776
lengths_sum [] h = omega arith
lengths_sum (n ∷ ls) h = omega (arith, sum_by-cons (λ (x : ℕ). x) n ls, lengths_sum ls h.2, h.1)

pub size_small : (ls : List ℕ) → AreLengths ls → length ls ≤ 65535 → sum ls ≤ 65535 * 1099511627776
size_small ls h few = omega (arith, lengths_sum ls h, few)

-- the lengths of a file's blocks
pub good_lengths : (inode : Inode) (replication mtime atime block_size permission : ℕ) (user group lengths : List ℕ) (unfinished : Bool)
    → inode ≡ File replication mtime atime block_size permission user group lengths unfinished → IsInode inode → AreLengths lengths × (length lengths ≤ 65535)
good_lengths inode replication mtime atime block_size permission user group lengths unfinished e h =
    let file : IsInode (File replication mtime atime block_size permission user group lengths unfinished) = subst IsInode e h in (file.7, file.8)

inode_blocks : (inode : Inode) → IsInode inode → block_count inode ≤ 65535
inode_blocks (Dir mtime permission user group names space) h = omega arith
inode_blocks (File replication mtime atime block_size permission user group lengths unfinished) h = h.8

inode_bytes : (inode : Inode) → IsInode inode → byte_count inode ≤ 65535 * 1099511627776
inode_bytes (Dir mtime permission user group names space) h = omega arith
inode_bytes (File replication mtime atime block_size permission user group lengths unfinished) h = size_small lengths h.7 h.8

sum_small : (f : Row → ℕ) (m : ℕ) (rows : List Row) → Each (λ r. f r ≤ m) rows → sum_by f rows ≤ length rows * m
sum_small f m [] h = omega arith
sum_small f m (r ∷ rows) h =
    let one : f r ≤ m = h.0 in
    let rest : sum_by f rows ≤ length rows * m = sum_small f m rows h.1 in
    let all : suc (length rows) * m ≡ m + length rows * m = omega arith in
    omega (arith, sum_by-cons f r rows, one, rest, all)

pub has_room : (s : Tally) (rows : List Row) → Each (λ r. IsInode r.inode) rows → length rows < 4294967296 → AreSizes s rows → HasRoom s
has_room s rows good few a =
    let blocks = sum_small (λ r. block_count r.inode) 65535 rows (each_map (λ r. IsInode r.inode) (λ r. block_count r.inode ≤ 65535) (λ r h. inode_blocks r.inode h) rows good) in
    let bytes = sum_small (λ r. byte_count r.inode) (65535 * 1099511627776) rows
    (each_map (λ r. IsInode r.inode) (λ r. byte_count r.inode ≤ 65535 * 1099511627776) (λ r h. inode_bytes r.inode h) rows good) in
    record {
      classes = λ k lt. omega (arith, a.classes k lt, count_by-le-length (λ (r : Row). is_in k r.inode) rows, few);
      files = omega (arith, a.files, count_by-le-length (λ (r : Row). not (is_dir r.inode)) rows, few);
      directories = omega (arith, a.directories, count_by-le-length (λ (r : Row). is_dir r.inode) rows, few);
      blocks = omega (arith, a.blocks, blocks, few);
      bytes = omega (arith, a.bytes, bytes, few);
    }

-- ---- lines

pub lines_are : (s : Tally) (rows : List Row) → AreSizes s rows → lines_of s ≡ size_lines rows
lines_are s rows a =
    let c0 : get_or s.classes 0 0 ≡ count_in 0 rows = a.classes 0 (omega arith) in
    let c1 : get_or s.classes 1 0 ≡ count_in 1 rows = a.classes 1 (omega arith) in
    let c2 : get_or s.classes 2 0 ≡ count_in 2 rows = a.classes 2 (omega arith) in
    let c3 : get_or s.classes 3 0 ≡ count_in 3 rows = a.classes 3 (omega arith) in
    let c4 : get_or s.classes 4 0 ≡ count_in 4 rows = a.classes 4 (omega arith) in
    let c5 : get_or s.classes 5 0 ≡ count_in 5 rows = a.classes 5 (omega arith) in
    rw (c0, c1, c2, c3, c4, c5, a.files, a.directories, a.blocks, a.bytes) refl

pub sized : (s : Tally) (rows : List Row) (old out : List ℕ) → AreSizes s rows → old ≡ [] → out ≡ old ++ flat_map line (lines_of s) → out ≡ sizes rows
sized s rows old out a none e = e ∙ (ap (λ (z : List ℕ). z ++ flat_map line (lines_of s)) none ∙ ap (flat_map line) (lines_are s rows a))
