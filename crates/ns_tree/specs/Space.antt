-- A namespace: its pairs in the order of a walk, and its retry list.
use Rattle.std.specs.Prelude.{◌≡◌, ℕ, ◌-◌, ◌^◌, ◌<◌, ◌≤◌, Bool, true, false, not, ◌&&◌, ◌||◌, ◌==◌, nat_lt, List, [], ◌∷◌, ◌++◌, length, drop, filter}
use Rattle.std.specs.Prelude.{map, AllPairs, Option, Some, None, codes, if◌then◌else◌}
use Rattle.std.specs.declared.cmp.Ordering.TheVariants.{Less}
use Rattle.std.specs.Ordering.{is_lt, nat_cmp}
use Rattle.std.specs.Cmp.Lexicographic.{slice_cmp}
use Rattle.edit_ops.specs.declared.call.Call.{Call}
use Rattle.ns_tree.specs.declared.inode.Inode.{Inode}
use Rattle.ns_tree.specs.declared.inode.Inode.TheVariants.{Dir, File}
use Rattle.ns_tree.specs.declared.inode.Noted.{Noted}
use Rattle.ns_tree.specs.declared.inode.Row.{Row}
use Rattle.ns_tree.specs.Path.{same_text, is_under, is_at_or_under, walk_cmp, is_right_under, part_under, parent_of, is_path, is_owner, moved_path}

abbrev pub pair : List ℕ → Inode → Row
pair path inode = record { path = path; inode = inode }

-- the pairs, each path once and in the order of a walk; the retry list, oldest first
pub record Space : Type 0 where
  pub pairs : List Row
  pub calls : List Noted

-- the root alone, as it is at the beginning
abbrev pub root_pair : Row
root_pair = pair (codes "/") (Dir 0 493 (codes "hdfs") (codes "supergroup") 0 0)

abbrev pub empty_space : Space
empty_space = record { pairs = root_pair ∷ []; calls = [] }

-- ## What stands where
abbrev pub is_dir : Inode → Bool
is_dir (Dir mtime permission user group names space) = true
is_dir (File replication mtime atime block_size permission user group lengths under_construction) = false

-- the inode at a path
abbrev pub find : List ℕ → List Row → Option Inode
find p [] = None
find p (x ∷ xs) = if same_text p x.path then Some x.inode else find p xs

abbrev pub is_dir_there : Option Inode → Bool
is_dir_there None = false
is_dir_there (Some inode) = is_dir inode

-- something stands under p
abbrev pub has_under : List ℕ → List Row → Bool
has_under p [] = false
has_under p (x ∷ xs) = is_under p x.path || has_under p xs

-- p and what is under it
abbrev pub subtree : List ℕ → List Row → List Row
subtree p xs = filter (λ x. is_at_or_under p x.path) xs

-- the length of the longest path
abbrev pub longest_of : List Row → ℕ
longest_of [] = 0
longest_of (x ∷ xs) = if nat_lt (length x.path) (longest_of xs) then longest_of xs else length x.path

abbrev pub longest_under : List ℕ → List Row → ℕ
longest_under p xs = longest_of (subtree p xs)

-- the last components of what is right under p, where p is a directory that is there
abbrev pub names_under : List ℕ → List Row → List (List ℕ)
names_under p xs = map (λ x. part_under p x.path) (filter (λ x. is_right_under p x.path) xs)

abbrev pub children_of : List ℕ → List Row → List (List ℕ)
children_of p xs = if is_dir_there (find p xs) then names_under p xs else []

-- names in the order of their bytes, none twice
abbrev pub AreInByteOrder : List (List ℕ) → Type 0
AreInByteOrder names = AllPairs (λ a b. slice_cmp nat_cmp a b ≡ Less) names

-- ## Changes
-- the pairs that a walk meets before p, and those that it meets after p
abbrev pub pairs_before : List ℕ → List Row → List Row
pairs_before p xs = filter (λ x. is_lt (walk_cmp x.path p)) xs

abbrev pub pairs_after : List ℕ → List Row → List Row
pairs_after p xs = filter (λ x. is_lt (walk_cmp p x.path)) xs

-- some pairs in the place of what was at p
abbrev pub put_at : List ℕ → List Row → List Row → List Row
put_at p new xs = pairs_before p xs ++ new ++ pairs_after p xs

abbrev pub put : List ℕ → Inode → List Row → List Row
put p inode xs = put_at p (pair p inode ∷ []) xs

-- without p and what is under it
abbrev pub without : List ℕ → List Row → List Row
without p xs = filter (λ x. not (is_at_or_under p x.path)) xs

abbrev pub moved : List ℕ → List ℕ → List Row → List Row
moved src dst xs = map (λ x. pair (moved_path src dst x.path) x.inode) (subtree src xs)

-- an old dst goes, and src and all under it move
abbrev pub renamed : List ℕ → List ℕ → List Row → List Row
renamed src dst xs = put_at dst (moved src dst xs) (without src xs)

abbrev pub change_at : List ℕ → (Inode → Inode) → List Row → List Row
change_at p f xs = map (λ x. if same_text p x.path then pair x.path (f x.inode) else x) xs

abbrev pub raised : ℕ → Inode → Inode
raised t (Dir mtime permission user group names space) = Dir (if nat_lt mtime t then t else mtime) permission user group names space
raised t (File replication mtime atime block_size permission user group lengths under_construction) = File replication mtime atime block_size permission user group lengths under_construction

-- the mtime of a directory, where it is lower
abbrev pub raise : List ℕ → ℕ → List Row → List Row
raise p t xs = change_at p (raised t) xs

-- ## The retry list: 1,024 calls at most, the oldest first
abbrev pub most_calls : ℕ
most_calls = 1024

abbrev pub same_call : Call → Call → Bool
same_call a b = (a.number == b.number) && same_text a.client b.client

abbrev pub txid_of : Call → List Noted → Option ℕ
txid_of call [] = None
txid_of call (n ∷ ns) = if same_call n.call call then Some n.txid else txid_of call ns

-- its last ones
abbrev pub last_calls : List Noted → List Noted
last_calls ns = drop (length ns - most_calls) ns

abbrev pub noted : Call → ℕ → List Noted → List Noted
noted call txid ns = last_calls (ns ++ record { call = call; txid = txid } ∷ [])

-- ## What holds of every namespace
abbrev pub Each : (Row → Type 0) → List Row → Type 0
Each P [] = Unit {0}
Each P (x ∷ xs) = P x × Each P xs

abbrev pub IsInWalkOrder : List Row → Type 0
IsInWalkOrder [] = Unit {0}
IsInWalkOrder (x ∷ xs) = Each (λ y. walk_cmp x.path y.path ≡ Less) xs × IsInWalkOrder xs

abbrev pub AreLengths : List ℕ → Type 0
AreLengths [] = Unit {0}
AreLengths (n ∷ ns) = (1 ≤ n) × (n ≤ 2 ^ 40) × AreLengths ns

abbrev pub IsInode : Inode → Type 0
IsInode (Dir mtime permission user group names space) =
    (mtime ≤ 2 ^ 62) × (permission ≤ 1023) × (is_owner user ≡ true) × (is_owner group ≡ true) × (names ≤ 2 ^ 62) × (space ≤ 2 ^ 62)
IsInode (File replication mtime atime block_size permission user group lengths under_construction) =
    ((1 ≤ replication) × (replication ≤ 512)) × (mtime ≤ 2 ^ 62) × (atime ≤ 2 ^ 62) × ((1 ≤ block_size) × (block_size ≤ 2 ^ 40)) × (permission ≤ 1023)
    × (is_owner user ≡ true) × (is_owner group ≡ true) × AreLengths lengths × (length lengths ≤ 65535)

-- a pair within its grammar and limits, whose parent is a directory that is there
pub record IsPair (xs : List Row) (x : Row) : Type 0 where
  pub path : is_path x.path ≡ true
  pub short : length x.path ≤ 1000
  pub inode : IsInode x.inode
  pub parent : is_dir_there (find (parent_of x.path) xs) ≡ true

-- the txids rise, from above one txid up to another
abbrev pub AreRising : ℕ → ℕ → List Noted → Type 0
AreRising above to [] = above ≤ to
AreRising above to (n ∷ ns) = (above < n.txid) × AreRising n.txid to ns

abbrev pub AreOtherCalls : Call → List Noted → Type 0
AreOtherCalls call [] = Unit {0}
AreOtherCalls call (n ∷ ns) = (same_call n.call call ≡ false) × AreOtherCalls call ns

abbrev pub AreDistinct : List Noted → Type 0
AreDistinct [] = Unit {0}
AreDistinct (n ∷ ns) = AreOtherCalls n.call ns × AreDistinct ns

-- of a namespace after so many edits
pub record IsSpace (position : ℕ) (s : Space) : Type 0 where
  pub ordered : IsInWalkOrder s.pairs
  pub pairs : Each (IsPair s.pairs) s.pairs
  pub root : is_dir_there (find (codes "/") s.pairs) ≡ true
  pub few : length s.calls ≤ most_calls
  pub rising : AreRising 0 position s.calls
  pub distinct : AreDistinct s.calls
