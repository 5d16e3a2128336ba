-- What a row's text says, column by column.
use Rattle.std.specs.Prelude.{ℕ, zero, suc, ◌+◌, ◌-◌, ◌*◌, ◌%◌, ◌^◌, ◌==◌, ◌||◌, nat_lt, nat_le, min, Bool, true, false, List, [], ◌∷◌, length, drop, slice_get, Option, Some, None, if◌then◌else◌}
use Rattle.std.specs.Prelude.{codes}
use Rattle.std.specs.List.{slice_split, fold}
use Rattle.std.specs.Str.{bytes_eq}
use Rattle.journal_text.specs.Reading.{number_in}
use Rattle.journal_text.specs.ReplyReading.{head_number, head_word, is_over}
use Rattle.ns_tree.specs.declared.inode.Inode.{Inode}
use Rattle.ns_tree.specs.declared.inode.Inode.TheVariants.{Dir, File}
use Rattle.ns_tree.specs.declared.inode.Row.{Row}
use Rattle.report_judge.specs.declared.rows.Numbers.{Numbers}
use Rattle.report_judge.specs.declared.rows.Rights.{Rights}

-- ## Columns
-- what stands before, between and after the tabs
unfoldable pub columns_in : List ℕ → List (List ℕ)
columns_in text = slice_split (λ b. b == 9) text

abbrev pub columns_left : Option (List ℕ) → List (List ℕ)
columns_left None = []
columns_left (Some text) = columns_in text

abbrev pub small : Option ℕ → Option ℕ
small None = None
small (Some n) = if nat_lt 65535 n then None else Some n

-- the first column, as a number of 16 bits
abbrev pub head_small : List (List ℕ) → Option ℕ
head_small cs = small (head_number cs)

-- what can't stand behind a number: no digit, or one too many
abbrev pub is_refused : ℕ → ℕ → Bool
is_refused n b = nat_lt b 48 || nat_lt 57 b || nat_le (2 ^ 96) n

-- digits behind a number, as long as it has room
unfoldable pub wide_from : ℕ → List ℕ → Option ℕ
wide_from n [] = Some n
wide_from n (b ∷ bs) = if is_refused n b then None else wide_from (n * 10 + b % 16) bs

-- the first column, as a number of 128 bits
abbrev pub head_wide : List (List ℕ) → Option ℕ
head_wide [] = None
head_wide (c ∷ cs) = wide_from 0 c

abbrev pub quota_in : List ℕ → Option ℕ
quota_in c = if bytes_eq c (codes "-1") then Some 0 else number_in 0 c

-- the first column, as a quota; no quota is 0
abbrev pub head_quota : List (List ℕ) → Option ℕ
head_quota [] = None
head_quota (c ∷ cs) = quota_in c

-- ## What they say
abbrev pub numbers_by : Option ℕ → Option ℕ → Option ℕ → Option ℕ → Option ℕ → Option ℕ → Option Numbers
numbers_by (Some replication) (Some mtime) (Some atime) (Some block_size) (Some blocks) (Some size) =
    Some (record { replication = replication; mtime = mtime; atime = atime; block_size = block_size; blocks = blocks; size = size })
numbers_by _ _ _ _ _ _ = None

-- the numbers of a row, after its path
unfoldable pub numbers_of : List (List ℕ) → Option Numbers
numbers_of cs =
    numbers_by (head_small cs) (head_number (drop 1 cs)) (head_number (drop 1 (drop 1 cs))) (head_number (drop 1 (drop 1 (drop 1 cs))))
    (head_number (drop 1 (drop 1 (drop 1 (drop 1 cs))))) (head_wide (drop 1 (drop 1 (drop 1 (drop 1 (drop 1 cs))))))

-- two quotas, the letters of a permission, a user and a group
pub record RightsView : Type 0 where
  pub names : ℕ
  pub space : ℕ
  pub letters : List ℕ
  pub user : List ℕ
  pub group : List ℕ

-- those that the code lends
abbrev pub told_rights : Rights → RightsView
told_rights r = record { names = r.names; space = r.space; letters = r.letters.now; user = r.user.now; group = r.group.now }

abbrev pub rights_by : Option ℕ → Option ℕ → Option (List ℕ) → Option (List ℕ) → Option (List ℕ) → Bool → Option RightsView
rights_by (Some names) (Some space) (Some letters) (Some user) (Some group) true =
    Some (record { names = names; space = space; letters = letters; user = user; group = group })
rights_by _ _ _ _ _ _ = None

-- what stands behind a row's numbers, and no more
unfoldable pub rights_of : List (List ℕ) → Option RightsView
rights_of cs =
    rights_by (head_quota cs) (head_quota (drop 1 cs)) (head_word (drop 1 (drop 1 cs))) (head_word (drop 1 (drop 1 (drop 1 cs))))
    (head_word (drop 1 (drop 1 (drop 1 (drop 1 cs))))) (is_over (drop 1 (drop 1 (drop 1 (drop 1 (drop 1 cs))))))

-- ## Permissions
abbrev pub bit_of : ℕ → ℕ
bit_of letter = if letter == 45 || letter == 84 then 0 else 1

abbrev pub with_bit : ℕ → ℕ → ℕ
with_bit permission letter = permission % 256 * 2 + bit_of letter

abbrev pub tells_sticky : Option ℕ → Bool
tells_sticky None = false
tells_sticky (Some letter) = letter == 116 || letter == 84

-- by the last letter
unfoldable pub is_sticky : List ℕ → Bool
is_sticky letters = tells_sticky (slice_get letters (length letters - 1))

abbrev pub with_sticky : Bool → ℕ → ℕ
with_sticky true permission = permission % 512 + 512
with_sticky false permission = permission

-- a permission by its letters, of which the first tells none
unfoldable pub permission_in : List ℕ → ℕ
permission_in letters = with_sticky (is_sticky letters) (fold with_bit 0 (drop 1 letters))

-- ## Rows
-- as much of a size as one block may have
abbrev pub least_of : ℕ → ℕ
least_of size = min size (2 ^ 64 - 1)

-- so many lengths, none of them less than the next
unfoldable pub lengths_of : ℕ → ℕ → List ℕ
lengths_of zero size = []
lengths_of (suc blocks) size = least_of size ∷ lengths_of blocks (size - least_of size)

abbrev pub directory_of : Numbers → RightsView → Inode
directory_of n r = Dir n.mtime (permission_in r.letters) r.user r.group r.names r.space

abbrev pub file_of : Numbers → RightsView → Inode
file_of n r = File n.replication n.mtime n.atime n.block_size (permission_in r.letters) r.user r.group (lengths_of n.blocks n.size) false

abbrev pub inode_by : Bool → Numbers → RightsView → Inode
inode_by true n r = directory_of n r
inode_by false n r = file_of n r

abbrev pub is_directory : List ℕ → Bool
is_directory [] = false
is_directory (l ∷ ls) = l == 100

abbrev pub row_by : List ℕ → Option Numbers → Option RightsView → Option Row
row_by path (Some n) (Some r) = if nat_lt 16384 n.blocks then None else Some (record { path = path; inode = inode_by (is_directory r.letters) n r })
row_by path _ _ = None

abbrev pub row_of : List (List ℕ) → Option Row
row_of [] = None
row_of (path ∷ cs) = row_by path (numbers_of cs) (rights_of (drop 1 (drop 1 (drop 1 (drop 1 (drop 1 (drop 1 cs)))))))

-- the row that a text says, if it says one
unfoldable pub row_in : List ℕ → Option Row
row_in text = row_of (columns_in text)
