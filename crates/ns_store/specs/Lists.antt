-- What is answered from the list of the images that count.
use Rattle.std.specs.Prelude.{◌≡◌, ◌⊎◌, ◌↔◌, ℕ, ◌+◌, ◌-◌, ◌≤◌, ◌^◌, max, List, [], ◌++◌, length, take, slice_index, IsTrue, Contains, codes}
use Rattle.std.specs.BTreeSet.{BTreeSet, contains}
use Rattle.std.specs.List.Sorted.{IsStrictlySortedBy}
use Rattle.std.specs.Ordering.{nat_cmp}
use Rattle.base_words.specs.Padded.{padded}

-- all but the newest, so many of them
abbrev pub older_than : ℕ → List ℕ → List ℕ
older_than count txids = take (length txids - count) txids

-- the older of the two newest, or the only one
abbrev pub second_newest : List ℕ → ℕ
second_newest txids = slice_index txids (length txids - 2)

-- the first txid that is kept: the one after that image, and so many more before it, but 1 at least
abbrev pub kept_from : ℕ → List ℕ → ℕ
kept_from extra txids = max 1 (second_newest txids + 1 - extra)

abbrev pub AllSmall : List ℕ → Type 0
AllSmall txids = (txid : ℕ) → Contains txids txid → txid ≤ 2 ^ 62

-- the name is that of the file with this rest of the image of this txid
pub record IsNamed (name rest : List ℕ) (txid : ℕ) : Type 0 where
  pub small : txid ≤ 2 ^ 62
  pub spelled : name ≡ codes "fsimage_" ++ (padded 19 txid ++ rest)

-- one of the names is
pub record HasName (names : List (List ℕ)) (rest : List ℕ) (txid : ℕ) : Type 0 where
  pub name : List ℕ
  pub among : Contains names name
  pub is : IsNamed name rest txid

-- the set has the txid of this name too
pub record AddsTxid (name rest : List ℕ) (old new : BTreeSet ℕ) : Type 0 where
  pub each : (txid : ℕ) → IsTrue (contains nat_cmp new txid) ↔ (IsTrue (contains nat_cmp old txid) ⊎ IsNamed name rest txid)

-- the set has the txids of these names
pub record AreTxids (names : List (List ℕ)) (rest : List ℕ) (txids : BTreeSet ℕ) : Type 0 where
  pub each : (txid : ℕ) → IsTrue (contains nat_cmp txids txid) ↔ HasName names rest txid

-- these are the txids of the images both of whose files are among these names, in order and each
-- once
pub record ListsNamed (names : List (List ℕ)) (txids : List ℕ) : Type 0 where
  pub each : (txid : ℕ) → Contains txids txid ↔ (HasName names [] txid × HasName names (codes ".md5") txid)
  pub sorted : IsStrictlySortedBy nat_cmp txids
