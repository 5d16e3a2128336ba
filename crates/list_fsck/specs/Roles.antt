-- What the files of a folder are, by their names.
use Rattle.std.specs.Prelude.{◌≡◌, ℕ, ◌≤◌, ◌^◌, List, [], ◌++◌, codes}
use Rattle.base_words.specs.Padded.{padded}
use Rattle.disk_files.specs.Durable.{number_name}
use Rattle.disk_segment.specs.Names.{InProgress, Final, Record, UnderWay, Fresh}
use Rattle.disk_opening.specs.Kinds.{IsNamed}
use Rattle.ns_store.specs.Lists.{IsNamed as IsImageName}
use Rattle.list_fsck.specs.declared.file_role.FileRole.{FileRole}
use Rattle.list_fsck.specs.declared.file_role.FileRole.TheVariants as role

-- the name of a file that stays until a node or a save of an image is done with it
pub data IsPassing (name : List ℕ) : Type 0 where
  temporary : (front : List ℕ) → name ≡ front ++ codes ".tmp" → IsPassing name
  fresh : (start : ℕ) → IsNamed name start Fresh → IsPassing name
  under_way : (start epoch : ℕ) → IsNamed name start (UnderWay epoch) → IsPassing name
  checkpoint : (txid : ℕ) → txid ≤ 2 ^ 62 → name ≡ codes "fsimage.ckpt_" ++ padded 19 txid → IsPassing name

-- the name is one of those that a node or a store of images writes
abbrev pub IsKnownAs : List ℕ → FileRole → Type 0
IsKnownAs name (role.Number n) = name ≡ number_name n
IsKnownAs name (role.Record start) = IsNamed name start Record
IsKnownAs name (role.InProgress start) = IsNamed name start InProgress
IsKnownAs name (role.Final start last) = IsNamed name start (Final last)
IsKnownAs name (role.Image txid) = IsImageName name [] txid
IsKnownAs name (role.Digest txid) = IsImageName name (codes ".md5") txid
IsKnownAs name role.Passing = IsPassing name
IsKnownAs name role.Unknown = ⊥

-- a name that is none of those is unknown
abbrev pub HasRole : List ℕ → FileRole → Type 0
HasRole name role.Unknown = (known : FileRole) → IsKnownAs name known → ⊥
HasRole name known = IsKnownAs name known

-- the end of the last final segment so far, by the names
abbrev pub end_after : FileRole → ℕ → ℕ
end_after (role.Final start last) before = last
end_after _ before = before
