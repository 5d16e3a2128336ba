-- The names of the files of one image: a front, its txid as 19 digits, and a rest.
use Rattle.std.specs.Prelude.{◌≢◌, ℕ, List, [], ◌∷◌, ◌++◌, codes}
use Rattle.base_words.specs.Padded.{padded}

pub data Part : Type 0 where
  -- the image itself
  Itself : Part
  -- the image that is being saved
  Checkpoint : Part
  -- the file of its digest
  Digest : Part
  -- the temporary file of that one
  FreshDigest : Part

abbrev pub front_of : Part → List ℕ
front_of Checkpoint = codes "fsimage.ckpt_"
front_of part = codes "fsimage_"

abbrev pub rest_of : Part → List ℕ
rest_of Digest = codes ".md5"
rest_of FreshDigest = codes ".md5.tmp"
rest_of part = []

unfoldable pub name_of : ℕ → Part → List ℕ
name_of txid part = front_of part ++ (padded 19 txid ++ rest_of part)

-- the name is none of these of this image
abbrev pub IsOutside : ℕ → List Part → List ℕ → Type 0
IsOutside txid [] name = Unit {0}
IsOutside txid (part ∷ parts) name = (name ≢ name_of txid part) × IsOutside txid parts name
