-- Fields as words: of a script, or of the listing of edits.
use Rattle.std.specs.Prelude.{◌≢◌, ℕ, ◌<◌, List, [], ◌∷◌, Bool, true, false, codes}
use Rattle.std.specs.Fmt.{decimal, digits}
use Rattle.base_words.specs.Hex.{hex_text}
use Rattle.edit_ops.specs.Fields.{Field, Text, path, owner, new_owner, replication, permission, numbers, paths, Text_, Small_, Number_, Flag_, Client_, Call_}

-- An empty text is `-` in a listing. In a script that says of a user or a group that it stays as it
-- is.
abbrev pub text_word : Bool → Text → List ℕ → List ℕ
text_word listing t (b ∷ bytes) = b ∷ bytes
text_word true t [] = 45 ∷ []
text_word false new_owner [] = 45 ∷ []
text_word false path [] = []
text_word false owner [] = []

-- the word of a field after a space; a count has none
abbrev pub spaced : Bool → Field → List ℕ
spaced listing (Text_ t bytes) = 32 ∷ text_word listing t bytes
spaced listing (Small_ replication n) = 32 ∷ decimal n
spaced listing (Small_ permission n) = 32 ∷ digits 8 false n
spaced listing (Small_ numbers n) = []
spaced listing (Small_ paths n) = []
spaced listing (Number_ n) = 32 ∷ decimal n
spaced listing (Flag_ true) = codes " yes"
spaced listing (Flag_ false) = codes " no"
spaced listing (Client_ bytes) = 32 ∷ hex_text bytes
spaced listing (Call_ n) = 32 ∷ decimal n

-- a field that a word of a script can say: a text has a byte, only a user or a group may stay as it
-- is, and a permission has at most four octal digits
abbrev pub CanSay : Field → Type 0
CanSay (Text_ path bytes) = bytes ≢ []
CanSay (Text_ owner bytes) = bytes ≢ []
CanSay (Text_ new_owner bytes) = bytes ≢ 45 ∷ []
CanSay (Small_ permission n) = n < 4096
CanSay field = Unit {0}
