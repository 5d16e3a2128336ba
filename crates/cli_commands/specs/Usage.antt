-- The first word that is missing or wrong.
use Rattle.std.specs.Prelude.{ℕ, List, [], ◌∷◌, Option, Some, None, String, Bool, false, ◌||◌, codes, map, if◌then◌else◌}
use Rattle.std.specs.Str.{bytes_eq}
use Rattle.std.specs.String.{string_bytes}
use Rattle.base_words.specs.WordNumbers.{is_number}
use Rattle.journal_core.specs.Nodes.{most_nodes}
use Rattle.play_script.specs.Words.{greatest}
use Rattle.cli_commands.specs.Commands.{is_from_root}

-- the bytes of each word
abbrev pub bytes_of : {Z : Type 0} → List (String Z) → List (List ℕ)
bytes_of words = map string_bytes words

-- a command of one word
abbrev pub is_alone : List ℕ → Bool
is_alone word =
    bytes_eq word (codes "play") || (bytes_eq word (codes "run") || (bytes_eq word (codes "piped") || (bytes_eq word (codes "mirror") || (bytes_eq word (codes "boot")
    || (bytes_eq word (codes "node") || (bytes_eq word (codes "fsck") || (bytes_eq word (codes "judge") || bytes_eq word (codes "states"))))))))

-- the word of a listing of a segment's file
abbrev pub is_oev : List ℕ → Bool
is_oev word = bytes_eq word (codes "list") || (bytes_eq word (codes "stats") || bytes_eq word (codes "json"))

-- the word of a listing of an image
abbrev pub is_oiv : List ℕ → Bool
is_oiv word = bytes_eq word (codes "delimited") || (bytes_eq word (codes "sizes") || bytes_eq word (codes "json"))

-- a command of one word takes no others
abbrev pub after_one : List (List ℕ) → Option ℕ
after_one [] = None
after_one (word ∷ words) = Some 1

-- a tool takes one name
abbrev pub after_tool : List (List ℕ) → Option ℕ
after_tool [] = Some 2
after_tool (name ∷ []) = None
after_tool (name ∷ word ∷ words) = Some 3

-- after `oev` and `oiv` stands a tool of it, but for `back` and `ls`
unfoldable pub after_program : (List ℕ → Bool) → List (List ℕ) → Option ℕ
after_program is_tool [] = Some 1
after_program is_tool (word ∷ words) = if is_tool word then after_tool words else Some 1

-- after `oev back` stand a name and two numbers: the first txid of a segment, and its epoch
abbrev pub after_epoch : List (List ℕ) → Option ℕ
after_epoch [] = None
after_epoch (word ∷ words) = Some 5

abbrev pub behind_start : List (List ℕ) → Option ℕ
behind_start [] = Some 4
behind_start (epoch ∷ words) = if is_number 1 greatest epoch then after_epoch words else Some 4

abbrev pub behind_name : List (List ℕ) → Option ℕ
behind_name [] = Some 3
behind_name (start ∷ words) = if is_number 1 greatest start then behind_start words else Some 3

unfoldable pub after_back : List (List ℕ) → Option ℕ
after_back [] = Some 2
after_back (name ∷ words) = behind_name words

unfoldable pub after_oev : List (List ℕ) → Option ℕ
after_oev [] = Some 1
after_oev (word ∷ words) = if bytes_eq word (codes "back") then after_back words else after_program is_oev (word ∷ words)

-- after `oiv ls` stand a name and a path
abbrev pub after_path : List (List ℕ) → Option ℕ
after_path [] = None
after_path (word ∷ words) = Some 4

abbrev pub behind_image : List (List ℕ) → Option ℕ
behind_image [] = Some 3
behind_image (path ∷ words) = if is_from_root path then after_path words else Some 3

unfoldable pub after_ls : List (List ℕ) → Option ℕ
after_ls [] = Some 2
after_ls (name ∷ words) = behind_image words

unfoldable pub after_oiv : List (List ℕ) → Option ℕ
after_oiv [] = Some 1
after_oiv (word ∷ words) = if bytes_eq word (codes "ls") then after_ls words else after_program is_oiv (word ∷ words)

-- after `gen` stand three numbers: the one that a script is made from, how many edits and how many
-- nodes
abbrev pub after_nodes : List (List ℕ) → Option ℕ
after_nodes [] = None
after_nodes (word ∷ words) = Some 4

abbrev pub behind_edits : List (List ℕ) → Option ℕ
behind_edits [] = Some 3
behind_edits (nodes ∷ words) = if is_number 1 most_nodes nodes then after_nodes words else Some 3

abbrev pub after_number : List (List ℕ) → Option ℕ
after_number [] = Some 2
after_number (edits ∷ words) = if is_number 0 10000 edits then behind_edits words else Some 2

unfoldable pub after_gen : List (List ℕ) → Option ℕ
after_gen [] = Some 1
after_gen (number ∷ words) = if is_number 0 greatest number then after_number words else Some 1

-- the place, from 0, of the first word that is missing or wrong
unfoldable pub usage_of : List (List ℕ) → Option ℕ
usage_of [] = Some 0
usage_of (word ∷ words) =
    if is_alone word then after_one words
    else (if bytes_eq word (codes "oev") then after_oev words
    else (if bytes_eq word (codes "oiv") then after_oiv words
    else (if bytes_eq word (codes "gen") then after_gen words else Some 0)))

-- the words are the one word `piped`
unfoldable pub asks_piped : List (List ℕ) → Bool
asks_piped [] = false
asks_piped (word ∷ []) = bytes_eq word (codes "piped")
asks_piped (word ∷ other ∷ words) = false
