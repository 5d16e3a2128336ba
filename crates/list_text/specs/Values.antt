-- JSON values by their members, and their texts.
use Rattle.std.specs.Prelude.{ℕ, List, [], ◌∷◌, ◌++◌, decimal, codes, Option, Some, None, IsAscii}
use Rattle.json.specs.Json.{Json, null, boolean, number, string, array, object, Items, no_items, item, Members, no_members, member}
use Rattle.json.specs.Token.{Token}
use Rattle.json.specs.Tree.{json_tokens}
use Rattle.json.specs.Print.{print}

abbrev pub number_of : ℕ → Json
number_of n = number (decimal n)

-- a number, or -1 for none
abbrev pub limit_of : Option ℕ → Json
limit_of None = number (codes "-1")
limit_of (Some n) = number_of n

abbrev pub items_of : List Json → Items
items_of [] = no_items
items_of (j ∷ js) = item j (items_of js)

abbrev pub array_of : List Json → Json
array_of js = array (items_of js)

-- of keys and their values
abbrev pub members_of : List (List ℕ × Json) → Members
members_of [] = no_members
members_of (m ∷ ms) = member m.0 m.1 (members_of ms)

abbrev pub object_of : List (List ℕ × Json) → Json
object_of ms = object (members_of ms)

-- the text of a value without a space, as a line
abbrev pub json_line : Json → List ℕ
json_line value = print (json_tokens value) ++ 10 ∷ []

abbrev pub member_tokens : List ℕ × Json → List Token
member_tokens m = Token.key m.0 ∷ json_tokens m.1

-- ## Values whose texts are ASCII: a text, or the texts of an array
abbrev pub IsAsciiText : Json → Type 0
IsAsciiText null = Unit {0}
IsAsciiText (boolean b) = Unit {0}
IsAsciiText (number s) = Unit {0}
IsAsciiText (string s) = IsAscii s
IsAsciiText (array js) = Unit {0}
IsAsciiText (object ms) = Unit {0}

abbrev pub AreAsciiTexts : Items → Type 0
AreAsciiTexts no_items = Unit {0}
AreAsciiTexts (item j js) = IsAsciiText j × AreAsciiTexts js

abbrev pub IsAsciiValue : Json → Type 0
IsAsciiValue null = Unit {0}
IsAsciiValue (boolean b) = Unit {0}
IsAsciiValue (number s) = Unit {0}
IsAsciiValue (string s) = IsAscii s
IsAsciiValue (array js) = AreAsciiTexts js
IsAsciiValue (object ms) = Unit {0}

abbrev pub IsAsciiMember : List ℕ × Json → Type 0
IsAsciiMember m = IsAsciiValue m.1
