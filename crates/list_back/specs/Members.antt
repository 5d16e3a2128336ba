-- The members of an object: their order, and an object made of its members.
use Rattle.std.specs.Prelude.{◌≡◌, ◌≢◌, ℕ, List, [], ◌∷◌}
use Rattle.std.specs.declared.cmp.Ordering.TheVariants.{Less}
use Rattle.std.specs.Ordering.{nat_cmp}
use Rattle.std.specs.Cmp.Lexicographic.{slice_cmp}
use Rattle.std.specs.List.{AllByRecursion}
use Rattle.serde_json.specs.Data.{Data, null, boolean, number, string, array, object, Members, no_members, member, put}

-- a key with its value
abbrev pub Member : Type 0
Member = List ℕ × Data

-- these members, whatever their order
abbrev pub put_all : List Member → Members
put_all [] = no_members
put_all (m ∷ ms) = put m.0 m.1 (put_all ms)

-- these members put onto others, the first first
abbrev pub put_onto : List Member → Members → Members
put_onto [] found = found
put_onto (m ∷ ms) found = put_onto ms (put m.0 m.1 found)

-- all keys stand behind that one
abbrev pub AllAbove : List ℕ → Members → Type 0
AllAbove k no_members = Unit {0}
AllAbove k (member l e ms) = (slice_cmp nat_cmp k l ≡ Less) × AllAbove k ms

-- each key stands once, in the order of the keys' bytes
abbrev pub AreOrdered : Members → Type 0
AreOrdered no_members = Unit {0}
AreOrdered (member k d ms) = AllAbove k ms × AreOrdered ms

-- those of a value that is an object are so
abbrev pub IsOrdered : Data → Type 0
IsOrdered null = Unit {0}
IsOrdered (boolean b) = Unit {0}
IsOrdered (number n) = Unit {0}
IsOrdered (string s) = Unit {0}
IsOrdered (array ds) = Unit {0}
IsOrdered (object ms) = AreOrdered ms

-- no two of them have one key
abbrev pub AreApart : List Member → Type 0
AreApart [] = Unit {0}
AreApart (m ∷ ms) = AllByRecursion (λ n. n.0 ≢ m.0) ms × AreApart ms
