-- Words that are names, numbers and bodies.
use Rattle.std.specs.Prelude.{ℕ, ◌≡◌, ◌^◌, List, [], ◌∷◌, ◌++◌, Bool, true, false, not, Option, None, ◌&&◌, ◌||◌, nat_lt, nat_le, length, codes, slice_index_or, position, is_some}
use Rattle.std.specs.List.{list_all, find}
use Rattle.std.specs.Str.{bytes_eq}
use Rattle.journal_core.specs.declared.cut.Cut.{Cut}
use Rattle.journal_core.specs.declared.cut.Cut.TheVariants as cut
use Rattle.journal_text.specs.Reading.{body_in}

abbrev pub word_at : List (List ℕ) → ℕ → List ℕ
word_at words k = slice_index_or words k []

-- ## Names
abbrev pub is_letter : ℕ → Bool
is_letter b = nat_le 97 b && nat_le b 122

abbrev pub is_name_byte : ℕ → Bool
is_name_byte b = is_letter b || (nat_le 48 b && nat_le b 57)

-- the operator's name, which no script may declare
abbrev pub operator : List ℕ
operator = codes "ops"

-- a letter a to z and up to 15 more of a to z and 0 to 9
abbrev pub is_word_of_name : List ℕ → Bool
is_word_of_name [] = false
is_word_of_name (b ∷ bs) = is_letter b && list_all is_name_byte bs && nat_lt (length bs) 16

unfoldable pub is_name : List ℕ → Bool
is_name word = is_word_of_name word && not (bytes_eq word operator)

-- the number of a name, in order of declaration from 0
unfoldable pub actor_of : List (List ℕ) → List ℕ → Option ℕ
actor_of names name = position (λ n. bytes_eq n name) names

-- the name with that number
abbrev pub name_at : List (List ℕ) → ℕ → List ℕ
name_at names actor = slice_index_or names actor []

-- one more name: where it is new it goes last, and else it is there
abbrev pub Inserts : List (List ℕ) → List ℕ → Bool → List (List ℕ) → Type 0
Inserts old name true new = (actor_of old name ≡ None) × (new ≡ old ++ name ∷ [])
Inserts old name false new = (is_some (actor_of old name) ≡ true) × (new ≡ old)

-- ## Numbers
-- the greatest number of a script
abbrev pub greatest : ℕ
greatest = 2 ^ 62

-- ## What a crash leaves of bytes that weren't synced
abbrev pub choice_word : Cut → List ℕ
choice_word cut.Old = codes "old"
choice_word cut.New = codes "new"
choice_word cut.A5 = codes "a5"

abbrev pub all_choices : List Cut
all_choices = cut.Old ∷ cut.New ∷ cut.A5 ∷ []

-- the choice that a word is
unfoldable pub choice_of : List ℕ → Option Cut
choice_of word = find (λ c. bytes_eq word (choice_word c)) all_choices

-- ## Bodies, in lower-case hexadecimal
-- a word that is a body: 1 to 4,096 bytes
unfoldable pub is_body : List ℕ → Bool
is_body word = is_some (body_in word)
