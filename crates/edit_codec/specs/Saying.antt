-- The fields at the front of a text, as a source of words gives them.
use Rattle.std.specs.Prelude.{◌≡◌, ℕ, zero, suc, ◌-◌, ◌^◌, List, [], ◌∷◌, length, take, drop, Bool, true, false, ◌&&◌, Option, Some, None, Result, Ok}
use Rattle.std.specs.Prelude.{Err, ok_or, option_and_then, nat_lt, nat_le, ◌==◌, if◌then◌else◌, codes}
use Rattle.std.specs.List.{position_or_len, list_all}
use Rattle.std.specs.Char.{is_ascii_graphic}
use Rattle.std.specs.Fmt.{digits}
use Rattle.std.specs.Str.{bytes_eq}
use Rattle.std.specs.Str.Parse.{digits_value}
use Rattle.base_words.specs.Words.{is_space}
use Rattle.base_words.specs.Hex.{bytes_in}
use Rattle.edit_codec.specs.declared.bad_text.BadText.{BadText}
use Rattle.edit_ops.specs.declared.field_fault.ReadError.{ReadError}
use Rattle.edit_ops.specs.declared.field_fault.ReadError.TheVariants as errors
use Rattle.edit_ops.specs.Fields.{Kind, Field, Text, path, owner, new_owner, replication, permission, numbers, paths, text, small, number, flag}
use Rattle.edit_ops.specs.Fields.{client, call_number, Text_, Small_, Number_, Flag_, Client_, Call_, limit}
use Rattle.edit_ops.specs.Sources.{fields_read}

infixl 10 ◌>>=◌
abbrev pub ◌>>=◌ : {A B : Type 0} → Option A → (A → Option B) → Option B
o >>= f = option_and_then f o

-- what a reader of words returned, seen by view, is this, unless memory ran out
abbrev pub Misses : {Y : Type 0} → ReadError BadText → Option Y → Type 0
Misses errors.Memory said = Unit {0}
Misses (errors.Fault f) said = said ≡ None

abbrev pub Tells : {X Y : Type 0} → (X → Y) → Result X (ReadError BadText) → Option Y → Type 0
Tells view (Ok x) said = said ≡ Some (view x)
Tells view (Err e) said = Misses e said

-- a word ends there: at the end of the text or at a space
abbrev pub Boundary : List ℕ → Type 0
Boundary [] = Unit {0}
Boundary (b ∷ words) = b ≡ 32

-- the word up to a space, and the text from the space on
abbrev pub split_word : List ℕ → List ℕ × List ℕ
split_word words = (take (position_or_len is_space words) words, drop (position_or_len is_space words) words)

-- the word after a space
unfoldable pub word_at : List ℕ → Option (List ℕ × List ℕ)
word_at [] = None
word_at (b ∷ words) = if is_space b then Some (split_word words) else None

-- the word is a number's digits, without a leading zero
abbrev pub is_number : ℕ → List ℕ → Bool
is_number base word = nat_lt (digits_value base word) (2 ^ 64) && bytes_eq word (digits base false (digits_value base word))

unfoldable pub number_said : ℕ → List ℕ → Option ℕ
number_said base word = if is_number base word then Some (digits_value base word) else None

abbrev pub at_most : ℕ → Option ℕ → Option ℕ
at_most most o = do
  n ← o
  if nat_le n most then Some n else None

unfoldable pub text_said : Text → List ℕ → Option Field
text_said t word = if nat_lt 0 (length word) && (nat_le (length word) (limit t) && list_all is_ascii_graphic word) then Some (Text_ t word) else None

-- 16 bytes as hexadecimal digits
unfoldable pub client_said : List ℕ → Option (List ℕ)
client_said word = if length word == 32 then bytes_in word else None

-- the field of this kind that a word says
unfoldable pub said : Kind → List ℕ → Option Field
said (text path) word = text_said path word
said (text owner) word = text_said owner word
said (text new_owner) word = if bytes_eq word (45 ∷ []) then Some (Text_ new_owner []) else text_said new_owner word
said (small replication) word = do
  n ← at_most 65535 (number_said 10 word)
  Some (Small_ replication n)
said (small permission) word = do
  n ← at_most 4095 (number_said 8 word)
  Some (Small_ permission n)
said (small numbers) word = None
said (small paths) word = None
said number word = do
  n ← at_most (2 ^ 62) (number_said 10 word)
  Some (Number_ n)
said flag word = if bytes_eq word (codes "yes") then Some (Flag_ true) else (if bytes_eq word (codes "no") then Some (Flag_ false) else None)
said client word = do
  bytes ← client_said word
  Some (Client_ bytes)
said call_number word = do
  n ← at_most (2 ^ 32 - 1) (number_said 10 word)
  Some (Call_ n)

unfoldable pub field_said : Kind → List ℕ → Option (Field × List ℕ)
field_said kind words = do
  word ← word_at words
  field ← said kind word.0
  Some (field, word.1)

-- fields of one kind to the end of the text, of which there are at most so many
unfoldable pub items_said : ℕ → Kind → List ℕ → Option (List Field)
items_said most kind [] = Some []
items_said zero kind (b ∷ words) = None
items_said (suc most) kind (b ∷ words) = do
  item ← field_said kind (b ∷ words)
  items ← items_said most kind item.1
  Some (item.0 ∷ items)

-- a count stands for all the words to the end
abbrev pub listed_said : (ℕ → Field) → Kind → List ℕ → Option (List Field × List ℕ)
listed_said count kind words = do
  items ← items_said 65535 kind words
  Some (count (length items) ∷ items, [])

abbrev pub group_said : Kind → List ℕ → Option (List Field × List ℕ)
group_said (small numbers) words = listed_said (Small_ numbers) number words
group_said (small paths) words = listed_said (Small_ paths) (text path) words
group_said (small replication) words = field_said (small replication) words >>= λ f. Some (f.0 ∷ [], f.1)
group_said (small permission) words = field_said (small permission) words >>= λ f. Some (f.0 ∷ [], f.1)
group_said (text t) words = field_said (text t) words >>= λ f. Some (f.0 ∷ [], f.1)
group_said number words = field_said number words >>= λ f. Some (f.0 ∷ [], f.1)
group_said flag words = field_said flag words >>= λ f. Some (f.0 ∷ [], f.1)
group_said client words = field_said client words >>= λ f. Some (f.0 ∷ [], f.1)
group_said call_number words = field_said call_number words >>= λ f. Some (f.0 ∷ [], f.1)

-- what is wrong with all other words
abbrev pub bad_text : BadText
bad_text = record {}

-- as a source of words gives it
abbrev pub words_group : Kind → List ℕ → Result (List Field × List ℕ) BadText
words_group kind words = ok_or (group_said kind words) bad_text

abbrev pub fields_said : List Kind → List ℕ → Result (List Field × List ℕ) BadText
fields_said = fields_read words_group
