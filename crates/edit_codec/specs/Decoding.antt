-- What bytes are the record of, and what else is the first thing wrong with them.
use Rattle.std.specs.Prelude.{◌≡◌, ◌≢◌, ℕ, ◌+◌, ◌<◌, ◌≤◌, List, [], ◌∷◌, ◌++◌, length, Bool, Some}
use Rattle.std.specs.List.{flat_map}
use Rattle.edit_ops.specs.declared.kind.OpKind.{OpKind}
use Rattle.edit_codec.specs.declared.decoded.Decoded.{Decoded}
use Rattle.edit_codec.specs.declared.decoded.Decoded.TheVariants.{Edit, UnknownOpcode, Short, Trailing, BadField, OutOfMemory}
use Rattle.edit_ops.specs.Fields.{Kind, Field, field_bytes}
use Rattle.edit_ops.specs.Records.{opcode, full_layout}
use Rattle.edit_ops.specs.Grammar.{MayCall, IsRecord}
use Rattle.edit_ops.specs.Rules.{least, broken_rule, Matches}

-- The body begins as a record: an opcode of the table and good fields. Then comes the rest, where
-- fields of the kinds that are left are to be.
pub record Begins (body : List ℕ) (left : List Kind) (rest : List ℕ) : Type 0 where
  pub kind : OpKind
  pub called : Bool
  pub may_call : MayCall kind called
  pub fields : List Field
  pub good : Matches (full_layout kind called) fields left
  pub whole : body ≡ opcode kind called ∷ (flat_map field_bytes fields ++ rest)

-- the body ends inside a field, which so many bytes would hold; the opcode is the first of them
pub record EndsInside (body : List ℕ) (needed : ℕ) : Type 0 where
  pub next : Kind
  pub left : List Kind
  pub rest : List ℕ
  pub begins : Begins body (next ∷ left) rest
  pub ends : length rest < least next rest
  pub least_length : needed + length rest ≡ length body + least next rest

abbrev pub IsShort : List ℕ → ℕ → Type 0
IsShort [] needed = needed ≡ 1
IsShort (byte ∷ bytes) needed = EndsInside (byte ∷ bytes) needed

-- the field that begins at the place is whole and breaks the rule
pub record BreaksRule (body : List ℕ) (place rule : ℕ) : Type 0 where
  pub next : Kind
  pub left : List Kind
  pub rest : List ℕ
  pub begins : Begins body (next ∷ left) rest
  pub there : least next rest ≤ length rest
  pub broken : broken_rule next rest ≡ Some rule
  pub at : place + length rest ≡ length body

-- no kind of edit has the body's first byte, with a call or without
pub record HasUnknownOpcode (body : List ℕ) (byte : ℕ) : Type 0 where
  pub bytes : List ℕ
  pub whole : body ≡ byte ∷ bytes
  pub unknown : (kind : OpKind) (called : Bool) → MayCall kind called → opcode kind called ≢ byte

-- the body's first byte is an opcode of the table, so that fields are read, of which names take
-- memory
pub record HasOpcode (body : List ℕ) : Type 0 where
  pub kind : OpKind
  pub called : Bool
  pub may_call : MayCall kind called
  pub bytes : List ℕ
  pub whole : body ≡ opcode kind called ∷ bytes

-- so many bytes stand after a record
pub record HasTrailing (body : List ℕ) (count : ℕ) : Type 0 where
  pub rest : List ℕ
  pub begins : Begins body [] rest
  pub some : 0 < length rest
  pub all : count ≡ length rest

-- the right answer for the bytes; lack of memory is one wherever fields are read
abbrev pub IsDecoded : List ℕ → Decoded → Type 0
IsDecoded body (Edit e) = IsRecord body e
IsDecoded body (UnknownOpcode byte) = HasUnknownOpcode body byte
IsDecoded body (Short needed) = IsShort body needed
IsDecoded body (Trailing count) = HasTrailing body count
IsDecoded body (BadField place rule) = BreaksRule body place rule
IsDecoded body OutOfMemory = HasOpcode body
