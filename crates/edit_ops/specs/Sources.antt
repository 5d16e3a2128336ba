-- Where the fields of an edit come from: each source tells how it gives the field of a kind at its
-- front, with the fields that it counts, or what is wrong with it. What is then read is the same of
-- all sources.
use Rattle.std.specs.Prelude.{◌≡◌, List, [], ◌∷◌, ◌++◌, Result, Ok, Err}
use Rattle.edit_ops.specs.declared.field_fault.ReadError.{ReadError}
use Rattle.edit_ops.specs.declared.field_fault.ReadError.TheVariants as errors
use Rattle.edit_ops.specs.Fields.{Kind, Field}

infixl 10 ◌>>=◌
abbrev pub ◌>>=◌ : {W A B : Type 0} → Result A W → (A → Result B W) → Result B W
(Ok x) >>= f = f x
(Err e) >>= f = Err e

-- what a reader returned, seen by view, is this reading, unless memory ran out
abbrev pub Fails : {W Y : Type 0} → ReadError W → Result Y W → Type 0
Fails errors.Memory read = Unit {0}
Fails (errors.Fault f) read = read ≡ Err f

abbrev pub Gives : {W X Y : Type 0} → (X → Y) → Result X (ReadError W) → Result Y W → Type 0
Gives view (Ok x) read = read ≡ Ok (view x)
Gives view (Err e) read = Fails e read

-- the fields of these kinds, one after the other, where L is what may be left to read
abbrev pub fields_read : {L W : Type 0} → (Kind → L → Result (List Field × L) W) → List Kind → L → Result (List Field × L) W
fields_read group [] left = Ok ([], left)
fields_read group (kind ∷ kinds) left = do
  fields ← group kind left
  others ← fields_read group kinds fields.1
  Ok (fields.0 ++ others.0, others.1)
