-- A source that is read line by line.
use Rattle.std.specs.Prelude.{ℕ, ◌≡◌, ◌≢◌, ◌<◌, ◌≤◌, ◌+◌, List, [], ◌∷◌, ◌++◌, length, take, Option}
use Rattle.std.specs.Io.KnownBytes.{Consumes, IsAtEnd, prepend_known}
use Rattle.journal_session.specs.Lines.{longest_line, longest_input, IsLine}
use Rattle.journal_session.specs.declared.more.More.{More}
use Rattle.journal_session.specs.declared.more.More.TheVariants as more
use Rattle.journal_session.specs.declared.next.Next.{Next}
use Rattle.journal_session.specs.declared.next.Next.TheVariants as next

-- the bytes that were read and not taken, how many were taken, and the line that was taken last
pub record LineReaderView : Type 0 where
  pub held : List ℕ
  pub taken : ℕ
  pub line : List ℕ

-- what is still to be taken: what the reader holds, and what its source has left, where that is
-- told
abbrev pub to_come : LineReaderView → Option (List ℕ) → Option (List ℕ)
to_come reader left = prepend_known reader.held left

-- the reader holds and has taken what it did
pub record HoldsStill (old new : LineReaderView) : Type 0 where
  pub held : new.held ≡ old.held
  pub taken : new.taken ≡ old.taken

-- these bytes were read, and are held
pub record HoldsMore (bytes : List ℕ) (old new : LineReaderView) : Type 0 where
  pub held : new.held ≡ old.held ++ bytes
  pub taken : new.taken ≡ old.taken
  pub some : 0 < length bytes

-- what came of a read
abbrev pub IsRead : More → LineReaderView → LineReaderView → Option (List ℕ) → Option (List ℕ) → Type 0
IsRead more.Bytes old new before after = (bytes : List ℕ) × HoldsMore bytes old new × Consumes before after bytes
IsRead more.End old new before after = HoldsStill old new × Consumes before after [] × IsAtEnd after
IsRead more.LongInput old new before after =
    (byte : ℕ) × HoldsStill old new × Consumes before after (byte ∷ []) × (new.taken + length new.held ≡ longest_input)
IsRead more.ReadFault old new before after = HoldsStill old new × Consumes before after []
IsRead more.OutOfMemory old new before after = Unit {0}

-- the line was cut from what was held, with its LF
abbrev pub IsCut : Next → List ℕ → LineReaderView → LineReaderView → Type 0
IsCut next.Line line old new =
    (old.held ≡ line ++ 10 ∷ new.held) × IsLine line × (length line ≤ longest_line) × (new.taken ≡ old.taken + (length line + 1))
IsCut next.LongLine line old new = HoldsStill old new × ((n : ℕ) × IsLine (take n old.held) × (longest_line < length (take n old.held)))
IsCut next.OutOfMemory line old new = Unit {0}
IsCut _ line old new = ⊥

-- all that was held is the last line
abbrev pub IsCutLast : Next → List ℕ → LineReaderView → LineReaderView → Type 0
IsCutLast next.Last line old new = (line ≡ old.held) × (line ≢ []) × (new.held ≡ []) × (new.taken ≡ old.taken + length line)
IsCutLast next.End line old new = HoldsStill old new × (new.held ≡ [])
IsCutLast next.OutOfMemory line old new = Unit {0}
IsCutLast _ line old new = ⊥

-- these bytes were taken, and the line is of them
pub record TakesLine (line bytes : List ℕ) (old new : LineReaderView) (before after : Option (List ℕ)) : Type 0 where
  pub one : IsLine line
  pub short : length line ≤ longest_line
  pub given : Consumes (to_come old before) (to_come new after) bytes
  pub taken : new.taken ≡ old.taken + length bytes

-- nothing was taken
pub record TakesNone (old new : LineReaderView) (before after : Option (List ℕ)) : Type 0 where
  pub given : Consumes (to_come old before) (to_come new after) []
  pub taken : new.taken ≡ old.taken

-- nothing is held, and the source is at its end
pub record IsEmptied (new : LineReaderView) (after : Option (List ℕ)) : Type 0 where
  pub held : new.held ≡ []
  pub end : IsAtEnd after

-- a line too long is held, or its front
pub record HoldsLong (new : LineReaderView) : Type 0 where
  pub front : List ℕ
  pub behind : List ℕ
  pub spelled : new.held ≡ front ++ behind
  pub one : IsLine front
  pub long : longest_line < length front

-- the front of a line is held that isn't too long
pub record HoldsFront (new : LineReaderView) : Type 0 where
  pub one : IsLine new.held
  pub short : length new.held ≤ longest_line

-- as many bytes were read as an input may have, no whole line of them is held, and the source gave
-- one byte more
pub record IsPastLimit (old new : LineReaderView) (before after : Option (List ℕ)) : Type 0 where
  pub byte : ℕ
  pub given : Consumes (to_come old before) after (new.held ++ byte ∷ [])
  pub taken : new.taken ≡ old.taken
  pub all : new.taken + length new.held ≡ longest_input

-- what came of the next line
abbrev pub IsNextLine : Next → List ℕ → LineReaderView → LineReaderView → Option (List ℕ) → Option (List ℕ) → Type 0
IsNextLine next.Line line old new before after = TakesLine line (line ++ 10 ∷ []) old new before after
IsNextLine next.Last line old new before after = TakesLine line line old new before after × (line ≢ []) × IsEmptied new after
IsNextLine next.End line old new before after = TakesNone old new before after × IsEmptied new after
IsNextLine next.LongLine line old new before after = TakesNone old new before after × HoldsLong new
IsNextLine next.LongInput line old new before after = IsPastLimit old new before after × HoldsFront new
IsNextLine next.ReadFault line old new before after = TakesNone old new before after × HoldsFront new
IsNextLine next.OutOfMemory line old new before after = Unit {0}
