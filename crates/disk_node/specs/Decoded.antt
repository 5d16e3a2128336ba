-- What the bytes of a node's files say, as functions: of files that are in their grammars they are
-- what these hold.
use Rattle.std.specs.Prelude.{ℕ, zero, suc, ◌+◌, ◌==◌, List, [], ◌∷◌, ◌++◌, length, take, drop, Option, Some, None, if◌then◌else◌}
use Rattle.std.specs.Int.{w64, from_be_bytes}
use Rattle.std.specs.Str.Parse.{digits_value}
use Rattle.journal_core.specs.Views.{BatchView}
use Rattle.disk_frame.specs.Frames.{seal}
use Rattle.disk_frame.specs.Faults.{told_length}
use Rattle.disk_frame.specs.Reading.{batch_in}

-- the number of a number file; an absent one holds 0
abbrev pub number_in : Option (List ℕ) → ℕ
number_in None = 0
number_in (Some bytes) = digits_value 10 (take 19 bytes)

-- the epoch of a record of an acceptance
abbrev pub record_epoch : Option (List ℕ) → Option ℕ
record_epoch None = None
record_epoch (Some bytes) = Some (digits_value 10 (take 19 bytes))

-- the epoch in the header of a segment file
abbrev pub header_epoch : List ℕ → ℕ
header_epoch bytes = from_be_bytes w64 (take 8 (drop 16 bytes))

abbrev pub bodies_of : Option BatchView → List (List ℕ)
bodies_of None = []
bodies_of (Some b) = b.bodies

-- the bodies of the frames, at most so many frames: each with a set seal, its length, and a batch
-- of that length
unfoldable pub frames_in : ℕ → List ℕ → List (List ℕ)
frames_in zero bytes = []
frames_in (suc most) [] = []
frames_in (suc most) (byte ∷ rest) =
    if byte == seal then bodies_of (batch_in (take (told_length (byte ∷ rest)) (drop 4 rest))) ++ frames_in most (drop (4 + told_length (byte ∷ rest)) rest) else []

-- the bodies of a segment file
abbrev pub bodies_in : List ℕ → List (List ℕ)
bodies_in bytes = frames_in (length bytes) (drop 24 bytes)
