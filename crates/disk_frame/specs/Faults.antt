-- What is wrong with a frame, and where.
use Rattle.std.specs.Prelude.{◌≡◌, ℕ, ◌+◌, ◌^◌, ◌<◌, ◌≤◌, List, [], ◌∷◌, ◌++◌, length, take, drop, Some}
use Rattle.std.specs.List.{AllByRecursion}
use Rattle.std.specs.Int.{w32, from_be_bytes}
use Rattle.journal_core.specs.Views.{BatchView}
use Rattle.disk_frame.specs.declared.frame_cause.FrameCause.{FrameCause}
use Rattle.disk_frame.specs.declared.frame_cause.FrameCause.TheVariants.{Short, Length, Count, Body, Order}
use Rattle.disk_frame.specs.Frames.{seal, inner_bytes, frame_bytes, broken_rule, BeginWithFrames}

abbrev pub HasSeal : List ℕ → Type 0
HasSeal [] = ⊥
HasSeal (byte ∷ bytes) = byte ≡ seal

-- the length that a frame tells after its seal
abbrev pub told_length : List ℕ → ℕ
told_length bytes = from_be_bytes w32 (take 4 (drop 1 bytes))

-- the numbers of a batch's frame have room in their fields
pub record FitsFields (b : BatchView) : Type 0 where
  pub whole : length (inner_bytes b) < 2 ^ 32
  pub first : b.first < 2 ^ 64
  pub count : length b.bodies < 2 ^ 32
  pub bodies : AllByRecursion (λ body. length body < 2 ^ 16) b.bodies

-- the bytes begin with the frame of a batch, whichever rule it may break
pub record Spells (bytes : List ℕ) (b : BatchView) : Type 0 where
  pub fits : FitsFields b
  pub rest : List ℕ
  pub spelled : bytes ≡ frame_bytes b ++ rest

-- the frame at the front of the bytes, after a set seal, where this txid is the next: what is wrong
-- with it first
abbrev pub IsBadFrame : ℕ → List ℕ → FrameCause → Type 0
-- the bytes end inside the frame
IsBadFrame next bytes Short = HasSeal bytes × (length bytes < 5 + told_length bytes)
-- they don't, and its length is not that of a first txid, a count, and as many entries
IsBadFrame next bytes Length = HasSeal bytes × (5 + told_length bytes ≤ length bytes) × ((b : BatchView) → Spells bytes b → ⊥)
-- the length is right, and this rule is the first that is broken
IsBadFrame next bytes Count = (b : BatchView) × Spells bytes b × (broken_rule next b ≡ Some Count)
IsBadFrame next bytes Body = (b : BatchView) × Spells bytes b × (broken_rule next b ≡ Some Body)
IsBadFrame next bytes Order = (b : BatchView) × Spells bytes b × (broken_rule next b ≡ Some Order)

-- the bytes are whole frames up to that place, where a bad one has its seal
pub record HaveBadFrame (first : ℕ) (bytes : List ℕ) (place : ℕ) (cause : FrameCause) : Type 0 where
  pub bodies : List (List ℕ)
  pub frames : BeginWithFrames first bytes bodies place
  pub bad : IsBadFrame (first + length bodies) (drop place bytes) cause
