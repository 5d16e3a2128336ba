-- Frames: how batches stand one after the other in a segment file.
use Rattle.std.specs.Prelude.{◌≡◌, ◌≢◌, ℕ, ◌+◌, ◌≤◌, List, [], ◌∷◌, ◌++◌, length, take, drop, Option, Some, None, Bool, not, ◌||◌, ◌==◌, nat_lt, if◌then◌else◌}
use Rattle.std.specs.List.{flat_map, list_any}
use Rattle.std.specs.Int.{w16, w32, w64, to_be_bytes}
use Rattle.journal_core.specs.Views.{BatchView, last_txid}
use Rattle.journal_core.specs.Limits.{max_number, max_body, max_segment}
use Rattle.disk_frame.specs.declared.frame_cause.FrameCause.{FrameCause}
use Rattle.disk_frame.specs.declared.frame_cause.FrameCause.TheVariants.{Count, Body, Order}

-- the first byte of a frame
abbrev pub seal : ℕ
seal = 165

-- an entry: its length in two bytes, and the body
abbrev pub entry_bytes : List ℕ → List ℕ
entry_bytes body = to_be_bytes w16 (length body) ++ body

-- what follows the length of a frame: the first txid, how many entries there are, and the entries
abbrev pub inner_bytes : BatchView → List ℕ
inner_bytes b = to_be_bytes w64 b.first ++ (to_be_bytes w32 (length b.bodies) ++ flat_map entry_bytes b.bodies)

-- what stands before the entries of a frame: the seal, the length of what follows, the first txid
-- and how many entries there are
abbrev pub head_bytes : ℕ → ℕ → ℕ → List ℕ
head_bytes inner first count = seal ∷ (to_be_bytes w32 inner ++ (to_be_bytes w64 first ++ to_be_bytes w32 count))

-- the frame of a batch: the seal, the length of what follows, and that
unfoldable pub frame_bytes : BatchView → List ℕ
frame_bytes b = seal ∷ (to_be_bytes w32 (length (inner_bytes b)) ++ inner_bytes b)

-- no entries, or more than a segment may have
abbrev pub is_bad_count : ℕ → Bool
is_bad_count count = (count == 0) || nat_lt max_segment count

-- an empty body, or one of more than 4,096 bytes
abbrev pub is_bad_body : List ℕ → Bool
is_bad_body body = (length body == 0) || nat_lt max_body (length body)

-- the first txid isn't the next one, or the last is above 2^62
abbrev pub is_out_of_order : ℕ → ℕ → ℕ → Bool
is_out_of_order next first last = not (first == next) || nat_lt max_number last

-- the first rule that the frame of a batch breaks where this txid is the next
unfoldable pub broken_rule : ℕ → BatchView → Option FrameCause
broken_rule next b =
    if is_bad_count (length b.bodies) then Some Count
    else if list_any is_bad_body b.bodies then Some Body
    else if is_out_of_order next b.first (last_txid b) then Some Order
    else None

-- the frames of these batches break no rule one after the other, where this txid is the next
abbrev pub AreInOrder : ℕ → List BatchView → Type 0
AreInOrder next [] = Unit {0}
AreInOrder next (b ∷ bs) = (broken_rule next b ≡ None) × AreInOrder (next + length b.bodies) bs

-- The bytes begin with whole frames, from the txid first on. These are the bodies of the frames,
-- which end there.
pub record BeginWithFrames (first : ℕ) (bytes : List ℕ) (bodies : List (List ℕ)) (end : ℕ) : Type 0 where
  pub batches : List BatchView
  pub in_order : AreInOrder first batches
  pub bodies_are : bodies ≡ flat_map (λ b. b.bodies) batches
  pub spelled : take end bytes ≡ flat_map frame_bytes batches
  pub there : end ≤ length bytes

-- a tail: nothing, or bytes of which the first is no seal
abbrev pub IsTail : List ℕ → Type 0
IsTail [] = Unit {0}
IsTail (byte ∷ bytes) = byte ≢ seal

-- the bytes stand for these bodies: whole frames of them up to there, and then a tail
pub record AreFrames (first : ℕ) (bytes : List ℕ) (bodies : List (List ℕ)) (whole_length : ℕ) : Type 0 where
  pub frames : BeginWithFrames first bytes bodies whole_length
  pub tail : IsTail (drop whole_length bytes)
