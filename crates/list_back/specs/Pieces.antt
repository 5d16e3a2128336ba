-- The bytes of a segment that is made of a list of bodies: a header, and frames of 256 bodies, the
-- last with the rest.
use Rattle.std.specs.Prelude.{◌≡◌, ℕ, ◌+◌, ◌≤◌, List, [], ◌∷◌, ◌++◌, length, nat_lt, if◌then◌else◌}
use Rattle.std.specs.List.{flat_map}
use Rattle.journal_core.specs.Views.{BatchView}
use Rattle.journal_core.specs.Limits.{max_batch}
use Rattle.disk_frame.specs.Frames.{frame_bytes}
use Rattle.disk_frame.specs.Segments.{header_bytes}

abbrev pub batch_of : ℕ → List (List ℕ) → BatchView
batch_of first bodies = record { first = first; bodies = bodies }

-- the batches of bodies from that txid on, where the first ones wait for more
unfoldable pub batches : ℕ → List (List ℕ) → List (List ℕ) → List BatchView
batches first [] [] = []
batches first (body ∷ waiting) [] = batch_of first (body ∷ waiting) ∷ []
batches first waiting (body ∷ bodies) =
    if nat_lt (length waiting + 1) max_batch then batches first (waiting ++ body ∷ []) bodies
    else batch_of first (waiting ++ body ∷ []) ∷ batches (first + max_batch) [] bodies

-- a batch has 256 bodies, but for the last, which has from 1 to 256
abbrev pub IsFull : BatchView → List BatchView → Type 0
IsFull b [] = (1 ≤ length b.bodies) × (length b.bodies ≤ max_batch)
IsFull b (c ∷ bs) = (length b.bodies ≡ max_batch) × IsFull c bs

abbrev pub AreFull : List BatchView → Type 0
AreFull [] = Unit {0}
AreFull (b ∷ bs) = IsFull b bs

-- no tail stands behind the frames
abbrev pub segment_bytes : ℕ → ℕ → List (List ℕ) → List ℕ
segment_bytes start epoch bodies = header_bytes start epoch ++ flat_map frame_bytes (batches start [] bodies)
