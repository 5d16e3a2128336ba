-- The ends that came when pipes were opened, and whose they were.
use Rattle.std.specs.Prelude.{ℕ, ◌≡◌, ◌+◌, ◌<◌, List, Option, length, slice_index_or}
use Rattle.std.specs.List.{AllByRecursion}
use Rattle.pipe_seats.specs.Calls.{EndsView, PipeView}
use Rattle.pipe_seats.specs.Seats.{SeatView}

-- An opener gave such a source and such a sink, of which this is told.
pub record IsOpening {S K : Type 0} (AreOf : S → K → Type 0) (left_of : S → Option (List ℕ)) (taken_of : K → Option (List ℕ)) (ends : EndsView) : Type 0 where
  pub source : S
  pub sink : K
  pub are_of : AreOf source sink
  pub left : ends.left ≡ left_of source
  pub taken : ends.taken ≡ taken_of sink

-- as those of this node
abbrev pub came_as : {S K : Type 0} → (ℕ → S → K → Type 0) → (S → Option (List ℕ)) → (K → Option (List ℕ)) → ℕ → EndsView → Type 0
came_as are_of left_of taken_of node ends = IsOpening (are_of node) left_of taken_of ends

-- In these `Came` says of ends that an opener gave them so.

-- Where all ends came so that came at the openings of a pipe, so did those that came since.
pub record OpensAs (Came : EndsView → Type 0) (old new : PipeView) : Type 0 where
  pub all : AllByRecursion Came old.opened → AllByRecursion Came new.opened

-- At each seat all ends that came at openings of its pipe came as those of its node.
pub record CameAsTheirs (Came : ℕ → EndsView → Type 0) (seats : List SeatView) : Type 0 where
  pub each : (i : ℕ) (d : SeatView) → i < length seats → AllByRecursion (Came (i + 1)) (slice_index_or seats i d).pipe.opened
