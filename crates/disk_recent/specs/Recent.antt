-- The newest edits of the segment that was begun last, which a node keeps in memory.
use Rattle.std.specs.Prelude.{ℕ, ◌≡◌, ◌≢◌, ◌≤◌, if◌then◌else◌, List, [], ◌∷◌, take, Option, Some, None}
use Rattle.std.specs.List.{All}
use Rattle.journal_core.specs.declared.segment.Segment.{Segment}
use Rattle.journal_core.specs.declared.node_state.NodeState.{NodeState}
use Rattle.journal_core.specs.declared.request.Request.{Request}
use Rattle.journal_core.specs.declared.request.Request.TheVariants.{Read, Fetch}
use Rattle.journal_core.specs.Answers.{Serves}
use Rattle.journal_core.specs.Segments.{find_segment}
use Rattle.journal_core.specs.Effects.{Effect, NewSegment, Replace, Remove}
use Rattle.journal_core.specs.Step.{is_one}
use Rattle.disk_recent.specs.Edits.{Edit, kept_edits, number_edits, since, size_of, bodies_of}

-- the segment that is cached, by its start, and the edits that are held of it, oldest first
pub record Recent : Type 0 where
  pub start : Option ℕ
  pub edits : List Edit

-- a ring of 1,048,576 bytes holds edits that take 4,098 less where they are stored
abbrev pub most_stored : ℕ
most_stored = 1044478

-- ## Which segment is cached
-- no more, where it is the one with this start
abbrev pub without : ℕ → Option ℕ → Option ℕ
without start cached = if is_one start cached then None else cached

-- the one that was begun last, until other edits are put in its place or it is removed
abbrev pub cached_after : Option ℕ → Effect → Option ℕ
cached_after cached (NewSegment start epoch) = Some start
cached_after cached (Replace epoch batch) = without batch.first cached
cached_after cached (Remove start) = without start cached
cached_after cached _ = cached

-- the start of the segment that is cached after these effects, one after the other
abbrev pub cached_then : Option ℕ → List Effect → Option ℕ
cached_then cached [] = cached
cached_then cached (e ∷ es) = cached_then (cached_after cached e) es

-- ## What is held
-- the newest edits of a segment, as many as a ring holds
abbrev pub newest_of : Option Segment → List Edit
newest_of None = []
newest_of (Some g) = kept_edits most_stored (number_edits g.start g.bodies)

abbrev pub newest_in : Option ℕ → List Segment → List Edit
newest_in None gs = []
newest_in (Some start) gs = newest_of (find_segment start gs)

-- the newest edits of the cached segment are held, and no others
abbrev pub IsRecent : Recent → List Segment → Type 0
IsRecent recent gs = recent.edits ≡ newest_in recent.start gs

-- at most 256 bodies that are held of the segment with that start, from a txid on
abbrev pub held_from : Recent → ℕ → ℕ → List (List ℕ)
held_from recent start from = if is_one start recent.start then take 256 (bodies_of (since from recent.edits)) else []

abbrev pub nothing : Recent
nothing = record { start = None; edits = [] }

-- each body has a byte
abbrev pub AreFilled : List (List ℕ) → Type 0
AreFilled bodies = All (λ body. body ≢ []) bodies

-- ## What is read from memory
-- the edits of that segment, the cached one, from a txid on take no more than a ring surely holds
pub record FitsRing (cached : Option ℕ) (g : Segment) (from : ℕ) : Type 0 where
  pub cached_is : cached ≡ Some g.start
  pub fits : size_of (since from (number_edits g.start g.bodies)) ≤ most_stored

-- a read or a fetch of the cached segment, whose edits from the asked txid on take no more than a
-- ring surely holds
abbrev pub AsksRecent : Option ℕ → NodeState → Request → Type 0
AsksRecent cached s (Read from) = (g : Segment) (count : ℕ) → find_segment g.start s.segments ≡ Some g → Serves s from g count → FitsRing cached g from
AsksRecent cached s (Fetch head start from) = (g : Segment) → find_segment start s.segments ≡ Some g → FitsRing cached g from
AsksRecent cached s _ = ⊥
