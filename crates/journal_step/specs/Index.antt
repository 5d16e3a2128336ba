-- An index that stands in place of a node's segments: what is found by each start tells the
-- segment.
use Rattle.std.specs.Prelude.{ℕ, ◌≡◌, ◌&&◌, Bool, not, nat_lt, nat_le, List, Option, Some, None, if◌then◌else◌}
use Rattle.journal_core.specs.declared.segment.Segment.{Segment}
use Rattle.journal_core.specs.declared.node_state.NodeState.{NodeState}
use Rattle.journal_core.specs.Segments.{find_segment, has_edit, info_of}
use Rattle.journal_core.specs.Step.{is_one}
use Rattle.journal_step.specs.declared.segment_index.IndexedSegment.{IndexedSegment}

-- the entry has the segment's state, and tells whether it holds an edit
pub record IsEntryOf (g : Segment) (e : IndexedSegment) : Type 0 where
  pub info : e.info ≡ info_of g
  pub edit : e.has_edit ≡ has_edit g

-- the entry tells the segment, or there is none of either
abbrev pub IsTold : Option Segment → Option IndexedSegment → Type 0
IsTold None None = Unit {0}
IsTold (Some g) (Some e) = IsEntryOf g e
IsTold None (Some e) = ⊥
IsTold (Some g) None = ⊥

-- what is found by each start tells these segments
abbrev pub AreTold : List Segment → (ℕ → Option IndexedSegment) → Type 0
AreTold gs found = (start : ℕ) → IsTold (find_segment start gs) (found start)

-- what a node keeps in memory, with its segments
abbrev pub state_with : NodeState → List Segment → NodeState
state_with memory gs = record memory { segments = gs }

-- a segment in memory as an index has it
abbrev pub entry_of : Segment → IndexedSegment
entry_of g = record { info = info_of g; has_edit = has_edit g; place = 0 }

-- for an empty segment its start stands in place of its end
abbrev pub last_in : IndexedSegment → ℕ
last_in e = if e.has_edit then e.info.end else e.info.start

-- a purge may remove it, where these are the open one and the newest that holds an edit
abbrev pub entry_is_old : Option ℕ → Option ℕ → ℕ → ℕ → IndexedSegment → Bool
entry_is_old opened newest committed min e =
    not (is_one e.info.start opened)
    && (not (e.has_edit && is_one e.info.start newest) && (nat_lt (last_in e) min && nat_le (last_in e) committed))
