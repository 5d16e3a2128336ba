-- Which segments a purge may remove, and what it leaves.
use Rattle.std.specs.Prelude.{ℕ, ◌&&◌, Bool, true, not, nat_lt, nat_le, List, [], ◌∷◌, zero, suc, Option, Some, None}
use Rattle.journal_core.specs.declared.segment.Segment.{Segment}
use Rattle.journal_core.specs.Segments.{remove_segment, has_edit}
use Rattle.journal_core.specs.Step.{is_one, last_or_start}

-- a purge may remove the segment, where these are the open one and the newest that holds an edit
abbrev pub is_old : Option ℕ → Option ℕ → ℕ → ℕ → Segment → Bool
is_old opened newest committed min g =
    not (is_one g.start opened)
    && (not (has_edit g && is_one g.start newest) && (nat_lt (last_or_start g) min && nat_le (last_or_start g) committed))

-- without the segments with the starts of these
abbrev pub without : List Segment → List Segment → List Segment
without [] gs = gs
without (old ∷ olds) gs = without olds (remove_segment old.start gs)

-- the start of the segment at that place
abbrev pub start_of_place : List Segment → ℕ → Option ℕ
start_of_place [] place = None
start_of_place (g ∷ gs) zero = Some g.start
start_of_place (g ∷ gs) (suc place) = start_of_place gs place

-- the segment starts before that, where that is a start
abbrev pub lies_before : Option ℕ → Segment → Bool
lies_before None g = true
lies_before (Some next) g = nat_lt g.start next
