-- What a mirror holds after a pass over nodes that answer by their states.
use Rattle.std.specs.Prelude.{◌≡◌, ℕ, ◌≤◌, ◌&&◌, Bool, true, List, [], All, Contains, count_by, filter, Option, Some, None, if◌then◌else◌}
use Rattle.std.specs.List.{flat_map, fold}
use Rattle.journal_core.specs.Reads.{edits_from}
use Rattle.journal_core.specs.Segments.{has_edit, put_segment, IsWithin}
use Rattle.journal_core.specs.Views.{BatchView}
use Rattle.journal_core.specs.declared.node_state.NodeState.{NodeState}
use Rattle.journal_core.specs.declared.refusal.Refusal.TheVariants.{Down}
use Rattle.journal_core.specs.declared.reply.Reply.TheVariants.{Edits}
use Rattle.journal_core.specs.declared.segment.Segment.{Segment}
use Rattle.writer_core.specs.declared.cause.Cause.TheVariants as cause
use Rattle.writer_calls.specs.declared.told.NodeTold.{NodeTold}
use Rattle.writer_calls.specs.Fetching.{HasBody}
use Rattle.writer_calls.specs.Mirrors.{is_held}

-- a final segment that holds an edit
abbrev pub is_final_with_edit : Segment → Bool
is_final_with_edit g = g.is_final && has_edit g

-- those of a node that is up
abbrev pub finals_of : NodeState → List Segment
finals_of s = if s.up then filter is_final_with_edit s.segments else []

abbrev pub finals_at : Option NodeState → List Segment
finals_at None = []
finals_at (Some s) = finals_of s

-- what a node tells: how many there are, or that it is down
abbrev pub told_by : NodeState → NodeTold
told_by s =
    if s.up then record { cause = cause.Ok; lines = count_by is_final_with_edit s.segments }
    else record { cause = cause.Refused Down; lines = 0 }

abbrev pub told_at : Option NodeState → NodeTold
told_at None = record { cause = cause.Silent; lines = 0 }
told_at (Some s) = told_by s

-- ## What is held then
-- a segment, unless one with its start is held
abbrev pub hold : List Segment → Segment → List Segment
hold held g = if is_held g.start held then held else put_segment g held

-- by a fresh mirror: for each start of such a segment at a node that is up, by rising start, the
-- one at the lowest such node
abbrev pub mirror_of : List (Option NodeState) → List Segment
mirror_of states = fold hold [] (flat_map finals_at states)

-- a node that is up gives this body at this txid, as a read's answer
pub record Gives (s : NodeState) (txid : ℕ) (body : List ℕ) : Type 0 where
  pub up : s.up ≡ true
  pub from : ℕ
  pub batch : BatchView
  pub edits : edits_from s from ≡ Edits batch
  pub has : HasBody batch.first batch.bodies txid body

abbrev pub IsGivenBy : List (Option NodeState) → ℕ → List ℕ → Type 0
IsGivenBy states txid body = (s : NodeState) × Contains states (Some s) × Gives s txid body

-- ## What a node has to keep to
-- its txids are numbers from 1 to 2 ^ 62
abbrev pub IsNumbered : Segment → Type 0
IsNumbered g = (1 ≤ g.start) × IsWithin g

-- so have the final segments of a node
abbrev pub AreNumbered : List Segment → Type 0
AreNumbered segments = All (λ g. is_final_with_edit g ≡ true → IsNumbered g) segments

-- it tells its state, and where it is up its final segments have such txids
abbrev pub IsTold : Option NodeState → Type 0
IsTold None = ⊥
IsTold (Some s) = s.up ≡ true → AreNumbered s.segments
