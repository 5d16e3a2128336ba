-- The disk calls of each durable effect, and which effects stand after a cut between two of them.
use Rattle.std.specs.Prelude.{ℕ, ◌≡◌, ◌-◌, ◌⊎◌, ◌==◌, ◌&&◌, Bool, true, false, nat_le, suc, List, [], ◌∷◌, map, Option, Some, None, Result, Ok, Err, if◌then◌else◌}
use Rattle.journal_core.specs.declared.segment.Segment.{Segment}
use Rattle.journal_core.specs.declared.node_state.NodeState.{NodeState}
use Rattle.journal_core.specs.declared.request.Request.{Request}
use Rattle.journal_core.specs.declared.cut.Cut.{Cut}
use Rattle.journal_core.specs.declared.cut.Cut.TheVariants.{Old, New, A5}
use Rattle.journal_core.specs.Segments.{find_segment}
use Rattle.journal_core.specs.Effects.{Effect, Promise, WriterEpoch, Commit, NewSegment, Append, Replace, MakeFinal, Remove}
use Rattle.journal_core.specs.Step.{effects_of, stopped}
use Rattle.journal_core.specs.Answers.{IsStopOf}

-- how many disk calls an effect has, and at which of them it stands
pub record Cost : Type 0 where
  pub calls : ℕ
  pub decides : ℕ

-- a number file: its new content is written, synced and renamed
abbrev pub number_cost : Cost
number_cost = record { calls = 3; decides = 3 }

-- a new segment file likewise
abbrev pub segment_cost : Cost
segment_cost = record { calls = 3; decides = 3 }

-- An append is written after a blank seal, synced, and then the seal is written and synced.
abbrev pub append_cost : Cut → Cost
append_cost Old = record { calls = 4; decides = 4 }
append_cost New = record { calls = 4; decides = 3 }
append_cost A5 = record { calls = 4; decides = 3 }

-- An acceptance writes and syncs the content, puts its record and renames the content. Where the
-- record already has the epoch, the content alone is written, synced and renamed.
abbrev pub accept_cost : Bool → Cost
accept_cost true = record { calls = 3; decides = 3 }
accept_cost false = record { calls = 6; decides = 5 }

-- A rename or a removal, after which the record of an acceptance is removed.
abbrev pub name_cost : Bool → Cost
name_cost true = record { calls = 2; decides = 1 }
name_cost false = record { calls = 1; decides = 1 }

-- the segment has the record of an acceptance
abbrev pub has_record : Option Segment → Bool
has_record None = false
has_record (Some g) = g.accepted

-- the segment has the record of an acceptance with that epoch
abbrev pub has_record_of : ℕ → Option Segment → Bool
has_record_of epoch None = false
has_record_of epoch (Some g) = g.accepted && (g.epoch == epoch)

abbrev pub cost_of : Cut → List Segment → Effect → Cost
cost_of cut gs (Promise epoch) = number_cost
cost_of cut gs (WriterEpoch epoch) = number_cost
cost_of cut gs (Commit txid) = number_cost
cost_of cut gs (NewSegment start epoch) = segment_cost
cost_of cut gs (Append start bodies) = append_cost cut
cost_of cut gs (Replace epoch batch) = accept_cost (has_record_of epoch (find_segment batch.first gs))
cost_of cut gs (MakeFinal start) = name_cost (has_record (find_segment start gs))
cost_of cut gs (Remove start) = name_cost (has_record (find_segment start gs))

-- how many effects stand after so many calls: each whose deciding call was made
unfoldable pub standing : ℕ → List Cost → ℕ
standing calls [] = 0
standing calls (c ∷ cs) = if nat_le c.decides calls then suc (standing (calls - c.calls) cs) else 0

abbrev pub costs_of : Cut → NodeState → Request → List Cost
costs_of cut s r = map (cost_of cut s.segments) (effects_of s r)

-- how many effects of a request stand after a cut after so many disk calls
abbrev pub effects_standing : Cut → NodeState → Request → ℕ → ℕ
effects_standing cut s r calls = standing calls (costs_of cut s r)

-- the node was cut in the request, and so many effects stand
pub record IsCut (old : NodeState) (request : Request) (calls : ℕ) (cut : Cut) (done : ℕ) (new : NodeState) : Type 0 where
  pub count : done ≡ effects_standing cut old request calls
  pub state : new ≡ stopped old request done

abbrev pub Cuts : {E : Type 0} → Option NodeState → Request → ℕ → Cut → Result ℕ E → Option NodeState → Type 0
Cuts None request calls cut result None = Unit {0}
Cuts (Some old) request calls cut (Ok done) (Some new) = IsCut old request calls cut done new
Cuts (Some old) request calls cut (Err e) (Some new) = (new ≡ old) ⊎ IsStopOf old request new
Cuts None request calls cut result (Some new) = ⊥
Cuts (Some old) request calls cut result None = ⊥
