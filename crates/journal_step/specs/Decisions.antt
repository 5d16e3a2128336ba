-- What is decided about a request after its front, by what an index finds, and what that means for
-- the segments.
use Rattle.std.specs.Prelude.{ℕ, ◌≡◌, ◌≤◌, ◌+◌, ◌==◌, ◌&&◌, ◌||◌, Bool, true, false, not, nat_lt, nat_le, List, [], ◌∷◌, ◌++◌, map, filter, Option, Some, None, if◌then◌else◌}
use Rattle.std.specs.List.{list_any}
use Rattle.journal_core.specs.declared.cut.Cut.{Cut}
use Rattle.journal_core.specs.Views.{HeadView, BatchView, last_txid}
use Rattle.journal_core.specs.declared.segment.Segment.{Segment}
use Rattle.journal_core.specs.declared.node_state.NodeState.{NodeState}
use Rattle.journal_core.specs.declared.request.Request.{Request}
use Rattle.journal_core.specs.declared.request.Request.TheVariants as request
use Rattle.journal_core.specs.declared.refusal.Refusal.{Refusal}
use Rattle.journal_core.specs.declared.refusal.Refusal.TheVariants.{EpochRefused, NotWriter, SegmentFinal, SegmentHasEdits, NoSegment, OtherEpoch, LengthDiffers, NotHere}
use Rattle.journal_core.specs.Limits.{max_number}
use Rattle.journal_core.specs.Segments.{find_segment, has_edit, end_of}
use Rattle.journal_core.specs.Effects.{after_effect}
use Rattle.journal_core.specs.Effects as effect
use Rattle.journal_core.specs.Cuts.{has_record_of, cost_of}
use Rattle.journal_core.specs.Laws.{IsPurge}
use Rattle.journal_core.specs.Step.{start_refused, bodies_in, open_refused, is_final_one, row_refused, row_effects, may_go}
use Rattle.journal_step.specs.declared.segment_index.IndexedSegment.{IndexedSegment}
use Rattle.journal_step.specs.declared.durable_effect.DurableEffect.{DurableEffect}
use Rattle.journal_step.specs.declared.durable_effect.DurableEffect.TheVariants as durable
use Rattle.journal_step.specs.declared.decision.Decision.{Decision}
use Rattle.journal_step.specs.declared.decision.Decision.TheVariants.{Refused, Effects, Purge}
use Rattle.journal_step.specs.Durable.{batch_of, effect_of, effect_cost, HasBatch, takes_memory, changes_segments}

-- ## Why a request is refused
abbrev pub EndsWithin : Option IndexedSegment → Type 0
EndsWithin None = Unit {0}
EndsWithin (Some e) = e.info.end ≤ max_number

abbrev pub start_refusal : Option IndexedSegment → Option Refusal
start_refusal None = None
start_refusal (Some e) =
    if e.info.is_final then Some (SegmentFinal e.info.end)
    else if e.has_edit then Some (SegmentHasEdits e.info.end)
    else None

abbrev pub next_txid : ℕ → Option IndexedSegment → ℕ
next_txid start None = start
next_txid start (Some e) = if e.has_edit then e.info.end + 1 else start

abbrev pub journal_refusal : NodeState → HeadView → ℕ → BatchView → Option IndexedSegment → Option Refusal
journal_refusal m h start batch found =
    if m.writer == h.epoch then open_refused m.opened start batch.first (next_txid start found) else Some (NotWriter m.writer)

abbrev pub finalize_refusal : ℕ → ℕ → Option IndexedSegment → Option Refusal
finalize_refusal epoch end None = Some NoSegment
finalize_refusal epoch end (Some e) =
    if not e.has_edit then Some NoSegment
    else if not e.info.is_final && not (e.info.epoch == epoch) then Some (OtherEpoch e.info.epoch)
    else if not (e.info.end == end) then Some (LengthDiffers e.info.end)
    else None

abbrev pub fetch_refusal : ℕ → Option IndexedSegment → Option Refusal
fetch_refusal from None = Some NoSegment
fetch_refusal from (Some e) =
    if not e.has_edit then Some NoSegment
    else if nat_lt from e.info.start || nat_lt e.info.end from then Some (NotHere e.info.end)
    else None

abbrev pub accept_refusal : BatchView → Option IndexedSegment → Option Refusal
accept_refusal batch None = None
accept_refusal batch (Some e) = if e.info.is_final && not (e.info.end == last_txid batch) then Some (LengthDiffers e.info.end) else None

-- ## The effects
abbrev pub place_of : Option IndexedSegment → ℕ
place_of None = max_number
place_of (Some e) = e.place

abbrev pub final_effect : ℕ → ℕ → Option IndexedSegment → Option DurableEffect
final_effect start end None = None
final_effect start end (Some e) = if e.info.is_final then None else Some (durable.MakeFinal start end e.info.accepted)

abbrev pub commit_effect : NodeState → Option DurableEffect
commit_effect m = if nat_lt m.committed m.known then Some (durable.Commit m.known) else None

abbrev pub accept_effect : ℕ → Option IndexedSegment → Option DurableEffect
accept_effect epoch None = Some (durable.Replace epoch false)
accept_effect epoch (Some e) = if e.info.is_final then None else Some (durable.Replace epoch (e.info.accepted && (e.info.epoch == epoch)))

-- ## The decision
abbrev pub unless : Option Refusal → Decision → Decision
unless (Some refusal) d = Refused refusal
unless None d = d

abbrev pub epoch_decision : NodeState → ℕ → Decision
epoch_decision m epoch = if nat_le epoch m.promised then Refused (EpochRefused m.promised) else Effects (Some (durable.Promise epoch)) None

abbrev pub start_decision : NodeState → HeadView → ℕ → Option IndexedSegment → Decision
start_decision m h start found =
    unless (start_refusal found)
    (Effects (if m.writer == h.epoch then None else Some (durable.WriterEpoch h.epoch)) (Some (durable.NewSegment start h.epoch)))

abbrev pub journal_decision : NodeState → HeadView → ℕ → BatchView → Option IndexedSegment → Decision
journal_decision m h start batch found = unless (journal_refusal m h start batch found) (Effects (Some (durable.Append start (place_of found))) None)

abbrev pub finalize_decision : NodeState → HeadView → ℕ → ℕ → Option IndexedSegment → Decision
finalize_decision m h start end found = unless (finalize_refusal h.epoch end found) (Effects (final_effect start end found) (commit_effect m))

abbrev pub accept_decision : HeadView → BatchView → Option IndexedSegment → Decision
accept_decision h batch found = unless (accept_refusal batch found) (Effects (accept_effect h.epoch found) None)

abbrev pub decision_of : NodeState → (ℕ → Option IndexedSegment) → Request → Decision
decision_of m found request.State = Effects None None
decision_of m found (request.NewEpoch epoch) = epoch_decision m epoch
decision_of m found (request.Start h start) = start_decision m h start (found start)
decision_of m found (request.Journal h start batch) = journal_decision m h start batch (found start)
decision_of m found (request.Finalize h start end) = finalize_decision m h start end (found start)
decision_of m found (request.Prepare h start) = Effects None None
decision_of m found (request.Fetch h start from) = unless (fetch_refusal from (found start)) (Effects None None)
decision_of m found (request.Accept h batch) = accept_decision h batch (found batch.first)
decision_of m found (request.Purge h min) = Purge h.committed min
decision_of m found (request.Read from) = Effects None None
decision_of m found request.Manifest = Effects None None

-- ## What the decision means
abbrev pub listed : Option DurableEffect → List DurableEffect
listed None = []
listed (Some e) = e ∷ []

-- the segment isn't there with an edit
pub record SeesNew (s : NodeState) (start epoch : ℕ) : Type 0 where
  pub start_fits : start ≤ max_number
  pub epoch_fits : epoch ≤ max_number
  pub passes : start_refused (find_segment start s.segments) ≡ None

-- the batch comes next in the segment
pub record SeesAppend (s : NodeState) (found : ℕ → Option IndexedSegment) (r : Request) (start at : ℕ) : Type 0 where
  pub batched : HasBatch r
  pub place : at ≡ place_of (found start)
  pub next : (batch_of r).first ≡ start + bodies_in (find_segment start s.segments)
  pub last : last_txid (batch_of r) ≤ max_number

-- no final segment is replaced, and `again` tells of the record of its acceptance
pub record SeesReplace (s : NodeState) (r : Request) (epoch : ℕ) (again : Bool) : Type 0 where
  pub batched : HasBatch r
  pub first : (batch_of r).first ≤ max_number
  pub last : last_txid (batch_of r) ≤ max_number
  pub epoch_fits : epoch ≤ max_number
  pub in_progress : is_final_one (find_segment (batch_of r).first s.segments) ≡ false
  pub record_is : again ≡ has_record_of epoch (find_segment (batch_of r).first s.segments)

-- the segment is in progress, holds an edit and ends there
pub record SeesFinal (s : NodeState) (start end : ℕ) (accepted : Bool) : Type 0 where
  pub segment : Segment
  pub known : find_segment start s.segments ≡ Some segment
  pub start_fits : start ≤ max_number
  pub end_fits : end ≤ max_number
  pub in_progress : segment.is_final ≡ false
  pub edit : has_edit segment ≡ true
  pub ends : end_of segment ≡ end
  pub accepted_is : segment.accepted ≡ accepted

-- what an effect tells of the node over which it is done
abbrev pub Sees : NodeState → (ℕ → Option IndexedSegment) → Request → DurableEffect → Type 0
Sees s found r (durable.Promise epoch) = epoch ≤ max_number
Sees s found r (durable.WriterEpoch epoch) = epoch ≤ max_number
Sees s found r (durable.Commit txid) = txid ≡ s.known
Sees s found r (durable.NewSegment start epoch) = SeesNew s start epoch
Sees s found r (durable.Append start at) = SeesAppend s found r start at
Sees s found r (durable.Replace epoch again) = SeesReplace s r epoch again
Sees s found r (durable.MakeFinal start end accepted) = SeesFinal s start end accepted
Sees s found r (durable.Remove info) = ⊥

-- nothing is found
abbrev pub nowhere : ℕ → Option IndexedSegment
nowhere start = None

-- Each over the node that those before it leave. What an index finds holds for the first alone.
abbrev pub EachSees : NodeState → (ℕ → Option IndexedSegment) → Request → List DurableEffect → Type 0
EachSees s found r [] = Unit {0}
EachSees s found r (e ∷ es) = Sees s found r e × EachSees (after_effect s (effect_of r e)) nowhere r es

-- no effect that takes memory comes after one that changes the segments
abbrev pub MemoryFirst : List DurableEffect → Type 0
MemoryFirst [] = Unit {0}
MemoryFirst (e ∷ es) = (changes_segments e ≡ true → list_any takes_memory es ≡ false) × MemoryFirst es

-- A request that isn't refused, with these effects. Their costs are those of the segments before
-- the first.
pub record HasEffects (s : NodeState) (found : ℕ → Option IndexedSegment) (r : Request) (es : List DurableEffect) : Type 0 where
  pub passes : row_refused s r ≡ None
  pub effects : row_effects s r ≡ map (effect_of r) es
  pub sees : EachSees s found r es
  pub memory : MemoryFirst es
  pub costs : (cut : Cut) → map (cost_of cut s.segments) (map (effect_of r) es) ≡ map (effect_cost cut) es

-- a request that isn't refused, and removes these
pub record HasRemovals (s : NodeState) (r : Request) (committed min : ℕ) : Type 0 where
  pub purge : IsPurge r
  pub passes : row_refused s r ≡ None
  pub removals : row_effects s r ≡ map (λ g. effect.Remove g.start) (filter (may_go s committed min) s.segments)

abbrev pub IsDecision : NodeState → (ℕ → Option IndexedSegment) → Request → Decision → Type 0
IsDecision s found r (Refused refusal) = row_refused s r ≡ Some refusal
IsDecision s found r (Effects first second) = HasEffects s found r (listed first ++ listed second)
IsDecision s found r (Purge committed min) = HasRemovals s r committed min
