-- The effects of a request leave the costs of those after them as they are.
use Rattle.std.proofs.Common.{◌≡◌, ◌≢◌, ℕ, ◌++◌, Bool, true, false, List, [], ◌∷◌, map, filter, Option, Some, None, refl, cond, arith}
use Rattle.journal_core.specs.Views.{HeadView}
use Rattle.journal_core.specs.declared.cut.Cut.{Cut}
use Rattle.journal_core.specs.declared.refusal.Refusal.{Refusal}
use Rattle.journal_core.specs.declared.segment.Segment.{Segment}
use Rattle.journal_core.specs.declared.node_state.NodeState.{NodeState}
use Rattle.journal_core.specs.declared.request.Request.{Request}
use Rattle.journal_core.specs.declared.request.Request.TheVariants.{State, NewEpoch, Start, Journal, Finalize, Prepare, Fetch, Accept, Purge, Read, Manifest}
use Rattle.journal_core.specs.Limits.{head_of}
use Rattle.journal_core.specs.Segments.{remove_segment, AreAbove, AreRising, AreSound}
use Rattle.journal_core.specs.Effects.{Effect, Promise, WriterEpoch, Commit, NewSegment, Replace, MakeFinal, Remove}
use Rattle.journal_core.specs.Step.{refused_at_once, front_effects, fronted, row_refused, may_go, row_effects, effects_after, effects_unless, effects_of}
use Rattle.journal_core.specs.Cuts.{name_cost, has_record, cost_of}
use Rattle.journal_core.proofs.SegmentLists.{find-remove_other}
use Rattle.journal_core.proofs.PurgeLaws.{filter_sound}
use Rattle.disk_node.specs.Done.{KeepCosts, CostsAreKept}

-- ## Removals
abbrev removals : List Segment → List Effect
removals hs = map (λ (g : Segment). Remove g.start) hs

removal_keeps : (cut : Cut) (gs : List Segment) (start : ℕ) (hs : List Segment) → AreAbove start hs → map (cost_of cut (remove_segment start gs)) (removals hs) ≡ map (cost_of cut gs) (removals hs)
removal_keeps cut gs start [] above = refl
removal_keeps cut gs start (h ∷ hs) above =
    let other : start ≢ h.start = λ same. absurd (omega (arith, above.0, same)) in
    let same = find-remove_other h.start start gs other in
    λ i. name_cost (has_record (same i)) ∷ removal_keeps cut gs start hs above.1 i

removals_keep : (gs hs : List Segment) → AreRising hs → KeepCosts gs (removals hs)
removals_keep gs [] rising = tt
removals_keep gs (h ∷ hs) rising = (λ cut. removal_keeps cut gs h.start hs rising.0, removals_keep (remove_segment h.start gs) hs rising.1)

-- ## The rows of the table
start_keeps : (gs : List Segment) (s : NodeState) (h : HeadView) (start : ℕ) (same : Bool) → KeepCosts gs (cond same [] (WriterEpoch h.epoch ∷ []) ++ NewSegment start h.epoch ∷ [])
start_keeps gs s h start true = (λ cut. refl, tt)
start_keeps gs s h start false = (λ cut. refl, (λ cut. refl, tt))

finalize_keeps : (gs : List Segment) (start known : ℕ) (final raised : Bool) → KeepCosts gs (cond final [] (MakeFinal start ∷ []) ++ cond raised (Commit known ∷ []) [])
finalize_keeps gs start known true true = (λ cut. refl, tt)
finalize_keeps gs start known true false = tt
finalize_keeps gs start known false true = (λ cut. refl, (λ cut. refl, tt))
finalize_keeps gs start known false false = (λ cut. refl, tt)

accept_keeps : (gs : List Segment) (e : Effect) (final : Bool) → KeepCosts gs (cond final [] (e ∷ []))
accept_keeps gs e true = tt
accept_keeps gs e false = (λ cut. refl, tt)

rows_keep : (s : NodeState) (r : Request) → AreSound s.segments → KeepCosts s.segments (row_effects s r)
rows_keep s State sound = tt
rows_keep s (NewEpoch epoch) sound = (λ cut. refl, tt)
rows_keep s (Start h start) sound = start_keeps s.segments s h start _
rows_keep s (Journal h start b) sound = (λ cut. refl, tt)
rows_keep s (Finalize h start end) sound = finalize_keeps s.segments start s.known _ _
rows_keep s (Prepare h start) sound = tt
rows_keep s (Fetch h start from) sound = tt
rows_keep s (Accept h b) sound = accept_keeps s.segments (Replace h.epoch b) _
rows_keep s (Purge h least) sound = removals_keep s.segments (filter (may_go s h.committed least) s.segments) (filter_sound (may_go s h.committed least) s.segments sound).rising
rows_keep s (Read from) sound = tt
rows_keep s Manifest sound = tt

-- ## After the front
after_keeps : (s : NodeState) (r : Request) (o : Option Refusal) → AreSound s.segments → KeepCosts s.segments (effects_after s r o)
after_keeps s r (Some refusal) sound = tt
after_keeps s r None sound = rows_keep s r sound

raised_keeps : (gs : List Segment) (epoch : ℕ) (rest : List Effect) (raised : Bool) → KeepCosts gs rest → KeepCosts gs (cond raised (Promise epoch ∷ []) [] ++ rest)
raised_keeps gs epoch rest true keep = (λ cut. refl, keep)
raised_keeps gs epoch rest false keep = keep

front_keeps : (gs : List Segment) (s : NodeState) (o : Option HeadView) (rest : List Effect) → KeepCosts gs rest → KeepCosts gs (front_effects s o ++ rest)
front_keeps gs s None rest keep = keep
front_keeps gs s (Some h) rest keep = raised_keeps gs h.epoch rest _ keep

unless_keeps : (s : NodeState) (r : Request) (o : Option Refusal) → AreSound s.segments → KeepCosts s.segments (effects_unless s r o)
unless_keeps s r (Some refusal) sound = tt
unless_keeps s r None sound = front_keeps s.segments s (head_of r) _ (after_keeps (fronted s r) r (row_refused (fronted s r) r) sound)

pub costs_kept : CostsAreKept
unfolding effects_of
costs_kept s r sound = unless_keeps s r (refused_at_once s r) sound
