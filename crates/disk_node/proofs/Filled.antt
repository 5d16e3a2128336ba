-- No effect leaves an accepted segment without an edit.
use Rattle.std.proofs.Common.{ℕ, ◌≡◌, ◌++◌, Bool, true, false, cond, List, [], ◌∷◌, map, filter, take, Option, Some, None, zero, suc, refl}
use Rattle.std.proofs.lemmas.Bool.{false≢true}
use Rattle.journal_core.specs.Views.{HeadView}
use Rattle.journal_core.specs.declared.segment.Segment.{Segment}
use Rattle.journal_core.specs.declared.node_state.NodeState.{NodeState}
use Rattle.journal_core.specs.declared.refusal.Refusal.{Refusal}
use Rattle.journal_core.specs.declared.request.Request.{Request}
use Rattle.journal_core.specs.declared.request.Request.TheVariants.{State, NewEpoch, Start, Journal, Finalize, Prepare, Fetch, Accept, Purge, Read, Manifest}
use Rattle.journal_core.specs.Limits.{head_of}
use Rattle.journal_core.specs.Segments.{find_segment, any_body}
use Rattle.journal_core.specs.Effects.{Effect, Promise, WriterEpoch, Commit, NewSegment, Append, Replace, MakeFinal, Remove, after_effect}
use Rattle.journal_core.specs.Effects.{after_effects, segments_after, appended, finalized, empty_segment, accepted_segment}
use Rattle.journal_core.specs.Step.{refused_at_once, front_effects, fronted, row_refused, may_go, row_effects, effects_after, effects_unless, effects_of}
use Rattle.journal_core.proofs.Stored.{any_body_append}
use Rattle.disk_files.specs.Durable.{AreFilled}
use Rattle.disk_files.proofs.Lists.{filled_put, filled_remove, filled_of}
use Rattle.disk_node.specs.Node.{BringsEdits}

abbrev Fills : Effect → Type 0
Fills (Replace epoch batch) = any_body batch.bodies ≡ true
Fills _ = Unit {0}

abbrev AllFill : List Effect → Type 0
AllFill [] = Unit {0}
AllFill (e ∷ es) = Fills e × AllFill es

not_accepted : (P : Type 0) → false ≡ true → P
not_accepted P e = absurd (false≢true e)

append_fills : (start : ℕ) (bodies : List (List ℕ)) (gs : List Segment) (o : Option Segment) → find_segment start gs ≡ o → AreFilled gs → AreFilled (appended bodies o gs)
append_fills start bodies gs None known filled = filled
append_fills start bodies gs (Some g) known filled = filled_put (record g { bodies = g.bodies ++ bodies }) gs
    (λ accepted. any_body_append g.bodies bodies (filled_of start gs g filled known accepted)) filled

final_fills : (gs : List Segment) (o : Option Segment) → AreFilled gs → AreFilled (finalized o gs)
final_fills gs None filled = filled
final_fills gs (Some g) filled = filled_put (record g { is_final = true; accepted = false }) gs (λ accepted. not_accepted _ accepted) filled

effect_fills : (e : Effect) (gs : List Segment) → Fills e → AreFilled gs → AreFilled (segments_after gs e)
effect_fills (Promise epoch) gs fills filled = filled
effect_fills (WriterEpoch epoch) gs fills filled = filled
effect_fills (Commit txid) gs fills filled = filled
effect_fills (NewSegment start epoch) gs fills filled = filled_put (empty_segment start epoch) gs (λ accepted. not_accepted _ accepted) filled
effect_fills (Append start bodies) gs fills filled = append_fills start bodies gs (find_segment start gs) refl filled
effect_fills (Replace epoch batch) gs fills filled = filled_put (accepted_segment epoch batch) gs (λ accepted. fills) filled
effect_fills (MakeFinal start) gs fills filled = final_fills gs (find_segment start gs) filled
effect_fills (Remove start) gs fills filled = filled_remove start gs filled

effects_fill : (es : List Effect) (s : NodeState) (n : ℕ) → AllFill es → AreFilled s.segments → AreFilled (after_effects s (take n es)).segments
unfolding after_effects
effects_fill [] s zero fills filled = filled
effects_fill [] s (suc n) fills filled = filled
effects_fill (e ∷ es) s zero fills filled = filled
effects_fill (e ∷ es) s (suc n) fills filled = effects_fill es (after_effect s e) n fills.1 (effect_fills e s.segments fills.0 filled)

-- ## The effects of a request
start_fills : (start epoch : ℕ) (same : Bool) → AllFill (cond same [] (WriterEpoch epoch ∷ []) ++ NewSegment start epoch ∷ [])
start_fills start epoch true = (tt, tt)
start_fills start epoch false = (tt, (tt, tt))

finalize_fills : (start known : ℕ) (final raised : Bool) → AllFill (cond final [] (MakeFinal start ∷ []) ++ cond raised (Commit known ∷ []) [])
finalize_fills start known true true = (tt, tt)
finalize_fills start known true false = tt
finalize_fills start known false true = (tt, (tt, tt))
finalize_fills start known false false = (tt, tt)

accept_fills : (e : Effect) (final : Bool) → Fills e → AllFill (cond final [] (e ∷ []))
accept_fills e true fills = tt
accept_fills e false fills = (fills, tt)

removals_fill : (hs : List Segment) → AllFill (map (λ (g : Segment). Remove g.start) hs)
removals_fill [] = tt
removals_fill (h ∷ hs) = (tt, removals_fill hs)

rows_fill : (s : NodeState) (r : Request) → BringsEdits r → AllFill (row_effects s r)
rows_fill s State brings = tt
rows_fill s (NewEpoch epoch) brings = (tt, tt)
rows_fill s (Start h start) brings = start_fills start h.epoch _
rows_fill s (Journal h start b) brings = (tt, tt)
rows_fill s (Finalize h start end) brings = finalize_fills start s.known _ _
rows_fill s (Prepare h start) brings = tt
rows_fill s (Fetch h start from) brings = tt
rows_fill s (Accept h b) brings = accept_fills (Replace h.epoch b) _ brings
rows_fill s (Purge h least) brings = removals_fill (filter (may_go s h.committed least) s.segments)
rows_fill s (Read from) brings = tt
rows_fill s Manifest brings = tt

after_fills : (s : NodeState) (r : Request) (o : Option Refusal) → BringsEdits r → AllFill (effects_after s r o)
after_fills s r (Some refusal) brings = tt
after_fills s r None brings = rows_fill s r brings

raised_fills : (epoch : ℕ) (rest : List Effect) (raised : Bool) → AllFill rest → AllFill (cond raised (Promise epoch ∷ []) [] ++ rest)
raised_fills epoch rest true fill = (tt, fill)
raised_fills epoch rest false fill = fill

front_fills : (s : NodeState) (h : Option HeadView) (rest : List Effect) → AllFill rest → AllFill (front_effects s h ++ rest)
front_fills s None rest fill = fill
front_fills s (Some h) rest fill = raised_fills h.epoch rest _ fill

unless_fills : (s : NodeState) (r : Request) (o : Option Refusal) → BringsEdits r → AllFill (effects_unless s r o)
unless_fills s r (Some refusal) brings = tt
unless_fills s r None brings = front_fills s (head_of r) _ (after_fills (fronted s r) r (row_refused (fronted s r) r) brings)

all_fill : (s : NodeState) (r : Request) → BringsEdits r → AllFill (effects_of s r)
unfolding effects_of
all_fill s r brings = unless_fills s r (refused_at_once s r) brings

pub stopped_filled : (s : NodeState) (r : Request) (n : ℕ) → BringsEdits r → AreFilled s.segments → AreFilled (after_effects s (take n (effects_of s r))).segments
stopped_filled s r n brings filled = effects_fill (effects_of s r) s n (all_fill s r brings) filled
