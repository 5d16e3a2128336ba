-- Durable effects that mean those of a request append to the segment that it names alone.
use Rattle.std.proofs.Common.{◌≡◌, ℕ, ◌++◌, Bool, true, false, List, [], ◌∷◌, map, filter, Option, Some, None, refl, sym, ap, subst, cond}
use Rattle.journal_core.specs.Views.{HeadView}
use Rattle.journal_core.specs.declared.refusal.Refusal.{Refusal}
use Rattle.journal_core.specs.declared.segment.Segment.{Segment}
use Rattle.journal_core.specs.declared.node_state.NodeState.{NodeState}
use Rattle.journal_core.specs.declared.request.Request.{Request}
use Rattle.journal_core.specs.declared.request.Request.TheVariants.{State, NewEpoch, Start, Journal, Finalize, Prepare, Fetch, Accept, Purge, Read, Manifest}
use Rattle.journal_core.specs.Limits.{head_of}
use Rattle.journal_core.specs.Effects.{Effect, Promise, WriterEpoch, Commit, NewSegment, Append, Replace, MakeFinal, Remove}
use Rattle.journal_core.specs.Step.{refused_at_once, front_effects, fronted, row_refused, may_go, row_effects, effects_after, effects_unless, effects_of}
use Rattle.disk_effects.specs.Due.{effect_of}
use Rattle.disk_node.specs.Held.{Spares}
use Rattle.disk_node.specs.Done.{effects_by, GoesTo, AppendWithin, append_start, AppendsAreWithin}
use Rattle.journal_step.specs.declared.durable_effect.DurableEffect.{DurableEffect}
use Rattle.journal_step.specs.declared.durable_effect.DurableEffect.TheVariants as durable

-- the effect is on no segment but an append to this one, or no append where none is named
abbrev pub Fits : Option ℕ → Effect → Type 0
Fits o (Promise epoch) = Unit {0}
Fits o (WriterEpoch epoch) = Unit {0}
Fits o (Commit txid) = Unit {0}
Fits None (NewSegment start epoch) = Unit {0}
Fits None (Append start bodies) = ⊥
Fits None (Replace epoch batch) = Unit {0}
Fits None (MakeFinal start) = Unit {0}
Fits None (Remove start) = Unit {0}
Fits (Some named) (NewSegment start epoch) = ⊥
Fits (Some named) (Append start bodies) = named ≡ start
Fits (Some named) (Replace epoch batch) = ⊥
Fits (Some named) (MakeFinal start) = ⊥
Fits (Some named) (Remove start) = ⊥

abbrev pub AllFit : Option ℕ → List Effect → Type 0
AllFit o [] = Unit {0}
AllFit o (e ∷ es) = Fits o e × AllFit o es

-- ## Effects of effects that fit
goes : (r : Request) (o : Option ℕ) (d : DurableEffect) → Fits o (effect_of r d) → GoesTo o d
goes r o (durable.Promise epoch) fits = tt
goes r o (durable.WriterEpoch epoch) fits = tt
goes r o (durable.Commit txid) fits = tt
goes r o (durable.NewSegment start epoch) fits = tt
goes r None (durable.Append start at) fits = absurd fits
goes r (Some named) (durable.Append start at) fits = ap (λ (n : ℕ). Some n) fits
goes r o (durable.Replace epoch again) fits = tt
goes r o (durable.MakeFinal start end accepted) fits = tt
goes r o (durable.Remove info) fits = tt

spares : (r : Request) (o : Option ℕ) (d : DurableEffect) → Fits o (effect_of r d) → Spares o d
spares r None d fits = tt
spares r (Some named) (durable.Promise epoch) fits = tt
spares r (Some named) (durable.WriterEpoch epoch) fits = tt
spares r (Some named) (durable.Commit txid) fits = tt
spares r (Some named) (durable.NewSegment start epoch) fits = absurd fits
spares r (Some named) (durable.Append start at) fits = tt
spares r (Some named) (durable.Replace epoch again) fits = absurd fits
spares r (Some named) (durable.MakeFinal start end accepted) fits = absurd fits
spares r (Some named) (durable.Remove info) fits = absurd fits

pub effects_fit : (r : Request) (o : Option ℕ) (ds : List DurableEffect) → AllFit o (effects_by r ds) → AppendWithin o ds
effects_fit r o [] fit = tt
effects_fit r o (d ∷ ds) fit = (goes r o d fit.0, spares r o d fit.0, effects_fit r o ds fit.1)

-- ## The effects of a request fit
start_fits : (start epoch : ℕ) (same : Bool) → AllFit None (cond same [] (WriterEpoch epoch ∷ []) ++ NewSegment start epoch ∷ [])
start_fits start epoch true = (tt, tt)
start_fits start epoch false = (tt, (tt, tt))

finalize_fits : (start known : ℕ) (final raised : Bool) → AllFit None (cond final [] (MakeFinal start ∷ []) ++ cond raised (Commit known ∷ []) [])
finalize_fits start known true true = (tt, tt)
finalize_fits start known true false = tt
finalize_fits start known false true = (tt, (tt, tt))
finalize_fits start known false false = (tt, tt)

accept_fits : (e : Effect) (final : Bool) → Fits None e → AllFit None (cond final [] (e ∷ []))
accept_fits e true fits = tt
accept_fits e false fits = (fits, tt)

removals_fit : (hs : List Segment) → AllFit None (map (λ (g : Segment). Remove g.start) hs)
removals_fit [] = tt
removals_fit (h ∷ hs) = (tt, removals_fit hs)

rows_fit : (s : NodeState) (r : Request) → AllFit (append_start r) (row_effects s r)
rows_fit s State = tt
rows_fit s (NewEpoch epoch) = (tt, tt)
rows_fit s (Start h start) = start_fits start h.epoch _
rows_fit s (Journal h start b) = (refl, tt)
rows_fit s (Finalize h start end) = finalize_fits start s.known _ _
rows_fit s (Prepare h start) = tt
rows_fit s (Fetch h start from) = tt
rows_fit s (Accept h b) = accept_fits (Replace h.epoch b) _ tt
rows_fit s (Purge h least) = removals_fit (filter (may_go s h.committed least) s.segments)
rows_fit s (Read from) = tt
rows_fit s Manifest = tt

after_fits : (s : NodeState) (r : Request) (o : Option Refusal) → AllFit (append_start r) (effects_after s r o)
after_fits s r (Some refusal) = tt
after_fits s r None = rows_fit s r

raised_fits : (o : Option ℕ) (epoch : ℕ) (rest : List Effect) (raised : Bool) → AllFit o rest → AllFit o (cond raised (Promise epoch ∷ []) [] ++ rest)
raised_fits o epoch rest true fit = (tt, fit)
raised_fits o epoch rest false fit = fit

pub front_fits : (o : Option ℕ) (s : NodeState) (h : Option HeadView) (rest : List Effect) → AllFit o rest → AllFit o (front_effects s h ++ rest)
front_fits o s None rest fit = fit
front_fits o s (Some h) rest fit = raised_fits o h.epoch rest _ fit

unless_fits : (s : NodeState) (r : Request) (o : Option Refusal) → AllFit (append_start r) (effects_unless s r o)
unless_fits s r (Some refusal) = tt
unless_fits s r None = front_fits (append_start r) s (head_of r) _ (after_fits (fronted s r) r (row_refused (fronted s r) r))

pub appends_within : AppendsAreWithin
unfolding effects_of
appends_within s r ds are = effects_fit r (append_start r) ds (subst (λ (es : List Effect). AllFit (append_start r) es) (sym are) (unless_fits s r (refused_at_once s r)))
