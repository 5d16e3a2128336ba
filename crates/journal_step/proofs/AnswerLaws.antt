-- Laws of what is decided and applied in memory.
use Rattle.std.proofs.Common.{ℕ, ◌≡◌, List, [], ◌∷◌, ◌++◌, length, take, map, filter, min, Option, Some, None, Bool, true, false, cond, refl, sym, ap}
use Rattle.std.proofs.Common.{◌∙◌, nat_lt, Result, Ok, Err, OnErr, option_map, arith}
use Rattle.std.specs.List.{list_any}
use Rattle.journal_core.specs.Views.{HeadView}
use Rattle.journal_core.specs.declared.segment.Segment.{Segment}
use Rattle.journal_core.specs.declared.node_state.NodeState.{NodeState}
use Rattle.journal_core.specs.declared.refusal.Refusal.{Refusal}
use Rattle.journal_core.specs.declared.reply.Reply.{Reply}
use Rattle.journal_core.specs.declared.reply.Reply.TheVariants as reply
use Rattle.journal_core.specs.declared.request.Request.{Request}
use Rattle.journal_core.specs.declared.request.Request.TheVariants as request
use Rattle.journal_core.specs.Segments.{find_segment}
use Rattle.journal_core.specs.Effects.{Effect, after_effects}
use Rattle.journal_core.specs.Effects as effect
use Rattle.journal_core.specs.Step.{row_refused, row_effects, row_reply, row_then, is_final_one, may_go, effects_after, step_after_front}
use Rattle.journal_core.specs.Stops.{IsRowStop, effects_of_row}
use Rattle.journal_core.specs.Places.{without}
use Rattle.journal_core.specs.Answers.{is_free, is_refusal, row}
use Rattle.journal_core.proofs.PurgeLaws.{removed_each}
use Rattle.journal_core.proofs.StopLaws.{take_nil, stop_purged}
use Rattle.journal_step.specs.declared.segment_index.IndexedSegment.{IndexedSegment}
use Rattle.journal_step.specs.declared.durable_effect.DurableEffect.{DurableEffect}
use Rattle.journal_step.specs.declared.durable_effect.DurableEffect.TheVariants as durable
use Rattle.journal_step.specs.Index.{IsTold, AreTold, entry_of}
use Rattle.journal_step.specs.Durable.{effect_of, effects_by, takes_memory}
use Rattle.journal_step.specs.Decisions.{HasEffects, HasRemovals}
use Rattle.journal_step.specs.Applying.{DoesFirst, KeepsSegments}

-- segments in memory tell themselves
one_told : (o : Option Segment) → IsTold o (option_map entry_of o)
one_told None = tt
one_told (Some g) = record { info = refl; edit = refl }

pub list_told : (gs : List Segment) → AreTold gs (λ start. option_map entry_of (find_segment start gs))
list_told gs start = one_told (find_segment start gs)

pub on_err : {T : Type 0} {E : Type 0} {P : Type 0} (r : Result T E) → P → OnErr r P
on_err (Ok x) h = tt
on_err (Err e) h = h

-- ## Stops
row_passed : (s : NodeState) (r : Request) → row_refused s r ≡ None → effects_of_row s r ≡ row_effects s r
row_passed s r e = ap (effects_after s r) e

by_effects : (s t : NodeState) (r : Request) (es : List Effect) (keep done : ℕ) → effects_of_row s r ≡ es → DoesFirst s es keep done t → IsRowStop s r keep done t
by_effects s t r es keep done e h =
    record { count = h.count ∙ ap (λ xs. min keep (length xs)) (sym e); state = h.state ∙ ap (λ xs. after_effects s (take keep xs)) (sym e) }

pub row_stopped : (s t : NodeState) (found : ℕ → Option IndexedSegment) (r : Request) (es : List DurableEffect) (keep done : ℕ) → HasEffects s found r es → DoesFirst s (effects_by r es) keep done t
    → IsRowStop s r keep done t
row_stopped s t found r es keep done h d = by_effects s t r (effects_by r es) keep done (row_passed s r h.passes ∙ h.effects) d

pub refused_stopped : (s : NodeState) (r : Request) (refusal : Refusal) (keep : ℕ) → row_refused s r ≡ Some refusal → IsRowStop s r keep 0 s
unfolding after_effects
refused_stopped s r refusal keep e =
    by_effects s s r [] keep 0 (ap (effects_after s r) e) (record { count = sym (none keep); state = rw (take_nil keep) refl })
  where
    none : (k : ℕ) → min k 0 ≡ 0
    none k = omega arith

pub purge_stopped : (s : NodeState) (r : Request) (committed least keep done : ℕ) (gs : List Segment) → HasRemovals s r committed least
    → done ≡ min keep (length (filter (may_go s committed least) s.segments)) → gs ≡ without (take keep (filter (may_go s committed least) s.segments)) s.segments
    → IsRowStop s r keep done (record s { segments = gs })
purge_stopped s r committed least keep done gs h n e =
    let v : HeadView = record { epoch = 1; serial = 1; committed = committed } in
    let stop = stop_purged s v least keep done gs n e in
    by_effects s (record s { segments = gs }) r (map (λ (g : Segment). effect.Remove g.start) (filter (may_go s committed least) s.segments)) keep done (row_passed s r h.passes ∙ h.removals)
    (record { count = stop.count; state = stop.state })

-- ## Steps
-- which effects take memory
abbrev takes : Effect → Bool
takes (effect.NewSegment start epoch) = true
takes (effect.Append start bodies) = true
takes (effect.Replace epoch batch) = true
takes _ = false

takes_same : (r : Request) (e : DurableEffect) → takes (effect_of r e) ≡ takes_memory e
takes_same r (durable.Promise epoch) = refl
takes_same r (durable.WriterEpoch epoch) = refl
takes_same r (durable.Commit txid) = refl
takes_same r (durable.NewSegment start epoch) = refl
takes_same r (durable.Append start at) = refl
takes_same r (durable.Replace epoch again) = refl
takes_same r (durable.MakeFinal start end accepted) = refl
takes_same r (durable.Remove info) = refl

any_same : (r : Request) (es : List DurableEffect) → list_any takes (effects_by r es) ≡ list_any takes_memory es
any_same r [] = refl
any_same r (e ∷ es) = rw (takes_same r e, any_same r es) refl

row_takes : (s : NodeState) (found : ℕ → Option IndexedSegment) (r : Request) (es : List DurableEffect) → HasEffects s found r es → list_any takes (row_effects s r) ≡ list_any takes_memory es
row_takes s found r es h = ap (list_any takes) h.effects ∙ any_same r es

finalize_takes : (a b : Bool) (start known : ℕ) → list_any takes (cond a [] (effect.MakeFinal start ∷ []) ++ cond b (effect.Commit known ∷ []) []) ≡ false
finalize_takes true true start known = refl
finalize_takes true false start known = refl
finalize_takes false true start known = refl
finalize_takes false false start known = refl

removes_take : (gs : List Segment) → list_any takes (map (λ (g : Segment). effect.Remove g.start) gs) ≡ false
removes_take [] = refl
removes_take (g ∷ gs) = removes_take gs

free_takes : (s : NodeState) (r : Request) → is_free r ≡ true → list_any takes (row_effects s r) ≡ false
free_takes s request.State h = refl
free_takes s (request.NewEpoch epoch) h = refl
free_takes s (request.Finalize v start end) h = finalize_takes (is_final_one (find_segment start s.segments)) (nat_lt s.committed s.known) start s.known
free_takes s (request.Purge v least) h = removes_take (filter (may_go s v.committed least) s.segments)
free_takes s (request.Start v start) h = absurd (cc)
free_takes s (request.Journal v start b) h = absurd (cc)
free_takes s (request.Prepare v start) h = refl
free_takes s (request.Fetch v start from) h = refl
free_takes s (request.Accept v b) h = absurd (cc)
free_takes s (request.Read from) h = refl
free_takes s request.Manifest h = refl

-- a free request has no effect that takes memory
pub free_effects : (s : NodeState) (found : ℕ → Option IndexedSegment) (r : Request) (es : List DurableEffect) → HasEffects s found r es → is_free r ≡ true → list_any takes_memory es ≡ false
free_effects s found r es h f = sym (row_takes s found r es h) ∙ free_takes s r f

done_by : (s : NodeState) (r : Request) → (list_any takes (row_effects s r) ≡ false → ⊥) → row_reply s r ≡ reply.Ok
done_by s request.State f = absurd (f refl)
done_by s (request.NewEpoch epoch) f = absurd (f refl)
done_by s (request.Start v start) f = refl
done_by s (request.Journal v start b) f = refl
done_by s (request.Finalize v start end) f = refl
done_by s (request.Prepare v start) f = absurd (f refl)
done_by s (request.Fetch v start from) f = absurd (f refl)
done_by s (request.Accept v b) f = refl
done_by s (request.Purge v least) f = refl
done_by s (request.Read from) f = absurd (f refl)
done_by s request.Manifest f = absurd (f refl)

-- where an effect takes memory, the reply is that it is done
pub done_reply : (s : NodeState) (found : ℕ → Option IndexedSegment) (r : Request) (es : List DurableEffect) → HasEffects s found r es
    → (list_any takes_memory es ≡ false → ⊥) → row_reply s r ≡ reply.Ok
done_reply s found r es h f = done_by s r (λ e. f (sym (row_takes s found r es h) ∙ e))

-- what a purge removes
pub purge_applied : (s : NodeState) (r : Request) (committed least : ℕ) (gs : List Segment) → HasRemovals s r committed least
    → gs ≡ without (filter (may_go s committed least) s.segments) s.segments → record s { segments = gs } ≡ after_effects s (row_effects s r)
purge_applied s r committed least gs h e =
    ap (λ (xs : List Segment). let t : NodeState = record s { segments = xs } in t) e ∙ sym (removed_each (filter (may_go s committed least) s.segments) s) ∙ ap (after_effects s) (sym h.removals)

-- the row of what isn't refused
pub row_is : (s t : NodeState) (r : Request) (answer : Reply) → row_refused s r ≡ None → t ≡ row_then (after_effects s (row_effects s r)) r
    → answer ≡ row_reply s r → row s r ≡ record { state = t; reply = answer }
row_is s t r answer e f g = ap (step_after_front s r) e ∙ rw (f, g) refl

pub row_given : (s : NodeState) (r : Request) → row_refused s r ≡ None → is_refusal (row_reply s r) ≡ false → is_refusal (row s r).reply ≡ false
row_given s r e f = ap (λ o. is_refusal (step_after_front s r o).reply) e ∙ f

-- the numbers that were are those that are again
pub numbers_again : (s t : NodeState) → KeepsSegments s t → record t { promised = s.promised; writer = s.writer; committed = s.committed; known = s.known; opened = s.opened; serial = s.serial } ≡ s
numbers_again s t k = rw (k.segments, k.up) refl
