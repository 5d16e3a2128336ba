-- Effects applied in memory, one after the other.
use Rattle.std.proofs.Common.{ℕ, ◌≡◌, ◌+◌, ◌-◌, List, [], ◌∷◌, ◌++◌, length, take, min, Option, Some, None, true, false, refl, sym, ap, ◌∙◌, arith, zero, suc, length-append, subst, ◌<◌, inl, inr}
use Rattle.std.proofs.lemmas.List.{map-append}
use Rattle.std.proofs.lemmas.Bool.{cases_Bool}
use Rattle.std.specs.List.{list_any}
use Rattle.journal_core.specs.declared.node_state.NodeState.{NodeState}
use Rattle.journal_core.specs.declared.request.Request.{Request}
use Rattle.journal_core.specs.Segments.{find_segment}
use Rattle.journal_core.specs.Effects.{Effect, after_effect, after_effects}
use Rattle.journal_core.proofs.StopLaws.{take_nil, take_first}
use Rattle.journal_core.proofs.Within.{find_start, grown_within}
use Rattle.journal_core.proofs.NodeLaws.{after-append}
use Rattle.journal_step.specs.declared.segment_index.IndexedSegment.{IndexedSegment}
use Rattle.journal_step.specs.declared.durable_effect.DurableEffect.{DurableEffect}
use Rattle.journal_step.specs.declared.durable_effect.DurableEffect.TheVariants as durable
use Rattle.journal_step.specs.Durable.{batch_of, effect_of, effects_by, takes_memory, changes_segments}
use Rattle.journal_step.specs.Decisions.{listed, Sees, nowhere, EachSees, MemoryFirst}
use Rattle.journal_step.specs.Applying.{Fits, EachFits, DoesFirst, KeepsSegments}

-- what is told of an effect keeps the segments within the greatest txid
sees_fits : (s : NodeState) (found : ℕ → Option IndexedSegment) (r : Request) (e : DurableEffect) → Sees s found r e → Fits s r e
sees_fits s found r (durable.Promise epoch) h = tt
sees_fits s found r (durable.WriterEpoch epoch) h = tt
sees_fits s found r (durable.Commit txid) h = tt
sees_fits s found r (durable.NewSegment start epoch) h = h.start_fits
sees_fits s found r (durable.Append start at) h = (h.batched, grown_within (find_segment start s.segments) start (batch_of r) (find_start start s.segments) h.next h.last)
sees_fits s found r (durable.Replace epoch again) h = (h.batched, h.last)
sees_fits s found r (durable.MakeFinal start end accepted) h = tt
sees_fits s found r (durable.Remove info) h = tt

pub each_fits : (s : NodeState) (found : ℕ → Option IndexedSegment) (r : Request) (es : List DurableEffect) → EachSees s found r es → EachFits s r es
each_fits s found r [] h = tt
each_fits s found r (e ∷ es) h = (sees_fits s found r e h.0, each_fits (after_effect s (effect_of r e)) nowhere r es h.1)

-- none of none
pub first_none : (s : NodeState) (r : Request) (keep : ℕ) → DoesFirst s (effects_by r (listed None)) keep 0 s
unfolding after_effects
first_none s r keep = record { count = omega arith; state = rw (take_nil keep) refl }

pub first_zero : (s : NodeState) (es : List Effect) (keep : ℕ) → keep ≡ 0 → DoesFirst s es keep 0 s
unfolding after_effects
first_zero s es keep e = record { count = omega arith; state = rw e refl }

pub first_one : (s t : NodeState) (r : Request) (e : DurableEffect) (keep : ℕ) → 0 < keep → t ≡ after_effect s (effect_of r e) → DoesFirst s (effects_by r (listed (Some e))) keep 1 t
unfolding after_effects
first_one s t r e keep l is = record { count = omega arith; state = rw (take_first keep (effect_of r e) [] l, take_nil (keep - 1)) is }

pub ruleset firsts = (first_none, first_zero, first_one)

take_split : (k : ℕ) (xs ys : List Effect) → take k (xs ++ ys) ≡ take k xs ++ take (k - min k (length xs)) ys
take_split k [] ys = (let e : k - min k 0 ≡ k = omega arith in rw (take_nil k, e) refl)
take_split zero (x ∷ xs) ys = (let e : 0 - min 0 (suc (length xs)) ≡ 0 = omega arith in rw e refl)
take_split (suc k) (x ∷ xs) ys =
    let e : suc k - min (suc k) (suc (length xs)) ≡ k - min k (length xs) = omega arith in
    ap (λ zs. x ∷ zs) (take_split k xs ys ∙ ap (λ n. take k xs ++ take n ys) (sym e))

-- the first of two lists of effects, and then of the second
pub first_both : (s t u : NodeState) (r : Request) (xs ys : List DurableEffect) (keep done more : ℕ) → DoesFirst s (effects_by r xs) keep done t → DoesFirst t (effects_by r ys) (keep - done) more u
    → DoesFirst s (effects_by r (xs ++ ys)) keep (done + more) u
first_both s t u r xs ys keep done more a b =
    let es = effects_by r xs in
    let fs = effects_by r ys in
    let all : effects_by r (xs ++ ys) ≡ es ++ fs = map-append (effect_of r) xs ys in
    let long = length-append es fs in
    let first : done ≡ min keep (length es) = a.count in
    let rest : more ≡ min (keep - done) (length fs) = b.count in
    record {
      count = rw all (omega arith);
      state = b.state ∙ ap (λ x. after_effects x (take (keep - done) fs)) a.state ∙ sym (after-append (take keep es) (take (keep - done) fs) s)
          ∙ ap (after_effects s) (ap (λ n. take keep es ++ take (keep - n) fs) first ∙ sym (take_split keep es fs) ∙ ap (take keep) (sym all));
    }

-- what is left where the second of two effects fails
leaves : (s : NodeState) (r : Request) (e : DurableEffect) → changes_segments e ≡ false → KeepsSegments s (after_effect s (effect_of r e))
leaves s r (durable.Promise epoch) h = record { segments = refl; up = refl }
leaves s r (durable.WriterEpoch epoch) h = record { segments = refl; up = refl }
leaves s r (durable.Commit txid) h = record { segments = refl; up = refl }
leaves s r (durable.NewSegment start epoch) h = absurd (cc)
leaves s r (durable.Append start at) h = absurd (cc)
leaves s r (durable.Replace epoch again) h = absurd (cc)
leaves s r (durable.MakeFinal start end accepted) h = absurd (cc)
leaves s r (durable.Remove info) h = absurd (cc)

keeps_same : (s t : NodeState) → t ≡ s → KeepsSegments s t
keeps_same s t e = record { segments = ap (λ (x : NodeState). x.segments) e; up = ap (λ (x : NodeState). x.up) e }

one_failed : (s t : NodeState) (r : Request) (e : DurableEffect) (b : Option DurableEffect) (keep : ℕ) → t ≡ after_effects s (take keep (effect_of r e ∷ []))
    → (changes_segments e ≡ true → list_any takes_memory (listed b) ≡ false) → (list_any takes_memory (listed b) ≡ false → ⊥) → KeepsSegments s t
unfolding after_effects
one_failed s t r e b zero is memory failed = keeps_same s t is
one_failed s t r e b (suc k) is memory failed =
    let applied : t ≡ after_effect s (effect_of r e) = is ∙ ap (λ es. after_effects s (effect_of r e ∷ es)) (take_nil k) in
    subst (λ (x : NodeState). KeepsSegments s x) (sym applied)
    (elim (cases_Bool (changes_segments e)) [ inl h ↦ absurd (failed (memory h)) | inr h ↦ leaves s r e h ])

pub second_failed : (s t : NodeState) (r : Request) (a b : Option DurableEffect) (keep done : ℕ) → DoesFirst s (effects_by r (listed a)) keep done t → MemoryFirst (listed a ++ listed b)
    → (list_any takes_memory (listed b) ≡ false → ⊥) → KeepsSegments s t
unfolding after_effects
second_failed s t r None b keep done h m failed = keeps_same s t (h.state ∙ ap (after_effects s) (take_nil keep))
second_failed s t r (Some e) b keep done h m failed = one_failed s t r e b keep h.state m.0 failed

-- where the second of two effects is applied, all of the first was
pub second_fits : (s t : NodeState) (r : Request) (a b : Option DurableEffect) (keep done : ℕ) → DoesFirst s (effects_by r (listed a)) keep done t
    → EachFits s r (listed a ++ listed b) → 0 < keep - done
    → EachFits t r (listed b)
unfolding after_effects
second_fits s t r None b keep done h fits l = subst (λ (x : NodeState). EachFits x r (listed b)) (sym (h.state ∙ ap (after_effects s) (take_nil keep))) fits
second_fits s t r (Some e) b zero done h fits l = absurd (omega arith)
second_fits s t r (Some e) b (suc k) done h fits l =
    let applied : t ≡ after_effect s (effect_of r e) = h.state ∙ ap (λ es. after_effects s (effect_of r e ∷ es)) (take_nil k) in
    subst (λ (x : NodeState). EachFits x r (listed b)) (sym applied) fits.1
