-- A request that is stopped after the first of its effects leaves a promise that is no lower.
use Rattle.std.proofs.Common.{◌≡◌, ℕ, zero, suc, ◌<◌, ◌≤◌, min, List, [], ◌∷◌, ◌++◌, Bool, true, false, cond, refl, sym, ◌∙◌, subst, arith, length, take}
use Rattle.std.specs.Prelude.{Option, Some, None, nat_lt, nat_le}
use Rattle.std.proofs.lemmas.Bool.Decides.{nat_tests}
use Rattle.std.proofs.lemmas.List.{length-map}
use Rattle.journal_core.specs.Views.{HeadView}
use Rattle.journal_core.specs.declared.node_state.NodeState.{NodeState}
use Rattle.journal_core.specs.declared.request.Request.{Request}
use Rattle.journal_core.specs.declared.request.Request.TheVariants as request
use Rattle.journal_core.specs.declared.refusal.Refusal.{Refusal}
use Rattle.journal_core.specs.declared.refusal.Refusal.TheVariants as refusal
use Rattle.journal_core.specs.Limits.{head_of}
use Rattle.journal_core.specs.Effects.{Effect, Promise, WriterEpoch, Commit, NewSegment, Append, Replace, MakeFinal, Remove, after_effect, after_effects}
use Rattle.journal_core.specs.Step.{refused_at_once, front_effects, fronted, row_refused, effects_after, effects_unless, effects_of, stopped}
use Rattle.journal_history.specs.declared.stop.Stop.{Stop}
use Rattle.journal_history.specs.declared.stop.Stop.TheVariants.{Effects, DiskCalls}
use Rattle.journal_core.specs.Cuts.{standing, cost_of, costs_of}
use Rattle.journal_core.proofs.CutLaws.{standing-le}
use Rattle.journal_history.specs.Cell.{kept_by}
use Rattle.journal_history.specs.Moving.{epoch_of}
use Rattle.journal_history.proofs.Fronts.{IsQuiet, quiet_promise, quiet_row}
use Rattle.journal_history.proofs.Requests.{Sort, Reads, Proposes, Heads, sort_of}

pub quiet_take : (n : ℕ) (es : List Effect) → IsQuiet es → IsQuiet (take n es)
unfolding IsQuiet
quiet_take zero es h = tt
quiet_take (suc n) [] h = tt
quiet_take (suc n) (Promise epoch ∷ es) h = absurd h
quiet_take (suc n) (WriterEpoch epoch ∷ es) h = quiet_take n es h
quiet_take (suc n) (Commit txid ∷ es) h = quiet_take n es h
quiet_take (suc n) (NewSegment start epoch ∷ es) h = quiet_take n es h
quiet_take (suc n) (Append start bodies ∷ es) h = quiet_take n es h
quiet_take (suc n) (Replace epoch batch ∷ es) h = quiet_take n es h
quiet_take (suc n) (MakeFinal start ∷ es) h = quiet_take n es h
quiet_take (suc n) (Remove start ∷ es) h = quiet_take n es h

-- effects of which the first alone may promise, and then more than before
unfoldable pub Rises : ℕ → List Effect → Type 0
Rises p [] = Unit {0}
Rises p (Promise epoch ∷ es) = (p < epoch) × IsQuiet es
Rises p (WriterEpoch epoch ∷ es) = IsQuiet es
Rises p (Commit txid ∷ es) = IsQuiet es
Rises p (NewSegment start epoch ∷ es) = IsQuiet es
Rises p (Append start bodies ∷ es) = IsQuiet es
Rises p (Replace epoch batch ∷ es) = IsQuiet es
Rises p (MakeFinal start ∷ es) = IsQuiet es
Rises p (Remove start ∷ es) = IsQuiet es

quiet_rises : (p : ℕ) (es : List Effect) → IsQuiet es → Rises p es
unfolding Rises IsQuiet
quiet_rises p [] h = tt
quiet_rises p (Promise epoch ∷ es) h = absurd h
quiet_rises p (WriterEpoch epoch ∷ es) h = h
quiet_rises p (Commit txid ∷ es) h = h
quiet_rises p (NewSegment start epoch ∷ es) h = h
quiet_rises p (Append start bodies ∷ es) h = h
quiet_rises p (Replace epoch batch ∷ es) h = h
quiet_rises p (MakeFinal start ∷ es) h = h
quiet_rises p (Remove start ∷ es) h = h

same_below : (a b : ℕ) → a ≡ b → b ≤ a
same_below a b e = omega (arith, e)

quiet_below : (s : NodeState) (e : Effect) (n : ℕ) (es : List Effect) → (after_effect s e).promised ≡ s.promised → IsQuiet es → s.promised ≤ (after_effects (after_effect s e) (take n es)).promised
quiet_below s e n es same h = same_below (after_effects (after_effect s e) (take n es)).promised s.promised (quiet_promise (take n es) (after_effect s e) (quiet_take n es h) ∙ same)

rising : (n : ℕ) (es : List Effect) (s : NodeState) → Rises s.promised es → s.promised ≤ (after_effects s (take n es)).promised
unfolding Rises after_effects
rising zero es s h = omega arith
rising (suc n) [] s h = omega arith
rising (suc n) (Promise epoch ∷ es) s h = omega (arith, h.0, quiet_promise (take n es) (after_effect s (Promise epoch)) (quiet_take n es h.1))
rising (suc n) (WriterEpoch epoch ∷ es) s h = quiet_below s (WriterEpoch epoch) n es refl h
rising (suc n) (Commit txid ∷ es) s h = quiet_below s (Commit txid) n es refl h
rising (suc n) (NewSegment start epoch ∷ es) s h = quiet_below s (NewSegment start epoch) n es refl h
rising (suc n) (Append start bodies ∷ es) s h = quiet_below s (Append start bodies) n es refl h
rising (suc n) (Replace epoch batch ∷ es) s h = quiet_below s (Replace epoch batch) n es refl h
rising (suc n) (MakeFinal start ∷ es) s h = quiet_below s (MakeFinal start) n es refl h
rising (suc n) (Remove start ∷ es) s h = quiet_below s (Remove start) n es refl h

-- ## The effects of a request
front_by : (b : Bool) (p epoch : ℕ) (es : List Effect) → nat_lt p epoch ≡ b → IsQuiet es → Rises p (cond b (Promise epoch ∷ []) [] ++ es)
unfolding Rises
front_by true p epoch es is h = (grind (arith, nat_tests, is), h)
front_by false p epoch es is h = quiet_rises p es h

pub after_quiet : (s : NodeState) (r : Request) (h : HeadView) (o : Option Refusal) → head_of r ≡ Some h → IsQuiet (effects_after s r o)
unfolding IsQuiet
after_quiet s r h None e = quiet_row s r h e
after_quiet s r h (Some f) e = tt

head_rises : (s : NodeState) (o : Option HeadView) (h : HeadView) (es : List Effect) → o ≡ Some h → IsQuiet es → Rises s.promised (front_effects s o ++ es)
head_rises s None h es e q = absurd (cc e)
head_rises s (Some g) h es e q = front_by (nat_lt s.promised g.epoch) s.promised g.epoch es refl q

propose_by : (b : Bool) (s : NodeState) (epoch : ℕ) → nat_le epoch s.promised ≡ b
    → Rises s.promised (effects_after (fronted s (request.NewEpoch epoch)) (request.NewEpoch epoch)
    (cond b (Some (refusal.EpochRefused s.promised)) None))
unfolding Rises IsQuiet
propose_by true s epoch is = tt
propose_by false s epoch is = (grind (arith, nat_tests, is), tt)

-- a request without an epoch has none
pub read_by : (s : NodeState) (r : Request) → epoch_of r ≡ None → effects_unless s r None ≡ []
unfolding epoch_of
read_by s request.State e = refl
read_by s (request.NewEpoch epoch) e = absurd (cc e)
read_by s (request.Start head start) e = absurd (cc e)
read_by s (request.Journal head start batch) e = absurd (cc e)
read_by s (request.Finalize head start end) e = absurd (cc e)
read_by s (request.Prepare head start) e = absurd (cc e)
read_by s (request.Fetch head start from) e = absurd (cc e)
read_by s (request.Accept head batch) e = absurd (cc e)
read_by s (request.Purge head min) e = absurd (cc e)
read_by s (request.Read from) e = refl
read_by s request.Manifest e = refl

effects_by : (s : NodeState) (r : Request) (o : Option Refusal) → Sort r → Rises s.promised (effects_unless s r o)
unfolding Rises
effects_by s r (Some f) x = tt
effects_by s _ None (Reads r none same) = subst (Rises s.promised) (sym (read_by s r none)) tt
effects_by s _ None (Proposes epoch) = propose_by (nat_le epoch s.promised) s epoch refl
effects_by s _ None (Heads r h head epoch then replies) = head_rises s (head_of r) h (effects_after (fronted s r) r (row_refused (fronted s r) r))
    head (after_quiet (fronted s r) r h (row_refused (fronted s r) r) head)

pub stop_rises : (s : NodeState) (r : Request) (keep : ℕ) → s.promised ≤ (stopped s r keep).promised
unfolding effects_of
stop_rises s r keep = rising keep (effects_unless s r (refused_at_once s r)) s (effects_by s r (refused_at_once s r) (sort_of r))

-- ## How many effects stand
pub kept_within : (stop : Stop) (s : NodeState) (r : Request) → kept_by stop s r ≤ length (effects_of s r)
kept_within (Effects keep) s r = omega arith
kept_within (DiskCalls calls cut) s r =
    let few : standing calls (costs_of cut s r) ≤ length (costs_of cut s r) = standing-le (costs_of cut s r) calls in
    let same : length (costs_of cut s r) ≡ length (effects_of s r) = length-map (effects_of s r) (cost_of cut s.segments) in
    omega arith
