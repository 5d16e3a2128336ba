-- Laws of cuts at a node in memory.
use Rattle.std.proofs.Common.{ℕ, ◌≡◌, ◌<◌, ◌≤◌, ◌+◌, List, [], ◌∷◌, ◌++◌, length, map, filter, take, get_or, Option, Some, None, Bool, true, false, cond, sym, ◌∙◌, ap, append-nil}
use Rattle.std.proofs.lemmas.List.{map-append, take_all, get_or_default}
use Rattle.std.proofs.lemmas.List.Elements.{filter_more}
use Rattle.journal_core.specs.declared.segment.Segment.{Segment}
use Rattle.journal_core.specs.declared.node_state.NodeState.{NodeState}
use Rattle.journal_core.specs.declared.request.Request.{Request}
use Rattle.journal_core.specs.declared.cut.Cut.{Cut}
use Rattle.journal_core.specs.Limits.{head_of}
use Rattle.journal_core.specs.Effects.{Effect, Remove}
use Rattle.journal_core.specs.Step.{refused_at_once, front_effects, fronted, effects_of, effects_unless, effects_after, row_refused, may_go}
use Rattle.journal_core.specs.declared.refusal.Refusal.{Refusal}
use Rattle.journal_step.specs.declared.segment_index.IndexedSegment.{IndexedSegment}
use Rattle.journal_step.specs.declared.durable_effect.DurableEffect.{DurableEffect}
use Rattle.journal_step.specs.Durable.{effect_of, effect_cost}
use Rattle.journal_step.specs.Decisions.{HasEffects, HasRemovals}
use Rattle.journal_core.specs.Stops.{effects_of_row}
use Rattle.journal_core.specs.Cuts.{Cost, standing, cost_of, effects_standing, name_cost, has_record}
use Rattle.journal_core.specs.Segments.{AreSound}
use Rattle.journal_core.proofs.PlaceLaws.{find_there}
use Rattle.journal_core.proofs.StopLaws.{unless_all}
use Rattle.journal_step.specs.declared.budget.Budget.{Budget}
use Rattle.journal_step.specs.Budgets.{count_on, SpendsTo}
use Rattle.journal_step.proofs.BudgetLaws.{SpendsTo-none, SpendsTo-on}

-- what the front leaves, and what the row leaves of that
pub cut_after : (cut : Cut) (s : NodeState) (r : Request) (calls : ℕ) (b c : Budget) → refused_at_once s r ≡ None
    → ((rest : List Cost) → standing calls (map (cost_of cut s.segments) (front_effects s (head_of r)) ++ rest) ≡ count_on b rest)
    → SpendsTo b (map (cost_of cut s.segments) (effects_of_row (fronted s r) r)) c → effects_standing cut s r calls ≡ count_on c []
unfolding effects_of
cut_after cut s r calls b c n front row =
    let cost : Effect → Cost = cost_of cut s.segments in
    let behind : List Cost = map cost (effects_of_row (fronted s r) r) in
    let all : effects_unless s r (refused_at_once s r) ≡ front_effects s (head_of r) ++ effects_of_row (fronted s r) r = unless_all s r (refused_at_once s r) n in
    ap (λ es. standing calls (map cost es)) all ∙ ap (standing calls) (map-append cost (front_effects s (head_of r)) (effects_of_row (fronted s r) r)) ∙ front behind
    ∙ ap (count_on b) (sym (append-nil behind)) ∙ row.spent []

abbrev pub purge_costs : Cut → List Segment → List Segment → List Cost
purge_costs cut all gs = map (cost_of cut all) (map (λ (g : Segment). Remove g.start) gs)

pub purge_none : (cut : Cut) (all : List Segment) (b : Budget) → SpendsTo b (purge_costs cut all []) b
purge_none cut all b = SpendsTo-none b

pub purge_more : (cut : Cut) (all gs : List Segment) (p : Segment → Bool) (i : ℕ) (d : Segment) (old mid new : Budget) → SpendsTo old (purge_costs cut all (filter p (take i gs))) mid → i < length gs
    → p (get_or gs i d) ≡ true → SpendsTo mid (cost_of cut all (Remove (get_or gs i d).start) ∷ []) new → SpendsTo old (purge_costs cut all (filter p (take (i + 1) gs))) new
purge_more cut all gs p i d old mid new h l t q =
    let more : filter p (take (i + 1) gs) ≡ filter p (take i gs) ++ get_or gs i d ∷ [] =
    filter_more p gs i d l ∙ ap (λ b. filter p (take i gs) ++ cond b (get_or gs i d ∷ []) []) t in
    let split : purge_costs cut all (filter p (take (i + 1) gs)) ≡ purge_costs cut all (filter p (take i gs)) ++ cost_of cut all (Remove (get_or gs i d).start) ∷ [] =
    ap (purge_costs cut all) more ∙ ap (map (cost_of cut all)) (map-append (λ (g : Segment). Remove g.start) (filter p (take i gs)) (get_or gs i d ∷ []))
    ∙ map-append (cost_of cut all) (map (λ (g : Segment). Remove g.start) (filter p (take i gs))) (Remove (get_or gs i d).start ∷ []) in
    rw split (SpendsTo-on old mid new (purge_costs cut all (filter p (take i gs))) (cost_of cut all (Remove (get_or gs i d).start) ∷ []) h q)

pub purge_skip : (cut : Cut) (all gs : List Segment) (p : Segment → Bool) (i : ℕ) (d : Segment) (old mid : Budget) → SpendsTo old (purge_costs cut all (filter p (take i gs))) mid → i < length gs
    → p (get_or gs i d) ≡ false → SpendsTo old (purge_costs cut all (filter p (take (i + 1) gs))) mid
purge_skip cut all gs p i d old mid h l t =
    let more : filter p (take (i + 1) gs) ≡ filter p (take i gs) =
    filter_more p gs i d l ∙ ap (λ b. filter p (take i gs) ++ cond b (get_or gs i d ∷ []) []) t ∙ append-nil (filter p (take i gs)) in
    rw more h

pub purge_all : (cut : Cut) (all gs : List Segment) (p : Segment → Bool) (i : ℕ) (old new : Budget) → SpendsTo old (purge_costs cut all (filter p (take i gs))) new → length gs ≤ i
    → SpendsTo old (purge_costs cut all (filter p gs)) new
purge_all cut all gs p i old new h l = let e : take i gs ≡ gs = take_all i gs l in rw e at h

pub ruleset purges = (purge_none, purge_more, purge_skip, purge_all)

-- the cost of a removal is that of its segment
pub removal_cost : (cut : Cut) (gs : List Segment) (i : ℕ) (d : Segment) → AreSound gs → i < length gs → cost_of cut gs (Remove (get_or gs i d).start) ≡ name_cost (get_or gs i d).accepted
removal_cost cut gs i d s l =
    ap (λ o. name_cost (has_record o)) (find_there (get_or gs i d).start i gs d s (record { within = l; there = λ e. ap (λ (g : Segment). g.start) (get_or_default gs i e d l) }))

-- ## What the row leaves
spends_row : (cut : Cut) (s : NodeState) (r : Request) (es : List Effect) (old new : Budget) → effects_of_row s r ≡ es → SpendsTo old (map (cost_of cut s.segments) es) new
    → SpendsTo old (map (cost_of cut s.segments) (effects_of_row s r)) new
spends_row cut s r es old new e h = rw e h

pub refused_spends : (cut : Cut) (s : NodeState) (r : Request) (refusal : Refusal) (b : Budget) → row_refused s r ≡ Some refusal → SpendsTo b (map (cost_of cut s.segments) (effects_of_row s r)) b
refused_spends cut s r refusal b e = spends_row cut s r [] b b (ap (effects_after s r) e) (SpendsTo-none b)

pub effects_spend : (cut : Cut) (s : NodeState) (found : ℕ → Option IndexedSegment) (r : Request) (xs ys : List DurableEffect) (old mid new : Budget) → HasEffects s found r (xs ++ ys)
    → SpendsTo old (map (effect_cost cut) xs) mid → SpendsTo mid (map (effect_cost cut) ys) new → SpendsTo old (map (cost_of cut s.segments) (effects_of_row s r)) new
effects_spend cut s found r xs ys old mid new h p q =
    let both = SpendsTo-on old mid new (map (effect_cost cut) xs) (map (effect_cost cut) ys) p q in
    let costs : map (cost_of cut s.segments) (map (effect_of r) (xs ++ ys)) ≡ map (effect_cost cut) xs ++ map (effect_cost cut) ys = h.costs cut ∙ map-append (effect_cost cut) xs ys in
    spends_row cut s r (map (effect_of r) (xs ++ ys)) old new (ap (effects_after s r) h.passes ∙ h.effects) (rw costs both)

pub purge_spends : (cut : Cut) (s : NodeState) (r : Request) (committed least : ℕ) (old new : Budget) → HasRemovals s r committed least
    → SpendsTo old (purge_costs cut s.segments (filter (may_go s committed least) s.segments)) new → SpendsTo old (map (cost_of cut s.segments) (effects_of_row s r)) new
purge_spends cut s r committed least old new h p =
    spends_row cut s r (map (λ (g : Segment). Remove g.start) (filter (may_go s committed least) s.segments)) old new (ap (effects_after s r) h.passes ∙ h.removals) p
