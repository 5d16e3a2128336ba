-- Laws of cuts.
use Rattle.std.proofs.Common.{ℕ, ◌≡◌, ◌≤◌, ◌<◌, ◌-◌, List, [], ◌∷◌, length, map, min, Option, Some, true, false, cond, nat_le, suc, refl, sym, ◌∙◌, ap, arith}
use Rattle.std.proofs.lemmas.Bool.Decides.{nat_tests}
use Rattle.std.proofs.lemmas.List.{length-map}
use Rattle.journal_core.specs.declared.node_state.NodeState.{NodeState}
use Rattle.journal_core.specs.declared.refusal.Refusal.{Refusal}
use Rattle.journal_core.specs.declared.request.Request.{Request}
use Rattle.journal_core.specs.declared.cut.Cut.{Cut}
use Rattle.journal_core.specs.Step.{refused_at_once, effects_of, effects_unless, stopped}
use Rattle.journal_core.specs.Stops.{IsStop}
use Rattle.journal_core.specs.Cuts.{Cost, standing, cost_of, effects_standing, IsCut}

pub standing_one : (calls : ℕ) (cost : Cost) (rest : List Cost) → cost.decides ≤ calls → standing calls (cost ∷ rest) ≡ suc (standing (calls - cost.calls) rest)
unfolding standing
standing_one calls cost rest l = grind (arith, nat_tests)

pub standing_stop : (calls : ℕ) (cost : Cost) (rest : List Cost) → calls < cost.decides → standing calls (cost ∷ rest) ≡ 0
unfolding standing
standing_stop calls cost rest l = grind (arith, nat_tests)

pub standing-le : (costs : List Cost) (calls : ℕ) → standing calls costs ≤ length costs
unfolding standing
standing-le [] calls = omega arith
standing-le (c ∷ cs) calls =
    elim (nat_le c.decides calls) as (λ b. cond b (suc (standing (calls - c.calls) cs)) 0 ≤ suc (length cs))
    [ true ↦ omega (arith, standing-le cs (calls - c.calls)) | false ↦ omega arith ]

none_stand : (cut : Cut) (s : NodeState) (r : Request) (calls : ℕ) (o : Option Refusal) (refusal : Refusal) → o ≡ Some refusal
    → 0 ≡ standing calls (map (cost_of cut s.segments) (effects_unless s r o))
unfolding standing
none_stand cut s r calls o refusal e = rw e refl

-- a refused request has no effect that stands
pub cut_refused : (cut : Cut) (s : NodeState) (r : Request) (calls : ℕ) (refusal : Refusal) → refused_at_once s r ≡ Some refusal → 0 ≡ effects_standing cut s r calls
unfolding effects_of
cut_refused cut s r calls refusal e = none_stand cut s r calls (refused_at_once s r) refusal e

-- as many effects as stand were done
pub cut_stopped : (cut : Cut) (s t : NodeState) (r : Request) (calls stand done : ℕ) → stand ≡ effects_standing cut s r calls → IsStop s r stand done t → IsCut s r calls cut done t
cut_stopped cut s t r calls stand done e p =
    let few : standing calls (map (cost_of cut s.segments) (effects_of s r)) ≤ length (map (cost_of cut s.segments) (effects_of s r)) = standing-le _ calls in
    let same : length (map (cost_of cut s.segments) (effects_of s r)) ≡ length (effects_of s r) = length-map (effects_of s r) (cost_of cut s.segments) in
    let count : done ≡ min stand (length (effects_of s r)) = p.count in
    let all : done ≡ stand = omega arith in
    record { count = all ∙ e; state = p.state ∙ ap (λ k. stopped s r k) (sym all) }
