use Rattle.std.proofs.Common.{◌≡◌, ◌∙◌, Some, refl, sym, ap, subst, length, List}
use Rattle.std.specs.List.{All}
use Rattle.journal_core.specs.declared.node_state.NodeState.{NodeState}
use Rattle.journal_core.specs.Step.{fresh_state}
use Rattle.std.proofs.lemmas.List.Elements.{All-replicate}
use Rattle.std.proofs.lemmas.List.{length-replicate}
use Rattle.play_actor.proofs.playing.play.Goals as goal

pub play_on-requires-clause-fresh : goal.play_on-requires-clause-fresh
play_on-requires-clause-fresh g c =
    subst (λ (ns : List NodeState). All (λ n. Some n ≡ Some fresh_state) ns) (sym c.in_ok-nodes.ensures) (All-replicate (λ n. Some n ≡ Some fresh_state) c.nodes.result fresh_state refl)

pub play_on-requires-clause-steady : goal.play_on-requires-clause-steady
play_on-requires-clause-steady g c =
    subst (λ (ns : List NodeState). All (λ n. Unit {0}) ns) (sym c.in_ok-nodes.ensures) (All-replicate (λ n. Unit {0}) c.nodes.result fresh_state tt)

pub play_on-requires-clause-count : goal.play_on-requires-clause-count
play_on-requires-clause-count g c = ap length c.in_ok-nodes.ensures ∙ length-replicate c.nodes.result fresh_state ∙ c.nodes.ensures
