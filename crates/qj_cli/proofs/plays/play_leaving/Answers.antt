use Rattle.std.proofs.Common.{◌≡◌, ◌∙◌, Some, refl, sym, ap, subst, length, List}
use Rattle.std.specs.List.{All}
use Rattle.journal_core.specs.declared.node_state.NodeState.{NodeState}
use Rattle.journal_core.specs.Step.{fresh_state}
use Rattle.std.proofs.lemmas.List.Elements.{All-replicate}
use Rattle.std.proofs.lemmas.List.{length-replicate}
use Rattle.qj_cli.proofs.plays.play_leaving.Goals as goal

pub play_over-requires-clause-fresh : goal.play_over-requires-clause-fresh
play_over-requires-clause-fresh c =
    subst (λ (ns : List NodeState). All (λ n. Some n ≡ Some fresh_state) ns) (sym c.in_ok-nodes.ensures) (All-replicate (λ n. Some n ≡ Some fresh_state) c.nodes.result fresh_state refl)

pub play_over-requires-clause-count : goal.play_over-requires-clause-count
play_over-requires-clause-count c = ap length c.in_ok-nodes.ensures ∙ length-replicate c.nodes.result fresh_state ∙ c.nodes.ensures
