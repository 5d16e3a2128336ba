use Rattle.std.proofs.Common.{List, subst}
use Rattle.std.specs.List.{All}
use Rattle.journal_core.specs.Segments.{AreSound}
use Rattle.journal_core.specs.declared.node_state.NodeState.{NodeState}
use Rattle.qj_cli.proofs.MirrorLaws.{agreed, nodes_told, gives_mirrored}
use Rattle.qj_cli.proofs.mirroring.due_of_source.Goals as goal

pub returns-in-Ok-text-clause-text : goal.returns-in-Ok-text-clause-text
returns-in-Ok-text-clause-text g c =
    gives_mirrored c.finals_are_on_line.ensures _ c.in_ok-script.script c.in-Ok.left.played.mesh c.in-Ok.left.played.ends c.in-Ok-text.text.items c.in_ok-script.ensures.script
    c.in-Ok.ensures.comes c.in-Ok-text.ensures

pub text_of_nodes-text-requires-clause-told : goal.text_of_nodes-text-requires-clause-told
text_of_nodes-text-requires-clause-told g c =
    let played = c.in-Ok.left.played in
    nodes_told c.finals_are_on_line.ensures played.mesh (agreed c.in_ok-script.script played.mesh played.ends c.in-Ok.ensures.comes) played.nodes.items c.in-Ok.ensures.states
    (subst (λ (ss : List NodeState). All (λ s. AreSound s.segments) ss) c.deref.ensures.value c.know_segments.ensures)
