use Rattle.std.proofs.Common.{Some, ◌∙◌}
use Rattle.std.proofs.lemmas.Result.{IfOk-weaker}
use Rattle.journal_core.specs.declared.node_state.NodeState.{NodeState}
use Rattle.qj_cli.proofs.MirrorLaws.{text_of}
use Rattle.qj_cli.proofs.mirroring.text_of_nodes.Goals as goal

pub returns : goal.returns
returns c =
    let was = c.in_ok-mirror.ensures in
    IfOk-weaker c.print_mirror-text.result _ _
    (λ text is.
    text_of (λ (s : NodeState). Some s) c.args.nodes.items c.args.mesh.now c.deref.result.now c.as_slice.result.now _ c.deref-2.result.now
    text.items c.requires.states (c.deref.ensures.value ∙ was.heard) (c.deref-2.ensures.value ∙ was.missing) (c.as_slice.ensures ∙ c.in_ok-lines.ensures) was.lines is)
    c.print_mirror-text.ensures
