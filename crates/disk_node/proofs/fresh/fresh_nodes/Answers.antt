use Rattle.std.proofs.Common.{◌≡◌, ◌+◌, ◌∷◌, [], ◌∙◌, ap, Some, true}
use Rattle.std.proofs.lemmas.List.{length-append}
use Rattle.std.proofs.lemmas.List.Elements.{All-push}
use Rattle.base_disk.specs.MemDisk.{disk_view, CannotFail}
use Rattle.journal_core.specs.Step.{fresh_state}
use Rattle.disk_node.specs.Node.{told_state}
use Rattle.disk_node.proofs.fresh.fresh_nodes.Goals as goal

pub loop-preserved : goal.loop-preserved
loop-preserved c =
    let node = c.in_ok-open_empty.field-0 in
    let old = c.loop.nodes.items in
    rw c.in_ok-push.ensures.items (
      length-append old (node ∷ []) ∙ ap (λ k. k + 1) c.loop.invariant.0,
      All-push (λ n. told_state true (disk_view n.disk).seen n.memory n.rows ≡ Some fresh_state) old node c.loop.invariant.1 c.in_ok-open_empty.ensures.fresh,
      All-push (λ n. CannotFail n.disk) old node c.loop.invariant.2 c.in_ok-open_empty.ensures.steady,
    )
