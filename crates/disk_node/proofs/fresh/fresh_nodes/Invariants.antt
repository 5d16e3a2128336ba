use Rattle.std.proofs.Common.{◌≡◌, Some, true, length}
use Rattle.std.specs.List.{All}
use Rattle.base_disk.specs.MemDisk.{disk_view, CannotFail}
use Rattle.journal_core.specs.Step.{fresh_state}
use Rattle.disk_node.specs.Node.{told_state}
use Rattle.disk_node.proofs.fresh.fresh_nodes.Given as goal

abbrev pub invariant-loop : goal.invariant-loop
invariant-loop l =
    (length l.nodes.items ≡ l.counter) × All (λ n. told_state true (disk_view n.disk).seen n.memory n.rows ≡ Some fresh_state) l.nodes.items × All (λ n. CannotFail n.disk) l.nodes.items
