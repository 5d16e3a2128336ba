use Rattle.std.proofs.Common.{◌≡◌, length, replicate}
use Rattle.journal_history.specs.NodeCells.{new_cell}
use Rattle.journal_history.proofs.fresh_cells.cells_of.Given as goal

abbrev pub invariant-loop-node : goal.invariant-loop-node
invariant-loop-node g l = l.cells.items ≡ replicate (length l.yielded) new_cell
