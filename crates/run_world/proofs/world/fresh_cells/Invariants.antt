use Rattle.std.proofs.Common.{◌≡◌, replicate}
use Rattle.journal_history.specs.NodeCells.{new_cell}
use Rattle.run_world.proofs.world.fresh_cells.Given as goal

abbrev pub invariant-loop : goal.invariant-loop
invariant-loop l = l.cells.items ≡ replicate l.counter new_cell
