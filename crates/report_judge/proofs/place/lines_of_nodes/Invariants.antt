use Rattle.std.proofs.Common.{◌≡◌, take}
use Rattle.report_judge.specs.Places.{saturated, node_lines}
use Rattle.report_judge.proofs.place.lines_of_nodes.Given as goal

abbrev pub invariant-loop-history : goal.invariant-loop-history
invariant-loop-history l = l.lines ≡ saturated (node_lines (take l.history-index l.histories))
