use Rattle.std.proofs.Common.{◌≡◌}
use Rattle.play_script.proofs.FirstLaws.{told_from}
use Rattle.play_script.proofs.reading.nodes_of.Given as goal

-- no lower number is told
abbrev pub invariant-loop-nodes : goal.invariant-loop-nodes
invariant-loop-nodes l = told_from l.named l.line l.nodes ≡ told_from l.named l.line 1
