use Rattle.std.proofs.Common.{◌≡◌, ◌++◌, ◌+◌, drop}
use Rattle.play_report.specs.Mirrored.{nodes_told_text}
use Rattle.play_report.proofs.mirrored.put_nodes.Given as goal

-- the nodes so far, and those to come
abbrev pub invariant-loop-index : goal.invariant-loop-index
invariant-loop-index l = l.out.items ++ nodes_told_text (l.index + 1) (drop l.index l.heard) ≡ l.fn.out.items ++ nodes_told_text 1 l.heard
