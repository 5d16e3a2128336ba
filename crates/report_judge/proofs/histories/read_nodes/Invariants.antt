use Rattle.std.proofs.Common.{◌≡◌, ◌+◌, ◌-◌}
use Rattle.report_judge.specs.Pieces.{pieces}
use Rattle.report_judge.specs.Reading.{nodes_in}
use Rattle.report_judge.proofs.histories.read_nodes.Given as goal

-- the nodes so far, and those to come
abbrev pub invariant-loop-index : goal.invariant-loop-index
invariant-loop-index l = nodes_in l.ends (l.nodes - l.index) (l.index + 1) l.histories (pieces l.rest) ≡ nodes_in l.ends l.nodes 1 l.fn.histories (pieces l.text)
