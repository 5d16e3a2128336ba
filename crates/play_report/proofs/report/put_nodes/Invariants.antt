use Rattle.std.proofs.Common.{ℕ, List, ◌≡◌, ◌++◌, ◌+◌, drop}
use Rattle.play_report.specs.Text.{nodes_text}
use Rattle.play_report.proofs.report.put_nodes.Given as goal

-- the text of the nodes so far was given, and those to come follow
abbrev pub invariant-loop-index : goal.invariant-loop-index
invariant-loop-index g l =
    (text : List ℕ) × g.T.Taker.adds l.fn.out l.out text × (text ++ nodes_text l.ends (l.index + 1) (drop l.index l.histories) ≡ nodes_text l.ends 1 l.histories)
