use Rattle.std.proofs.Common.{take}
use Rattle.std.specs.List.{All}
use Rattle.journal_core.specs.Segments.{AreSound}
use Rattle.qj_cli.proofs.mirroring.know_segments.Given as goal

-- so do those of the nodes so far
abbrev pub invariant-loop-node : goal.invariant-loop-node
invariant-loop-node l = All (λ s. AreSound s.segments) (take l.node-index l.nodes)
