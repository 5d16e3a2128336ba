use Rattle.mesh_judge.proofs.LineLaws.{LocalFrom}
use Rattle.mesh_judge.proofs.local.is_local_run.Given as goal

abbrev pub invariant-loop-line : goal.invariant-loop-line
invariant-loop-line l = LocalFrom l.cell.cell l.line-index l.lines
