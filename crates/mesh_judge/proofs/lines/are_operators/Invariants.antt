use Rattle.mesh.specs.Makers.{IsOperators}
use Rattle.mesh_judge.proofs.Deciding.{From}
use Rattle.mesh_judge.proofs.lines.are_operators.Given as goal

abbrev pub invariant-loop-line : goal.invariant-loop-line
invariant-loop-line l = From IsOperators l.line-index l.lines
