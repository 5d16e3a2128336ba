use Rattle.mesh.specs.Matches.{CallersWithin}
use Rattle.mesh_judge.proofs.Deciding.{From}
use Rattle.mesh_judge.proofs.lines.callers_within.Given as goal

abbrev pub invariant-loop-line : goal.invariant-loop-line
invariant-loop-line l = From (CallersWithin l.callers) l.line-index l.lines
