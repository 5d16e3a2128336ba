use Rattle.mesh.specs.Matches.{AreWithin}
use Rattle.mesh_judge.proofs.Deciding.{From}
use Rattle.mesh_judge.proofs.lines.are_within.Given as goal

abbrev pub invariant-loop-line : goal.invariant-loop-line
invariant-loop-line l = From (AreWithin l.nodes) l.line-index l.lines
