use Rattle.mesh_judge.specs.Matching.{AreTaken}
use Rattle.mesh_judge.proofs.matching.first_left.Given as goal

abbrev pub invariant-loop-caller : goal.invariant-loop-caller
invariant-loop-caller l = AreTaken l.tables l.index l.taken l.caller
