use Rattle.mesh_judge.proofs.MatchLaws.{Walk}
use Rattle.mesh_judge.proofs.matching.unlike_at.Given as goal

abbrev pub invariant-loop-place : goal.invariant-loop-place
invariant-loop-place l = Walk l.mesh l.index l.taken.items l.place
