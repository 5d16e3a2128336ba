use Rattle.mesh_judge.proofs.Walking.{Walked}
use Rattle.mesh_judge.proofs.ranking.rank_history.Given as goal

abbrev pub invariant-loop-line : goal.invariant-loop-line
invariant-loop-line l = Walked l.mesh l.callers l.index l.fn.ranked.items l.ranked.items l.taken.items l.rank l.line-index
