use Rattle.std.proofs.Common.{◌≡◌, ◌++◌, ◌+◌, drop}
use Rattle.mesh.specs.Order.{blocks_from}
use Rattle.mesh_judge.specs.Ranks.{ranked_in}
use Rattle.mesh_judge.proofs.ranking.rank_histories.Given as goal

-- the nodes so far, and those to come
abbrev pub invariant-loop-index : goal.invariant-loop-index
invariant-loop-index l = l.ranked.items ++ ranked_in (blocks_from l.mesh (l.index + 1) (drop l.index l.mesh.histories)) ≡ ranked_in (blocks_from l.mesh 1 l.mesh.histories)
