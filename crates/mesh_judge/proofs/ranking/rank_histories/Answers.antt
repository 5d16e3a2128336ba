use Rattle.std.proofs.Common.{◌++◌, ap, arith, List}
use Rattle.mesh.specs.Order.{blocks_from}
use Rattle.mesh_judge.specs.declared.ranking.Ranked.{Ranked}
use Rattle.mesh_judge.specs.Ranks.{ranked_in}
use Rattle.mesh_judge.proofs.EpochOrder.{histories_more, histories_all}
use Rattle.mesh_judge.proofs.ranking.rank_histories.Goals as goal

pub loop-index-init : goal.loop-index-init
loop-index-init c = ap (λ (l : List Ranked). l ++ ranked_in (blocks_from c.args.mesh.now 1 c.args.mesh.now.histories)) c.new-ranked.ensures.items

pub loop-index-preserved : goal.loop-index-preserved
loop-index-preserved c =
    histories_more c.args.mesh.now c.loop-index.index c.loop-index.ranked.items c.rank_history.new.ranked.items
    (ranked_in (blocks_from c.args.mesh.now 1 c.args.mesh.now.histories)) c.loop-index.invariant
    (omega (arith, c.loop-index-test.true, c.requires.histories)) c.in_ok-rank_history.ensures

pub returns : goal.returns
returns c =
    histories_all c.args.mesh.now c.loop-index.index c.loop-index.ranked.items (ranked_in (blocks_from c.args.mesh.now 1 c.args.mesh.now.histories)) c.loop-index.invariant
    (omega (arith, c.loop-index-test.false, c.requires.histories))
