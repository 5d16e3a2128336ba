use Rattle.mesh_judge.proofs.Counting.{all_counted}
use Rattle.mesh_judge.proofs.won.won_epochs.Goals as goal

pub returns : goal.returns
returns c epoch =
    all_counted c.args.nodes epoch c.loop-line.line-index c.loop-line.tally c.close.new.self c.args.lines.now c.loop-line-test.false c.loop-line.invariant.1 c.in_ok-close.ensures.won
