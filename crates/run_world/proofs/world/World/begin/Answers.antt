use Rattle.std.proofs.Common.{rules}
use Rattle.run_world.proofs.WorldCode.{begin_steps}
use Rattle.run_world.proofs.world.World.begin.Goals as goal

pub returns-clause-stepped : goal.returns-clause-stepped
returns-clause-stepped g c =
    let there = c.requires.there in
    begin_steps c.args.self.now _ c.args.actor c.args.task c.index_mut.result.now c.begin.new.self c.in_ok-seen.seen (search rules) (search rules)
    c.in_ok-seen.ensures.seen c.in_ok-seen.ensures.actor (search rules)
