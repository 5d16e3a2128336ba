use Rattle.std.proofs.Common.{rules}
use Rattle.run_world.proofs.WorldCode.{give_up_steps}
use Rattle.run_world.proofs.world.World.give_up.Goals as goal

pub returns-clause-stepped : goal.returns-clause-stepped
returns-clause-stepped g c =
    let old = c.args.self.now in
    let there = c.requires.there in
    give_up_steps old _ c.args.actor c.index_mut.result.now c.give_up.new.self (search rules) (search rules) (search rules) (search rules)
