use Rattle.std.proofs.Common.{rules}
use Rattle.run_world.proofs.WorldCode.{read_steps}
use Rattle.run_world.proofs.world.World.read.Goals as goal

pub returns-clause-stepped : goal.returns-clause-stepped
returns-clause-stepped g c =
    let there = c.requires.there in
    let size = c.in_ok-heard.ensures.size in
    read_steps c.args.self.now c.reach.new.self _ c.args.actor c.args.node c.args.fate c.args.request c.in_ok-heard.heard c.index_mut.result.now c.make.new.self
    c.in_ok-heard.ensures.reached c.in_ok-heard.ensures.others (search rules) (search rules) c.in_ok-make.ensures.made (search rules)
