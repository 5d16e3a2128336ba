use Rattle.std.proofs.Common.{rules, ap, ◌∙◌}
use Rattle.run_world.proofs.WorldCode.{next_steps, heard_by}
use Rattle.run_world.proofs.world.World.call_next.Goals as goal

pub returns-clause-stepped : goal.returns-clause-stepped
returns-clause-stepped g c =
    let there = c.requires.there in
    let size = c.in_ok-heard.ensures.size in
    next_steps c.args.self.now c.reach.new.self _ c.args.actor c.args.node c.args.fate c.args.request c.in_ok-heard.heard c.index_mut.result.now c.make_and_hear.new.self
    c.in_ok-heard.ensures.reached c.in_ok-heard.ensures.others (search rules) (search rules)
    (c.in_ok-make_and_hear.ensures ∙ ap (λ h. heard_by c.args.node c.args.request h c.index_mut.result.now) c.in_ok-told.ensures) (search rules)
