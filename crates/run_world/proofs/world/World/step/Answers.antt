use Rattle.std.proofs.Common.{subst}
use Rattle.std.specs.Prelude.{IfOk}
use Rattle.run_world.specs.World.{world_step}
use Rattle.run_world.specs.WorldViews.{bare, IsStepped}
use Rattle.run_world.proofs.WorldStands.{steps_stand}
use Rattle.run_world.proofs.world.World.step.Goals as goal

pub returns-in-Ok-clause-steps : goal.returns-in-Ok-clause-steps
returns-in-Ok-clause-steps g c = λ whole.
    steps_stand c.args.self.now c.take.new.self c.args.event c.in-Ok.seen
    (subst (λ o. IfOk o (λ s. IsStepped c.args.self.now (world_step (bare c.args.self.now) c.args.event) s c.take.new.self)) c.in-Ok.is c.take.ensures.stepped)
