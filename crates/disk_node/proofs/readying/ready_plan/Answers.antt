use Rattle.std.proofs.Common.{List, length, ap, subst, ◌∙◌}
use Rattle.disk_effects.specs.Told.{state_with}
use Rattle.journal_step.specs.declared.durable_effect.DurableEffect.{DurableEffect}
use Rattle.disk_node.specs.Done.{effects_by, HasRoom}
use Rattle.disk_node.proofs.readying.ready_plan.Goals as goal

pub returns : goal.returns
returns c = record {
  at_once = c.requires.at_once;
  limits = c.requires.limits;
  front = c.in_ok-plan.ensures.front;
  refused = c.in_ok-plan.ensures.refusal;
  effects = c.in_ok-plan.ensures.effects;
  due = c.in_ok-plan.ensures.due;
  frame = c.in_ok-ready.ensures.frame;
  room = λ gs told.
      subst (λ (ds : List DurableEffect). HasRoom ds (length c.args.table.now) c.in_ok-ready.ready.room) c.as_slice.ensures
      (c.in_ok-ready.ensures.room (state_with c.args.memory.now gs) (ap (λ (ds : List DurableEffect). effects_by c.args.request.now ds) c.as_slice.ensures ∙ c.in_ok-plan.ensures.effects gs told));
}
