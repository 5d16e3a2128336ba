use Rattle.std.proofs.Common.{sym, subst}
use Rattle.std.proofs.lemmas.Result.{IfOk-weaker}
use Rattle.writer_core.specs.declared.task.Task.TheVariants as task
use Rattle.play_model.specs.Lines.{Does}
use Rattle.play_model.specs.KeptActor.{KeptActor}
use Rattle.play_model.specs.Actions.{IsIdleActor, TakesAction}
use Rattle.play_actor.specs.Nodes.{kept_node}
use Rattle.play_actor.proofs.RoundLaws.{serving_kept}
use Rattle.play_actor.proofs.takeovers.take_takeover_again.Goals as goal

pub take_takeover-requires : goal.take_takeover-requires
take_takeover-requires g c =
    let log = c.args.caller.now.log in
    record {
      idle = subst (λ (k : KeptActor). IsIdleActor log.nodes k)
          (sym (serving_kept c.args.images c.args.active c.in_ok-standby.standby c.in_ok-standby.writer log c.requires.serving c.in_ok-standby.ensures.left.0 c.in_ok-standby.ensures.left.1))
          c.requires.idle;
    }

pub returns-clause-takes : goal.returns-clause-takes
returns-clause-takes g c =
    let log = c.args.caller.now.log in
    let new = c.take_takeover.new.caller.log in
    IfOk-weaker c.take_takeover.result _ _
    (λ node takes. subst (λ (k : KeptActor). TakesAction log.nodes (Does task.Takeover) k (kept_node node new))
    (serving_kept c.args.images c.args.active c.in_ok-standby.standby c.in_ok-standby.writer log c.requires.serving c.in_ok-standby.ensures.left.0 c.in_ok-standby.ensures.left.1) takes)
    c.take_takeover.ensures.takes
