use Rattle.std.proofs.Common.{ap, ◌∙◌}
use Rattle.std.proofs.lemmas.Result.{IfOk-weaker}
use Rattle.play_actor.proofs.LineLaws.{last_held, in_rest, in_active}
use Rattle.play_actor.proofs.name_node.last_in.Goals as goal

pub returns-in-Standby : goal.returns-in-Standby
returns-in-Standby c =
    IfOk-weaker c.last_of-in-Standby.result _ _
    (λ last is. λ images. is ∙ ap last_held (in_rest images c.args.role c.in-Standby.resting c.in-Standby.is))
    c.last_of-in-Standby.ensures

pub returns-in_ok-standby-in-Active : goal.returns-in_ok-standby-in-Active
returns-in_ok-standby-in-Active c =
    IfOk-weaker c.last_of.result _ _
    (λ last is. λ images.
    is ∙ ap last_held (in_active images c.args.role c.in-Active.active c.in_ok-standby-in-Active.standby c.in-Active.is c.requires c.in_ok-standby-in-Active.ensures.left.0))
    c.last_of.ensures
