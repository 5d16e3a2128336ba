use Rattle.std.proofs.Common.{◌≡◌, subst, false}
use Rattle.journal_history.specs.declared.node_ask.NodeAsk.TheVariants.{Act}
use Rattle.run_world.specs.WorldViews.{IsAsked}
use Rattle.run_world.proofs.WorldCode.{delivered}
use Rattle.run_world.proofs.world.World.deliver.Goals as goal

pub returns-clause-delivered : goal.returns-clause-delivered
returns-clause-delivered g c =
    let old = c.args.self.now in
    let new = c.ask.new.self in
    let e : c.in_ok-share.field-0 ≡ c.args.request.now = c.in_ok-share.ensures in
    let asked : IsAsked old.cells c.args.node c.args.actor c.args.stop (Act false c.args.request.now) c.in_ok-answer.answer new.cells =
    subst (λ r. IsAsked old.cells c.args.node c.args.actor c.args.stop (Act false r) c.in_ok-answer.answer new.cells) e c.in_ok-answer.ensures.asked in
    rw c.into_heard.ensures (delivered old new c.args.actor c.args.node c.args.stop c.args.request.now c.in_ok-answer.answer c.requires asked)
