use Rattle.std.proofs.Common.{sym, subst}
use Rattle.pipe_serve.specs.Trails.{IsLedBy}
use Rattle.pipe_serve.proofs.SharedLaws.{shared}
use Rattle.pipe_serve.proofs.TrailLaws.{led_more}
use Rattle.pipe_serve.proofs.served_node.ServedNodeGateCell.act.Goals as goal

pub returns-clause-appended : goal.returns-clause-appended
returns-clause-appended g c = λ trail before.
    led_more g.D.DiskModel.tells g.D.DiskModel.is_told g.D.DiskModel.view g.J.Origin.first trail c.args._client c.args.request.now c.act.result c.self.inside.node c.act.new.self
    c.act.ensures.acted c.act.ensures.step
    (subst (IsLedBy g.D.DiskModel.tells g.D.DiskModel.is_told g.D.DiskModel.view g.J.Origin.first trail) (sym c.self.view_is) before)

pub returns-clause-fits : goal.returns-clause-fits
returns-clause-fits g c =
    shared g.D.DiskModel.tells g.D.DiskModel.view g.J.Origin.steady c.self.inside.node c.act.new.self c.args.request.now c.act.result c.act.ensures.acted
    (λ s. (c.act.ensures.steady (c.self.invariant s)).1)
