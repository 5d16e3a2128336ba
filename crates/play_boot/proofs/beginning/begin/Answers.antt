use Rattle.play_boot.specs.Stages.{begun_result}
use Rattle.play_boot.proofs.BeginLaws.{begins, taken_as}
use Rattle.play_boot.proofs.RunLaws.{run_then, ok_is_fine}
use Rattle.play_boot.proofs.beginning.begin.Goals as goal

pub returns-in-Image-clause-call : goal.returns-in-Image-clause-call
returns-in-Image-clause-call g c =
    run_then g.D.DiskModel c.args.from.now c.newest.new.disk c.begin_from.new.from _ (begun_result c.begin_from.result) (ok_is_fine tt) c.in-Image.ensures.call c.begin_from.ensures.call

pub returns-in-Image-clause-begun : goal.returns-in-Image-clause-begun
returns-in-Image-clause-begun g c =
    let told = g.D.DiskModel.tells c.args.from.now in
    let seen = (g.D.DiskModel.view c.args.from.now).seen in
    begins told seen c.in-Image.txid c.in-Image.ensures.newest c.args.standby.now c.begin_from.new.standby c.begin_from.result
    (taken_as told (g.D.DiskModel.tells c.newest.new.disk) seen (g.D.DiskModel.view c.newest.new.disk).seen c.in-Image.txid c.args.standby.now c.begin_from.new.standby c.begin_from.result
    c.newest.ensures.call.tells.0 (λ t. (c.newest.ensures.disk t).keeps.seen) c.begin_from.ensures.begun)

pub returns-in-NoImage-clause-begun : goal.returns-in-NoImage-clause-begun
returns-in-NoImage-clause-begun g c = λ t. record { begun = (c.in-NoImage.ensures.newest t, c.requires); bytes = tt }
