use Rattle.std.proofs.Common.{inl, refl}
use Rattle.ns_store.specs.Saves.{MayGo}
use Rattle.ns_store.proofs.Runs.{keeps_then, removal_quiet}
use Rattle.ns_store.proofs.clearing.clear.Goals as goal

pub returns-in-Some-clause-quiet : goal.returns-in-Some-clause-quiet
returns-in-Some-clause-quiet g c = λ t.
    let t1 = c.length.ensures.call.tells.0 t in
    keeps_then (MayGo c.args.name.now) (g.D.DiskModel.view c.args.disk.now) (g.D.DiskModel.view c.length.new.self) (g.D.DiskModel.view c.remove.new.self) (g.met.D.Disk.sound _ t)
    (λ d. record { here = inl refl; others = λ name ne. refl }) (c.length.ensures.disk t).keeps
    (removal_quiet c.args.name.now c.remove.result (g.D.DiskModel.view c.length.new.self) (g.D.DiskModel.view c.remove.new.self) (g.met.D.Disk.sound _ t1) (c.remove.ensures.disk t1))
