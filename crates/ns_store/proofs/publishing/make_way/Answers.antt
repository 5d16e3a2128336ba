use Rattle.std.proofs.Common.{List, ℕ, inl, refl, subst}
use Rattle.base_disk.specs.Runs.{Quiet}
use Rattle.ns_store.specs.Names.{Itself, name_of}
use Rattle.ns_store.specs.Saves.{MayGo}
use Rattle.ns_store.proofs.Runs.{keeps_then}
use Rattle.ns_store.proofs.publishing.make_way.Goals as goal

pub returns-clause-quiet : goal.returns-clause-quiet
returns-clause-quiet g c = λ t.
    let t1 = c.has_line.ensures.call.tells.0 t in
    keeps_then (MayGo (name_of c.args.names.now Itself)) (g.D.DiskModel.view c.args.disk.now) (g.D.DiskModel.view c.has_line.new.disk) (g.D.DiskModel.view c.clear.new.disk) (g.met.D.Disk.sound _ t)
    (λ d. record { here = inl refl; others = λ name ne. refl }) (c.has_line.ensures.disk t).keeps
    (subst (λ (n : List ℕ). Quiet (MayGo n) (g.D.DiskModel.view c.has_line.new.disk) (g.D.DiskModel.view c.clear.new.disk)) c.itself.ensures (c.clear.ensures.quiet t1))
