use Rattle.std.proofs.Common.{List, ℕ, sym, subst}
use Rattle.disk_opening.specs.Completing.{AreFinals}
use Rattle.disk_opening.proofs.MendLemmas.{mends_then}
use Rattle.disk_opening.proofs.CompleteLemmas.{read_then, finals_then, all_completes}
use Rattle.disk_opening.proofs.completing.repair.Goals as goal

pub returns-in_err-settle_all-clause-mends : goal.returns-in_err-settle_all-clause-mends
returns-in_err-settle_all-clause-mends g c = λ t all.
    let t1 = c.final_starts.ensures.call.tells.0 t in
    read_then (g.D.DiskModel.view c.args.disk.now) (g.D.DiskModel.view c.final_starts.new.disk) (g.D.DiskModel.view c.settle_all.new.disk)
    (c.final_starts.ensures.disk t) (g.met.D.Disk.sound _ t) all (λ all1. c.settle_all.ensures.mends t1 all1)

pub sweep_all-requires : goal.sweep_all-requires
sweep_all-requires g c = λ t2.
    let t1 = c.settle_all.ensures.call.tells.1 t2 in
    let t = c.final_starts.ensures.call.tells.1 t1 in
    finals_then (g.D.DiskModel.view c.args.disk.now) (g.D.DiskModel.view c.final_starts.new.disk) (g.D.DiskModel.view c.settle_all.new.disk) (c.final_starts.ensures.disk t) c.deref-2.result.now
    (subst (λ (finals : List ℕ). AreFinals finals (g.D.DiskModel.view c.args.disk.now).seen) (sym c.deref-2.ensures.value) (c.in_ok-finals.ensures.starts t)) (c.in_ok-settle_all.ensures.clears t1)

pub returns-clause-mends : goal.returns-clause-mends
returns-clause-mends g c = λ t all.
    let t1 = c.final_starts.ensures.call.tells.0 t in
    let t2 = c.settle_all.ensures.call.tells.0 t1 in
    read_then (g.D.DiskModel.view c.args.disk.now) (g.D.DiskModel.view c.final_starts.new.disk) (g.D.DiskModel.view c.sweep_all.new.disk) (c.final_starts.ensures.disk t) (g.met.D.Disk.sound _ t) all
    (λ all1. mends_then (g.D.DiskModel.view c.final_starts.new.disk) (g.D.DiskModel.view c.settle_all.new.disk)
    (g.D.DiskModel.view c.sweep_all.new.disk) (c.settle_all.ensures.mends t1 all1)
    (c.sweep_all.ensures.mends t2 (c.settle_all.ensures.mends t1 all1).stable))

pub returns-clause-completes : goal.returns-clause-completes
returns-clause-completes g c = λ t.
    let t1 = c.final_starts.ensures.call.tells.0 t in
    let t2 = c.settle_all.ensures.call.tells.0 t1 in
    all_completes (g.D.DiskModel.view c.args.disk.now) (g.D.DiskModel.view c.final_starts.new.disk) (g.D.DiskModel.view c.settle_all.new.disk)
    (c.final_starts.ensures.disk t) (g.D.DiskModel.view c.sweep_all.new.disk) c.deref-2.result.now
    (subst (λ (finals : List ℕ). AreFinals finals (g.D.DiskModel.view c.args.disk.now).seen) (sym c.deref-2.ensures.value)
    (c.in_ok-finals.ensures.starts t)) (c.in_ok-settle_all.ensures.clears t1) c.sweep_all.result (c.sweep_all.ensures.clears t2)
