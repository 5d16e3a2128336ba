use Rattle.std.proofs.Common.{List, ℕ, subst}
use Rattle.disk_opening.specs.Completing.{IsLeftOver}
use Rattle.disk_opening.proofs.RecordLemmas.{at_true}
use Rattle.disk_opening.proofs.MendLemmas.{sweep_mends, sweep_clears}
use Rattle.disk_opening.proofs.sweeping.sweep_one.Goals as goal

pub returns-then-is_left_over-clause-mends : goal.returns-then-is_left_over-clause-mends
returns-then-is_left_over-clause-mends g c = λ t all.
    let told = at_true c.is_left_over.result _ _ c.if-is_left_over.true c.is_left_over.ensures in
    let left : IsLeftOver c.args.finals.now c.args.name.now = subst (λ (n : List ℕ). IsLeftOver c.args.finals.now n) c.as_bytes.ensures.value told in
    sweep_mends (g.D.DiskModel.view c.args.disk.now) (g.D.DiskModel.view c.remove.new.self) (g.met.D.Disk.sound _ t) c.args.finals.now c.args.name.now
    left c.remove.result (c.remove.ensures.disk t) all (c.requires.finals t)

pub returns-then-is_left_over-clause-clears : goal.returns-then-is_left_over-clause-clears
returns-then-is_left_over-clause-clears g c = λ t.
    let told = at_true c.is_left_over.result _ _ c.if-is_left_over.true c.is_left_over.ensures in
    let left : IsLeftOver c.args.finals.now c.args.name.now = subst (λ (n : List ℕ). IsLeftOver c.args.finals.now n) c.as_bytes.ensures.value told in
    sweep_clears (g.D.DiskModel.view c.args.disk.now) (g.D.DiskModel.view c.remove.new.self) (g.met.D.Disk.sound _ t) c.args.finals.now c.args.name.now left c.remove.result (c.remove.ensures.disk t)
