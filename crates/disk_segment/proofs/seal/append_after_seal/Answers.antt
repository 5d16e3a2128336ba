use Rattle.std.proofs.Common.{◌≡◌, ◌∙◌, sym, arith, ap, ℕ, subst}
use Rattle.std.proofs.lemmas.Result.{on_ok_weaker}
use Rattle.base_disk.specs.Files.{Files}
use Rattle.base_disk.specs.View.{IsStable}
use Rattle.base_disk.specs.Runs.{gave_up, stopped, effect, quiet_keeps, decided_keeps}
use Rattle.disk_segment.specs.Seal.{IsCutAfter}
use Rattle.disk_segment.proofs.SealLemmas.{passed_none, passed_more, seal_err, seal_last, staging, seal, seal_done, is_staged, blank_file, carried, at_first, stopped_at, goes_at, cut_quiet, cut_last}
use Rattle.disk_segment.proofs.seal.append_after_seal.Goals as goal

pub returns-in_err-write_at-clause-effect : goal.returns-in_err-write_at-clause-effect
returns-in_err-write_at-clause-effect g c = λ t.
    let o = blank_file _ _ (c.requires.blank t) in
    gave_up _ _ c.from_residual.result _ _ c.from_residual.ensures.0
    (staging c.args.name.now c.args.at c.args.behind.now _ (g.met.D.Disk.sound _ t) o.bytes o.is o.blank (c.requires.stable t) _ _ (c.write_at.ensures.disk t))

pub returns-in_err-sync-clause-effect : goal.returns-in_err-sync-clause-effect
returns-in_err-sync-clause-effect g c = λ t.
    let o = blank_file _ _ (c.requires.blank t) in
    let t1 = c.write_at.ensures.call.tells.0 t in
    let one = staging c.args.name.now c.args.at c.args.behind.now _ (g.met.D.Disk.sound _ t) o.bytes o.is o.blank (c.requires.stable t) _ _ (c.write_at.ensures.disk t) in
    gave_up _ _ c.from_residual-in_err-sync.result _ _ c.from_residual-in_err-sync.ensures.0 (quiet_keeps _ _ _ _ one (c.sync.ensures.disk t1).keeps)

pub returns-in_err-write_at-2-clause-effect : goal.returns-in_err-write_at-2-clause-effect
returns-in_err-write_at-2-clause-effect g c = λ t.
    let o = blank_file _ _ (c.requires.blank t) in
    let t1 = c.write_at.ensures.call.tells.0 t in
    let t2 = c.sync.ensures.call.tells.0 t1 in
    let one = staging c.args.name.now c.args.at c.args.behind.now _ (g.met.D.Disk.sound _ t) o.bytes o.is o.blank (c.requires.stable t) _ _ (c.write_at.ensures.disk t) in
    let two = quiet_keeps _ _ _ _ one (c.sync.ensures.disk t1).keeps in
    let is2 = ap (λ (f : Files). f c.args.name.now) (c.sync.ensures.disk t1).keeps.seen
    ∙ is_staged c.args.name.now c.args.at c.args.behind.now _ (g.met.D.Disk.sound _ t) o.bytes o.is o.blank (c.requires.stable t) _
    (c.in_ok-write_at.ensures.disk t).done.here in
    let three = seal c.args.name.now c.args.at c.args.behind.now _ (g.met.D.Disk.sound _ t) o.bytes o.is o.blank (c.requires.stable t) _
    (g.met.D.Disk.sound _ t2) two (c.in_ok-sync.ensures.disk t1).done is2 _ _ (c.write_at-2.ensures.disk t2) in
    stopped _ _ c.from_residual-in_err-write_at-2.result _ _ c.from_residual-in_err-write_at-2.ensures.0 three

pub returns-clause-effect : goal.returns-clause-effect
returns-clause-effect g c = λ t.
    let o = blank_file _ _ (c.requires.blank t) in
    let t1 = c.write_at.ensures.call.tells.0 t in
    let t2 = c.sync.ensures.call.tells.0 t1 in
    let t3 = c.write_at-2.ensures.call.tells.0 t2 in
    let one = staging c.args.name.now c.args.at c.args.behind.now _ (g.met.D.Disk.sound _ t) o.bytes o.is o.blank (c.requires.stable t) _ _ (c.write_at.ensures.disk t) in
    let two = quiet_keeps _ _ _ _ one (c.sync.ensures.disk t1).keeps in
    let is2 = ap (λ (f : Files). f c.args.name.now) (c.sync.ensures.disk t1).keeps.seen
    ∙ is_staged c.args.name.now c.args.at c.args.behind.now _ (g.met.D.Disk.sound _ t) o.bytes o.is o.blank (c.requires.stable t) _
    (c.in_ok-write_at.ensures.disk t).done.here in
    let three = seal c.args.name.now c.args.at c.args.behind.now _ (g.met.D.Disk.sound _ t) o.bytes o.is o.blank (c.requires.stable t) _
    (g.met.D.Disk.sound _ t2) two (c.in_ok-sync.ensures.disk t1).done is2 _ _ (c.write_at-2.ensures.disk t2) in
    let syncs = c.sync-2.ensures.disk t3 in
    let four = decided_keeps _ _ _ _ _ three syncs.keeps in
    let happens = λ (stable : IsStable c.args.name.now (g.D.DiskModel.view c.sync-2.new.self)). seal_done c.args.name.now c.args.at c.args.behind.now
    _ (g.met.D.Disk.sound _ t) o.bytes o.is o.blank (c.requires.stable t) _ (g.met.D.Disk.sound _ t2) two (c.in_ok-sync.ensures.disk t1).done is2
    (g.D.DiskModel.view c.write_at-2.new.self) (g.D.DiskModel.view c.sync-2.new.self) (c.in_ok-write_at-2.ensures.disk t2).done four stable
    syncs.keeps.seen in
    effect _ _ c.sync-2.result _ _ four (on_ok_weaker c.sync-2.result happens syncs.done)

pub returns-in_err-write_at-clause-cut : goal.returns-in_err-write_at-clause-cut
returns-in_err-write_at-clause-cut g c = λ t k left failed.
    let o = blank_file _ _ (c.requires.blank t) in
    let end = stopped_at _ _ _ c.write_at.result _ _ k c.write_at.ensures.budget left
    (carried c.write_at.result c.from_residual.result c.in_err-write_at.field-0.0 c.in_err-write_at.was c.from_residual.ensures.1 failed) in
    cut_quiet c.args.name.now c.args.at c.args.behind.now _ (g.met.D.Disk.sound _ t) o.bytes o.is o.blank (c.requires.stable t) k _ _ (omega (arith, end.0))
    (at_first c.args.name.now c.args.at c.args.behind.now _ (g.met.D.Disk.sound _ t) o.bytes o.is o.blank (c.requires.stable t)) (end.1 t)

pub returns-in_err-sync-clause-cut : goal.returns-in_err-sync-clause-cut
returns-in_err-sync-clause-cut g c = λ t k left failed.
    let o = blank_file _ _ (c.requires.blank t) in
    let t1 = c.write_at.ensures.call.tells.0 t in
    let first = goes_at _ _ _ c.write_at.result c.in_ok-write_at.field-0 _ _ k c.write_at.ensures.budget left c.in_ok-write_at.was in
    let end = stopped_at _ _ _ c.sync.result _ _ first.0 c.sync.ensures.budget first.2
    (carried c.sync.result c.from_residual-in_err-sync.result c.in_err-sync.field-0.0 c.in_err-sync.was c.from_residual-in_err-sync.ensures.1
    failed) in
    cut_quiet c.args.name.now c.args.at c.args.behind.now _ (g.met.D.Disk.sound _ t) o.bytes o.is o.blank (c.requires.stable t) k _ _ (omega (arith, end.0, first.1))
    (staging c.args.name.now c.args.at c.args.behind.now _ (g.met.D.Disk.sound _ t) o.bytes o.is o.blank (c.requires.stable t) _ _ (c.write_at.ensures.disk t)) (end.1 t1)

pub returns-in_err-write_at-2-clause-cut : goal.returns-in_err-write_at-2-clause-cut
returns-in_err-write_at-2-clause-cut g c = λ t k left failed.
    let o = blank_file _ _ (c.requires.blank t) in
    let t1 = c.write_at.ensures.call.tells.0 t in
    let t2 = c.sync.ensures.call.tells.0 t1 in
    let first = goes_at _ _ _ c.write_at.result c.in_ok-write_at.field-0 _ _ k c.write_at.ensures.budget left c.in_ok-write_at.was in
    let second = goes_at _ _ _ c.sync.result c.in_ok-sync.field-0 _ _ first.0 c.sync.ensures.budget first.2 c.in_ok-sync.was in
    let end = stopped_at _ _ _ c.write_at-2.result _ _ second.0 c.write_at-2.ensures.budget second.2
    (carried c.write_at-2.result c.from_residual-in_err-write_at-2.result c.in_err-write_at-2.field-0.0 c.in_err-write_at-2.was
    c.from_residual-in_err-write_at-2.ensures.1 failed) in
    cut_quiet c.args.name.now c.args.at c.args.behind.now _ (g.met.D.Disk.sound _ t) o.bytes o.is o.blank (c.requires.stable t) k _ _ (omega (arith, end.0, first.1, second.1))
    (quiet_keeps _ _ _ _ (staging c.args.name.now c.args.at c.args.behind.now _ (g.met.D.Disk.sound _ t) o.bytes o.is o.blank (c.requires.stable t) _ _
    (c.write_at.ensures.disk t)) (c.sync.ensures.disk t1).keeps) (end.1 t2)

pub returns-clause-cut : goal.returns-clause-cut
returns-clause-cut g c = λ t k left failed.
    let o = blank_file _ _ (c.requires.blank t) in
    let t1 = c.write_at.ensures.call.tells.0 t in
    let t2 = c.sync.ensures.call.tells.0 t1 in
    let t3 = c.write_at-2.ensures.call.tells.0 t2 in
    let first = goes_at _ _ _ c.write_at.result c.in_ok-write_at.field-0 _ _ k c.write_at.ensures.budget left c.in_ok-write_at.was in
    let second = goes_at _ _ _ c.sync.result c.in_ok-sync.field-0 _ _ first.0 c.sync.ensures.budget first.2 c.in_ok-sync.was in
    let third = goes_at _ _ _ c.write_at-2.result c.in_ok-write_at-2.field-0 _ _ second.0 c.write_at-2.ensures.budget second.2 c.in_ok-write_at-2.was in
    let end = stopped_at _ _ _ c.sync-2.result _ _ third.0 c.sync-2.ensures.budget third.2 failed in
    let three : k ≡ 3 = omega (arith, end.0, first.1, second.1, third.1) in
    subst (λ (n : ℕ). IsCutAfter n c.args.name.now c.args.at c.args.behind.now (g.D.DiskModel.view c.args.disk.now) (g.D.DiskModel.view c.sync-2.new.self)) (sym three)
    (cut_last c.args.name.now c.args.at c.args.behind.now _ (g.met.D.Disk.sound _ t) o.bytes o.is o.blank (c.requires.stable t)
    (g.D.DiskModel.view c.write_at.new.self) (g.D.DiskModel.view c.sync.new.self) (g.D.DiskModel.view c.write_at-2.new.self)
    (g.D.DiskModel.view c.sync-2.new.self)
    (c.in_ok-write_at.ensures.disk t) (c.in_ok-sync.ensures.disk t1) (c.in_ok-write_at-2.ensures.disk t2) (end.1 t3))

pub returns-in_err-write_at-clause-counts : goal.returns-in_err-write_at-clause-counts
returns-in_err-write_at-clause-counts g c =
    seal_err 0 _ _ _ _ c.write_at.result c.from_residual.result _ _ (omega arith) (passed_none _) c.write_at.ensures.budget c.from_residual.ensures.0
    (carried c.write_at.result c.from_residual.result c.in_err-write_at.field-0.0 c.in_err-write_at.was c.from_residual.ensures.1)

pub returns-in_err-sync-clause-counts : goal.returns-in_err-sync-clause-counts
returns-in_err-sync-clause-counts g c =
    let one = passed_more 0 _ _ _ _ c.write_at.result c.in_ok-write_at.field-0 _ _ (passed_none _) c.write_at.ensures.budget c.in_ok-write_at.was in
    seal_err 1 _ _ _ _ c.sync.result c.from_residual-in_err-sync.result _ _ (omega arith) one c.sync.ensures.budget c.from_residual-in_err-sync.ensures.0
    (carried c.sync.result c.from_residual-in_err-sync.result c.in_err-sync.field-0.0 c.in_err-sync.was c.from_residual-in_err-sync.ensures.1)

pub returns-in_err-write_at-2-clause-counts : goal.returns-in_err-write_at-2-clause-counts
returns-in_err-write_at-2-clause-counts g c =
    let one = passed_more 0 _ _ _ _ c.write_at.result c.in_ok-write_at.field-0 _ _ (passed_none _) c.write_at.ensures.budget c.in_ok-write_at.was in
    let two = passed_more 1 _ _ _ _ c.sync.result c.in_ok-sync.field-0 _ _ one c.sync.ensures.budget c.in_ok-sync.was in
    seal_err 2 _ _ _ _ c.write_at-2.result c.from_residual-in_err-write_at-2.result _ _ (omega arith) two c.write_at-2.ensures.budget c.from_residual-in_err-write_at-2.ensures.0
    (carried c.write_at-2.result c.from_residual-in_err-write_at-2.result c.in_err-write_at-2.field-0.0 c.in_err-write_at-2.was c.from_residual-in_err-write_at-2.ensures.1)

pub returns-clause-counts : goal.returns-clause-counts
returns-clause-counts g c =
    let one = passed_more 0 _ _ _ _ c.write_at.result c.in_ok-write_at.field-0 _ _ (passed_none _) c.write_at.ensures.budget c.in_ok-write_at.was in
    let two = passed_more 1 _ _ _ _ c.sync.result c.in_ok-sync.field-0 _ _ one c.sync.ensures.budget c.in_ok-sync.was in
    let three = passed_more 2 _ _ _ _ c.write_at-2.result c.in_ok-write_at-2.field-0 _ _ two c.write_at-2.ensures.budget c.in_ok-write_at-2.was in
    seal_last _ _ _ _ c.sync-2.result _ _ three c.sync-2.ensures.budget
