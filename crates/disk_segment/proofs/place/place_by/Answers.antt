use Rattle.std.proofs.Common.{◌≡◌, ◌∙◌, ◌+◌, ℕ, suc, ap, rules, subst, arith}
use Rattle.std.specs.Prelude.{Some, Result, IsErrOf}
use Rattle.base_disk.specs.declared.disk.DiskFail.{DiskFail}
use Rattle.base_disk.specs.declared.disk.DiskFail.TheVariants.{Failed}
use Rattle.base_disk.specs.Files.{Files}
use Rattle.base_disk.specs.Runs.{gave_up, quiet_keeps}
use Rattle.base_files.proofs.PutsLemmas.{cut_early, cut_last}
use Rattle.disk_segment.proofs.PlaceLemmas.{StartsWith, starts_with, written, moved, stays}
use Rattle.disk_segment.proofs.place.place_by.Goals as goal

three : (k : ℕ) → 3 + k ≡ suc (suc (suc k))
three k = omega arith

pub returns-in_err-write_at-clause-place : goal.returns-in_err-write_at-clause-place
returns-in_err-write_at-clause-place g c = λ t.
    gave_up _ _ c.from_residual.result _ _ c.from_residual.ensures.0 (written c.args.name.now c.args.tmp.now c.args.bytes.now c.requires _ (g.met.D.Disk.sound _ t) _ _ (c.write_at.ensures.disk t))

pub returns-in_err-write_at-clause-cut : goal.returns-in_err-write_at-clause-cut
returns-in_err-write_at-clause-cut g c =
    let same : c.from_residual.result ≡ c.write_at.result = search rules in
    cut_early c.args.tmp.now (g.D.DiskModel.tells c.args.disk.now) (g.D.DiskModel.view c.args.disk.now) (g.D.DiskModel.left c.args.disk.now)
    (g.D.DiskModel.left c.write_at.new.self) (g.D.DiskModel.view c.write_at.new.self) c.from_residual.result c.from_residual.ensures.0
    (λ t. (written c.args.name.now c.args.tmp.now c.args.bytes.now c.requires _ (g.met.D.Disk.sound _ t) _ _ (c.write_at.ensures.disk t)).now)
    (λ k left failed. (c.write_at.ensures.budget.counts (suc (suc k)) (left ∙ ap (λ (n : ℕ). Some n) (three k))).0 (subst (λ (r : Result (Unit {0}) DiskFail). IsErrOf r Failed) same failed))

pub returns-in_err-sync-clause-place : goal.returns-in_err-sync-clause-place
returns-in_err-sync-clause-place g c = λ t.
    gave_up _ _ c.from_residual-in_err-sync.result _ _ c.from_residual-in_err-sync.ensures.0
    (quiet_keeps _ _ _ _ (written c.args.name.now c.args.tmp.now c.args.bytes.now c.requires _ (g.met.D.Disk.sound _ t) _ _
    (c.write_at.ensures.disk t)) (c.sync.ensures.disk (c.write_at.ensures.call.tells.0 t)).keeps)

pub returns-in_err-sync-clause-cut : goal.returns-in_err-sync-clause-cut
returns-in_err-sync-clause-cut g c =
    let same : c.from_residual-in_err-sync.result ≡ c.sync.result = search rules in
    cut_early c.args.tmp.now (g.D.DiskModel.tells c.args.disk.now) (g.D.DiskModel.view c.args.disk.now) (g.D.DiskModel.left c.args.disk.now)
    (g.D.DiskModel.left c.sync.new.self) (g.D.DiskModel.view c.sync.new.self) c.from_residual-in_err-sync.result
    c.from_residual-in_err-sync.ensures.0
    (λ t. (quiet_keeps _ _ _ _ (written c.args.name.now c.args.tmp.now c.args.bytes.now c.requires _ (g.met.D.Disk.sound _ t) _ _
    (c.write_at.ensures.disk t)) (c.sync.ensures.disk (c.write_at.ensures.call.tells.0 t)).keeps).now)
    (λ k left failed. (c.sync.ensures.budget.counts (suc k) (c.write_at.ensures.budget.counts (suc (suc k))
    (left ∙ ap (λ (n : ℕ). Some n) (three k))).1).0 (subst (λ (r : Result (Unit {0}) DiskFail). IsErrOf r Failed) same failed))

pub returns-clause-place : goal.returns-clause-place
returns-clause-place g c = λ t.
    let t1 = c.write_at.ensures.call.tells.0 t in
    let t2 = c.sync.ensures.call.tells.0 t1 in
    let syncs = c.in_ok-sync.ensures.disk t1 in
    let begun = starts_with c.args.bytes.now ((g.D.DiskModel.view c.args.disk.now).seen c.args.tmp.now)
    ((g.D.DiskModel.view c.write_at.new.self).seen c.args.tmp.now) (c.in_ok-write_at.ensures.disk t).done.here in
    let whole : StartsWith c.args.bytes.now ((g.D.DiskModel.view c.sync.new.self).seen c.args.tmp.now) =
    record { behind = begun.behind; is = ap (λ (f : Files). f c.args.tmp.now) syncs.keeps.seen ∙ begun.is } in
    moved _ _ _ c.requires _ (g.met.D.Disk.sound _ t) _ (g.met.D.Disk.sound _ t2)
    (quiet_keeps _ _ _ _ (written c.args.name.now c.args.tmp.now c.args.bytes.now c.requires _ (g.met.D.Disk.sound _ t) _ _
    (c.write_at.ensures.disk t)) syncs.keeps) whole syncs.done _ _ (c.rename.ensures.disk t2)

pub returns-clause-stable : goal.returns-clause-stable
returns-clause-stable g c = λ t.
    let t1 = c.write_at.ensures.call.tells.0 t in
    let t2 = c.sync.ensures.call.tells.0 t1 in
    let syncs = c.in_ok-sync.ensures.disk t1 in
    let begun = starts_with c.args.bytes.now ((g.D.DiskModel.view c.args.disk.now).seen c.args.tmp.now)
    ((g.D.DiskModel.view c.write_at.new.self).seen c.args.tmp.now) (c.in_ok-write_at.ensures.disk t).done.here in
    let whole : StartsWith c.args.bytes.now ((g.D.DiskModel.view c.sync.new.self).seen c.args.tmp.now) =
    record { behind = begun.behind; is = ap (λ (f : Files). f c.args.tmp.now) syncs.keeps.seen ∙ begun.is } in
    stays _ _ _ c.requires _ (g.met.D.Disk.sound _ t) _ (g.met.D.Disk.sound _ t2)
    (quiet_keeps _ _ _ _ (written c.args.name.now c.args.tmp.now c.args.bytes.now c.requires _ (g.met.D.Disk.sound _ t) _ _
    (c.write_at.ensures.disk t)) syncs.keeps) whole syncs.done _ _ (c.rename.ensures.disk t2)

pub returns-clause-cut : goal.returns-clause-cut
returns-clause-cut g c =
    cut_last c.args.tmp.now (g.D.DiskModel.tells c.args.disk.now) (g.D.DiskModel.view c.args.disk.now) (g.D.DiskModel.left c.args.disk.now)
    (g.D.DiskModel.left c.write_at.new.self) (g.D.DiskModel.left c.sync.new.self) (g.D.DiskModel.left c.rename.new.self)
    (g.D.DiskModel.tells c.write_at.new.self) (g.D.DiskModel.tells c.sync.new.self) (g.D.DiskModel.view c.write_at.new.self)
    (g.D.DiskModel.view c.sync.new.self) (g.D.DiskModel.view c.rename.new.self) c.write_at.result c.sync.result c.rename.result
    c.write_at.ensures.budget c.sync.ensures.budget c.rename.ensures.budget (λ t. c.sync.ensures.call.tells.0 (c.write_at.ensures.call.tells.0 t)) (search rules) (search rules)
    (λ t. (quiet_keeps _ _ _ _ (written c.args.name.now c.args.tmp.now c.args.bytes.now c.requires _ (g.met.D.Disk.sound _ t) _ _
    (c.write_at.ensures.disk t)) (c.sync.ensures.disk (c.write_at.ensures.call.tells.0 t)).keeps).now)
