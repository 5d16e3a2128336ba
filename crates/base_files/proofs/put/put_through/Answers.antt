use Rattle.std.proofs.Common.{◌≡◌, ◌∙◌, ◌+◌, ℕ, suc, ap, rules, subst, arith}
use Rattle.std.specs.Prelude.{Some, Result, IsErrOf}
use Rattle.base_disk.specs.declared.disk.DiskFail.{DiskFail}
use Rattle.base_disk.specs.declared.disk.DiskFail.TheVariants.{Failed}
use Rattle.base_disk.specs.Files.{Files}
use Rattle.base_files.proofs.PutsLemmas.{gave_up, now_written, synced, seen_synced, now_synced, moved, put_whole, cut_early, cut_last}
use Rattle.base_files.proofs.put.put_through.Goals as goal

three : (k : ℕ) → 3 + k ≡ suc (suc (suc k))
three k = omega arith

pub returns-in_err-write_at-clause-cut : goal.returns-in_err-write_at-clause-cut
returns-in_err-write_at-clause-cut g c =
    let same : c.from_residual.result ≡ c.write_at.result = search rules in
    cut_early c.args.tmp.now (g.D.DiskModel.tells c.args.disk.now) (g.D.DiskModel.view c.args.disk.now) (g.D.DiskModel.left c.args.disk.now)
    (g.D.DiskModel.left c.write_at.new.self) (g.D.DiskModel.view c.write_at.new.self) c.from_residual.result c.from_residual.ensures.0
    (λ t. now_written c.args.name.now c.args.tmp.now c.args.bytes.now c.requires.apart (g.D.DiskModel.view c.args.disk.now) (g.met.D.Disk.sound _ t)
    (c.requires.absent t) _ _ (c.write_at.ensures.disk t))
    (λ k left failed. (c.write_at.ensures.budget.counts (suc (suc k)) (left ∙ ap (λ (n : ℕ). Some n) (three k))).0 (subst (λ (r : Result (Unit {0}) DiskFail). IsErrOf r Failed) same failed))

pub returns-in_err-sync-clause-put : goal.returns-in_err-sync-clause-put
returns-in_err-sync-clause-put g c = λ t.
    let t1 = c.write_at.ensures.call.tells.0 t in
    gave_up _ _ c.from_residual-in_err-sync.result _ _ c.from_residual-in_err-sync.ensures.0
    (synced _ _ _ c.requires.apart _ (g.met.D.Disk.sound _ t) (c.requires.absent t) _ _ (c.write_at.ensures.disk t) _ _ (c.sync.ensures.disk t1))
    (seen_synced _ _ _ c.requires.apart _ (g.met.D.Disk.sound _ t) (c.requires.absent t) _ _ (c.write_at.ensures.disk t) _ _ (c.sync.ensures.disk t1))

pub returns-in_err-sync-clause-cut : goal.returns-in_err-sync-clause-cut
returns-in_err-sync-clause-cut g c =
    let same : c.from_residual-in_err-sync.result ≡ c.sync.result = search rules in
    cut_early c.args.tmp.now (g.D.DiskModel.tells c.args.disk.now) (g.D.DiskModel.view c.args.disk.now) (g.D.DiskModel.left c.args.disk.now)
    (g.D.DiskModel.left c.sync.new.self) (g.D.DiskModel.view c.sync.new.self) c.from_residual-in_err-sync.result
    c.from_residual-in_err-sync.ensures.0
    (λ t. now_synced c.args.name.now c.args.tmp.now c.args.bytes.now c.requires.apart (g.D.DiskModel.view c.args.disk.now) (g.met.D.Disk.sound _ t)
    (c.requires.absent t) _ _ (c.write_at.ensures.disk t) _ _ (c.sync.ensures.disk (c.write_at.ensures.call.tells.0 t)))
    (λ k left failed. (c.sync.ensures.budget.counts (suc k) (c.write_at.ensures.budget.counts (suc (suc k))
    (left ∙ ap (λ (n : ℕ). Some n) (three k))).1).0 (subst (λ (r : Result (Unit {0}) DiskFail). IsErrOf r Failed) same failed))

pub returns-clause-put : goal.returns-clause-put
returns-clause-put g c = λ t.
    let t1 = c.write_at.ensures.call.tells.0 t in
    let t2 = c.sync.ensures.call.tells.0 t1 in
    let writes = c.in_ok-write_at.ensures.disk t in
    let syncs = c.in_ok-sync.ensures.disk t1 in
    let whole : (g.D.DiskModel.view c.sync.new.self).seen c.args.tmp.now ≡ Some c.args.bytes.now =
    ap (λ (f : Files). f c.args.tmp.now) syncs.keeps.seen ∙ put_whole _ _ _ (c.requires.absent t) writes.done.here in
    moved _ _ _ c.requires.apart _ (g.met.D.Disk.sound _ t) (c.requires.absent t) _ _ writes _ _ syncs whole syncs.done _ _ (c.rename.ensures.disk t2)

pub returns-clause-cut : goal.returns-clause-cut
returns-clause-cut g c =
    cut_last c.args.tmp.now (g.D.DiskModel.tells c.args.disk.now) (g.D.DiskModel.view c.args.disk.now) (g.D.DiskModel.left c.args.disk.now)
    (g.D.DiskModel.left c.write_at.new.self) (g.D.DiskModel.left c.sync.new.self) (g.D.DiskModel.left c.rename.new.self)
    (g.D.DiskModel.tells c.write_at.new.self) (g.D.DiskModel.tells c.sync.new.self) (g.D.DiskModel.view c.write_at.new.self)
    (g.D.DiskModel.view c.sync.new.self) (g.D.DiskModel.view c.rename.new.self) c.write_at.result c.sync.result c.rename.result
    c.write_at.ensures.budget c.sync.ensures.budget c.rename.ensures.budget (λ t. c.sync.ensures.call.tells.0 (c.write_at.ensures.call.tells.0 t)) (search rules) (search rules)
    (λ t. now_synced c.args.name.now c.args.tmp.now c.args.bytes.now c.requires.apart (g.D.DiskModel.view c.args.disk.now) (g.met.D.Disk.sound _ t)
    (c.requires.absent t) _ _ (c.write_at.ensures.disk t) _ _ (c.sync.ensures.disk (c.write_at.ensures.call.tells.0 t)))
