use Rattle.std.proofs.Common.{◌∙◌, ap, arith}
use Rattle.std.proofs.lemmas.Result.{on_ok_weaker}
use Rattle.base_disk.specs.Files.{Files}
use Rattle.base_disk.specs.View.{IsStable}
use Rattle.base_disk.specs.Runs.{quiet_keeps}
use Rattle.disk_segment.proofs.SealLemmas.{passed_none, passed_more, carried}
use Rattle.disk_segment.proofs.PlaceLemmas.{starts_with, disturbed}
use Rattle.disk_segment.proofs.Counts.{counted_err, counted_last}
use Rattle.disk_segment.proofs.accepting.stage_by.Goals as goal

pub returns-in_err-write_at-clause-quiet : goal.returns-in_err-write_at-clause-quiet
returns-in_err-write_at-clause-quiet g c = λ t. disturbed c.args.way.now c.args.bytes.now _ (g.met.D.Disk.sound _ t) _ _ (c.write_at.ensures.disk t)

pub returns-in_err-write_at-clause-counts : goal.returns-in_err-write_at-clause-counts
returns-in_err-write_at-clause-counts g c =
    counted_err 2 0 _ _ _ _ c.write_at.result c.from_residual.result _ _ (omega arith) (passed_none _) c.write_at.ensures.budget c.from_residual.ensures.0
    (carried c.write_at.result c.from_residual.result c.in_err-write_at.field-0.0 c.in_err-write_at.was c.from_residual.ensures.1)

pub returns-clause-quiet : goal.returns-clause-quiet
returns-clause-quiet g c = λ t.
    quiet_keeps _ _ _ _ (disturbed c.args.way.now c.args.bytes.now _ (g.met.D.Disk.sound _ t) _ _ (c.write_at.ensures.disk t)) (c.sync.ensures.disk (c.write_at.ensures.call.tells.0 t)).keeps

pub returns-clause-staged : goal.returns-clause-staged
returns-clause-staged g c = λ t.
    let t1 = c.write_at.ensures.call.tells.0 t in
    let syncs = c.sync.ensures.disk t1 in
    let begun = starts_with c.args.bytes.now ((g.D.DiskModel.view c.args.disk.now).seen c.args.way.now)
    ((g.D.DiskModel.view c.write_at.new.self).seen c.args.way.now) (c.in_ok-write_at.ensures.disk t).done.here in
    on_ok_weaker c.sync.result (λ (stable : IsStable c.args.way.now (g.D.DiskModel.view c.sync.new.self)).
    record { behind = begun.behind; there = ap (λ (f : Files). f c.args.way.now) syncs.keeps.seen ∙ begun.is; stable = stable }) syncs.done

pub returns-clause-counts : goal.returns-clause-counts
returns-clause-counts g c =
    counted_last 1 _ _ _ _ c.sync.result _ _ (passed_more 0 _ _ _ _ c.write_at.result c.in_ok-write_at.field-0 _ _ (passed_none _) c.write_at.ensures.budget c.in_ok-write_at.was) c.sync.ensures.budget
