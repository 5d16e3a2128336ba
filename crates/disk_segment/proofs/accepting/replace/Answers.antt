use Rattle.std.proofs.Common.{◌≡◌, ◌∙◌, arith, rules}
use Rattle.std.specs.Prelude.{IsOk, IsErr}
use Rattle.disk_segment.specs.Names.{name_of, UnderWay, FreshRecord}
use Rattle.disk_segment.proofs.Frame.{kinds_apart}
use Rattle.disk_segment.proofs.FileBytes.{in_range}
use Rattle.disk_segment.proofs.SealLemmas.{passed_none, carried}
use Rattle.disk_segment.proofs.Counts.{passed_on, counted_on, counted_off, counted_put, counted_one, counted_as, on_ok}
use Rattle.disk_segment.proofs.AcceptLaws.{touches_then, stage_left, put_left, stage_touches, stage_fails, now_stands, put_touches, put_fails}
use Rattle.disk_segment.proofs.AcceptLaws.{put_all, put_quiet, settle_touches, settle_becomes, way_left}
use Rattle.disk_segment.proofs.AcceptFresh.{settle_fresh}
use Rattle.disk_segment.proofs.AcceptCuts.{cut_staging, cut_putting, cut_settling}
use Rattle.disk_segment.proofs.accepting.replace.Goals as goal

pub put_record-requires-clause-absent : goal.put_record-requires-clause-absent
put_record-requires-clause-absent g c = λ t1.
    let t = c.stage.ensures.call.tells.1 t1 in
    (c.stage.ensures.quiet t).seen.others (name_of c.args.batch.now.first FreshRecord)
    (kinds_apart c.args.batch.now.first (UnderWay c.args.epoch) FreshRecord c.requires.epoch tt (λ is. absurd (cc))) ∙ c.requires.absent t

pub settle-requires-clause-there : goal.settle-requires-clause-there
settle-requires-clause-there g c = λ t2.
    let t1 = c.put_record.ensures.call.tells.1 t2 in
    let t = c.stage.ensures.call.tells.1 t1 in
    let ok : IsOk c.stage.result = search rules in
    let ok2 : IsOk c.put_record.result = search rules in
    way_left c.args.epoch c.args.batch.now (in_range _ _ c.requires.start c.requires.epoch) _ _
    (on_ok c.stage.result _ ok (c.stage.ensures.staged t)) (on_ok c.put_record.result _ ok2 (c.put_record.ensures.put t1).done)

pub returns-in_err-stage-clause-effect : goal.returns-in_err-stage-clause-effect
returns-in_err-stage-clause-effect g c = λ t gs ready can.
    stage_fails c.args.epoch c.args.batch.now (in_range _ _ c.requires.start c.requires.epoch) _ (g.met.D.Disk.sound _ t) _
    (g.met.D.Disk.sound _ (c.stage.ensures.call.tells.0 t)) (c.stage.ensures.quiet t) gs ready can c.from_residual.result
    c.from_residual.ensures.0

pub returns-in_err-stage-clause-touches : goal.returns-in_err-stage-clause-touches
returns-in_err-stage-clause-touches g c = λ t.
    stage_touches c.args.epoch c.args.batch.now (in_range _ _ c.requires.start c.requires.epoch) _ (g.met.D.Disk.sound _ t) _
    (g.met.D.Disk.sound _ (c.stage.ensures.call.tells.0 t)) (c.stage.ensures.quiet t)

pub returns-in_err-stage-clause-counts : goal.returns-in_err-stage-clause-counts
returns-in_err-stage-clause-counts g c =
    let same : c.from_residual.result ≡ c.stage.result = search rules in
    let err : IsErr c.stage.result = search rules in
    counted_as 6 _ _ c.stage.result c.from_residual.result same (counted_off 2 0 _ _ _ c.stage.result (passed_none _) c.stage.ensures.counts 6 (omega arith) err)

pub returns-in_err-stage-clause-cut : goal.returns-in_err-stage-clause-cut
returns-in_err-stage-clause-cut g c = λ t gs ready can.
    cut_staging gs _ _ c.from_residual.result _ c.stage.result _ c.stage.ensures.counts
    (carried c.stage.result c.from_residual.result c.in_err-stage.field-0.0 c.in_err-stage.was c.from_residual.ensures.1)
    (now_stands c.args.epoch c.args.batch.now (in_range _ _ c.requires.start c.requires.epoch) _ (g.met.D.Disk.sound _ t) _
    (g.met.D.Disk.sound _ (c.stage.ensures.call.tells.0 t)) (c.stage.ensures.quiet t) gs ready can)

pub returns-in_err-put_record-clause-effect : goal.returns-in_err-put_record-clause-effect
returns-in_err-put_record-clause-effect g c = λ t gs ready can.
    let t1 = c.stage.ensures.call.tells.0 t in
    let t2 = c.put_record.ensures.call.tells.0 t1 in
    let ok : IsOk c.stage.result = search rules in
    put_fails c.args.epoch c.args.batch.now (in_range _ _ c.requires.start c.requires.epoch) _ (g.met.D.Disk.sound _ t) _ (g.met.D.Disk.sound _ t1) (c.stage.ensures.quiet t) gs ready can
    (on_ok c.stage.result _ ok (c.stage.ensures.staged t)) (on_ok c.stage.result _ ok c.stage.ensures.good) c.requires.last _
    (g.met.D.Disk.sound _ t2) _ (c.put_record.ensures.put t1) c.from_residual-in_err-put_record.result c.from_residual-in_err-put_record.ensures.0

pub returns-in_err-put_record-clause-touches : goal.returns-in_err-put_record-clause-touches
returns-in_err-put_record-clause-touches g c = λ t.
    let t1 = c.stage.ensures.call.tells.0 t in
    let t2 = c.put_record.ensures.call.tells.0 t1 in
    let range = in_range _ _ c.requires.start c.requires.epoch in
    touches_then c.args.batch.now.first _ _ _ _ (stage_touches c.args.epoch c.args.batch.now range _ (g.met.D.Disk.sound _ t) _ (g.met.D.Disk.sound _ t1) (c.stage.ensures.quiet t))
    (stage_left c.args.epoch c.args.batch.now range _ (g.met.D.Disk.sound _ t) _ (g.met.D.Disk.sound _ t1) (c.stage.ensures.quiet t))
    (put_touches c.args.epoch c.args.batch.now _ _ _ (g.met.D.Disk.sound _ t2) (c.put_record.ensures.put t1))

pub returns-in_err-put_record-clause-counts : goal.returns-in_err-put_record-clause-counts
returns-in_err-put_record-clause-counts g c =
    let same : c.from_residual-in_err-put_record.result ≡ c.put_record.result = search rules in
    let ok : IsOk c.stage.result = search rules in
    let err : IsErr c.put_record.result = search rules in
    counted_as 6 _ _ c.put_record.result c.from_residual-in_err-put_record.result same
    (counted_off 3 2 _ _ _ c.put_record.result (passed_on 2 0 _ _ _ c.stage.result (passed_none _) c.stage.ensures.counts ok)
    (counted_put _ _ _ _ _ _ _ c.put_record.ensures.cut) 6 (omega arith) err)

pub returns-in_err-put_record-clause-cut : goal.returns-in_err-put_record-clause-cut
returns-in_err-put_record-clause-cut g c = λ t gs ready can.
    let t1 = c.stage.ensures.call.tells.0 t in
    let ok : IsOk c.stage.result = search rules in
    cut_putting gs _ _ c.from_residual-in_err-put_record.result _ _ _ _ c.put_record.result _ _ t1
    (passed_on 2 0 _ _ _ c.stage.result (passed_none _) c.stage.ensures.counts ok) c.put_record.ensures.cut
    (carried c.put_record.result c.from_residual-in_err-put_record.result c.in_err-put_record.field-0.0 c.in_err-put_record.was c.from_residual-in_err-put_record.ensures.1)
    (put_quiet c.args.epoch c.args.batch.now (in_range _ _ c.requires.start c.requires.epoch) _ (g.met.D.Disk.sound _ t) _ (g.met.D.Disk.sound _ t1) (c.stage.ensures.quiet t) gs ready can
    (on_ok c.stage.result _ ok (c.stage.ensures.staged t)) (on_ok c.stage.result _ ok c.stage.ensures.good) c.requires.last)

pub returns-clause-effect : goal.returns-clause-effect
returns-clause-effect g c = λ t gs ready can.
    let t1 = c.stage.ensures.call.tells.0 t in
    let t2 = c.put_record.ensures.call.tells.0 t1 in
    let t3 = c.settle.ensures.call.tells.0 t2 in
    let ok : IsOk c.stage.result = search rules in
    let ok2 : IsOk c.put_record.result = search rules in
    settle_becomes c.args.epoch c.args.batch.now (in_range _ _ c.requires.start c.requires.epoch) _ (g.met.D.Disk.sound _ t) _ (g.met.D.Disk.sound _ t1) (c.stage.ensures.quiet t) gs ready can
    (on_ok c.stage.result _ ok (c.stage.ensures.staged t)) (on_ok c.stage.result _ ok c.stage.ensures.good) c.requires.last _ (g.met.D.Disk.sound _ t2) _ (c.put_record.ensures.put t1)
    (on_ok c.put_record.result _ ok2 (c.put_record.ensures.put t1).done) _ (g.met.D.Disk.sound _ t3) c.settle.result (c.settle.ensures.moves t2)

pub returns-clause-touches : goal.returns-clause-touches
returns-clause-touches g c = λ t.
    let t1 = c.stage.ensures.call.tells.0 t in
    let t2 = c.put_record.ensures.call.tells.0 t1 in
    let t3 = c.settle.ensures.call.tells.0 t2 in
    let range = in_range _ _ c.requires.start c.requires.epoch in
    let ok2 : IsOk c.put_record.result = search rules in
    let one = stage_touches c.args.epoch c.args.batch.now range _ (g.met.D.Disk.sound _ t) _ (g.met.D.Disk.sound _ t1) (c.stage.ensures.quiet t) in
    let two = touches_then c.args.batch.now.first _ _ _ _ one (stage_left c.args.epoch c.args.batch.now range _ (g.met.D.Disk.sound _ t) _
    (g.met.D.Disk.sound _ t1) (c.stage.ensures.quiet t)) (put_touches c.args.epoch c.args.batch.now _ _ _ (g.met.D.Disk.sound _ t2)
    (c.put_record.ensures.put t1)) in
    touches_then c.args.batch.now.first _ _ _ _ two (put_left c.args.epoch c.args.batch.now range _ (g.met.D.Disk.sound _ t) _
    (g.met.D.Disk.sound _ t1) (c.stage.ensures.quiet t) _ (on_ok c.put_record.result _ ok2 (c.put_record.ensures.put t1).done))
    (settle_touches c.args.epoch c.args.batch.now _ _ (g.met.D.Disk.sound _ t2) (g.met.D.Disk.sound _ t3) c.settle.result (c.settle.ensures.moves t2))

pub returns-clause-fresh : goal.returns-clause-fresh
returns-clause-fresh g c = λ t.
    let t2 = c.put_record.ensures.call.tells.0 (c.stage.ensures.call.tells.0 t) in
    let ok2 : IsOk c.put_record.result = search rules in
    settle_fresh c.args.epoch c.requires.epoch c.args.batch.now _ _ _ c.settle.result
    (on_ok c.put_record.result _ ok2 (c.put_record.ensures.put (c.stage.ensures.call.tells.0 t)).done) (c.settle.ensures.moves t2)

pub returns-clause-counts : goal.returns-clause-counts
returns-clause-counts g c =
    let ok : IsOk c.stage.result = search rules in
    let ok2 : IsOk c.put_record.result = search rules in
    counted_on 1 5 _ _ _ c.settle.result (passed_on 3 2 _ _ _ c.put_record.result
    (passed_on 2 0 _ _ _ c.stage.result (passed_none _) c.stage.ensures.counts ok) (counted_put _ _ _ _ _ _ _ c.put_record.ensures.cut) ok2)
    (counted_one _ _ _ _ _ _ c.settle.ensures.cut)

pub returns-clause-cut : goal.returns-clause-cut
returns-clause-cut g c = λ t gs ready can.
    let t1 = c.stage.ensures.call.tells.0 t in
    let t2 = c.put_record.ensures.call.tells.0 t1 in
    let ok : IsOk c.stage.result = search rules in
    let ok2 : IsOk c.put_record.result = search rules in
    cut_settling gs _ _ c.settle.result _ _ _ _ _ t2 (passed_on 3 2 _ _ _ c.put_record.result
    (passed_on 2 0 _ _ _ c.stage.result (passed_none _) c.stage.ensures.counts ok) (counted_put _ _ _ _ _ _ _ c.put_record.ensures.cut) ok2)
    c.settle.ensures.cut
    (put_all c.args.epoch c.args.batch.now (in_range _ _ c.requires.start c.requires.epoch) _ (g.met.D.Disk.sound _ t) _ (g.met.D.Disk.sound _ t1) (c.stage.ensures.quiet t) gs ready can
    (on_ok c.stage.result _ ok (c.stage.ensures.staged t)) (on_ok c.stage.result _ ok c.stage.ensures.good) c.requires.last _ (g.met.D.Disk.sound _ t2) _ (c.put_record.ensures.put t1)
    (on_ok c.put_record.result _ ok2 (c.put_record.ensures.put t1).done))
