use Rattle.std.proofs.Common.{◌∙◌, sym, ap, subst, take, rules}
use Rattle.std.specs.Prelude.{map, string_bytes, IsOk}
use Rattle.disk_opening.specs.Opening.{IsBadRecordFile, IsFirst}
use Rattle.disk_opening.proofs.TurnLemmas.{turn}
use Rattle.disk_opening.proofs.SyncLemmas.{next_done, all_done, listed_as}
use Rattle.disk_opening.proofs.RecordLemmas.{begun, one_more, found_first, all_good, told_bad, told_good}
use Rattle.disk_opening.proofs.bad_record.first_bad_record.Goals as goal

pub loop-name-init : goal.loop-name-init
loop-name-init g c =
    let ok : IsOk c.list.result = search rules in
    begun (g.D.DiskModel.tells c.args.disk.now) (g.D.DiskModel.view c.args.disk.now) (λ t. g.met.D.Disk.sound _ t)
    (map string_bytes c.deref-name-items.result.now) (g.D.DiskModel.faults c.args.disk.now) (g.D.DiskModel.steady c.args.disk.now)
    (g.D.DiskModel.tells c.list.new.self) (g.D.DiskModel.view c.list.new.self) (g.D.DiskModel.faults c.list.new.self)
    (g.D.DiskModel.steady c.list.new.self) c.list.result c.list.ensures.call.tells (λ t. c.list.ensures.disk t)
    (λ t. listed_as _ _ _ (ap (map string_bytes) c.deref-name-items.ensures.value) (c.in_ok-names.ensures.names t)) c.list.ensures.call.cause ok

pub returns-then-is_some-clause-bad : goal.returns-then-is_some-clause-bad
returns-then-is_some-clause-bad g c = λ t.
    told_bad c.in_ok-bad.bad c.as_bytes.result.now _ _ _ (IsFirst (IsBadRecordFile (g.D.DiskModel.view c.args.disk.now).seen))
    (sym c.is_some.ensures ∙ c.if-is_some.true) (c.in_ok-bad.ensures.bad (c.loop-name.invariant.tells_on.0 t))
    (λ bad. subst (IsFirst (IsBadRecordFile (g.D.DiskModel.view c.args.disk.now).seen)) (sym c.as_bytes.ensures.value)
    (found_first (g.D.DiskModel.tells c.args.disk.now) (g.D.DiskModel.view c.args.disk.now) (λ t. g.met.D.Disk.sound _ t)
    (map string_bytes c.deref-name-items.result.now) (g.D.DiskModel.faults c.args.disk.now) (g.D.DiskModel.steady c.args.disk.now)
    (g.D.DiskModel.tells c.loop-name.disk) (g.D.DiskModel.view c.loop-name.disk)
    (map string_bytes (take c.loop-name.name-index c.deref-name-items.result.now)) (g.D.DiskModel.faults c.loop-name.disk)
    (g.D.DiskModel.steady c.loop-name.disk) c.loop-name.invariant
    (string_bytes c.name-item.result) t (turn string_bytes c.deref-name-items.result.now c.loop-name.name-index c.name-item.result c.loop-name-test.true c.name-item.is)
    (subst (IsBadRecordFile (g.D.DiskModel.view c.loop-name.disk).seen) c.as_bytes.ensures.value bad)))

pub loop-name-preserved : goal.loop-name-preserved
loop-name-preserved g c =
    let ok : IsOk c.bad_record.result = search rules in
    one_more (g.D.DiskModel.tells c.args.disk.now) (g.D.DiskModel.view c.args.disk.now) (λ t. g.met.D.Disk.sound _ t)
    (map string_bytes c.deref-name-items.result.now) (g.D.DiskModel.faults c.args.disk.now) (g.D.DiskModel.steady c.args.disk.now)
    (g.D.DiskModel.tells c.loop-name.disk) (g.D.DiskModel.view c.loop-name.disk)
    (map string_bytes (take c.loop-name.name-index c.deref-name-items.result.now)) (g.D.DiskModel.faults c.loop-name.disk)
    (g.D.DiskModel.steady c.loop-name.disk) c.loop-name.invariant
    (g.D.DiskModel.tells c.bad_record.new.disk) (g.D.DiskModel.view c.bad_record.new.disk) (g.D.DiskModel.faults c.bad_record.new.disk)
    (g.D.DiskModel.steady c.bad_record.new.disk) c.bad_record.result c.bad_record.ensures.call.tells (λ t. c.bad_record.ensures.disk t)
    c.bad_record.ensures.call.cause ok
    (string_bytes c.name-item.result) _ (next_done string_bytes c.deref-name-items.result.now c.loop-name.name-index c.name-item.result c.loop-name-test.true c.name-item.is)
    (λ t bad. told_good c.in_ok-bad.bad _ _ (sym c.is_some.ensures ∙ c.if-is_some.false) (c.in_ok-bad.ensures.bad t)
    (subst (IsBadRecordFile (g.D.DiskModel.view c.loop-name.disk).seen) (sym c.as_bytes.ensures.value) bad))

pub returns-clause-bad : goal.returns-clause-bad
returns-clause-bad g c = λ t.
    all_good (g.D.DiskModel.tells c.args.disk.now) (g.D.DiskModel.view c.args.disk.now) (λ t. g.met.D.Disk.sound _ t)
    (map string_bytes c.deref-name-items.result.now) (g.D.DiskModel.faults c.args.disk.now) (g.D.DiskModel.steady c.args.disk.now)
    (g.D.DiskModel.tells c.loop-name.disk) (g.D.DiskModel.view c.loop-name.disk)
    (map string_bytes (take c.loop-name.name-index c.deref-name-items.result.now)) (g.D.DiskModel.faults c.loop-name.disk)
    (g.D.DiskModel.steady c.loop-name.disk) c.loop-name.invariant
    (all_done string_bytes c.deref-name-items.result.now c.loop-name.name-index c.loop-name-test.false) t
