use Rattle.std.proofs.Common.{rules}
use Rattle.std.specs.Prelude.{map, string_bytes, IsOk}
use Rattle.disk_opening.proofs.SyncLemmas.{index_at}
use Rattle.disk_opening.proofs.ReadLoop.{inside_map, past_map}
use Rattle.disk_opening.proofs.RemoveLoop.{there, one_more, quiet_still, stable_still, repaired_still, repaired_so_far, opened}
use Rattle.disk_opening.proofs.opening.remove_idle.Goals as goal

pub remove_one-requires : goal.remove_one-requires
remove_one-requires g c = λ t.
    there
    (g.D.DiskModel.tells c.args.disk.now) (g.D.DiskModel.view c.args.disk.now) (λ t. g.met.D.Disk.sound _ t) c.args.table.now
    (map string_bytes c.args.names.now) (g.D.DiskModel.faults c.args.disk.now) (g.D.DiskModel.steady c.args.disk.now)
    (g.D.DiskModel.tells c.loop-name.disk) (g.D.DiskModel.view c.loop-name.disk) (λ t. g.met.D.Disk.sound _ t) c.loop-name.name-index
    (g.D.DiskModel.faults c.loop-name.disk) (g.D.DiskModel.steady c.loop-name.disk) c.loop-name.invariant
    (inside_map string_bytes c.args.names.now c.loop-name.name-index c.loop-name-test.true) (string_bytes c.name-item.result) c.as_str.result.now
    (index_at string_bytes c.args.names.now c.loop-name.name-index c.name-item.result c.loop-name-test.true c.name-item.is) c.as_str.ensures.value
    t c.requires

pub loop-name-preserved : goal.loop-name-preserved
loop-name-preserved g c =
    let ok : IsOk c.remove_one.result = search rules in
    one_more
    (g.D.DiskModel.tells c.args.disk.now) (g.D.DiskModel.view c.args.disk.now) (λ t. g.met.D.Disk.sound _ t) c.args.table.now
    (map string_bytes c.args.names.now) (g.D.DiskModel.faults c.args.disk.now) (g.D.DiskModel.steady c.args.disk.now)
    (g.D.DiskModel.tells c.loop-name.disk) (g.D.DiskModel.view c.loop-name.disk) (λ t. g.met.D.Disk.sound _ t) c.loop-name.name-index
    (g.D.DiskModel.faults c.loop-name.disk) (g.D.DiskModel.steady c.loop-name.disk) c.loop-name.invariant
    (inside_map string_bytes c.args.names.now c.loop-name.name-index c.loop-name-test.true) (string_bytes c.name-item.result) c.as_str.result.now
    (index_at string_bytes c.args.names.now c.loop-name.name-index c.name-item.result c.loop-name-test.true c.name-item.is) c.as_str.ensures.value
    (g.D.DiskModel.tells c.remove_one.new.disk) (g.D.DiskModel.view c.remove_one.new.disk) (g.D.DiskModel.faults c.remove_one.new.disk)
    (g.D.DiskModel.steady c.remove_one.new.disk) c.remove_one.result c.remove_one.ensures.call.tells (λ t. c.remove_one.ensures.removes t)
    c.remove_one.ensures.call.cause
    ok

pub returns-in_err-remove_one-clause-quiet : goal.returns-in_err-remove_one-clause-quiet
returns-in_err-remove_one-clause-quiet g c =
    quiet_still
    (g.D.DiskModel.tells c.args.disk.now) (g.D.DiskModel.view c.args.disk.now) (λ t. g.met.D.Disk.sound _ t) c.args.table.now
    (map string_bytes c.args.names.now) (g.D.DiskModel.faults c.args.disk.now) (g.D.DiskModel.steady c.args.disk.now)
    (g.D.DiskModel.tells c.loop-name.disk) (g.D.DiskModel.view c.loop-name.disk) (λ t. g.met.D.Disk.sound _ t) c.loop-name.name-index
    (g.D.DiskModel.faults c.loop-name.disk) (g.D.DiskModel.steady c.loop-name.disk) c.loop-name.invariant
    (inside_map string_bytes c.args.names.now c.loop-name.name-index c.loop-name-test.true) (string_bytes c.name-item.result) c.as_str.result.now
    (index_at string_bytes c.args.names.now c.loop-name.name-index c.name-item.result c.loop-name-test.true c.name-item.is) c.as_str.ensures.value
    (g.D.DiskModel.tells c.remove_one.new.disk) (g.D.DiskModel.view c.remove_one.new.disk) (g.D.DiskModel.faults c.remove_one.new.disk)
    (g.D.DiskModel.steady c.remove_one.new.disk) c.remove_one.result c.remove_one.ensures.call.tells (λ t. c.remove_one.ensures.removes t)
    c.remove_one.ensures.call.cause

pub returns-in_err-remove_one-clause-stable : goal.returns-in_err-remove_one-clause-stable
returns-in_err-remove_one-clause-stable g c =
    stable_still
    (g.D.DiskModel.tells c.args.disk.now) (g.D.DiskModel.view c.args.disk.now) (λ t. g.met.D.Disk.sound _ t) c.args.table.now
    (map string_bytes c.args.names.now) (g.D.DiskModel.faults c.args.disk.now) (g.D.DiskModel.steady c.args.disk.now)
    (g.D.DiskModel.tells c.loop-name.disk) (g.D.DiskModel.view c.loop-name.disk) (λ t. g.met.D.Disk.sound _ t) c.loop-name.name-index
    (g.D.DiskModel.faults c.loop-name.disk) (g.D.DiskModel.steady c.loop-name.disk) c.loop-name.invariant
    (inside_map string_bytes c.args.names.now c.loop-name.name-index c.loop-name-test.true) (string_bytes c.name-item.result) c.as_str.result.now
    (index_at string_bytes c.args.names.now c.loop-name.name-index c.name-item.result c.loop-name-test.true c.name-item.is) c.as_str.ensures.value
    (g.D.DiskModel.tells c.remove_one.new.disk) (g.D.DiskModel.view c.remove_one.new.disk) (g.D.DiskModel.faults c.remove_one.new.disk)
    (g.D.DiskModel.steady c.remove_one.new.disk) c.remove_one.result c.remove_one.ensures.call.tells (λ t. c.remove_one.ensures.removes t)
    c.remove_one.ensures.call.cause

pub returns-in_err-remove_one-clause-repaired : goal.returns-in_err-remove_one-clause-repaired
returns-in_err-remove_one-clause-repaired g c =
    repaired_still
    (g.D.DiskModel.tells c.args.disk.now) (g.D.DiskModel.view c.args.disk.now) (λ t. g.met.D.Disk.sound _ t) c.args.table.now
    (map string_bytes c.args.names.now) (g.D.DiskModel.faults c.args.disk.now) (g.D.DiskModel.steady c.args.disk.now)
    (g.D.DiskModel.tells c.loop-name.disk) (g.D.DiskModel.view c.loop-name.disk) (λ t. g.met.D.Disk.sound _ t) c.loop-name.name-index
    (g.D.DiskModel.faults c.loop-name.disk) (g.D.DiskModel.steady c.loop-name.disk) c.loop-name.invariant
    (inside_map string_bytes c.args.names.now c.loop-name.name-index c.loop-name-test.true) (string_bytes c.name-item.result) c.as_str.result.now
    (index_at string_bytes c.args.names.now c.loop-name.name-index c.name-item.result c.loop-name-test.true c.name-item.is) c.as_str.ensures.value
    (g.D.DiskModel.tells c.remove_one.new.disk) (g.D.DiskModel.view c.remove_one.new.disk) (g.D.DiskModel.faults c.remove_one.new.disk)
    (g.D.DiskModel.steady c.remove_one.new.disk) c.remove_one.result c.remove_one.ensures.call.tells (λ t. c.remove_one.ensures.removes t)
    c.remove_one.ensures.call.cause

pub returns-clause-repaired : goal.returns-clause-repaired
returns-clause-repaired g c =
    repaired_so_far
    (g.D.DiskModel.tells c.args.disk.now) (g.D.DiskModel.view c.args.disk.now) (λ t. g.met.D.Disk.sound _ t) c.args.table.now
    (map string_bytes c.args.names.now) (g.D.DiskModel.faults c.args.disk.now) (g.D.DiskModel.steady c.args.disk.now)
    (g.D.DiskModel.tells c.loop-name.disk) (g.D.DiskModel.view c.loop-name.disk) (λ t. g.met.D.Disk.sound _ t) c.loop-name.name-index
    (g.D.DiskModel.faults c.loop-name.disk) (g.D.DiskModel.steady c.loop-name.disk) c.loop-name.invariant

pub returns-clause-told : goal.returns-clause-told
returns-clause-told g c = λ t stable repaired read.
    opened
    (g.D.DiskModel.tells c.args.disk.now) (g.D.DiskModel.view c.args.disk.now) (λ t. g.met.D.Disk.sound _ t) c.args.table.now
    (map string_bytes c.args.names.now) (g.D.DiskModel.faults c.args.disk.now) (g.D.DiskModel.steady c.args.disk.now)
    (g.D.DiskModel.tells c.loop-name.disk) (g.D.DiskModel.view c.loop-name.disk) (λ t. g.met.D.Disk.sound _ t) c.loop-name.name-index
    (g.D.DiskModel.faults c.loop-name.disk) (g.D.DiskModel.steady c.loop-name.disk) c.loop-name.invariant
    (past_map string_bytes c.args.names.now c.loop-name.name-index c.loop-name-test.false) t stable repaired (c.requires t) read
