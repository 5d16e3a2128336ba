use Rattle.std.specs.Prelude.{map, string_bytes}
use Rattle.disk_opening.specs.OpenSteps.{step_result}
use Rattle.disk_opening.proofs.SyncLemmas.{index_at}
use Rattle.disk_opening.proofs.ReadLoop.{begun, step_goes, one_more, ended_with, read_whole, inside_map, past_map}
use Rattle.disk_opening.proofs.opening.read_all.Goals as goal

pub loop-name-init : goal.loop-name-init
loop-name-init g c =
    begun (g.D.DiskModel.tells c.args.disk.now) (g.D.DiskModel.view c.args.disk.now) (map string_bytes c.args.names.now) c.new-table.result
    (g.D.DiskModel.faults c.args.disk.now) (g.D.DiskModel.steady c.args.disk.now) c.new-table.ensures

pub loop-name-preserved : goal.loop-name-preserved
loop-name-preserved g c =
    one_more (g.D.DiskModel.tells c.args.disk.now) (g.D.DiskModel.view c.args.disk.now) (λ t. g.met.D.Disk.sound _ t)
    (map string_bytes c.args.names.now) (g.D.DiskModel.faults c.args.disk.now) (g.D.DiskModel.steady c.args.disk.now)
    (g.D.DiskModel.tells c.loop-name.disk) (g.D.DiskModel.view c.loop-name.disk) c.loop-name.name-index c.loop-name.table
    (g.D.DiskModel.faults c.loop-name.disk) (g.D.DiskModel.steady c.loop-name.disk) c.loop-name.invariant
    (inside_map string_bytes c.args.names.now c.loop-name.name-index c.loop-name-test.true) (string_bytes c.name-item.result) c.as_str.result.now
    (index_at string_bytes c.args.names.now c.loop-name.name-index c.name-item.result c.loop-name-test.true c.name-item.is) c.as_str.ensures.value
    (g.D.DiskModel.tells c.read_one.new.disk) (g.D.DiskModel.view c.read_one.new.disk) (g.D.DiskModel.faults c.read_one.new.disk)
    (g.D.DiskModel.steady c.read_one.new.disk) (step_result c.read_one.result) c.read_one.ensures.call.tells (λ t. c.read_one.ensures.disk t)
    c.read_one.ensures.call.cause
    c.read_one.new.table c.read_one.result (λ t. c.read_one.ensures.told t) (step_goes c.read_one.result c.in_default.is) c.in_default.is

pub returns-in-Some-clause-told : goal.returns-in-Some-clause-told
returns-in-Some-clause-told g c = λ t repaired.
    ended_with (g.D.DiskModel.tells c.args.disk.now) (g.D.DiskModel.view c.args.disk.now) (λ t. g.met.D.Disk.sound _ t)
    (map string_bytes c.args.names.now) (g.D.DiskModel.faults c.args.disk.now) (g.D.DiskModel.steady c.args.disk.now)
    (g.D.DiskModel.tells c.loop-name.disk) (g.D.DiskModel.view c.loop-name.disk) c.loop-name.name-index c.loop-name.table
    (g.D.DiskModel.faults c.loop-name.disk) (g.D.DiskModel.steady c.loop-name.disk) c.loop-name.invariant
    (inside_map string_bytes c.args.names.now c.loop-name.name-index c.loop-name-test.true) (string_bytes c.name-item.result) c.as_str.result.now
    (index_at string_bytes c.args.names.now c.loop-name.name-index c.name-item.result c.loop-name-test.true c.name-item.is) c.as_str.ensures.value
    (g.D.DiskModel.tells c.read_one.new.disk) (g.D.DiskModel.view c.read_one.new.disk) (g.D.DiskModel.faults c.read_one.new.disk)
    (g.D.DiskModel.steady c.read_one.new.disk) (step_result c.read_one.result) c.read_one.ensures.call.tells (λ t. c.read_one.ensures.disk t)
    c.read_one.ensures.call.cause
    c.read_one.new.table c.read_one.result (λ t. c.read_one.ensures.told t) c.in-Some.answer c.in-Some.is t repaired (c.requires t)

pub returns-clause-told : goal.returns-clause-told
returns-clause-told g c = λ t repaired.
    read_whole (g.D.DiskModel.tells c.args.disk.now) (g.D.DiskModel.view c.args.disk.now) (λ t. g.met.D.Disk.sound _ t)
    (map string_bytes c.args.names.now) (g.D.DiskModel.faults c.args.disk.now) (g.D.DiskModel.steady c.args.disk.now)
    (g.D.DiskModel.tells c.loop-name.disk) (g.D.DiskModel.view c.loop-name.disk) c.loop-name.name-index c.loop-name.table
    (g.D.DiskModel.faults c.loop-name.disk) (g.D.DiskModel.steady c.loop-name.disk) c.loop-name.invariant
    (past_map string_bytes c.args.names.now c.loop-name.name-index c.loop-name-test.false) t repaired (c.requires t)
