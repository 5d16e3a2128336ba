use Rattle.std.proofs.Common.{arith}
use Rattle.play_boot.specs.Stages.{begun_result}
use Rattle.play_boot.proofs.BeginLaws.{taken_from, small_of, taken_fine}
use Rattle.play_boot.proofs.RunLaws.{run_as, ok_is_fine}
use Rattle.play_boot.proofs.beginning.begin_from.Goals as goal

pub returns-in-Ok-clause-call : goal.returns-in-Ok-clause-call
returns-in-Ok-clause-call g c =
    run_as g.D.DiskModel c.args.from.now c.load_bytes.new.disk _ (begun_result c.take_loaded.result) (ok_is_fine c.in-Ok.loaded)
    (taken_fine c.args.txid c.in-Ok.loaded c.args.standby.now c.take_loaded.new.standby c.take_loaded.result c.take_loaded.ensures) c.in-Ok.ensures.call

pub returns-in-Ok-clause-begun : goal.returns-in-Ok-clause-begun
returns-in-Ok-clause-begun g c =
    taken_from (g.D.DiskModel.tells c.args.from.now) (g.D.DiskModel.view c.args.from.now).seen c.args.txid c.in-Ok.loaded (omega arith) c.in-Ok.ensures.loaded
    c.args.standby.now c.take_loaded.new.standby c.take_loaded.result c.take_loaded.ensures

pub returns-in-Ok-clause-small : goal.returns-in-Ok-clause-small
returns-in-Ok-clause-small g c =
    small_of c.args.txid c.in-Ok.loaded c.args.standby.now c.take_loaded.new.standby c.take_loaded.result (omega arith) c.take_loaded.ensures
