use Rattle.std.proofs.Common.{sym, subst, refl}
use Rattle.disk_node.specs.Opening.{disk_in, IsCauseOf}
use Rattle.cli_commands.specs.Uses.{read_from, written_to, done_to}
use Rattle.cli_commands.specs.Serving.{IsServedOrNot, opened, unopened, is_disk_fault}
use Rattle.cli_commands.proofs.ServingLaws.{unopened_is, opening_cause}
use Rattle.cli_commands.proofs.NodeLaws.{serves_opened}
use Rattle.cli_commands.proofs.node_command.serve_node.Goals as goal

pub returns-in-Ok-clause-served : goal.returns-in-Ok-clause-served
returns-in-Ok-clause-served g c =
    let disk = c.in-Ok.node.disk in
    opened (serves_opened (done_to g.D.DiskModel.tells g.D.DiskModel.view g.D.DiskModel.faults g.D.DiskModel.steady g.D.DiskModel.left c.args.disk
    c.serve_opened.result.disk) (g.D.DiskModel.is_told disk) c.in-Ok.node
    (read_from g.S.Source.left g.S.Source.faults c.args.source.now c.serve_opened.new.source) (written_to g.K.Sink.taken g.K.Sink.faults g.K.Sink.kept_back c.args.sink.now c.serve_opened.new.sink)
    c.serve_opened.result.status (g.D.DiskModel.tells c.serve_opened.result.disk)
    (λ t. (g.met.D.Disk.told_so disk).0 (c.in-Ok.ensures.tells_ok.0 t)) c.in-Ok.ensures.tells_ok.0 (λ t. g.met.D.Disk.sound disk (c.in-Ok.ensures.tells_ok.0 t))
    (λ t. c.serve_opened.ensures.tells.0 (c.in-Ok.ensures.tells_ok.0 t)) c.in-Ok.ensures.opened c.in-Ok.ensures.moments_ok c.serve_opened.ensures.session)

pub returns-in-Err-clause-served : goal.returns-in-Err-clause-served
returns-in-Err-clause-served g c =
    let last = disk_in c.in-Err.fail in
    let source = read_from g.S.Source.left g.S.Source.faults c.args.source.now c.args.source.now in
    let sink = written_to g.K.Sink.taken g.K.Sink.faults g.K.Sink.kept_back c.args.sink.now c.end_unopened.new.sink in
    let disk = done_to g.D.DiskModel.tells g.D.DiskModel.view g.D.DiskModel.faults g.D.DiskModel.steady g.D.DiskModel.left c.args.disk last in
    subst
    (λ d. IsServedOrNot source sink (done_to g.D.DiskModel.tells g.D.DiskModel.view g.D.DiskModel.faults g.D.DiskModel.steady g.D.DiskModel.left c.args.disk d) c.end_unopened.result.status)
    (sym c.end_unopened.ensures.disk)
    (unopened (record {
      unread = refl;
      no_read_fault = refl;
      kept = c.in-Err.ensures.kept;
      moments = c.in-Err.ensures.moments_err;
      why = unopened_is sink disk c.end_unopened.result.status c.in-Err.fail c.in-Err.ensures.bad c.end_unopened.ensures.told;
    }))

pub returns-in-Err-clause-cause : goal.returns-in-Err-clause-cause
returns-in-Err-clause-cause g c =
    let last = disk_in c.in-Err.fail in
    let sink = written_to g.K.Sink.taken g.K.Sink.faults g.K.Sink.kept_back c.args.sink.now c.end_unopened.new.sink in
    let disk = done_to g.D.DiskModel.tells g.D.DiskModel.view g.D.DiskModel.faults g.D.DiskModel.steady g.D.DiskModel.left c.args.disk last in
    subst
    (λ d. IsCauseOf (g.D.DiskModel.faults c.args.disk) (g.D.DiskModel.faults d) (g.D.DiskModel.steady c.args.disk) (g.D.DiskModel.steady d) (is_disk_fault c.end_unopened.result.status))
    (sym c.end_unopened.ensures.disk)
    (opening_cause sink disk c.end_unopened.result.status c.in-Err.fail _ _ _ _ c.end_unopened.ensures.told c.in-Err.ensures.cause_err)
