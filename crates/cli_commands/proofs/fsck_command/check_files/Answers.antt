use Rattle.std.proofs.Common.{subst, sym}
use Rattle.cli_commands.specs.declared.command_fault.CommandFault.TheVariants as fault
use Rattle.cli_commands.specs.Uses.{written_to, done_to}
use Rattle.cli_commands.specs.Checks.{Checks}
use Rattle.cli_commands.proofs.ToldLaws.{tells_from}
use Rattle.cli_commands.proofs.CheckLaws.{found_checks, cut_checks, failed_checks, lost_checks}
use Rattle.cli_commands.proofs.fsck_command.check_files.Goals as goal

pub returns-in-Found-clause-checks : goal.returns-in-Found-clause-checks
returns-in-Found-clause-checks g c =
    let disk = done_to g.D.DiskModel.tells g.D.DiskModel.view g.D.DiskModel.faults g.D.DiskModel.steady g.D.DiskModel.left c.args.disk.now c.fsck.new.disk in
    let sink = written_to g.K.Sink.taken g.K.Sink.faults g.K.Sink.kept_back c.args.sink.now c.fsck.new.sink in
    subst (λ s. Checks disk sink s) (sym c.status_for_findings.ensures)
    (found_checks disk sink c.in-Found.ensures.disk c.in-Found.findings (λ z. cc (c.in-Found.ensures.stopped z)) c.in-Found.ensures.checkup c.in-Found.ensures.call.cause)

pub returns-in-WriteFault-clause-checks : goal.returns-in-WriteFault-clause-checks
returns-in-WriteFault-clause-checks g c =
    let disk = done_to g.D.DiskModel.tells g.D.DiskModel.view g.D.DiskModel.faults g.D.DiskModel.steady g.D.DiskModel.left c.args.disk.now c.fsck.new.disk in
    let sink = written_to g.K.Sink.taken g.K.Sink.faults g.K.Sink.kept_back c.args.sink.now c.fsck.new.sink in
    cut_checks disk sink c.in-WriteFault.ensures.disk (λ z. cc (c.in-WriteFault.ensures.stopped z)) c.in-WriteFault.ensures.checkup c.in-WriteFault.ensures.call.cause

pub returns-in-DiskFault-clause-checks : goal.returns-in-DiskFault-clause-checks
returns-in-DiskFault-clause-checks g c =
    let disk = done_to g.D.DiskModel.tells g.D.DiskModel.view g.D.DiskModel.faults g.D.DiskModel.steady g.D.DiskModel.left c.args.disk.now c.fsck.new.disk in
    let sink = written_to g.K.Sink.taken g.K.Sink.faults g.K.Sink.kept_back c.args.sink.now c.write_fault.new.sink in
    failed_checks disk sink c.in-DiskFault.ensures.disk c.write_fault.result
    (tells_from fault.DiskFault c.write_fault.result sink (g.K.Sink.taken c.fsck.new.sink) (g.K.Sink.faults c.fsck.new.sink) (g.K.Sink.kept_back c.fsck.new.sink)
    c.in-DiskFault.ensures.checkup.0 c.in-DiskFault.ensures.checkup.1 c.in-DiskFault.ensures.checkup.2 c.write_fault.ensures)
    c.in-DiskFault.ensures.call.cause

pub returns-in-OutOfMemory-clause-checks : goal.returns-in-OutOfMemory-clause-checks
returns-in-OutOfMemory-clause-checks g c =
    let disk = done_to g.D.DiskModel.tells g.D.DiskModel.view g.D.DiskModel.faults g.D.DiskModel.steady g.D.DiskModel.left c.args.disk.now c.fsck.new.disk in
    let sink = written_to g.K.Sink.taken g.K.Sink.faults g.K.Sink.kept_back c.args.sink.now c.write_fault-in-OutOfMemory.new.sink in
    lost_checks disk sink c.in-OutOfMemory.ensures.disk c.write_fault-in-OutOfMemory.result
    (tells_from fault.OutOfMemory c.write_fault-in-OutOfMemory.result sink (g.K.Sink.taken c.fsck.new.sink) (g.K.Sink.faults c.fsck.new.sink) (g.K.Sink.kept_back c.fsck.new.sink)
    c.in-OutOfMemory.ensures.checkup.0 c.in-OutOfMemory.ensures.checkup.1 c.in-OutOfMemory.ensures.checkup.2 c.write_fault-in-OutOfMemory.ensures)
    c.in-OutOfMemory.ensures.call.cause
