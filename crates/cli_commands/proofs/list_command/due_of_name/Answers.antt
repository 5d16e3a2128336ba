use Rattle.std.proofs.Common.{Ok, refl}
use Rattle.base_disk.proofs.Causes.{none_at_ok}
use Rattle.cli_commands.specs.Tools.{shown}
use Rattle.cli_commands.specs.Uses.{done_to}
use Rattle.cli_commands.proofs.ListLaws.{found_ok, found_err, found_no_fault}
use Rattle.cli_commands.proofs.list_command.due_of_name.Goals as goal

pub returns-in-Ok-clause-text : goal.returns-in-Ok-clause-text
returns-in-Ok-clause-text g c =
    found_ok c.args.name.now (done_to g.D.DiskModel.tells g.D.DiskModel.view g.D.DiskModel.faults g.D.DiskModel.steady g.D.DiskModel.left c.args.disk.now c.find.new.disk)
    (λ z. found_no_fault c.in-Ok.found (c.in-Ok.ensures.stopped z))
    (none_at_ok (g.D.DiskModel.faults c.args.disk.now) (g.D.DiskModel.faults c.find.new.disk) (g.D.DiskModel.steady c.args.disk.now) (g.D.DiskModel.steady c.find.new.disk)
    (Ok c.in-Ok.found) c.in-Ok.ensures.call.cause refl) (shown c.args.tool) (λ text. text.items) c.in-Ok.found c.due_of_found.result c.in-Ok.ensures.found c.due_of_found.ensures.text

pub returns-in-Ok-clause-fault : goal.returns-in-Ok-clause-fault
returns-in-Ok-clause-fault g c =
    found_err c.args.name.now (done_to g.D.DiskModel.tells g.D.DiskModel.view g.D.DiskModel.faults g.D.DiskModel.steady g.D.DiskModel.left c.args.disk.now c.find.new.disk)
    (λ z. found_no_fault c.in-Ok.found (c.in-Ok.ensures.stopped z))
    (none_at_ok (g.D.DiskModel.faults c.args.disk.now) (g.D.DiskModel.faults c.find.new.disk) (g.D.DiskModel.steady c.args.disk.now) (g.D.DiskModel.steady c.find.new.disk)
    (Ok c.in-Ok.found) c.in-Ok.ensures.call.cause refl) (shown c.args.tool) c.in-Ok.found c.due_of_found.result c.in-Ok.ensures.found c.due_of_found.ensures.fault
