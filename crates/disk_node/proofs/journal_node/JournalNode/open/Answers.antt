use Rattle.disk_node.proofs.NodeOpens.{as_before, opened_up, opened_node}
use Rattle.disk_node.proofs.Recalling.{recalls_nothing}
use Rattle.disk_node.proofs.journal_node.JournalNode.open.Goals as goal

pub invariant_of-result : goal.invariant_of-result
invariant_of-result g c = record {
  node =
      opened_node (g.D.DiskModel.tells c.open_files.new.disk) (g.D.DiskModel.view c.args.disk).seen (g.D.DiskModel.view c.open_files.new.disk)
      c.in-Files.files c.numbers_of.result c.numbers_of.ensures c.in-Files.ensures.rows.2 c.in-Files.ensures.rows.3
      (λ t. c.in-Files.ensures.files (c.open_files.ensures.call.tells.1 t));
  recalls = λ t. recalls_nothing (g.D.DiskModel.view c.open_files.new.disk) c.numbers_of.result c.in-Files.files.table c.in-Ok.recent c.in-Ok.ensures;
}

pub returns-in-Files-clause-opened : goal.returns-in-Files-clause-opened
returns-in-Files-clause-opened g c = λ t.
    opened_up (g.D.DiskModel.view c.args.disk).seen (g.D.DiskModel.view c.open_files.new.disk) c.in-Files.files c.numbers_of.result c.numbers_of.ensures (c.in-Files.ensures.files t)

pub returns-in-Files-clause-moments_ok : goal.returns-in-Files-clause-moments_ok
returns-in-Files-clause-moments_ok g c = λ t. as_before (g.D.DiskModel.view c.args.disk) (g.D.DiskModel.view c.open_files.new.disk) (c.open_files.ensures.moments t)

pub returns-in-BadFile-clause-moments_err : goal.returns-in-BadFile-clause-moments_err
returns-in-BadFile-clause-moments_err g c = λ t. as_before (g.D.DiskModel.view c.args.disk) (g.D.DiskModel.view c.open_files.new.disk) (c.open_files.ensures.moments t)

pub returns-in-DiskFault-clause-moments_err : goal.returns-in-DiskFault-clause-moments_err
returns-in-DiskFault-clause-moments_err g c = λ t. as_before (g.D.DiskModel.view c.args.disk) (g.D.DiskModel.view c.open_files.new.disk) (c.open_files.ensures.moments t)

pub returns-in-OutOfMemory-clause-moments_err : goal.returns-in-OutOfMemory-clause-moments_err
returns-in-OutOfMemory-clause-moments_err g c = λ t. as_before (g.D.DiskModel.view c.args.disk) (g.D.DiskModel.view c.open_files.new.disk) (c.open_files.ensures.moments t)
