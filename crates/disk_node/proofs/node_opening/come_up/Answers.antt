use Rattle.std.proofs.Common.{refl}
use Rattle.disk_node.proofs.NodeStands.{rows_start}
use Rattle.disk_node.proofs.NodeOpens.{as_before, opened_node}
use Rattle.disk_node.proofs.Reopens.{node_stays, state_stays, restarted_up, never_bad}
use Rattle.disk_node.proofs.node_opening.come_up.Goals as goal

pub returns-in-Files-clause-node : goal.returns-in-Files-clause-node
returns-in-Files-clause-node g c =
    opened_node (g.D.DiskModel.tells c.open_files.new.disk) (g.D.DiskModel.view c.args.disk.now).seen (g.D.DiskModel.view c.open_files.new.disk)
    c.in-Files.files c.numbers_of.result c.numbers_of.ensures c.in-Files.ensures.rows.2 c.in-Files.ensures.rows.3
    (λ t. c.in-Files.ensures.files (c.open_files.ensures.call.tells.1 t))

pub returns-in-Files-clause-restart : goal.returns-in-Files-clause-restart
returns-in-Files-clause-restart g c = λ t s has.
    restarted_up (g.D.DiskModel.view c.args.disk.now) (g.D.DiskModel.view c.open_files.new.disk) c.args.memory.now c.numbers_of.result c.args.table.now
    c.in-Files.files s c.requires.down (rows_start c.args.table.now c.requires.node.told) c.numbers_of.ensures (c.in-Files.ensures.files t) has

pub returns-in-BadFile-clause-node : goal.returns-in-BadFile-clause-node
returns-in-BadFile-clause-node g c =
    node_stays (g.D.DiskModel.tells c.args.disk.now) (g.D.DiskModel.tells c.open_files.new.disk) (g.D.DiskModel.view c.args.disk.now)
    (g.D.DiskModel.view c.open_files.new.disk) c.args.memory.now c.args.table.now c.open_files.ensures.call.tells c.requires.node c.requires.down
    c.open_files.ensures.seen

pub returns-in-BadFile-clause-restart : goal.returns-in-BadFile-clause-restart
returns-in-BadFile-clause-restart g c = λ t s has.
    absurd (never_bad (g.D.DiskModel.view c.args.disk.now) (g.D.DiskModel.view c.open_files.new.disk).seen c.args.memory.now c.args.table.now s
    c.in-BadFile.name c.requires.down (rows_start c.args.table.now c.requires.node.told) has (c.in-BadFile.ensures.bad t))

pub returns-in-DiskFault-clause-node : goal.returns-in-DiskFault-clause-node
returns-in-DiskFault-clause-node g c =
    node_stays (g.D.DiskModel.tells c.args.disk.now) (g.D.DiskModel.tells c.open_files.new.disk) (g.D.DiskModel.view c.args.disk.now)
    (g.D.DiskModel.view c.open_files.new.disk) c.args.memory.now c.args.table.now c.open_files.ensures.call.tells c.requires.node c.requires.down
    c.open_files.ensures.seen

pub returns-in-DiskFault-clause-restart : goal.returns-in-DiskFault-clause-restart
returns-in-DiskFault-clause-restart g c = λ t s has.
    (s, state_stays (g.D.DiskModel.view c.args.disk.now) (g.D.DiskModel.view c.open_files.new.disk) c.args.memory.now c.args.table.now s c.requires.down (c.open_files.ensures.seen t) has, refl)

pub returns-in-OutOfMemory-clause-node : goal.returns-in-OutOfMemory-clause-node
returns-in-OutOfMemory-clause-node g c =
    node_stays (g.D.DiskModel.tells c.args.disk.now) (g.D.DiskModel.tells c.open_files.new.disk) (g.D.DiskModel.view c.args.disk.now)
    (g.D.DiskModel.view c.open_files.new.disk) c.args.memory.now c.args.table.now c.open_files.ensures.call.tells c.requires.node c.requires.down
    c.open_files.ensures.seen

pub returns-in-OutOfMemory-clause-restart : goal.returns-in-OutOfMemory-clause-restart
returns-in-OutOfMemory-clause-restart g c = λ t s has.
    (s, state_stays (g.D.DiskModel.view c.args.disk.now) (g.D.DiskModel.view c.open_files.new.disk) c.args.memory.now c.args.table.now s c.requires.down (c.open_files.ensures.seen t) has, refl)

pub returns-in-Files-clause-moments : goal.returns-in-Files-clause-moments
returns-in-Files-clause-moments g c = λ t. as_before (g.D.DiskModel.view c.args.disk.now) (g.D.DiskModel.view c.open_files.new.disk) (c.open_files.ensures.moments t)

pub returns-in-BadFile-clause-moments : goal.returns-in-BadFile-clause-moments
returns-in-BadFile-clause-moments g c = λ t. as_before (g.D.DiskModel.view c.args.disk.now) (g.D.DiskModel.view c.open_files.new.disk) (c.open_files.ensures.moments t)

pub returns-in-DiskFault-clause-moments : goal.returns-in-DiskFault-clause-moments
returns-in-DiskFault-clause-moments g c = λ t. as_before (g.D.DiskModel.view c.args.disk.now) (g.D.DiskModel.view c.open_files.new.disk) (c.open_files.ensures.moments t)

pub returns-in-OutOfMemory-clause-moments : goal.returns-in-OutOfMemory-clause-moments
returns-in-OutOfMemory-clause-moments g c = λ t. as_before (g.D.DiskModel.view c.args.disk.now) (g.D.DiskModel.view c.open_files.new.disk) (c.open_files.ensures.moments t)
