use Rattle.std.proofs.Common.{refl, sym, subst, ◌↔◌}
use Rattle.disk_node.specs.FileState.{state_of}
use Rattle.disk_node.specs.Node.{told_state}
use Rattle.cli_commands.specs.Uses.{read_from, written_to}
use Rattle.cli_commands.specs.Crashes.{WasAsked}
use Rattle.cli_commands.specs.NodeEnds.{IsKept, ServesFrom}
use Rattle.cli_commands.proofs.NodeLaws.{kept_state, kept_told, tells_on}
use Rattle.cli_commands.proofs.EndedLaws.{session_told}
use Rattle.cli_commands.proofs.node_command.serve_opened.Goals as goal

pub returns-clause-session : goal.returns-clause-session
returns-clause-session g c =
    let asked = c.serve-served.ensures.session in
    let disk = c.serve-served.new.node.disk in
    let v = g.D.DiskModel.view disk in
    let m = c.serve-served.new.node.memory in
    let rows = c.serve-served.new.node.rows in
    let old = told_state (g.D.DiskModel.is_told c.args.node.disk) (g.D.DiskModel.view c.args.node.disk).seen c.args.node.memory c.args.node.rows in
    let source = read_from g.S.Source.left g.S.Source.faults c.args.source.now c.serve-served.new.source in
    let sink = written_to g.K.Sink.taken g.K.Sink.faults g.K.Sink.kept_back c.args.sink.now c.end_session-status.new.sink in
    let kept : g.D.DiskModel.tells disk → IsKept v (state_of v.seen m rows) = λ t. kept_state v m rows (c.into_disk.ensures.stands t) (c.into_disk.ensures.lasting t) in
    subst
    (λ d. ServesFrom (WasAsked g.D.DiskModel.tells g.D.DiskModel.view c.args.node d (g.K.Sink.taken c.args.sink.now))
    old (g.D.DiskModel.tells d) (g.D.DiskModel.view d) source sink c.end_session-status.result)
    (sym c.into_disk.ensures.disk)
    (session_told c.serve-served.result c.end_session-status.result (g.K.Sink.taken c.serve-served.new.sink) (g.K.Sink.faults c.serve-served.new.sink)
    (g.K.Sink.kept_back c.serve-served.new.sink) sink c.end_session-status.ensures
    asked.0 asked.1 (WasAsked g.D.DiskModel.tells g.D.DiskModel.view c.args.node disk (g.K.Sink.taken c.args.sink.now)) source old (told_state (g.D.DiskModel.is_told disk) v.seen m rows)
    (g.D.DiskModel.tells disk) v
    (record { last = c.serve-served.new.node; trail = asked.2; disk = refl }) asked.3 c.serve-served.ensures.read_fault
    c.serve-served.ensures.no_read_fault c.serve-served.ensures.write_fault c.serve-served.ensures.no_write_fault c.serve-served.ensures.handed
    (kept_told (g.D.DiskModel.is_told disk) v m rows (λ t. kept ((g.met.D.Disk.told_so disk).1 t)))
    (λ t. (state_of v.seen m rows, kept t)))

pub returns-clause-tells : goal.returns-clause-tells
returns-clause-tells g c =
    let disk = c.serve-served.new.node.disk in
    subst (λ d. g.D.DiskModel.tells c.args.node.disk ↔ g.D.DiskModel.tells d) (sym c.into_disk.ensures.disk)
    (tells_on (g.D.DiskModel.tells c.args.node.disk) (g.D.DiskModel.tells disk) (g.D.DiskModel.is_told c.args.node.disk) (g.D.DiskModel.is_told disk)
    (state_of (g.D.DiskModel.view c.args.node.disk).seen c.args.node.memory c.args.node.rows)
    (state_of (g.D.DiskModel.view disk).seen c.serve-served.new.node.memory c.serve-served.new.node.rows)
    (g.met.D.Disk.told_so c.args.node.disk) (g.met.D.Disk.told_so disk) c.serve-served.ensures.told)
