use Rattle.journal_history.proofs.CellCode.{cut_count}
use Rattle.journal_history.proofs.node_cell.stop_in.Goals as goal

pub returns-in-DiskCalls-clause-count : goal.returns-in-DiskCalls-clause-count
returns-in-DiskCalls-clause-count g c =
    cut_count (g.N.Node.state c.args.node.now) (g.N.Node.state c.act_cut.new.self) c.args.request.now c.in-DiskCalls.calls c.in-DiskCalls.cut c.act_cut.result c.args.stop
    c.act_cut.ensures.cut c.requires.told c.in-DiskCalls.is
