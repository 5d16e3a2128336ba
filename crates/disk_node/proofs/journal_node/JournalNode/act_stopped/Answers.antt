use Rattle.std.proofs.Common.{subst, Option}
use Rattle.journal_core.specs.declared.node_state.NodeState.{NodeState}
use Rattle.disk_node.specs.Node.{told_state}
use Rattle.disk_node.proofs.NodeStands.{told_both}
use Rattle.journal_core.specs.Stops.{Stops}
use Rattle.disk_node.proofs.journal_node.JournalNode.act_stopped.Goals as goal

pub returns-clause-stop : goal.returns-clause-stop
returns-clause-stop g c =
    subst (λ p. Stops (told_state (g.D.DiskModel.is_told p.disk) (g.D.DiskModel.view p.disk).seen p.memory p.rows) c.args.request.now c.args.keep
    c.stop.result (told_state (g.D.DiskModel.is_told c.stop.new.disk) (g.D.DiskModel.view c.stop.new.disk).seen c.stop.new.memory.numbers
    c.stop.new.memory.table)) c.self.view_is
    (told_both (g.D.DiskModel.is_told c.self.inside.disk) (g.D.DiskModel.is_told c.stop.new.disk)
    (λ (x y : Option NodeState). Stops x c.args.request.now c.args.keep c.stop.result y) tt (g.met.D.Disk.told_so c.self.inside.disk)
    (g.met.D.Disk.told_so c.stop.new.disk) c.stop.ensures.tells
    c.self.invariant.node c.stop.ensures.node (λ t. (g.met.D.Disk.sound _ t).seen_now) (λ t. (g.met.D.Disk.sound _ t).seen_now)
    (λ t s has. c.stop.ensures.stop t s has))
