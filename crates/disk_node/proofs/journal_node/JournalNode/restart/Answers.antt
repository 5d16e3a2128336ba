use Rattle.std.proofs.Common.{subst, Option, ◌≡◌, Bool, false, true}
use Rattle.std.specs.Prelude.{Result, Ok}
use Rattle.journal_core.specs.declared.node_fail.NodeFail.{NodeFail}
use Rattle.journal_core.specs.declared.node_state.NodeState.{NodeState}
use Rattle.journal_core.specs.Stops.{Restarts}
use Rattle.disk_node.specs.Node.{told_state}
use Rattle.disk_node.proofs.NodeStands.{told_both}
use Rattle.disk_node.proofs.Reopens.{restarts_up}
use Rattle.disk_node.proofs.journal_node.JournalNode.restart.Goals as goal

pub returns-then-self-clause-restart : goal.returns-then-self-clause-restart
returns-then-self-clause-restart g c =
    let up : c.self.inside.memory.numbers.up ≡ true = c.if-self.true in
    let answer : Result Bool NodeFail = Ok false in
    subst (λ p. Restarts (told_state (g.D.DiskModel.is_told p.disk) (g.D.DiskModel.view p.disk).seen p.memory p.rows) answer
    (told_state (g.D.DiskModel.is_told p.disk) (g.D.DiskModel.view p.disk).seen p.memory p.rows)) c.self.view_is
    (told_both (g.D.DiskModel.is_told c.self.inside.disk) (g.D.DiskModel.is_told c.self.inside.disk)
    (λ (x y : Option NodeState). Restarts x answer y) tt (g.met.D.Disk.told_so c.self.inside.disk) (g.met.D.Disk.told_so c.self.inside.disk) (λ t. t, λ t. t)
    c.self.invariant.node c.self.invariant.node (λ t. (g.met.D.Disk.sound _ t).seen_now) (λ t. (g.met.D.Disk.sound _ t).seen_now)
    (λ t s has. restarts_up (g.D.DiskModel.view c.self.inside.disk) c.self.inside.memory.numbers c.self.inside.memory.table s up has))

pub returns-clause-restart : goal.returns-clause-restart
returns-clause-restart g c =
    subst (λ p. Restarts (told_state (g.D.DiskModel.is_told p.disk) (g.D.DiskModel.view p.disk).seen p.memory p.rows) c.come_up.result
    (told_state (g.D.DiskModel.is_told c.come_up.new.disk) (g.D.DiskModel.view c.come_up.new.disk).seen c.come_up.new.memory c.come_up.new.table))
    c.self.view_is
    (told_both (g.D.DiskModel.is_told c.self.inside.disk) (g.D.DiskModel.is_told c.come_up.new.disk)
    (λ (x y : Option NodeState). Restarts x c.come_up.result y) tt (g.met.D.Disk.told_so c.self.inside.disk) (g.met.D.Disk.told_so c.come_up.new.disk) c.come_up.ensures.tells
    c.self.invariant.node c.come_up.ensures.node (λ t. (g.met.D.Disk.sound _ t).seen_now) (λ t. (g.met.D.Disk.sound _ t).seen_now)
    (λ t s has. c.come_up.ensures.restart t s has))
