use Rattle.std.proofs.Common.{subst, ap, Option, ◌≡◌, false, true}
use Rattle.journal_core.specs.declared.node_state.NodeState.{NodeState}
use Rattle.disk_node.specs.Node.{told_state}
use Rattle.disk_node.proofs.NodeStands.{told_both}
use Rattle.journal_core.specs.Stops.{Kills}
use Rattle.disk_node.proofs.ActingStops.{node_goes_down, kills_up, kills_down}
use Rattle.disk_node.proofs.Recalling.{recalls_down}
use Rattle.disk_node.proofs.journal_node.JournalNode.kill.Goals as goal

pub returns-then-not-self-clause-kill : goal.returns-then-not-self-clause-kill
returns-then-not-self-clause-kill g c =
    let down : c.self.inside.memory.numbers.up ≡ false = c.if-not-self.true in
    subst (λ p. Kills (told_state (g.D.DiskModel.is_told p.disk) (g.D.DiskModel.view p.disk).seen p.memory p.rows) false
    (told_state (g.D.DiskModel.is_told p.disk) (g.D.DiskModel.view p.disk).seen p.memory p.rows)) c.self.view_is
    (told_both (g.D.DiskModel.is_told c.self.inside.disk) (g.D.DiskModel.is_told c.self.inside.disk)
    (λ (x y : Option NodeState). Kills x false y) tt (g.met.D.Disk.told_so c.self.inside.disk) (g.met.D.Disk.told_so c.self.inside.disk) (λ t. t, λ t. t)
    c.self.invariant.node c.self.invariant.node (λ t. (g.met.D.Disk.sound _ t).seen_now) (λ t. (g.met.D.Disk.sound _ t).seen_now)
    (λ t s has. kills_down (g.D.DiskModel.view c.self.inside.disk) c.self.inside.memory.numbers c.self.inside.memory.table s down has))

pub invariant_of-self : goal.invariant_of-self
invariant_of-self g c = record {
  node =
      node_goes_down (g.D.DiskModel.tells c.self.inside.disk) (g.D.DiskModel.view c.self.inside.disk) c.self.inside.memory.numbers c.go_down.new.memory
      c.self.inside.memory.table (λ t. (g.met.D.Disk.sound _ t).seen_now) c.self.invariant.node c.go_down.ensures.memory c.go_down.ensures.rise;
  recalls = λ t. recalls_down (g.D.DiskModel.view c.self.inside.disk) c.go_down.new.memory c.self.inside.memory.table c.self.inside.memory.recent (ap (λ
      (m : NodeState). m.up) c.go_down.ensures.memory);
}

pub returns-clause-kill : goal.returns-clause-kill
returns-clause-kill g c =
    let up : c.self.inside.memory.numbers.up ≡ true = c.if-not-self.false in
    subst (λ p. Kills (told_state (g.D.DiskModel.is_told p.disk) (g.D.DiskModel.view p.disk).seen p.memory p.rows) true
    (told_state (g.D.DiskModel.is_told c.self.inside.disk) (g.D.DiskModel.view c.self.inside.disk).seen c.go_down.new.memory c.self.inside.memory.table))
    c.self.view_is
    (told_both (g.D.DiskModel.is_told c.self.inside.disk) (g.D.DiskModel.is_told c.self.inside.disk)
    (λ (x y : Option NodeState). Kills x true y) tt (g.met.D.Disk.told_so c.self.inside.disk) (g.met.D.Disk.told_so c.self.inside.disk) (λ t. t, λ t. t)
    c.self.invariant.node (invariant_of-self g c).node (λ t. (g.met.D.Disk.sound _ t).seen_now) (λ t. (g.met.D.Disk.sound _ t).seen_now)
    (λ t s has. kills_up (g.D.DiskModel.view c.self.inside.disk) c.self.inside.memory.numbers c.go_down.new.memory c.self.inside.memory.table s
    (g.met.D.Disk.sound _ t).seen_now up has c.go_down.ensures.memory c.go_down.ensures.rise))
