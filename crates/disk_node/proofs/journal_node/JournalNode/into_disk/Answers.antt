use Rattle.std.proofs.Common.{subst, true, ◌≡◌}
use Rattle.base_disk.specs.View.{AllLeave}
use Rattle.disk_files.specs.Durable.{StandsAs}
use Rattle.disk_node.specs.FileState.{state_of}
use Rattle.disk_node.proofs.HandedBack.{files_stand, crashes_stand}
use Rattle.disk_node.proofs.journal_node.JournalNode.into_disk.Goals as goal

pub returns-clause-stands : goal.returns-clause-stands
returns-clause-stands g c =
    subst (λ p. g.D.DiskModel.tells p.disk → StandsAs (g.D.DiskModel.view p.disk).seen (state_of (g.D.DiskModel.view p.disk).seen p.memory p.rows)) c.self.view_is
    (λ t. files_stand (g.D.DiskModel.tells c.self.inside.disk) (g.D.DiskModel.view c.self.inside.disk) c.self.inside.memory.numbers c.self.inside.memory.table
    (λ u. (g.met.D.Disk.sound _ u).seen_now) c.self.invariant.node t)

pub returns-clause-lasting : goal.returns-clause-lasting
returns-clause-lasting g c =
    subst (λ p. g.D.DiskModel.tells p.disk → p.memory.up ≡ true → AllLeave (g.D.DiskModel.view p.disk) (λ x. StandsAs x (state_of (g.D.DiskModel.view p.disk).seen p.memory p.rows))) c.self.view_is
    (λ t. crashes_stand (g.D.DiskModel.tells c.self.inside.disk) (g.D.DiskModel.view c.self.inside.disk) c.self.inside.memory.numbers c.self.inside.memory.table
    (λ u. (g.met.D.Disk.sound _ u).seen_now) c.self.invariant.node t)
