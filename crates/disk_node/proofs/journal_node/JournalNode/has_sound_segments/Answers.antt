use Rattle.std.proofs.Common.{subst, true, ◌≡◌}
use Rattle.disk_node.specs.FileState.{state_of}
use Rattle.disk_node.specs.Node.{AreSoundFrom}
use Rattle.disk_node.proofs.HandedBack.{are_sound}
use Rattle.disk_node.proofs.journal_node.JournalNode.has_sound_segments.Goals as goal

pub returns : goal.returns
returns g c =
    subst (λ p. g.D.DiskModel.tells p.disk → p.memory.up ≡ true → AreSoundFrom (state_of (g.D.DiskModel.view p.disk).seen p.memory p.rows)) c.self.view_is
    (λ t. are_sound (g.D.DiskModel.tells c.self.inside.disk) (g.D.DiskModel.view c.self.inside.disk) c.self.inside.memory.numbers c.self.inside.memory.table
    (λ u. (g.met.D.Disk.sound _ u).seen_now) c.self.invariant.node t)
