-- Two stopped writers that a takeover doesn't tell apart.
use Rattle.std.specs.Prelude.{◌≡◌}
use Rattle.writer_core.specs.declared.phase.Phase.TheVariants as phase
use Rattle.writer_core.specs.Views.{WriterView}

pub record SameNumbers (w v : WriterView) : Type 0 where
  pub epoch : w.epoch ≡ v.epoch
  pub serial : w.serial ≡ v.serial
  pub committed : w.committed ≡ v.committed
  pub start : w.start ≡ v.start
  pub next : w.next ≡ v.next

-- both are stopped, and differ at most in their last task and in the answers to its last round
pub record AreStoppedAlike (w v : WriterView) : Type 0 where
  pub stopped : w.phase ≡ phase.Stopped
  pub other_stopped : v.phase ≡ phase.Stopped
  pub numbers : SameNumbers w v
  pub left : w.left ≡ v.left
  pub causes : w.causes ≡ v.causes
