-- What contracts see of a writer.
use Rattle.std.specs.Prelude.{ℕ, List, Bool}
use Rattle.writer_core.specs.declared.phase.Phase.{Phase}
use Rattle.writer_core.specs.declared.phase.Aim.{Aim}
use Rattle.writer_core.specs.declared.slot.Slot.{Slot}
use Rattle.writer_core.specs.declared.cause.Cause.{Cause}

pub record WriterView : Type 0 where
  -- between tasks, or in a round; and what the task under way is for
  pub phase : Phase
  pub aim : Aim
  pub epoch : ℕ
  -- the serial of the round under way, or of the next one
  pub serial : ℕ
  pub committed : ℕ
  -- the open segment's start, and the txid of the next edit
  pub start : ℕ
  pub next : ℕ
  -- by node: whether it is left out until the next segment
  pub left : List Bool
  -- by node: its part in the round under way, or in the last one
  pub slots : List Slot
  -- by node: what came of its part in the last round that ended
  pub causes : List Cause
