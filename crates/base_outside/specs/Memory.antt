-- A source and a sink in memory.
use Rattle.std.specs.Prelude.{ℕ, Bool, ◌||◌, List, length, nat_le}
use Rattle.base_outside.specs.Plan.{FaultPlanView, is_listed}

-- the bytes left
pub record MemSourceView : Type 0 where
  pub left : List ℕ
  pub plan : FaultPlanView

-- the bytes taken, how many of them aren't handed on, and how many there is room for in all
pub record MemSinkView : Type 0 where
  pub taken : List ℕ
  pub kept : ℕ
  pub room : ℕ
  pub plan : FaultPlanView

-- the next write fails: it is listed, or no room is left
abbrev pub fails_next : MemSinkView → Bool
fails_next sink = is_listed sink.plan || nat_le sink.room (length sink.taken)
