-- What holds of every actor's writer: it calls nodes that are there, and while a round is under way
-- it names a call.
use Rattle.std.specs.Prelude.{ℕ, Bool, true, false}
use Rattle.writer_core.specs.declared.turn.Turn.{Turn}
use Rattle.writer_core.specs.declared.turn.Turn.TheVariants as turn
use Rattle.writer_core.specs.Views.{WriterView}
use Rattle.writer_core.specs.Left.{IsLive}
use Rattle.run_safety.specs.Sized.{Sized}

pub record IsReady (nodes : ℕ) (w : WriterView) : Type 0 where
  pub live : IsLive w
  pub sized : Sized nodes w

abbrev pub is_going : Turn → Bool
is_going turn.Going = true
is_going _ = false
