-- What holds of every writer between two calls of its machine.
use Rattle.writer_core.specs.Views.{WriterView}
use Rattle.writer_core.specs.Left.{IsLive}
use Rattle.writer_core.specs.Turns.{IsApt}

pub record IsReady (w : WriterView) : Type 0 where
  -- while a round is under way it has a call to make
  pub live : IsLive w
  -- and the round is one of its task's
  pub apt : IsApt w
