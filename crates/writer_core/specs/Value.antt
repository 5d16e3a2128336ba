-- What contracts see of a `Writer`: the writer, and whether it can keep a piece.
use Rattle.std.specs.Prelude.{Bool}
use Rattle.writer_core.specs.Views.{WriterView}

pub record WriterValue : Type 0 where
  pub view : WriterView
  -- one more piece of a fetch can be kept without memory
  pub room : Bool
