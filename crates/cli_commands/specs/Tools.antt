-- What is made of which kind of file.
use Rattle.std.specs.Prelude.{ℕ, List}
use Rattle.cli_commands.specs.declared.tool.SegmentTool.{SegmentTool}
use Rattle.cli_commands.specs.declared.tool.ImageTool.{ImageTool}
use Rattle.cli_commands.specs.declared.tool.Tool.{Tool as Lent}
use Rattle.cli_commands.specs.declared.tool.Tool.TheVariants as lent

-- a listing of a segment's file or of an image, the listing of a path of an image, or the segment
-- of a listing as JSON
pub data Tool : Type 0 where
  Oev : SegmentTool → Tool
  Oiv : ImageTool → Tool
  Ls : (path : List ℕ) → Tool
  Back : (start epoch : ℕ) → Tool

-- a tool as the code lends it
abbrev pub shown : Lent → Tool
shown (lent.Oev of) = Oev of
shown (lent.Oiv of) = Oiv of
shown (lent.Ls path) = Ls path.now
shown (lent.Back start epoch) = Back start epoch
