-- A table that stands in place of a node's segments: its rows tell their states.
use Rattle.std.specs.Prelude.{List}
use Rattle.journal_core.specs.declared.segment.Segment.{Segment}
use Rattle.journal_core.specs.declared.segment_line.SegmentLine.{SegmentLine}
use Rattle.journal_core.specs.Segments.{end_of}
use Rattle.disk_segment.specs.declared.segment_row.SegmentRow.{SegmentRow}
pub use Rattle.journal_step.specs.Index.{state_with}
use Rattle.disk_segment.specs.RowsTell.{AreInfos, AreStarts}

-- The rows tell the segments. No start is 0, so that an end below the start says that there is no
-- edit.
pub record Tells (gs : List Segment) (rows : List SegmentRow) : Type 0 where
  pub infos : AreInfos gs rows
  pub starts : AreStarts gs

-- a segment's line in a manifest
abbrev pub line_of : Segment → SegmentLine
line_of g = record { start = g.start; end = end_of g; is_final = g.is_final; epoch = g.epoch }
