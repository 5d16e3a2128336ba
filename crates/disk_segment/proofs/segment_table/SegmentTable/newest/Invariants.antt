use Rattle.std.proofs.Common.{◌≡◌, ◌≤◌, None, drop, length}
use Rattle.disk_segment.specs.Rows.{newest_row}
use Rattle.disk_segment.proofs.segment_table.SegmentTable.newest.Given as goal

-- no row from the place on is of a segment that holds an edit
abbrev pub invariant-loop-place : goal.invariant-loop-place
invariant-loop-place l = (l.place ≤ length l.self-inside.rows.items) × (newest_row (drop l.place l.self-inside.rows.items) ≡ None)

abbrev pub decreases-loop-place : goal.decreases-loop-place
decreases-loop-place l = l.place
