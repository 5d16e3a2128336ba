use Rattle.std.proofs.Common.{◌≡◌, ◌≤◌, None, drop, length}
use Rattle.journal_core.specs.Segments.{newest}
use Rattle.journal_core.proofs.segment_list.SegmentList.newest.Given as goal

-- no segment from the place on holds an edit
abbrev pub invariant-loop-place : goal.invariant-loop-place
invariant-loop-place l = (l.place ≤ length l.self-inside.items.items) × (newest (drop l.place l.self-inside.items.items) ≡ None)

abbrev pub decreases-loop-place : goal.decreases-loop-place
decreases-loop-place l = l.place
