use Rattle.std.proofs.Common.{List, subst}
use Rattle.disk_segment.specs.declared.segment_row.SegmentRow.{SegmentRow}
use Rattle.disk_files.specs.OpenSteps.{IsUnfilledRow}
use Rattle.disk_files.proofs.OpenRows.{unfilled_small}
use Rattle.disk_files.proofs.OpenHolds.{files_within}
use Rattle.disk_files.proofs.opening.files_of.Goals as goal

pub bad_progress-requires : goal.bad_progress-requires
bad_progress-requires c = unfilled_small c.args.table c.in-Some.start c.as_slice.ensures.sound
    (subst (λ (rows : List SegmentRow). IsUnfilledRow rows c.in-Some.start) c.as_slice.ensures.rows c.in-Some.ensures)

pub returns-in-None-clause-rows : goal.returns-in-None-clause-rows
returns-in-None-clause-rows c = files_within c.args.numbers c.args.table c.requires c.as_slice.ensures.sound
