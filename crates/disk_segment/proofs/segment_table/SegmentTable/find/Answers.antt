use Rattle.std.proofs.Common.{List, sym, subst}
use Rattle.disk_segment.specs.declared.segment_row.SegmentRow.{SegmentRow}
use Rattle.disk_segment.specs.Rows.{RowsRise}
use Rattle.disk_segment.proofs.segment_table.SegmentTable.find.Goals as goal

pub place_in-requires : goal.place_in-requires
place_in-requires c = subst (λ (rows : List SegmentRow). RowsRise rows) (sym c.deref.ensures.value) c.self.invariant.rising
