use Rattle.std.proofs.Common.{List, sym, subst}
use Rattle.base_words.specs.Starts.{IsAt}
use Rattle.disk_segment.specs.declared.segment_row.SegmentRow.{SegmentRow}
use Rattle.disk_segment.specs.Rows.{RowsRise, AreSoundRows}
use Rattle.disk_segment.proofs.RowLaws.{remove_sound}
use Rattle.disk_segment.proofs.segment_table.SegmentTable.remove.Goals as goal

pub place_in-requires : goal.place_in-requires
place_in-requires c = subst (λ (rows : List SegmentRow). RowsRise rows) (sym c.deref.ensures.value) c.self.invariant.rising

pub invariant_of-self : goal.invariant_of-self
invariant_of-self c =
    subst (λ (rows : List SegmentRow). AreSoundRows rows) (sym c.remove-row.ensures.items)
    (remove_sound c.args.start c.in-Ok.place c.self.inside.rows.items c.remove-row.result c.self.invariant
    (subst (λ (rows : List SegmentRow). IsAt (λ (row : SegmentRow). row.info.start) c.args.start c.in-Ok.place rows) c.deref.ensures.value c.in-Ok.ensures.found))
