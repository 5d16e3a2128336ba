-- Rows of a table tell some list of segments.
use Rattle.std.proofs.Common.{◌≡◌, ℕ, ◌+◌, ◌-◌, List, [], ◌∷◌, length, ap, arith, replicate}
use Rattle.std.proofs.lemmas.List.{length-replicate}
use Rattle.journal_core.specs.declared.segment.Segment.{Segment}
use Rattle.journal_core.specs.Segments.{end_of, AreAbove, AreRising, AreWithin}
use Rattle.disk_segment.specs.declared.segment_row.SegmentRow.{SegmentRow}
use Rattle.disk_segment.specs.Rows.{RowsAbove, RowsRise, IsRowWithin, RowsWithin, AreSoundRows}
use Rattle.disk_segment.specs.RowsTell.{AreInfos, AreStarts, TellSegments}

abbrev empty_body : List ℕ
empty_body = []

-- a segment with as many edits as the row tells
abbrev segment_told : SegmentRow → Segment
segment_told row = record {
  start = row.info.start;
  epoch = row.info.epoch;
  bodies = replicate (row.info.end + 1 - row.info.start) empty_body;
  is_final = row.info.is_final;
  accepted = row.info.accepted;
}

abbrev segments_told : List SegmentRow → List Segment
segments_told [] = []
segments_told (row ∷ rows) = segment_told row ∷ segments_told rows

count_told : (row : SegmentRow) → length (segment_told row).bodies ≡ row.info.end + 1 - row.info.start
count_told row = length-replicate (row.info.end + 1 - row.info.start) empty_body

end_told : (row : SegmentRow) → IsRowWithin row → row.info.end ≡ end_of (segment_told row)
end_told row is = omega (arith, is.0, is.2, count_told row)

infos_told : (rows : List SegmentRow) → RowsWithin rows → AreInfos (segments_told rows) rows
infos_told [] within = tt
infos_told (row ∷ rows) within = (ap (λ (n : ℕ). record row.info { end = n }) (end_told row within.0), infos_told rows within.1)

above_told : (start : ℕ) (rows : List SegmentRow) → RowsAbove start rows → AreAbove start (segments_told rows)
above_told start [] above = tt
above_told start (row ∷ rows) above = (above.0, above_told start rows above.1)

rising_told : (rows : List SegmentRow) → RowsRise rows → AreRising (segments_told rows)
rising_told [] rise = tt
rising_told (row ∷ rows) rise = (above_told row.info.start rows rise.0, rising_told rows rise.1)

within_told : (rows : List SegmentRow) → RowsWithin rows → AreWithin (segments_told rows)
within_told [] within = tt
within_told (row ∷ rows) within = (omega (arith, within.0.2, within.0.3, count_told row), within_told rows within.1)

starts_told : (rows : List SegmentRow) → RowsWithin rows → AreStarts (segments_told rows)
starts_told [] within = tt
starts_told (row ∷ rows) within = ((within.0.0, within.0.1), starts_told rows within.1)

pub tell_segments : (rows : List SegmentRow) → AreSoundRows rows → TellSegments rows
tell_segments rows sound = record {
  segments = segments_told rows;
  told = infos_told rows sound.within;
  sound = record { rising = rising_told rows sound.rising; within = within_told rows sound.within };
  starts = starts_told rows sound.within;
}
