-- What a durable effect of a request needs of the segments that it is done over, and what it makes
-- of their rows.
use Rattle.std.specs.Prelude.{ℕ, ◌≡◌, ◌≤◌, ◌<◌, ◌+◌, ◌-◌, Bool, true, false, List, [], ◌∷◌, length, Option, Some, None}
use Rattle.journal_core.specs.Views.{BatchView, last_txid}
use Rattle.journal_core.specs.declared.segment.Segment.{Segment}
use Rattle.journal_core.specs.declared.request.Request.{Request}
use Rattle.journal_core.specs.Limits.{max_number}
use Rattle.journal_core.specs.declared.segment_info.SegmentInfo.{SegmentInfo}
use Rattle.journal_core.specs.Segments.{find_segment, info_of, IsNotFinal}
use Rattle.journal_core.specs.Effects.{segments_after}
use Rattle.journal_core.specs.Cuts.{has_record_of}
use Rattle.disk_frame.specs.Frames.{frame_bytes}
use Rattle.disk_segment.specs.declared.segment_row.SegmentRow.{SegmentRow}
use Rattle.disk_segment.specs.Rows.{find_row, put_row, remove_row}
use Rattle.disk_segment.specs.Calls.{HasNoEdit}
pub use Rattle.journal_step.specs.Durable.{batch_of, effect_of, puts_row}
use Rattle.journal_step.specs.declared.durable_effect.DurableEffect.{DurableEffect}
use Rattle.journal_step.specs.declared.durable_effect.DurableEffect.TheVariants as durable

-- ## What an effect needs
-- no start or epoch in a file is 0 or above 2^62
abbrev pub IsNumbered : ℕ → Type 0
IsNumbered n = (1 ≤ n) × (n ≤ max_number)

pub record IsBeginDue (start epoch : ℕ) (gs : List Segment) : Type 0 where
  pub start_fits : IsNumbered start
  pub epoch_fits : IsNumbered epoch
  pub not_final : IsNotFinal (find_segment start gs)
  pub no_edit : HasNoEdit (find_segment start gs)

-- the batch is next in this segment in progress, whose file ends there
pub record IsAppendDue (start at : ℕ) (b : BatchView) (gs : List Segment) (rows : List SegmentRow) : Type 0 where
  pub segment : Segment
  pub row : SegmentRow
  pub known : find_segment start gs ≡ Some segment
  pub start_is : segment.start ≡ start
  pub in_progress : segment.is_final ≡ false
  pub told : find_row start rows ≡ Some row
  pub place : row.whole_length ≡ at
  pub small : at < max_number
  pub next : b.first ≡ start + length segment.bodies
  pub last : last_txid b ≤ max_number

pub record IsAcceptDue (epoch : ℕ) (again : Bool) (b : BatchView) (gs : List Segment) : Type 0 where
  pub start_fits : IsNumbered b.first
  pub epoch_fits : IsNumbered epoch
  pub last : last_txid b ≤ max_number
  pub not_final : IsNotFinal (find_segment b.first gs)
  pub record_is : again ≡ has_record_of epoch (find_segment b.first gs)

pub record IsFinalizeDue (start end : ℕ) (accepted : Bool) (gs : List Segment) : Type 0 where
  pub segment : Segment
  pub known : find_segment start gs ≡ Some segment
  pub in_progress : segment.is_final ≡ false
  pub start_fits : IsNumbered start
  pub holds : start ≤ end
  pub end_fits : end ≤ max_number
  pub ends : end + 1 ≡ start + length segment.bodies
  pub accepted_is : segment.accepted ≡ accepted

pub record IsRemoveDue (info : SegmentInfo) (gs : List Segment) : Type 0 where
  pub segment : Segment
  pub known : find_segment info.start gs ≡ Some segment
  pub info_is : info ≡ info_of segment

abbrev pub IsDue : List Segment → List SegmentRow → Request → DurableEffect → Type 0
IsDue gs rows r (durable.Promise epoch) = epoch ≤ max_number
IsDue gs rows r (durable.WriterEpoch epoch) = epoch ≤ max_number
IsDue gs rows r (durable.Commit txid) = txid ≤ max_number
IsDue gs rows r (durable.NewSegment start epoch) = IsBeginDue start epoch gs
IsDue gs rows r (durable.Append start at) = IsAppendDue start at (batch_of r) gs rows
IsDue gs rows r (durable.Replace epoch again) = IsAcceptDue epoch again (batch_of r) gs
IsDue gs rows r (durable.MakeFinal start end accepted) = IsFinalizeDue start end accepted gs
IsDue gs rows r (durable.Remove info) = IsRemoveDue info gs

-- the effect leaves a row that a table can hold
abbrev pub IsInRange : Request → DurableEffect → Type 0
IsInRange r (durable.NewSegment start epoch) = IsNumbered start
IsInRange r (durable.Append start at) = start ≤ last_txid (batch_of r) + 1
IsInRange r (durable.Replace epoch again) = IsNumbered (batch_of r).first
IsInRange r _ = Unit {0}

-- ## What an effect makes of the rows
abbrev pub begun_row : ℕ → ℕ → SegmentRow
begun_row start epoch = record { info = record { start = start; end = start - 1; epoch = epoch; is_final = false; accepted = false }; whole_length = 24 }

-- a header and one frame
abbrev pub accepted_row : ℕ → BatchView → SegmentRow
accepted_row epoch b =
    record { info = record { start = b.first; end = last_txid b; epoch = epoch; is_final = false; accepted = true }; whole_length = 24 + length (frame_bytes b) }

abbrev pub appended_row : ℕ → ℕ → SegmentRow → SegmentRow
appended_row end place row = record { info = record row.info { end = end }; whole_length = place }

abbrev pub final_row : SegmentRow → SegmentRow
final_row row = record row { info = record row.info { is_final = true; accepted = false } }

abbrev pub changed : (SegmentRow → SegmentRow) → Option SegmentRow → List SegmentRow → List SegmentRow
changed change None rows = rows
changed change (Some row) rows = put_row (change row) rows

-- An append tells the place where the frames now end.
abbrev pub rows_after : Request → DurableEffect → ℕ → List SegmentRow → List SegmentRow
rows_after r (durable.Promise epoch) place rows = rows
rows_after r (durable.WriterEpoch epoch) place rows = rows
rows_after r (durable.Commit txid) place rows = rows
rows_after r (durable.NewSegment start epoch) place rows = put_row (begun_row start epoch) rows
rows_after r (durable.Append start at) place rows = changed (appended_row (last_txid (batch_of r)) place) (find_row start rows) rows
rows_after r (durable.Replace epoch again) place rows = put_row (accepted_row epoch (batch_of r)) rows
rows_after r (durable.MakeFinal start end accepted) place rows = changed final_row (find_row start rows) rows
rows_after r (durable.Remove info) place rows = remove_row info.start rows

-- each effect is due where those before it were done
abbrev pub AreDue : List Segment → List SegmentRow → Request → List DurableEffect → Type 0
AreDue gs rows r [] = Unit {0}
AreDue gs rows r (d ∷ ds) = IsDue gs rows r d × ((place : ℕ) → AreDue (segments_after gs (effect_of r d)) (rows_after r d place rows) r ds)
