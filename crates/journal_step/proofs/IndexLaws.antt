-- What an entry of an index tells of its segment.
use Rattle.std.proofs.Common.{ℕ, ◌≡◌, Option, refl}
use Rattle.journal_core.specs.declared.segment.Segment.{Segment}
use Rattle.journal_core.specs.Places.{is_old}
use Rattle.journal_step.specs.declared.segment_index.IndexedSegment.{IndexedSegment}
use Rattle.journal_step.specs.Index.{IsEntryOf, entry_is_old}

-- a purge goes by what the entry tells
pub old_told : (opened newest : Option ℕ) (committed least : ℕ) (g : Segment) (e : IndexedSegment) → IsEntryOf g e
    → entry_is_old opened newest committed least e ≡ is_old opened newest committed least g
old_told opened newest committed least g e h = rw (h.edit, h.info) refl
