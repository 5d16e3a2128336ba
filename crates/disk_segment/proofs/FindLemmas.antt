-- What is found after a change of the list of segments, from the side of the start that is looked
-- for.
use Rattle.std.proofs.Common.{ℕ, ◌≡◌, ◌≢◌, List, sym}
use Rattle.journal_core.specs.declared.segment.Segment.{Segment}
use Rattle.journal_core.specs.Segments.{find_segment, put_segment, remove_segment}
use Rattle.journal_core.proofs.SegmentLists as lists

pub find-put_other : (k : ℕ) (new : Segment) (gs : List Segment) → k ≢ new.start → find_segment k (put_segment new gs) ≡ find_segment k gs
find-put_other k new gs other = lists.find-put_other k new gs (λ e. other (sym e))

pub find-remove_other : (k start : ℕ) (gs : List Segment) → k ≢ start → find_segment k (remove_segment start gs) ≡ find_segment k gs
find-remove_other k start gs other = lists.find-remove_other k start gs (λ e. other (sym e))
