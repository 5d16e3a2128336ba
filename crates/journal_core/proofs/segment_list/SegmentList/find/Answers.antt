use Rattle.std.proofs.Common.{List, sym, subst}
use Rattle.journal_core.specs.declared.segment.Segment.{Segment}
use Rattle.journal_core.specs.Segments.{AreRising}
use Rattle.journal_core.proofs.segment_list.SegmentList.find.Goals as goal

pub place_in-requires : goal.place_in-requires
place_in-requires c = subst (λ (gs : List Segment). AreRising gs) (sym c.deref.ensures.value) c.self.invariant.rising
