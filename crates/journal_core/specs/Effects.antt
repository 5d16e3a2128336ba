-- The durable changes of a node, each of them all or nothing.
use Rattle.std.specs.Prelude.{ℕ, List, [], ◌∷◌, ◌++◌, Option, Some, None, true, false}
use Rattle.journal_core.specs.Views.{BatchView}
use Rattle.journal_core.specs.declared.segment.Segment.{Segment}
use Rattle.journal_core.specs.declared.node_state.NodeState.{NodeState}
use Rattle.journal_core.specs.Segments.{find_segment, put_segment, remove_segment}

pub data Effect : Type 0 where
  Promise : (epoch : ℕ) → Effect
  WriterEpoch : (epoch : ℕ) → Effect
  Commit : (txid : ℕ) → Effect
  NewSegment : (start epoch : ℕ) → Effect
  Append : (start : ℕ) (bodies : List (List ℕ)) → Effect
  Replace : (epoch : ℕ) (batch : BatchView) → Effect
  MakeFinal : (start : ℕ) → Effect
  Remove : (start : ℕ) → Effect

-- with these bodies at the segment's end
abbrev pub appended : List (List ℕ) → Option Segment → List Segment → List Segment
appended bodies None gs = gs
appended bodies (Some g) gs = put_segment (record g { bodies = g.bodies ++ bodies }) gs

-- with the segment final
abbrev pub finalized : Option Segment → List Segment → List Segment
finalized None gs = gs
finalized (Some g) gs = put_segment (record g { is_final = true; accepted = false }) gs

abbrev pub empty_segment : ℕ → ℕ → Segment
empty_segment start epoch = record { start = start; epoch = epoch; bodies = []; is_final = false; accepted = false }

abbrev pub accepted_segment : ℕ → BatchView → Segment
accepted_segment epoch batch = record { start = batch.first; epoch = epoch; bodies = batch.bodies; is_final = false; accepted = true }

-- Each field by a definition of its own, so that one can speak of it alone.
abbrev pub promised_after : ℕ → Effect → ℕ
promised_after p (Promise epoch) = epoch
promised_after p _ = p

abbrev pub writer_after : ℕ → Effect → ℕ
writer_after w (WriterEpoch epoch) = epoch
writer_after w _ = w

abbrev pub committed_after : ℕ → Effect → ℕ
committed_after c (Commit txid) = txid
committed_after c _ = c

abbrev pub segments_after : List Segment → Effect → List Segment
segments_after gs (NewSegment start epoch) = put_segment (empty_segment start epoch) gs
segments_after gs (Append start bodies) = appended bodies (find_segment start gs) gs
segments_after gs (Replace epoch batch) = put_segment (accepted_segment epoch batch) gs
segments_after gs (MakeFinal start) = finalized (find_segment start gs) gs
segments_after gs (Remove start) = remove_segment start gs
segments_after gs _ = gs

abbrev pub after_effect : NodeState → Effect → NodeState
after_effect s e =
    record s {
      promised = promised_after s.promised e;
      writer = writer_after s.writer e;
      committed = committed_after s.committed e;
      segments = segments_after s.segments e;
    }

unfoldable pub after_effects : NodeState → List Effect → NodeState
after_effects s [] = s
after_effects s (e ∷ es) = after_effects (after_effect s e) es
