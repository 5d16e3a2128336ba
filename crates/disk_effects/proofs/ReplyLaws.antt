-- The replies by rows are those of the segments that they tell.
use Rattle.std.proofs.Common.{ℕ, List, Option, Some, refl, ap, IfSome}
use Rattle.journal_core.specs.declared.segment.Segment.{Segment}
use Rattle.journal_core.specs.declared.segment_info.SegmentInfo.{SegmentInfo}
use Rattle.journal_core.specs.declared.segment_line.SegmentLine.{SegmentLine}
use Rattle.journal_core.specs.declared.node_state.NodeState.{NodeState}
use Rattle.journal_core.specs.declared.request.Request.{Request}
use Rattle.journal_core.specs.declared.request.Request.TheVariants.{State, NewEpoch, Start, Journal, Finalize, Prepare, Fetch, Accept, Purge, Read, Manifest}
use Rattle.journal_core.specs.declared.reply.Reply.{Reply}
use Rattle.journal_core.specs.declared.reply.Reply.TheVariants as reply
use Rattle.journal_core.specs.Answers.{FitsRequest}
use Rattle.disk_segment.specs.declared.segment_row.SegmentRow.{SegmentRow}
use Rattle.disk_effects.specs.Told.{Tells, state_with}
use Rattle.disk_effects.specs.Served.{IsPlainReply, reply_by}
use Rattle.disk_effects.proofs.ToldLaws.{newest_told}
use Rattle.disk_effects.proofs.ServingTold.{lines_told, info_told}

pub reply_same : (m : NodeState) (r : Request) (gs : List Segment) (rows : List SegmentRow) → Tells gs rows → IsPlainReply (state_with m gs) r (reply_by m rows r)
reply_same m State gs rows t = refl
reply_same m (NewEpoch epoch) gs rows t = ap (λ (n : Option ℕ). let o : Option Reply = Some (reply.NewEpoch n) in o) (newest_told gs rows t)
reply_same m (Start h start) gs rows t = refl
reply_same m (Journal h start b) gs rows t = refl
reply_same m (Finalize h start end) gs rows t = refl
reply_same m (Prepare h start) gs rows t = ap (λ (i : Option SegmentInfo). let o : Option Reply = Some (reply.Prepared m.writer m.known i) in o) (info_told gs rows start t)
reply_same m (Fetch h start from) gs rows t = refl
reply_same m (Accept h b) gs rows t = refl
reply_same m (Purge h least) gs rows t = refl
reply_same m (Read from) gs rows t = refl
reply_same m Manifest gs rows t = ap (λ (ls : List SegmentLine). let o : Option Reply = Some (reply.Segments ls) in o) (lines_told gs rows t)

pub reply_fits : (m : NodeState) (r : Request) (rows : List SegmentRow) → IfSome (reply_by m rows r) (FitsRequest r)
reply_fits m State rows = tt
reply_fits m (NewEpoch epoch) rows = tt
reply_fits m (Start h start) rows = tt
reply_fits m (Journal h start b) rows = tt
reply_fits m (Finalize h start end) rows = tt
reply_fits m (Prepare h start) rows = tt
reply_fits m (Fetch h start from) rows = tt
reply_fits m (Accept h b) rows = tt
reply_fits m (Purge h least) rows = tt
reply_fits m (Read from) rows = tt
reply_fits m Manifest rows = tt
