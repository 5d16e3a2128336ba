use Rattle.std.proofs.Common.{sym, subst}
use Rattle.list_oev.specs.declared.segment_listing.SegmentCause.{SegmentCause}
use Rattle.list_oev.specs.Segment.{IsSegment}
use Rattle.list_oev.specs.Damage.{cause_of_frame, IsDamaged}
use Rattle.list_oev.specs.Places.{Reader, ahead_of, Between}
use Rattle.list_oev.proofs.PlaceLaws.{ends, has_bad_frame}
use Rattle.list_oev.proofs.NextLaws.{tells_there}
use Rattle.list_oev.proofs.edits.Edits.next_frame.Goals as goal

pub returns-in-NoFrame : goal.returns-in-NoFrame
returns-in-NoFrame c start edits b =
    let old : Reader = record { bytes = c.self.inside.bytes.now; end = c.self.inside.end; txid = c.self.inside.txid; ahead = ahead_of c.self.inside.txid c.self.inside.end c.self.inside.entries } in
    subst (λ (r : Reader). IsSegment r.bytes start edits) c.self.view_is (ends start edits old (subst (λ (r : Reader). Between start edits r) (sym c.self.view_is) b) c.in-NoFrame.ensures)

pub returns-in-Bad : goal.returns-in-Bad
returns-in-Bad c start edits b =
    let old : Reader = record { bytes = c.self.inside.bytes.now; end = c.self.inside.end; txid = c.self.inside.txid; ahead = ahead_of c.self.inside.txid c.self.inside.end c.self.inside.entries } in
    let d : IsDamaged c.args.self.now.bytes c.self.inside.end (cause_of_frame c.in-Bad.cause) =
    subst (λ (r : Reader). IsDamaged r.bytes c.self.inside.end (cause_of_frame c.in-Bad.cause)) c.self.view_is
    (has_bad_frame start edits old c.in-Bad.cause (subst (λ (r : Reader). Between start edits r) (sym c.self.view_is) b) c.in-Bad.ensures) in
    subst (λ (k : SegmentCause). IsDamaged c.args.self.now.bytes c.self.inside.end k) (sym c.cause_of_frame.ensures) d

pub returns-in-Some : goal.returns-in-Some
returns-in-Some c start edits b =
    tells_there start edits c.args.self.now c.enter.new.self c.next_entry.new.self _ c.told_by.result b (c.enter.ensures start edits b) c.in-Some.ensures.gives c.in-Some.ensures.same c.told_by.ensures

pub returns-in-None : goal.returns-in-None
returns-in-None c start edits b = absurd ((c.enter.ensures start edits b).some c.in-None.ensures.gives.0)
