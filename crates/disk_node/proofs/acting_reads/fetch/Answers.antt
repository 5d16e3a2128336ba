use Rattle.std.proofs.Common.{ℕ, ap, subst, ◌∙◌, ◌≡◌, arith, Option, Some, None}
use Rattle.journal_core.specs.declared.segment.Segment.{Segment}
use Rattle.journal_core.specs.declared.segment_line.SegmentLine.{SegmentLine}
use Rattle.journal_core.specs.Segments.{find_segment}
use Rattle.journal_core.specs.Step.{fetch_refused}
use Rattle.journal_core.proofs.SegmentLists.{find-start}
use Rattle.disk_recent.proofs.Reading.{is_held}
use Rattle.disk_node.proofs.ActingReads.{fetch_reply}
use Rattle.disk_node.proofs.Recalling.{fetch_within}
use Rattle.disk_node.proofs.acting_reads.fetch.Goals as goal

pub returns-in-Some-clause-reply : goal.returns-in-Some-clause-reply
returns-in-Some-clause-reply g c = λ t gs ready sound tells held.
    fetch_reply gs c.args.memory.now.table c.args.start c.args.from c.in-Some.line c.edits_of.result tells (c.in-Some.ensures.line gs tells)
    (λ segment one known is. c.edits_of.ensures.edits t gs segment ready sound held one known is)

pub returns-in-Some-clause-unread : goal.returns-in-Some-clause-unread
returns-in-Some-clause-unread g c = λ gs tells held asks.
    let of = c.in-Some.ensures.line gs tells in
    let at : of.segment.start ≡ c.args.start = find-start c.args.start gs of.segment of.known in
    let here : c.in-Some.line.start ≡ of.segment.start = ap (λ (l : SegmentLine). l.start) of.line_is in
    let known : find_segment c.in-Some.line.start gs ≡ Some of.segment = ap (λ (n : ℕ). find_segment n gs) (here ∙ at) ∙ of.known in
    let within = fetch_within c.args.from of.segment (subst (λ (o : Option Segment). fetch_refused c.args.from o ≡ None) of.known (c.requires.refused gs tells)) in
    c.edits_of.ensures.unread (is_held c.args.memory.now.recent gs c.in-Some.line.start c.args.from of.segment held known (omega (arith, here, within.0))
    (omega (arith, here, within.1)) (asks of.segment of.known))
