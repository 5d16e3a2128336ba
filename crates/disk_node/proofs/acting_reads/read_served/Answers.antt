use Rattle.std.proofs.Common.{ℕ, ap, ◌∙◌, ◌≡◌}
use Rattle.journal_core.specs.Segments.{find_segment}
use Rattle.journal_core.proofs.SegmentLists.{find-start}
use Rattle.disk_node.proofs.Recalling.{read_held}
use Rattle.disk_effects.specs.Told.{state_with}
use Rattle.disk_node.proofs.ActingReads.{read_reply, none_told}
use Rattle.journal_core.specs.declared.reply.Reply.TheVariants.{Refused}
use Rattle.disk_node.proofs.acting_reads.read_served.Goals as goal

pub returns-in-Some-clause-reply : goal.returns-in-Some-clause-reply
returns-in-Some-clause-reply g c = λ t gs ready sound tells held.
    read_reply c.args.front.now gs c.args.memory.now.table c.args.from c.in-Some.count c.in-Some.line c.edits_of.result tells (c.in-Some.ensures gs tells)
    (λ segment one known is. c.edits_of.ensures.edits t gs segment ready sound held one known is)

pub returns-in-None-clause-reply : goal.returns-in-None-clause-reply
returns-in-None-clause-reply g c = λ t gs ready sound tells held. none_told (state_with c.args.front.now gs) c.args.from
    (Refused c.not_served.result) (c.in-None.ensures gs tells) (c.not_served.ensures gs tells)

pub returns-in-Some-clause-unread : goal.returns-in-Some-clause-unread
returns-in-Some-clause-unread g c = λ gs tells held asks.
    let served = c.in-Some.ensures gs tells in
    let at : served.segment.start ≡ c.in-Some.line.start = find-start c.in-Some.line.start gs served.segment served.known in
    c.edits_of.ensures.unread
    (read_held c.args.memory.now.recent (state_with c.args.front.now gs) c.args.from c.in-Some.count c.in-Some.line.start served.segment held served.known
    served.serves.low served.serves.high served.serves.long
    (asks served.segment c.in-Some.count (ap (λ (n : ℕ). find_segment n gs) at ∙ served.known) served.serves))
