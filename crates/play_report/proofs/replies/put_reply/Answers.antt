use Rattle.std.proofs.Common.{append_assoc, rules}
use Rattle.journal_text.specs.Texts.{reply_text}
use Rattle.play_report.proofs.TakerLaws.{two, three}
use Rattle.play_report.proofs.replies.put_reply.Goals as goal

pub returns-in-Prepared : goal.returns-in-Prepared
unfolding reply_text
returns-in-Prepared g c =
    three g.T.Taker.adds g.met.T.Taker.adds_more _ _ _ _ _ _ _ _ c.put-in-Prepared.ensures c.put_numbers-in-Prepared.ensures c.put_told.ensures (search rules)

pub returns-in-Edits : goal.returns-in-Edits
unfolding reply_text
returns-in-Edits g c =
    three g.T.Taker.adds g.met.T.Taker.adds_more _ _ _ _ _ _ _ _ c.put-in-Edits.ensures c.put_numbers-in-Edits.ensures c.put_bodies.ensures (search rules)

pub returns-in-Refused : goal.returns-in-Refused
unfolding reply_text
returns-in-Refused g c = two g.T.Taker.adds g.met.T.Taker.adds_more _ _ _ _ _ _ c.put-in-Refused.ensures c.put_refusal.ensures (search (rules, append_assoc))

pub returns-in-State : goal.returns-in-State
unfolding reply_text
returns-in-State g c = two g.T.Taker.adds g.met.T.Taker.adds_more _ _ _ _ _ _ c.put-in-State.ensures c.put_numbers.ensures (search rules)

pub returns-in-NewEpoch : goal.returns-in-NewEpoch
unfolding reply_text
returns-in-NewEpoch g c = two g.T.Taker.adds g.met.T.Taker.adds_more _ _ _ _ _ _ c.put-in-NewEpoch.ensures c.put_newest.ensures (search rules)

pub returns-in-Segments : goal.returns-in-Segments
unfolding reply_text
returns-in-Segments g c = two g.T.Taker.adds g.met.T.Taker.adds_more _ _ _ _ _ _ c.put-in-Segments.ensures c.put_lines.ensures (search rules)
