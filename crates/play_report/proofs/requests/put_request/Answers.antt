use Rattle.std.proofs.Common.{append_assoc, rules}
use Rattle.journal_text.specs.Texts.{request_text}
use Rattle.play_report.proofs.TakerLaws.{two}
use Rattle.play_report.proofs.requests.put_request.Goals as goal

pub returns-in-Journal : goal.returns-in-Journal
unfolding request_text
returns-in-Journal g c =
    two g.T.Taker.adds g.met.T.Taker.adds_more _ _ _ _ _ _ c.put_asked_two.ensures c.put_bodies.ensures (search (rules, append_assoc))

pub returns-in-Accept : goal.returns-in-Accept
unfolding request_text
returns-in-Accept g c =
    two g.T.Taker.adds g.met.T.Taker.adds_more _ _ _ _ _ _ c.put_asked-in-Accept.ensures c.put_bodies-in-Accept.ensures (search (rules, append_assoc))

pub returns-in-NewEpoch : goal.returns-in-NewEpoch
unfolding request_text
returns-in-NewEpoch g c = two g.T.Taker.adds g.met.T.Taker.adds_more _ _ _ _ _ _ c.put-in-NewEpoch.ensures c.put_numbers.ensures (search rules)

pub returns-in-Read : goal.returns-in-Read
unfolding request_text
returns-in-Read g c = two g.T.Taker.adds g.met.T.Taker.adds_more _ _ _ _ _ _ c.put-in-Read.ensures c.put_numbers-in-Read.ensures (search rules)
