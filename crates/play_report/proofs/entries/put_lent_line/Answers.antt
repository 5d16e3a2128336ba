use Rattle.std.proofs.Common.{append_assoc, rules}
use Rattle.play_report.specs.Text.{record_line_text}
use Rattle.play_report.proofs.TakerLaws.{four, six, three}
use Rattle.play_report.proofs.entries.put_lent_line.Goals as goal

pub returns-in-Call : goal.returns-in-Call
unfolding record_line_text
returns-in-Call g c = four g.T.Taker.adds g.met.T.Taker.adds_more _ _ _ _ _ _ _ _ _ _ c.put_number.ensures c.put.ensures c.put_request.ensures c.put_heard_end.ensures (search (rules, append_assoc))

pub returns-in-Late : goal.returns-in-Late
unfolding record_line_text
returns-in-Late g c =
    four g.T.Taker.adds g.met.T.Taker.adds_more _ _ _ _ _ _ _ _ _ _ c.put_number-in-Late.ensures c.put-in-Late.ensures c.put_request-in-Late.ensures c.put-in-Late-2.ensures
    (search (rules, append_assoc))

pub returns-in-Operator : goal.returns-in-Operator
unfolding record_line_text
returns-in-Operator g c =
    six g.T.Taker.adds g.met.T.Taker.adds_more _ _ _ _ _ _ _ _ _ _ _ _ _ _ c.put_number-in-Operator.ensures c.put-in-Operator.ensures c.put_ask.ensures c.put-in-Operator-2.ensures c.put_done.ensures c.put-in-Operator-3.ensures
    (search (rules, append_assoc))

pub returns-in-Outcome : goal.returns-in-Outcome
unfolding record_line_text
returns-in-Outcome g c = three g.T.Taker.adds g.met.T.Taker.adds_more _ _ _ _ _ _ _ _ c.put-in-Outcome.ensures c.put-in-Outcome-2.ensures c.put-in-Outcome-3.ensures (search (rules, append_assoc))
