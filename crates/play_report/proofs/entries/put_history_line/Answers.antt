use Rattle.std.proofs.Common.{append_assoc, rules}
use Rattle.play_report.specs.Text.{history_line_text}
use Rattle.play_report.proofs.TakerLaws.{four}
use Rattle.play_report.proofs.entries.put_history_line.Goals as goal

pub returns : goal.returns
unfolding history_line_text
returns g c = four g.T.Taker.adds g.met.T.Taker.adds_more _ _ _ _ _ _ _ _ _ _ c.put.ensures c.put-2.ensures c.put_ask.ensures c.put_answer_end.ensures (search (rules, append_assoc))
