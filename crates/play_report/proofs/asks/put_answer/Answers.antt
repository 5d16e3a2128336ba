use Rattle.std.proofs.Common.{rules}
use Rattle.play_report.specs.Text.{answer_text}
use Rattle.play_report.proofs.TakerLaws.{two}
use Rattle.play_report.proofs.asks.put_answer.Goals as goal

pub returns-in-Stopped : goal.returns-in-Stopped
unfolding answer_text
returns-in-Stopped g c = two g.T.Taker.adds g.met.T.Taker.adds_more _ _ _ _ _ _ c.put.ensures c.put_numbers.ensures (search rules)
