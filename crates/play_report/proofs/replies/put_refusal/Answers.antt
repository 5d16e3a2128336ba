use Rattle.std.proofs.Common.{append_assoc, rules}
use Rattle.play_report.proofs.TakerLaws.{four}
use Rattle.play_report.proofs.replies.put_refusal.Goals as goal

pub returns : goal.returns
returns g c = four g.T.Taker.adds g.met.T.Taker.adds_more _ _ _ _ _ _ _ _ _ _ c.put_numbers.ensures c.put.ensures c.put-2.ensures c.put_field.ensures (search (rules, append_assoc))
