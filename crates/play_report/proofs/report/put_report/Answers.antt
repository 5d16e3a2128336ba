use Rattle.std.proofs.Common.{append_assoc, rules}
use Rattle.play_report.specs.Text.{text_of}
use Rattle.play_report.proofs.TakerLaws.{four}
use Rattle.play_report.proofs.report.put_report.Goals as goal

pub returns : goal.returns
unfolding text_of
returns g c = four g.T.Taker.adds g.met.T.Taker.adds_more _ _ _ _ _ _ _ _ _ _ c.put_numbered.ensures c.put_nodes.ensures c.put_actors.ensures c.put.ensures (search (rules, append_assoc))
