use Rattle.std.proofs.Common.{rules}
use Rattle.play_report.specs.Text.{node_text}
use Rattle.play_report.proofs.TakerLaws.{two}
use Rattle.play_report.proofs.report.put_node.Goals as goal

pub returns : goal.returns
unfolding node_text
returns g c = two g.T.Taker.adds g.met.T.Taker.adds_more _ _ _ _ _ _ c.put_numbered.ensures c.put_history.ensures (search rules)
