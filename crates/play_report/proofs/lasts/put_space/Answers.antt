use Rattle.std.proofs.Common.{append_assoc, rules}
use Rattle.play_report.specs.Text.{space_text}
use Rattle.play_report.proofs.TakerLaws.{two}
use Rattle.play_report.proofs.lasts.put_space.Goals as goal

pub returns : goal.returns
unfolding space_text
returns g c = two g.T.Taker.adds g.met.T.Taker.adds_more _ _ _ _ _ _ c.put_numbered.ensures c.put_rows.ensures (search (rules, append_assoc))
