use Rattle.std.proofs.Common.{refl}
use Rattle.play_report.specs.Text.{actor_text}
use Rattle.play_report.proofs.TakerLaws.{four}
use Rattle.play_report.proofs.report.put_actor.Goals as goal

pub returns : goal.returns
unfolding actor_text
returns g c = four g.T.Taker.adds g.met.T.Taker.adds_more _ _ _ _ _ _ _ _ _ _ c.put.ensures c.put-2.ensures c.put-3.ensures c.put_record.ensures refl
