use Rattle.play_actor.proofs.StandingLaws.{rests_in}
use Rattle.play_actor.proofs.name_node.NameNode.standby.Goals as goal

pub returns-in-Standby : goal.returns-in-Standby
returns-in-Standby c = rests_in c.self.inside.images c.self.inside.role c.in-Standby.resting c.args.self.now c.self.view_is c.self.invariant c.in-Standby.is
