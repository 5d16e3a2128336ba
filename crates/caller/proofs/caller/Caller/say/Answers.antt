use Rattle.caller.proofs.CallLaws.{said_later}
use Rattle.caller.proofs.caller.Caller.say.Goals as goal

pub returns-clause-later : goal.returns-clause-later
returns-clause-later g c = said_later g.W.WireModel g.met.W.Wire.readies_none c.say.result c.args.self.now c.self.inside.log c.self.inside.wire c.say.new.self c.args.text c.self.view_is c.say.ensures.ok
