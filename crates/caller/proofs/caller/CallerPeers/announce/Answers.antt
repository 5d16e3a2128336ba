use Rattle.caller.proofs.CallLaws.{ready_over}
use Rattle.caller.proofs.caller.CallerPeers.announce.Goals as goal

pub returns-clause-called : goal.returns-clause-called
returns-clause-called g c = ready_over g.W.WireModel c.ready.result c.args.self.now c.self.inside.log c.self.inside.wire c.ready.new.self c.self.view_is c.ready.ensures.readied
