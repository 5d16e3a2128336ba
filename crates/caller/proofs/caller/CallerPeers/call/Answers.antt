use Rattle.std.proofs.Common.{◌≤◌, sym, subst}
use Rattle.caller.specs.Callers.{CallerView}
use Rattle.caller.proofs.CallLaws.{listed_over, called_over}
use Rattle.caller.proofs.caller.CallerPeers.call.Goals as goal

pub returns-clause-listed : goal.returns-clause-listed
returns-clause-listed g c =
    listed_over g.W.WireModel c.call_over.result c.args.self.now c.self.inside.log c.self.inside.wire c.call_over.new.log c.call_over.new.wire c.args.node c.args.request c.self.view_is
    c.call_over.ensures.called c.call_over.ensures.unlisted

pub returns-clause-called : goal.returns-clause-called
returns-clause-called g c =
    called_over g.W.WireModel g.met.W.Wire.readies_none c.call_over.result c.args.self.now c.self.inside.log c.self.inside.wire c.call_over.new.log c.call_over.new.wire c.args.node c.args.request
    c.self.view_is c.requires.first (subst (λ n. c.args.node ≤ n) c.self.invariant (subst (λ (v : CallerView _). c.args.node ≤ v.log.nodes) (sym c.self.view_is) c.requires.last)) c.call_over.ensures.called
