use Rattle.std.proofs.Common.{◌≤◌, sym, subst}
use Rattle.caller.specs.Callers.{CallerView}
use Rattle.caller.specs.LaterLaws.{later_same}
use Rattle.caller.proofs.CallLaws.{copied_over}
use Rattle.caller.proofs.caller.Caller.copy.Goals as goal

pub returns-in_default-clause-later : goal.returns-in_default-clause-later
returns-in_default-clause-later g c = later_same g.W.WireModel g.met.W.Wire.readies_none c.args.self.now

pub returns-clause-later : goal.returns-clause-later
returns-clause-later g c =
    copied_over g.W.WireModel g.met.W.Wire.readies_none c.args.self.now c.self.inside.log c.self.inside.wire c.copy-2.new.self c.copy.new.self c.args.node c.args.number
    c.in-Some.request c.self.view_is c.requires.low (subst (λ n. c.args.node ≤ n) c.self.invariant (subst (λ (v : CallerView _). c.args.node ≤ v.log.nodes) (sym c.self.view_is) c.requires.high))
    c.in_ok-copy.ensures.copied c.in_ok-copy-2.ensures.ok
