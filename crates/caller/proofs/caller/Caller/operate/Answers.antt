use Rattle.std.proofs.Common.{◌≤◌, sym, subst}
use Rattle.caller.specs.Callers.{CallerView}
use Rattle.caller.proofs.CallLaws.{operated_over}
use Rattle.caller.proofs.caller.Caller.operate.Goals as goal

pub returns-clause-later : goal.returns-clause-later
returns-clause-later g c =
    operated_over g.W.WireModel g.met.W.Wire.readies_none c.args.self.now c.self.inside.log c.self.inside.wire c.operate-2.new.self c.operate.new.self c.args.node c.args.asked c.in_ok-done.done
    c.self.view_is c.requires.low (subst (λ n. c.args.node ≤ n) c.self.invariant (subst (λ (v : CallerView _). c.args.node ≤ v.log.nodes) (sym c.self.view_is) c.requires.high))
    c.in_ok-done.ensures.operated c.in_ok-operate.ensures.ok
