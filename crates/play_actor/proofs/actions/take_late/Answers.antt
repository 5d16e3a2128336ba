use Rattle.std.proofs.lemmas.Result.{on_ok_weaker}
use Rattle.std.proofs.Common.{subst}
use Rattle.caller.specs.LaterLaws.{later_on}
use Rattle.play_calls.specs.Logs.{earlier_call, IsCopied}
use Rattle.play_actor.proofs.Stretches.{late_made, late_none_made}
use Rattle.play_actor.proofs.actions.take_late.Goals as goal

pub returns-then-branch-clause-takes : goal.returns-then-branch-clause-takes
returns-then-branch-clause-takes g c w o idle free =
    let old = c.args.caller.now.log in
    let k = c.args.node in
    let n = c.args.call in
    late_made old.nodes w o old c.copy.new.self.log k n idle free
    (subst (λ b. IsCopied (earlier_call old k n) old k n b c.copy.new.self.log) c.if-branch.true c.in_ok-copy.ensures.copied)

pub returns-clause-takes : goal.returns-clause-takes
returns-clause-takes g c =
    let old = c.args.caller.now.log in
    let mid = c.copy.new.self.log in
    let new = c.say_all.new.caller.log in
    let k = c.args.node in
    let n = c.args.call in
    on_ok_weaker c.say_all.result
    (λ said w o idle free. late_none_made old.nodes w o old mid new c.in_ok-texts.texts.items k n idle free
    (subst (λ b. IsCopied (earlier_call old k n) old k n b mid) c.if-branch.false c.in_ok-copy.ensures.copied) c.in_ok-texts.ensures said)
    c.say_all.ensures.leads

pub returns-clause-later : goal.returns-clause-later
returns-clause-later g c = on_ok_weaker c.say_all.result (λ h. later_on g.W.WireModel g.met.W.Wire.readies_on _ _ _ c.in_ok-copy.ensures.later h) c.say_all.ensures.later
