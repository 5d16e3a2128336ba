use Rattle.std.proofs.Common.{◌<◌, arith, subst}
use Rattle.journal_step.specs.Decisions.{listed}
use Rattle.journal_step.specs.Applying.{EachFits}
use Rattle.journal_step.proofs.ApplyLaws.{first_none, first_zero, first_one}
use Rattle.journal_step.proofs.applying.apply_one.Goals as goal

pub apply_effect-requires : goal.apply_effect-requires
apply_effect-requires c =
    let l : 0 < c.args.keep = omega (arith, c.if-keep-eq0.false) in
    let fits : EachFits c.args.state.now c.args.request.now (listed c.args.effect) = c.requires l in
    (subst (λ o. EachFits c.args.state.now c.args.request.now (listed o)) c.in-Some.is fits).0

pub returns-in_default-clause-ok : goal.returns-in_default-clause-ok
returns-in_default-clause-ok c = rw c.in_default.is (first_none c.args.state.now c.args.request.now c.args.keep)

pub returns-then-keep-eq0-clause-ok : goal.returns-then-keep-eq0-clause-ok
returns-then-keep-eq0-clause-ok c = first_zero c.args.state.now _ c.args.keep c.if-keep-eq0.true

pub returns-clause-ok : goal.returns-clause-ok
returns-clause-ok c =
    rw c.in-Some.is (first_one c.args.state.now c.apply_effect.new.state c.args.request.now c.in-Some.effect c.args.keep (omega (arith, c.if-keep-eq0.false)) c.in_ok-apply_effect.ensures.ok)
