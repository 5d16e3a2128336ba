use Rattle.std.proofs.Common.{Bool, ◌||◌, ap, sym, ◌∙◌, arith}
use Rattle.std.proofs.lemmas.Bool.{eqb-true, eqb-false}
use Rattle.disk_frame.proofs.ReadLaws.{bad_starts, bad_more, bad_stops, bad_left, bad_ends}
use Rattle.disk_frame.proofs.checking.any_bad_body.Goals as goal

pub loop-init : goal.loop-init
loop-init c = bad_starts _ c.args.count c.args.entries.now (omega arith)

pub returns-in_err-body : goal.returns-in_err-body
returns-in_err-body c = rw c.from_residual.ensures (bad_stops c.loop.found c.args.count c.loop.counter c.loop.rest.now _ c.loop-test.true c.in_err-body.ensures c.loop.invariant)

pub loop-preserved : goal.loop-preserved
loop-preserved c = bad_more c.loop.found _ c.args.count c.loop.counter c.loop.rest.now c.in_ok-body.body.now c.in_ok-body.behind.now _
    c.loop-test.true c.in_ok-body.ensures (ap (λ (b : Bool). c.loop.found || b) c.is_bad_body-found.ensures) c.loop.invariant

pub returns-then-is_empty : goal.returns-then-is_empty
returns-then-is_empty c = bad_ends c.loop.found _ c.loop.rest.now _ (omega (arith, c.loop-test.false)) (eqb-true _ _ (sym c.is_empty.ensures ∙ c.if-is_empty.true)) c.loop.invariant

pub returns-else-is_empty : goal.returns-else-is_empty
returns-else-is_empty c =
    let some = eqb-false _ _ (sym c.is_empty.ensures ∙ c.if-is_empty.false) in
    bad_left c.loop.found _ c.loop.rest.now _ (omega (arith, c.loop-test.false)) (omega (arith, some)) c.loop.invariant
