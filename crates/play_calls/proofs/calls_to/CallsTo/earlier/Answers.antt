use Rattle.std.proofs.Common.{◌-◌, refl, sym, subst, ◌∙◌}
use Rattle.std.specs.Prelude.{IsSome}
use Rattle.std.proofs.lemmas.Result.{err_from_is_err_and}
use Rattle.play_calls.specs.Indexes.{asked_at}
use Rattle.play_calls.proofs.IndexLaws.{earlier_none, earlier_some}
use Rattle.play_calls.proofs.calls_to.CallsTo.earlier.Goals as goal

pub returns-in_default-clause-request : goal.returns-in_default-clause-request
returns-in_default-clause-request c node marks h = earlier_none node (c.args.call - 1) c.args.past.now marks c.args.self.now (sym c.place_of.ensures ∙ c.in_default.is) h

pub returns-clause-request : goal.returns-clause-request
returns-clause-request c node marks h =
    earlier_some node (c.args.call - 1) c.in-Some.place c.args.past.now marks c.args.self.now c.in_ok-request.request (sym c.place_of.ensures ∙ c.in-Some.is) c.in_ok-request.ensures.request h

pub returns-in_err-request-clause-memory : goal.returns-in_err-request-clause-memory
returns-in_err-request-clause-memory c =
    let p = err_from_is_err_and c.from_residual.result c.from_residual.ensures.1 in
    rw p.1
    (λ node marks h.
    subst (λ o. IsSome o)
    (earlier_some node (c.args.call - 1) c.in-Some.place c.args.past.now marks c.args.self.now (asked_at c.args.past.now c.in-Some.place) (sym c.place_of.ensures ∙ c.in-Some.is) refl h)
    c.in_err-request.ensures.memory)
