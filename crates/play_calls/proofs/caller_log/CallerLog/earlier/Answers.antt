use Rattle.std.proofs.Common.{◌≤◌, ◌-◌, List, sym, ap, ◌∙◌, subst, slice_get}
use Rattle.std.specs.Prelude.{IsSome}
use Rattle.std.proofs.lemmas.Result.{err_from_is_err_and}
use Rattle.journal_history.specs.declared.record.Record.{Record}
use Rattle.mesh.specs.Marks.{calls_to}
use Rattle.play_calls.specs.Indexes.{IsIndex}
use Rattle.play_calls.specs.Logs.{LogView, earlier_call}
use Rattle.play_calls.proofs.IndexLaws.{at_place}
use Rattle.play_calls.proofs.caller_log.CallerLog.earlier.Goals as goal

pub returns-clause-request : goal.returns-clause-request
returns-clause-request c =
    let P : LogView → Type 0 = λ v. c.args.node ≤ v.nodes in
    let index : IsIndex c.args.node c.self.inside.past c.self.inside.marks c.index.result.now =
    at_place c.self.inside.past c.self.inside.marks c.self.inside.calls.items c.args.node c.index.result.now c.requires.low (subst P (sym c.self.view_is) c.requires.high)
    (c.self.invariant c.if-not-self.false).0 c.index.ensures in
    let Q : List Record → Type 0 = λ ps. IsIndex c.args.node ps c.self.inside.marks c.index.result.now in
    c.in_ok-request.ensures.request c.args.node c.self.inside.marks (subst Q (sym c.as_slice.ensures) index)
    ∙ ap (λ ps. slice_get (calls_to c.args.node ps) (c.args.number - 1)) c.as_slice.ensures
    ∙ ap (λ (v : LogView). earlier_call v c.args.node c.args.number) c.self.view_is

pub returns-in_err-request-clause-memory : goal.returns-in_err-request-clause-memory
returns-in_err-request-clause-memory c =
    let P : LogView → Type 0 = λ v. c.args.node ≤ v.nodes in
    let index : IsIndex c.args.node c.self.inside.past c.self.inside.marks c.index.result.now =
    at_place c.self.inside.past c.self.inside.marks c.self.inside.calls.items c.args.node c.index.result.now c.requires.low (subst P (sym c.self.view_is) c.requires.high)
    (c.self.invariant c.if-not-self.false).0 c.index.ensures in
    let Q : List Record → Type 0 = λ ps. IsIndex c.args.node ps c.self.inside.marks c.index.result.now in
    let asked = ap (λ ps. slice_get (calls_to c.args.node ps) (c.args.number - 1)) c.as_slice.ensures ∙ ap (λ (v : LogView). earlier_call v c.args.node c.args.number) c.self.view_is in
    let p = err_from_is_err_and c.from_residual.result c.from_residual.ensures.1 in
    rw p.1 (λ _. subst (λ o. IsSome o) asked (c.in_err-request.ensures.memory c.args.node c.self.inside.marks (subst Q (sym c.as_slice.ensures) index)))
