use Rattle.std.proofs.Common.{rules, [], ap, ◌∙◌, arith, length}
use Rattle.std.specs.Prelude.{Ok}
use Rattle.std.proofs.lemmas.List.{length-map}
use Rattle.play_pipes.specs.Calls.{Answer, gained}
use Rattle.play_pipes.proofs.DeskLaws.{heard_none, heard_all, nothing}
use Rattle.play_pipes.proofs.desk.Desk.call_all.Goals as goal

pub hear_all-heards-requires-clause-ready : goal.hear_all-heards-requires-clause-ready
hear_all-heards-requires-clause-ready g c = heard_none _ _ _ _ _ c.put_all-count.ensures.put

pub invariant_of-self : goal.invariant_of-self
invariant_of-self g c = let h = c.hear_all-heards.ensures.heard in heard_all _ _ _ h.0 _ _ h.1 h.2

pub invariant_of-self-2 : goal.invariant_of-self-2
invariant_of-self-2 g c = let h = c.hear_all-heards.ensures.heard in heard_all _ _ _ h.0 _ _ h.1 h.2

pub returns-in_err-heards-clause-lists : goal.returns-in_err-heards-clause-lists
returns-in_err-heards-clause-lists g c = ([], nothing c.args.nodes.now c.args.request.now c.args.self.now.lists, search rules)

pub returns-clause-lists : goal.returns-clause-lists
returns-clause-lists g c =
    let h = c.hear_all-heards.ensures.heard in
    let oks = h.3 c.if-lacking.false in
    let n = h.1 in
    let few = c.put_all-count.ensures.few in
    let all = c.if-count-nodes.false in
    let m = length-map {B = Answer} c.hear_all-heards.result.0.items (λ x. Ok x) in
    let e = ap length oks in (
      h.0,
      h.2.lists ∙ ap (gained c.args.nodes.now c.args.request.now h.0) (c.put_all-count.ensures.put.lists ∙ ap (λ d. d.lists) c.self.view_is),
      (oks, omega (arith, n, few, all, m, e)),
    )
