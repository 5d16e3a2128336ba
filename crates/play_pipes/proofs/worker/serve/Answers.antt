use Rattle.std.proofs.Common.{rules, ap, sym, ◌∙◌, [], ◌∷◌, ◌++◌}
use Rattle.crossbeam_queue.specs.Passes.{view}
use Rattle.play_pipes.specs.Calls.{call_of}
use Rattle.play_pipes.specs.Answered.{AnsweredView}
use Rattle.play_pipes.specs.Relay.{log}
use Rattle.play_pipes.proofs.ServeLaws.{serving_next, served_last}
use Rattle.play_pipes.proofs.worker.serve.Goals as goal

pub loop-preserved : goal.loop-preserved
loop-preserved g c =
    let t = view c.loop.takes in
    let s = view c.loop.gives in
    let mid = g.L.Line.calls c.loop.line in (
      search rules,
      search rules,
      search rules,
      search rules,
      c.call-answer.ensures.place ∙ c.loop.invariant.4,
      serving_next c.args.queues.now.asks.table.shared.table_id (g.L.Line.calls c.args.line) mid (g.L.Line.calls c.call-answer.new.self) t (view c.pop.new.pass)
          (view c.receipt_of-receipt.new.pass) s (view c.push.new.pass)
          c.in-Call.request c.new-answered.result c.loop.invariant.5 (c.pop.ensures.got ∙ ap (λ x. log t.pushes t.pops t.sent
          (t.got ++ x ∷ []) t.source t.known) c.in-Call.is) c.receipt_of-receipt.ensures.same.0 c.push.ensures.sent
          (c.call-answer.ensures.listed ∙ ap (λ (x : AnsweredView). mid ++ call_of c.in-Call.request x.answer) (sym c.new-answered.ensures)),
    )

pub returns-in-Close-clause-served : goal.returns-in-Close-clause-served
returns-in-Close-clause-served g c =
    let t = view c.loop.takes in
    served_last _ (g.L.Line.calls c.args.line) (g.L.Line.calls c.loop.line) t (view c.pop.new.pass) (view c.loop.gives) c.loop.invariant.5 (c.pop.ensures.got
    ∙ ap (λ x. log t.pushes t.pops t.sent (t.got ++ x ∷ []) t.source t.known) c.in-Close.is)
