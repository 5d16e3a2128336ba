use Rattle.std.proofs.Common.{◌≡◌, ◌∷◌, ◌++◌, [], false, refl, sym, ap, subst, ◌∙◌}
use Rattle.journal_history.specs.declared.node_ask.NodeAsk.TheVariants.{Act}
use Rattle.journal_history.specs.declared.history_line.HistoryLine.{HistoryLine}
use Rattle.play_threads.specs.Entries.{own_lines}
use Rattle.play_threads.specs.Seated.{Seat}
use Rattle.play_pipes.specs.PipeLines.{calls_at, OnlyCalls}
use Rattle.play_pipes.proofs.PipeLineLaws.{calls_more, are_more}
use Rattle.play_pipes.proofs.gate_line.GateLineLine.call.Goals as goal

pub invariant_of-self-2 : goal.invariant_of-self-2
invariant_of-self-2 g c =
    let old = c.self.inside.seat in
    let line : HistoryLine = record { caller = old.caller; ask = Act false c.args.request.now; answer = c.in_ok-answer.answer } in
    let inv = c.self.invariant in
    let e = c.in_ok-answer.ensures in
    record {
      gate = e.same.0 ∙ inv.gate;
      mine = e.same.1 ∙ inv.mine;
      calls = subst OnlyCalls (sym e.ok) (are_more (own_lines old.caller old.seat.me.0.seen) line inv.calls c.args.request.now refl e.kind);
    }

pub returns-clause-listed : goal.returns-clause-listed
returns-clause-listed g c =
    let old = c.self.inside.seat in
    let r = c.args.request.now in
    let line : HistoryLine = record { caller = old.caller; ask = Act false r; answer = c.in_ok-answer.answer } in
    let inv = c.self.invariant in
    let e = c.in_ok-answer.ensures in
    let seen = c.ask_request.new.seat.seat.me.0.seen in
    let before : own_lines old.caller old.seat.me.0.seen ≡ c.args.self.now.own =
    ap (λ k. own_lines k old.seat.me.0.seen) inv.mine ∙ ap (λ (s : Seat). s.own) c.self.view_is in
    let heard = sym c.into_heard.ensures in
    ap (λ k. calls_at (own_lines k seen)) (sym (e.same.1 ∙ inv.mine)) ∙ ap calls_at e.ok ∙ calls_more (own_lines old.caller old.seat.me.0.seen) line
    ∙ (λ i. calls_at (before i) ++ (r, heard i) ∷ [])
