use Rattle.std.proofs.Common.{◌≡◌, ap, sym, subst, ◌∙◌, Decides}
use Rattle.journal_history.specs.declared.history_line.HistoryLine.{HistoryLine}
use Rattle.journal_history.specs.Cell.{fresh_cell, cell_takes, IsLocalRun}
use Rattle.mesh_judge.proofs.Deciding.{yes, no, holds, fails}
use Rattle.mesh_judge.proofs.LineLaws.{local_more, local_fails, local_ends}
use Rattle.mesh_judge.proofs.local.is_local_run.Goals as goal

pub returns-then-not-same_answer : goal.returns-then-not-same_answer
returns-then-not-same_answer c =
    no (IsLocalRun fresh_cell c.args.lines.now)
    (local_fails c.loop-line.cell.cell c.take.new.self.cell c.loop-line.line-index c.args.lines.now c.line-item.result c.in_ok-answer.answer c.loop-line-test.true c.line-item.is
    (ap (cell_takes c.loop-line.cell.cell) (sym (c.in_ok-share.ensures ∙ ap (λ (h : HistoryLine). h.ask) c.lend-line.ensures)) ∙ c.in_ok-answer.ensures.ok.taken)
    (fails (c.in_ok-answer.answer ≡ c.line-item.result.answer) c.same_answer.result c.if-not-same_answer.true (subst (λ a. Decides c.same_answer.result (c.in_ok-answer.answer ≡ a)) (ap (λ (h : HistoryLine). h.answer) c.lend-line.ensures) c.same_answer.ensures))
    c.loop-line.invariant)

pub loop-line-preserved : goal.loop-line-preserved
loop-line-preserved c =
    local_more c.loop-line.cell.cell c.take.new.self.cell c.loop-line.line-index c.args.lines.now c.line-item.result c.in_ok-answer.answer c.loop-line-test.true c.line-item.is
    (ap (cell_takes c.loop-line.cell.cell) (sym (c.in_ok-share.ensures ∙ ap (λ (h : HistoryLine). h.ask) c.lend-line.ensures)) ∙ c.in_ok-answer.ensures.ok.taken)
    (holds (c.in_ok-answer.answer ≡ c.line-item.result.answer) c.same_answer.result c.if-not-same_answer.false (subst (λ a. Decides c.same_answer.result (c.in_ok-answer.answer ≡ a)) (ap (λ (h : HistoryLine). h.answer) c.lend-line.ensures) c.same_answer.ensures))
    c.loop-line.invariant

pub returns : goal.returns
returns c = yes (IsLocalRun fresh_cell c.args.lines.now) (local_ends c.loop-line.cell.cell c.loop-line.line-index c.args.lines.now c.loop-line-test.false c.loop-line.invariant)
