use Rattle.std.proofs.Common.{◌∙◌, sym, true, false}
use Rattle.writer_core.specs.Current.{round_in}
use Rattle.writer_core.proofs.Judging.{judged_is}
use Rattle.writer_core.proofs.writer.Writer.judge.Goals as goal

pub returns-then-done : goal.returns-then-done
returns-then-done c =
    let w = c.args.self.now.view in
    judged_is (round_in w.phase) w true (sym c.if-done.true ∙ c.is_done-done.ensures) ∙ (rw c.tell_causes.ensures at c.finish_round.ensures)

pub returns-else-done : goal.returns-else-done
returns-else-done c =
    let w = c.args.self.now.view in
    judged_is (round_in w.phase) w false (sym c.if-done.false ∙ c.is_done-done.ensures) ∙ (rw c.tell_causes.ensures at c.abort.ensures)
