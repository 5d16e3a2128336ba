use Rattle.std.proofs.Common.{subst}
use Rattle.report_judge.specs.declared.answer.Reading.{Reading}
use Rattle.report_judge.specs.Reads.{Tells}
use Rattle.report_judge.proofs.Judgements.{judged}
use Rattle.report_judge.proofs.judging.judge.Goals as goal

pub returns-in-Read-clause-judged : goal.returns-in-Read-clause-judged
returns-in-Read-clause-judged c =
    judged c.epoch_order_is_a_run.ensures c.epoch_order_is_safe.ensures c.args.bytes.now c.in-Read.lists c.judge_lists.result
    (subst (λ (r : Reading). Tells c.args.bytes.now r) c.in-Read.is c.in_ok-lists.ensures.told) c.judge_lists.ensures
