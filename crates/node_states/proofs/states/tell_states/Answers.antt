use Rattle.std.proofs.Common.{subst}
use Rattle.report_judge.specs.declared.answer.Reading.{Reading}
use Rattle.report_judge.specs.declared.judgement.Judgement.{Judgement}
use Rattle.report_judge.specs.Reads.{Tells}
use Rattle.report_judge.specs.Judged.{JudgesLists}
use Rattle.node_states.proofs.ToldLaws.{disagreeing}
use Rattle.node_states.proofs.states.tell_states.Goals as goal

pub returns-in-Disagrees : goal.returns-in-Disagrees
returns-in-Disagrees c =
    disagreeing c.epoch_order_is_a_run.ensures c.epoch_order_is_safe.ensures c.args.bytes.now c.in-Read.lists c.in-Disagrees.found
    (subst (λ (r : Reading). Tells c.args.bytes.now r) c.in-Read.is c.in_ok-lists.ensures.told)
    (subst (λ (j : Judgement). JudgesLists c.in-Read.lists j) c.in-Disagrees.is c.in_ok-judge_lists-in-Read.ensures)
