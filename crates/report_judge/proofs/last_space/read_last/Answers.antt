use Rattle.report_judge.proofs.ReadLaws.{last_all, last_err}
use Rattle.report_judge.proofs.last_space.read_last.Goals as goal

pub returns-clause-taken : goal.returns-clause-taken
returns-clause-taken c =
    last_all c.args.text.now c.in-Some.line.now c.in-Some.others.now c.in-Some-after.word.now c.in-Some-number_word.position c.read_space.new.last c.read_space.result
    c.in-Some.ensures.spelled c.in-Some.ensures.first c.in-Some-after.ensures.0 c.in-Some-after.ensures.1 c.in-Some-number_word.ensures.number c.read_space.ensures.taken

pub returns-clause-stopped : goal.returns-clause-stopped
returns-clause-stopped c =
    last_err c.args.text.now c.in-Some.line.now c.in-Some.others.now c.in-Some-after.word.now c.in-Some-number_word.position c.read_space.result
    c.in-Some.ensures.spelled c.in-Some.ensures.first c.in-Some-after.ensures.0 c.in-Some-after.ensures.1 c.in-Some-number_word.ensures.number c.read_space.ensures.stopped
