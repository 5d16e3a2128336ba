use Rattle.journal_session.proofs.LineLaws.{line_found, line_open}
use Rattle.journal_session.proofs.line_reader.find_end.Goals as goal

pub returns-in-Some-clause-one : goal.returns-in-Some-clause-one
returns-in-Some-clause-one c =
    line_found c.args.bytes.now c.split_at.result.1.now c.args.searched c.in-Some.at c.requires.lacks c.split_at.ensures.back c.in-Some.ensures.0.high c.in-Some.ensures.0.before

pub returns-in-None-clause-none : goal.returns-in-None-clause-none
returns-in-None-clause-none c =
    line_open c.args.bytes.now c.split_at.result.1.now c.args.searched c.requires.lacks c.split_at.ensures.back c.in-None.ensures
