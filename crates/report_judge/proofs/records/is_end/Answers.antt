use Rattle.std.proofs.Common.{sym, arith}
use Rattle.std.proofs.lemmas.List.{nil_from_length}
use Rattle.report_judge.proofs.ReadLaws.{end_taken, end_more}
use Rattle.report_judge.proofs.records.is_end.Goals as goal

pub returns-in-empty-clause-taken : goal.returns-in-empty-clause-taken
returns-in-empty-clause-taken c =
    end_taken c.args.text.now c.in-Some.line.now c.in-Some.others.now c.in-Some.ensures.spelled c.in-Some.ensures.first (sym c.if-not-is_end_line.ensures)
    (nil_from_length c.in-Some.others.now (omega (arith, c.in-empty.len_below)))

pub returns-in-len1-up-clause-stopped : goal.returns-in-len1-up-clause-stopped
returns-in-len1-up-clause-stopped c =
    end_more c.args.text.now c.in-Some.line.now c.in-Some.others.now c.bad-in-len1-up.result c.in-Some.ensures.spelled c.in-Some.ensures.first (sym c.if-not-is_end_line.ensures)
    c.in-len1-up.len_at_least c.bad-in-len1-up.ensures
