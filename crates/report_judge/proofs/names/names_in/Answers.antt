use Rattle.std.proofs.Common.{[]}
use Rattle.report_judge.specs.Pieces.{pieces}
use Rattle.report_judge.specs.Reading.{names_from}
use Rattle.report_judge.proofs.ReadLaws.{names_more, names_over}
use Rattle.report_judge.proofs.names.names_in.Goals as goal

pub loop-line-preserved : goal.loop-line-preserved
loop-line-preserved c =
    names_more c.loop-line.ends c.push_name.new.names (names_from [] (pieces c.args.text.now)) c.loop-line.rest.now c.in-Some.line.now c.in-Some.others.now c.loop-line.invariant
    c.in-Some.ensures.spelled c.in-Some.ensures.first c.in_ok-push_name.ensures.few c.in_ok-push_name.ensures.name

pub returns-clause-names : goal.returns-clause-names
returns-clause-names c = names_over c.loop-line.ends (names_from [] (pieces c.args.text.now)) c.loop-line.rest.now c.loop-line.invariant c.in_default.ensures.none
